-- What is in range of a conflict that fits its table, and the item of a reduce (conflict_sides/specs/conflict/Sides).
use Rattle.std.specs.Prelude.{◌≡◌, ℕ, zero, suc, ◌<◌, ◌≤◌, true, false, ◌&&◌, eqb, ltb, leb, List, length, get_or}
use mathlib.Core.Path.{refl, sym, ap, ◌∙◌, subst}
use mathlib.Core.Bool.{true≢false}
use mathlib.Core.Option.{some}
use native.Mathlib.Omega.{arith}
use borrow.Author.Tests.{ltb-true, leb-true, eqb-false}
use Rattle.lr1_base.specs.repr.Meaning.{Production, no_production, Table}
use Rattle.lr1_base.specs.repr.Packed.{productions_in}
use Rattle.table.specs.Decoded.{meaning}
use Rattle.table.proofs.Decoding.{fits}
use Rattle.lr1_base.specs.declared.lookahead.TokenSet.{TokenSet}
use Rattle.lr1_base.specs.lookahead.Tokens.{single, with}
use Rattle.lr1_base.proofs.lookahead.Laws.{with_yes}
use Rattle.lr1_base.proofs.lookahead.Sets.{union-zero-left}
use Rattle.lr1_base.specs.declared.repr.StateIndex.{StateIndex}
use Rattle.trace_graph.specs.Fits.{item_is_fit}
use Rattle.lr1_base.proofs.laws.Bools.{and_left, and_right}
use Rattle.trace.specs.Reduce.{reduce_edges}
use Rattle.trace.proofs.Traced.{item_fits}
use Rattle.trace.specs.declared.Action.TheVariants.{Reduce}
use Rattle.trace.specs.Built.{edges_by}
use Rattle.enumerator.specs.trials.Advance.{set_of}
use Rattle.std.specs.Prelude.{Some}
use Rattle.conflict_sides.specs.declared.conflict.Conflict.{Conflict}
use Rattle.conflict_sides.specs.conflict.Outcome.{operand_fits, place_is_fit, conflict_fits}
use Rattle.conflict_sides.specs.conflict.Sides.{listing_side, item_of_reduce, reduce_side}
use Rattle.trace.specs.declared.TracedItem.{TracedItem}
use Rattle.conflict_sides.specs.examples.Reads.{Reads}
use Rattle.conflict_sides.specs.examples.Gathers.{is_shift, traced_side}

single-token : (token set : ℕ) → token < 64 → set ≡ with 0 token → set ≡ single token
single-token token set h e = e ∙ with_yes 0 token h ∙ union-zero-left (single token)

-- the item of a reduce, r the item made of it
module _ (t g : List ℕ) (productions terminals : ℕ) (sets least ends : List ℕ) (R : Reads t g productions terminals sets least ends) (state : StateIndex) (p : ℕ) (r : TracedItem)
    (e : r ≡ record { state = state.0; item = record { production = p; index = length (get_or (productions_in g productions) p no_production).symbols }; action = Reduce }) where
  end_same : length (get_or (productions_in g productions) p no_production).symbols ≡ length (get_or (meaning t).productions p no_production).symbols
  end_same = ap (λ (l : List Production). length (get_or l p no_production).symbols) R.same

  pub end_fits : state.0 < length (meaning t).states → p < length (meaning t).productions → (r.state < length (meaning t).states) × (item_is_fit (meaning t).productions r.item.production r.item.index ≡ true)
  end_fits hs h =
      let q = end_same in
      subst (λ (x : TracedItem). (x.state < length (meaning t).states) × (item_is_fit (meaning t).productions x.item.production x.item.index ≡ true)) (sym e)
      (hs, item_fits (meaning t) (record { production = p; index = length (get_or (productions_in g productions) p no_production).symbols }) (record { production = h; index = omega arith }))

  pub reduce_is : (token : ℕ) (tokens : TokenSet) → token ≤ (meaning t).terminals → tokens.0 ≡ with 0 token
      → traced_side (meaning t) r (Some tokens) 0 ≡ reduce_side (meaning t) state.0 p token
  unfolding set_of reduce_side item_of_reduce
  reduce_is token tokens ht et =
      let f = (fits t R.accepted).few_terminals in
      let st = single-token token tokens.0 (omega arith) et in
      ap (λ (x : TracedItem). listing_side (meaning t) (edges_by x.action (meaning t) x.state (record { production = x.item.production; index = x.item.index })) (record { production = x.item.production; index = x.item.index }) (set_of (Some tokens)) 0) e
      ∙ (λ j. listing_side (meaning t) (reduce_edges (meaning t) state.0 (record { production = p; index = end_same j })) (record { production = p; index = end_same j }) (some (st j)) 0)

-- a conflict in range

pub not_shift : (c : Conflict) → eqb c.action 0 ≡ false → is_shift c ≡ false
unfolding is_shift
not_shift c e = e

pub no_shift : (c : Conflict) → is_shift c ≡ false → c.action ≡ 0 → ⊥
unfolding is_shift
no_shift c e = eqb-false c.action 0 e

pub operand_reduce : (T : Table) (a o : ℕ) → operand_fits T a o ≡ true → (a ≡ 0 → ⊥) → o < length T.productions
unfolding operand_fits
operand_reduce T zero o e k = absurd (k refl)
operand_reduce T (suc zero) o e k = ltb-true o (length T.productions) e
operand_reduce T (suc (suc a)) o e k = absurd (true≢false (sym e))

module _ (T : Table) (c : Conflict) (h : conflict_fits T c ≡ true) where
  place : place_is_fit T c ≡ true
  unfolding conflict_fits
  place = and_left (place_is_fit T c) (leb c.token T.terminals) h

  pub token_in : c.token ≤ T.terminals
  unfolding conflict_fits
  token_in = leb-true c.token T.terminals (and_right (place_is_fit T c) (leb c.token T.terminals) h)

  pub state_in_lem : c.state.0 < length T.states
  unfolding place_is_fit
  state_in_lem = ltb-true c.state.0 (length T.states) (and_left (ltb c.state.0 (length T.states)) (ltb c.production.0 (length T.productions) && operand_fits T c.action c.operand) place)

  rest : ltb c.production.0 (length T.productions) && operand_fits T c.action c.operand ≡ true
  unfolding place_is_fit
  rest = and_right (ltb c.state.0 (length T.states)) (ltb c.production.0 (length T.productions) && operand_fits T c.action c.operand) place

  pub operand_in_lem : (c.action ≡ 0 → ⊥) → c.operand < length T.productions
  operand_in_lem ne = operand_reduce T c.action c.operand (and_right (ltb c.production.0 (length T.productions)) (operand_fits T c.action c.operand) rest) ne
