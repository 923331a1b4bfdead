-- `item` of a reduction and `reduce_examples`: the production at its end, filtered by the token (conflict_sides/specs/conflict/Sides).
use Rattle.std.specs.Prelude.{Result, ◌≡◌, ℕ, ◌<◌, true, false, List, length, get_or}
use native.Mathlib.Omega.{arith}
use mathlib.Core.Path.{sym, ap, ◌∙◌, subst}
use Rattle.lr1_base.specs.repr.Meaning.{no_production, Table, TableFits}
use Rattle.lr1_base.specs.repr.Listed.{listed}
use Rattle.lr1_base.specs.repr.Packed.{symbol_words, productions_in}
use Rattle.trace_graph.specs.Fits.{item_is_fit}
use Rattle.trace.proofs.Traced.{item_fits}
use Rattle.trace.specs.declared.Action.{Action}
use Rattle.trace.specs.declared.Action.TheVariants.{Reduce}
use Rattle.enumerator.proofs.example.LabelList.{production-symbols}
use Rattle.conflict_sides.specs.conflict.Sides.{Side, item_of_reduce, reduce_side}
use Rattle.conflict_sides.specs.outline.Kept.{Room}
use Rattle.trace.specs.declared.TracedItem.{TracedItem}
use Rattle.conflict_sides.specs.declared.examples.Gathered.{Gathered}
use Rattle.lr1_base.specs.declared.repr.refusals.Refusal.{Refusal}
use Rattle.conflict_sides.specs.examples.Gathers.{ListedOn, shifts, reduce_made, Sided}
use Rattle.conflict_sides.proofs.examples.Sides.{reduce_sided}

pub item-made : (s : ℕ) (g : List ℕ) (n p i : ℕ) → p < n → i ≡ length (listed (symbol_words g p))
    → ◌≡◌ {A = TracedItem} (record { state = s; item = record { production = p; index = i }; action = Reduce }) (record { state = s; item = record { production = p; index = length (get_or (productions_in g n) p no_production).symbols }; action = Reduce })
item-made s g n p i h e =
    let q : i ≡ length (get_or (productions_in g n) p no_production).symbols = e ∙ ap length (sym (production-symbols g n p h)) in
    λ j. record { state = s; item = record { production = p; index = q j }; action = Reduce }

module _ (T : Table) (F : TableFits T) (s p token : ℕ) (h : p < length T.productions) where
  item_in_lem : item_is_fit T.productions (item_of_reduce T p).production (item_of_reduce T p).index ≡ true
  unfolding item_of_reduce
  item_in_lem = item_fits T (item_of_reduce T p) (record { production = h; index = omega arith })

  -- of a listing l, which is the side's
  pub reduce_made_lem : (action : Action) → action ≡ Reduce → (l : Side) → l ≡ reduce_side T s p token → (a : Result Gathered Refusal) (kept prints kept' prints' : List ℕ) → Room kept' prints' → ListedOn T.productions (shifts action) a 0 kept prints kept' prints' l
      → Sided T false (reduce_made T s p token) a kept' prints' (reduce_side T s p token)
  reduce_made_lem action e l el a kept prints kept' prints' O S =
      let S₁ = subst (λ (l : Side). ListedOn T.productions (shifts action) a 0 kept prints kept' prints' l) el S in
      let S₂ = subst (λ b. ListedOn T.productions b a 0 kept prints kept' prints' (reduce_side T s p token)) (ap shifts e) S₁ in
      reduce_sided T F s p token item_in_lem kept prints kept' prints' O a S₂
