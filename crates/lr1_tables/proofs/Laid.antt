-- The table written region by region (`Laid` of specs/Ended).
use mathlib.Core.Path.{◌≡◌, sym, ◌∙◌}
use mathlib.Core.List.{List}
use Prim.Native.Nat.{ℕ, ◌+◌, ◌≤◌}
use native.Mathlib.Omega.{arith}
use lib.ListN.{length, get_or}
use Rattle.lr1_base.specs.repr.Sizes.{record_limit}
use Rattle.lr1_base.specs.repr.Meaning.{Table}
use Rattle.lr1_base.specs.words.Lent.{in_front}
use Rattle.table_rewrite.specs.spelling.Spelled.{item_lists, edge_lists, states_at, productions_at, symbols_at, items_place, edges_at, records_of, spell}
use Rattle.table_rewrite.specs.spelling.Grown.{Grown, Room}
use Rattle.table_rewrite.proofs.spelling.Grown.{grown-join, grown-all}
use Rattle.table_rewrite.proofs.spelling.Wrote.{front_is}
use Rattle.table_rewrite.specs.grammar_records.Target.{Target, PackedAs}
use Rattle.lr1_tables.specs.state_records.Rows.{BeginsOf, ItemsIn, EdgesIn}
use Rattle.lr1_tables.specs.declared.FoundStates.{FoundStates}
use Rattle.lr1_tables.specs.Ended.{Laid}

module _ {U : Table} {found : FoundStates} {out : List ℕ} (L : Laid U found out) where
  -- the numbers are exact
  pub few_edges_at : found.sizes.fixed + found.kept.begins.now.states + get_or found.kept.begins.now.items found.kept.begins.now.states 0 ≤ record_limit
  unfolding records_of
  few_edges_at = omega (arith, L.edges_at, L.target.room.few)

  pub states-begin : 1 + found.sizes.nonterminals ≡ states_at U
  unfolding states_at
  states-begin = omega (arith, L.target.nonterminals)

  pub symbols-begin : 1 + found.sizes.nonterminals + found.kept.begins.now.states + found.kept.grammar.productions ≡ symbols_at U
  unfolding symbols_at productions_at states_at
  symbols-begin = omega (arith, L.target.nonterminals, L.target.states, L.many)

  pub few_symbols_at : 1 + found.sizes.nonterminals + found.kept.begins.now.states + found.kept.grammar.productions ≤ record_limit
  unfolding records_of edges_at items_place
  few_symbols_at = omega (arith, symbols-begin, L.target.room.few)

  -- as long as before, there is still room
  pub room_on : (o : List ℕ) → length o ≡ length out → Room U o
  room_on o e = record { few = L.target.room.few; long = omega (arith, e, L.target.room.long) }

  pub target_on : (o : List ℕ) → length o ≡ length out → Target U found.sizes.nonterminals found.terminals found.kept.begins.now.states o
  target_on o e = record {
    nonterminals = L.target.nonterminals;
    terminals = L.target.terminals;
    small = L.target.small;
    states = L.target.states;
    room = room_on o e;
  }

  -- what the six writers leave, one after the other
  pub all-written : (o₁ o₂ o₃ o₄ o₅ o₆ : List ℕ)
      → ((W : Table) → Target W found.sizes.nonterminals found.terminals found.kept.begins.now.states out → PackedAs W found.kept.grammar.words.now found.kept.grammar.productions → Grown W out o₁ 0 (states_at W))
      → ((W : Table) → found.kept.begins.now.states ≡ length W.states → 1 + found.sizes.nonterminals ≡ states_at W → found.sizes.fixed + found.kept.begins.now.states ≡ items_place W → found.sizes.fixed + found.kept.begins.now.states + get_or found.kept.begins.now.items found.kept.begins.now.states 0 ≡ edges_at W → BeginsOf (item_lists W) found.kept.begins.now.items → BeginsOf (edge_lists W) found.edges.now.rows → Room W o₁
      → Grown W o₁ o₂ (states_at W) (productions_at W))
      → ((W : Table) → Target W found.sizes.nonterminals found.terminals found.kept.begins.now.states o₂ → PackedAs W found.kept.grammar.words.now found.kept.grammar.productions → Grown W o₂ o₃ (productions_at W) (symbols_at W))
      → ((W : Table) → PackedAs W found.kept.grammar.words.now found.kept.grammar.productions → 1 + found.sizes.nonterminals + found.kept.begins.now.states + found.kept.grammar.productions ≡ symbols_at W → Room W o₃ → Grown W o₃ o₄ (symbols_at W) (items_place W))
      → ((W : Table) → found.kept.begins.now.states ≡ length W.states → found.sizes.fixed + found.kept.begins.now.states ≡ items_place W → ItemsIn W found.kept.words.now found.kept.begins.now.items → Room W o₄ → Grown W o₄ o₅ (items_place W) (edges_at W))
      → ((W : Table) → found.kept.begins.now.states ≡ length W.states → found.sizes.fixed + found.kept.begins.now.states + get_or found.kept.begins.now.items found.kept.begins.now.states 0 ≡ edges_at W → EdgesIn W found.edges.now.list.words found.edges.now.rows → Room W o₅ → Grown W o₅ o₆ (edges_at W) (records_of W))
      → o₆ ≡ in_front (spell U) out
  all-written o₁ o₂ o₃ o₄ o₅ o₆ front states productions symbols items edges =
      let a : Grown U out o₁ 0 (states_at U) = front U L.target L.packed in
      let b : Grown U out o₂ 0 (productions_at U) = grown-join U out o₁ o₂ 0 (states_at U) (productions_at U) a
      (states U L.target.states states-begin L.items_at L.edges_at L.items.begins L.edges.begins (room_on o₁ a.long)) in
      let c : Grown U out o₃ 0 (symbols_at U) = grown-join U out o₂ o₃ 0 (productions_at U) (symbols_at U) b (productions U (target_on o₂ b.long) L.packed) in
      let d : Grown U out o₄ 0 (items_place U) = grown-join U out o₃ o₄ 0 (symbols_at U) (items_place U) c (symbols U L.packed symbols-begin (room_on o₃ c.long)) in
      let e : Grown U out o₅ 0 (edges_at U) = grown-join U out o₄ o₅ 0 (items_place U) (edges_at U) d (items U L.target.states L.items_at L.items (room_on o₄ d.long)) in
      let w : Grown U out o₆ 0 (records_of U) = grown-join U out o₅ o₆ 0 (edges_at U) (records_of U) e (edges U L.target.states L.edges_at L.edges (room_on o₅ e.long)) in
      grown-all U out o₆ L.target.room w ∙ sym (front_is U out)
