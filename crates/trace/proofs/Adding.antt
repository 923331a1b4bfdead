-- The edges that tracing adds, in one word each.
use Rattle.std.proofs.Common.{◌≡◌, ℕ, ◌<◌, Bool, true, false, eqb, length, sym, ap, arith, eqb-true}
use borrow.Author.Tests.{eqb-false}
use Rattle.lr1_base.specs.repr.Meaning.{Item, Table, TableFits, ItemFits}
use Rattle.lr1_base.proofs.repr.Lists.{cases}
use Rattle.trace_graph.specs.Graph.{at_nonterminal, at_item}
use Rattle.trace.specs.Traced.{owner_of, can_shift}
use Rattle.trace.specs.Sound.{EdgeSound}
use Rattle.trace.specs.Edges.{epsilon_edge, source_of, edge_to_nonterminal}
use Rattle.trace.proofs.Traced.{to_item_sound, from_item_sound, between_sound}
use Rattle.trace.proofs.Steps.{edge_past, edge_beginning}
use Rattle.trace.specs.declared.edge_codes.EdgeCode.{EdgeCode}
use Rattle.trace.specs.edge_codes.Codes.{kind_of}
use Rattle.trace.specs.edge_codes.Kinds.{kind_number, kind_from, IsCodeOf}

module _ (T : Table) where
  module _ (fits : TableFits T) (i : Item) (n : ℕ) (l : n < length T.nonterminals) (h : ItemFits T i) (c : can_shift T n i ≡ true) where
    pub traced_past : EdgeSound T (record { source = at_item i; target = at_nonterminal n; label = i })
    traced_past = from_item_sound T fits n i l h c

    pub traced_beginning : EdgeSound T (record { source = at_nonterminal (owner_of T i); target = at_nonterminal n; label = i })
    traced_beginning = between_sound T fits n i l h c

  -- the edge of an item that can shift a nonterminal in a shift trace is that of a reduce trace, which goes on where the item is at its beginning
  pub epsilon_way : (i : Item) (n : ℕ) → edge_to_nonterminal (eqb i.index 0) (owner_of T i) n i ≡ epsilon_edge T.productions i n
  unfolding edge_to_nonterminal source_of
  epsilon_way i n =
      cases (eqb i.index 0)
      (λ b. let z = eqb-true i.index 0 b in rw b (sym (edge_beginning T i n (omega arith))))
      (λ b. let ne = eqb-false i.index 0 b in rw b (sym (edge_past T i n (omega (arith, ne)))))

-- by kind

module _ (T : Table) (fits : TableFits T) (i : Item) (n : ℕ) (l : n < length T.nonterminals) (h : ItemFits T i) (c : can_shift T n i ≡ true) where
  pub way_traced : (on : Bool) → EdgeSound T (edge_to_nonterminal on (owner_of T i) n i)
  unfolding edge_to_nonterminal source_of
  way_traced true = traced_beginning T fits i n l h c
  way_traced false = traced_past T fits i n l h c

  pub code_way : (on : Bool) (c : EdgeCode) → c.kind ≡ kind_from on → record { production = c.item.production; index = c.item.index } ≡ i → IsCodeOf c (edge_to_nonterminal on (owner_of T i) n i)
  unfolding edge_to_nonterminal source_of kind_of
  code_way true c k l = record { kind = ap kind_number k; label = l }
  code_way false c k l = record { kind = ap kind_number k; label = l }

-- the first edge of a trace

module _ (T : Table) (fits : TableFits T) (i : Item) (h : ItemFits T i) where
  pub first_traced : EdgeSound T (record { source = at_nonterminal (owner_of T i); target = at_item i; label = i })
  first_traced = to_item_sound T fits i h

  pub first_code : (c : EdgeCode) → kind_number c.kind ≡ 0 → record { production = c.item.production; index = c.item.index } ≡ i → IsCodeOf c (record { source = at_nonterminal (owner_of T i); target = at_item i; label = i })
  unfolding kind_of
  first_code c k l = record { kind = k; label = l }
