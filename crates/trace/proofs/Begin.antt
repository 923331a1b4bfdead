-- A trace begun: no edge, no flag, no pair; and the states in which an item begins.
use Rattle.std.proofs.Common.{◌≡◌, ℕ, ◌*◌, ◌<◌, ◌≤◌, true, List, [], length, take, replicate, sym, refl, ap, ◌∙◌}
use Rattle.lr1_base.specs.repr.Lists.{mem}
use Rattle.lr1_base.specs.repr.Meaning.{Production, Table, ItemFits}
use Rattle.lr1_base.specs.repr.Listed.{listed, list_is_fit}
use Rattle.lr1_base.specs.repr.Packed.{symbol_words, productions_in}
use Rattle.lr1_base.proofs.repr.Lists.{mem-nil}
use Rattle.lr1_base.specs.item.Items.{symbol_sets}
use Rattle.table.specs.Decoded.{meaning}
use Rattle.table.proofs.Decoding.{fits}
use Rattle.state_graph.specs.Walk.{traced_back}
use Rattle.trace_graph.specs.Graph.{at_nonterminal, at_item, TraceEdge}
use Rattle.trace_graph.specs.Fits.{item_is_fit}
use Rattle.trace.specs.Traced.{untraced, add_to, owner_of, prefix_of, in_turn, pairs}
use Rattle.trace.specs.Shift.{epsilon, shift_trace, shift_edges}
use Rattle.trace.specs.Edges.{item_at}
use Rattle.trace.proofs.Traced.{item_fits}
use Rattle.trace.proofs.EndsLaws.{fits-words, prefix-fits, before_is}
use Rattle.trace.proofs.Fuel.{back_inside}
use Rattle.lr1_base.proofs.bits.Laws.{zeros_none}
use Rattle.trace.specs.edge_codes.Coded.{Coded}
use Rattle.trace.specs.Held.{Held, Working}

-- edges in words, and no pair entered
pub held_start : (T : Table) (ws fs vs : List ℕ) (es : List TraceEdge) → Coded T ws fs es → vs ≡ replicate 64 0 → Held T ws fs vs (record { edges = es; seen = [] })
held_start T ws fs vs es C e = record { edges = C; seen = λ k h. rw e (zeros_none 64 k ∙ sym (mem-nil k)) }

pub held_none : (T : Table) (ws fs vs : List ℕ) → Coded T ws fs [] → vs ≡ replicate 64 0 → Held T ws fs vs untraced
unfolding untraced
held_none T ws fs vs C e = held_start T ws fs vs [] C e

module _ {t g : List ℕ} {productions : ℕ} {ls : List ℕ} (W : Working t g productions ls) {s p i : ℕ} (inside : s < length (meaning t).states) (I : ItemFits (meaning t) (record { production = p; index = i })) where
  item_in_lem : item_is_fit (productions_in g productions) p i ≡ true
  item_in_lem = ap (λ (ps : List Production). item_is_fit ps p i) W.same ∙ item_fits (meaning t) (record { production = p; index = i }) I

  pub item-words : (p < productions) × (i ≤ length (listed (symbol_words g p)))
  item-words = fits-words g productions p i item_in_lem

  pub prefix-listed : (ws : List ℕ) → ws ≡ take (2 * i) (symbol_words g p) → list_is_fit (length (meaning t).nonterminals) (meaning t).terminals ws ≡ true
  prefix-listed ws e = prefix-fits g productions p W.packed item-words.0 (meaning t) i ws (fits t W.accepted) (sym W.same) e

  pub found_is : (ss ws : List ℕ) → listed ws ≡ (symbol_sets (listed (symbol_words g p)) i).prefix → ss ≡ traced_back (meaning t) s (listed ws) → ss ≡ traced_back (meaning t) s (prefix_of (meaning t) (record { production = p; index = i }))
  unfolding traced_back item_at
  found_is ss ws e f = before_is g productions p W.packed item-words.0 (meaning t) i s _ ss ws (sym W.same) refl e f

  pub found_in_lem : (ss : List ℕ) → ss ≡ traced_back (meaning t) s (prefix_of (meaning t) (record { production = p; index = i })) → (k : ℕ) → mem k ss ≡ true → k < length (meaning t).states
  found_in_lem ss e k h = back_inside (meaning t) (fits t W.accepted) s inside (prefix_of (meaning t) (record { production = p; index = i })) k (rw e at h)

  module _ (ss : List ℕ) (e : ss ≡ traced_back (meaning t) s (prefix_of (meaning t) (record { production = p; index = i }))) (ws fs : List ℕ) (C : Coded (meaning t) ws fs []) where
    pub shift_from : (P : List TraceEdge → Type 0)
        → ((es : List TraceEdge) → Coded (meaning t) ws fs es → P (in_turn (λ q u. epsilon (meaning t) pairs q (owner_of (meaning t) (record { production = p; index = i })) u) ss (add_to (meaning t) (at_nonterminal (owner_of (meaning t) (record { production = p; index = i }))) (at_item (record { production = p; index = i })) (record { production = p; index = i }) (record { edges = es; seen = [] }))).edges)
        → P (shift_edges (meaning t) s (record { production = p; index = i }))
    unfolding shift_edges shift_trace untraced
    shift_from P call = rw e at (call [] C)
