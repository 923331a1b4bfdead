-- Laws of buckets (specs/Index): equal edges have the same, and the words that it is computed from.
use Rattle.std.proofs.Common.{◌≡◌, ℕ, zero, suc, ◌+◌, ◌*◌, ◌%◌, ◌<◌, true, List, ◌++◌, length, get_or, sym, ap, ◌∙◌, arith}
use Rattle.lr1_base.specs.repr.Sizes.{nonterminal_limit, terminal_limit}
use Rattle.lr1_base.specs.repr.Meaning.{Symbol, Production, no_production}
use Rattle.lr1_base.specs.repr.Listed.{symbol_of_kind, listed, symbol_is_fit, list_is_fit}
use Rattle.lr1_base.specs.repr.Packed.{symbol_words, Packed, productions_in}
use Rattle.lr1_base.proofs.repr.Listed.{symbol_range}
use Rattle.lr1_base.proofs.repr.FrontSymbol.{listed_short}
use Rattle.lr1_base.proofs.repr.Chunks.{pair_listed, pair_fits}
use Rattle.trace_graph.specs.declared.TraceEdge.{TraceEdge as EdgeValue}
use Rattle.trace_graph.specs.Graph.{Node, TraceEdge, label_of, same_sets, is_same_edge}
use Rattle.trace_graph.specs.Fits.{item_is_fit}
use Rattle.trace_graph.specs.Index.{number_of_node, symbol_number, mixed, bucket_number, bucket_limit}
use Rattle.trace_graph.specs.Values.{node_is, edge_is}
use Rattle.trace_graph.proofs.Labels.{sets_refl, label_parts, edge_parts}
use Rattle.trace_graph.proofs.Fits.{item-parts, production-symbols}
use Rattle.lr1_base.proofs.laws.Bools.{and_left, and_right}

-- equal edges are in the same bucket
pub same_bucket : (ps : List Production) (e f : TraceEdge) → item_is_fit ps e.label.production e.label.index ≡ true → item_is_fit ps f.label.production f.label.index ≡ true
    → is_same_edge ps e f ≡ true → bucket_number ps e ≡ bucket_number ps f
unfolding bucket_number label_of
same_bucket ps e f he hf h =
    let p = edge_parts ps e f h in
    let xs = (get_or ps e.label.production no_production).symbols in
    let ys = (get_or ps f.label.production no_production).symbols in
    let l : same_sets (label_of ps e.label) (label_of ps f.label) ≡ true = rw p.1.1 (sets_refl (label_of ps f.label)) in
    let q = label_parts xs ys e.label.index f.label.index (item-parts ps e.label.production e.label.index he).1 (item-parts ps f.label.production f.label.index hf).1 l in
    make p.0 p.1.0 q.0 q.1
  where
    make : {s s' t t' : Node} {i j : ℕ} {xs ys : List Symbol} → s ≡ s' → t ≡ t' → i ≡ j → xs ≡ ys
        → mixed ((number_of_node s * 3001 + (number_of_node t * 613 + i * 89)) % 65536) xs % bucket_limit ≡ mixed ((number_of_node s' * 3001 + (number_of_node t' * 613 + j * 89)) % 65536) ys % bucket_limit
    make a b c d = rw (a, b, c, d)

-- the turns of `mix`: what is left of the symbols mixed into the sum gives what the whole gives
pub record Mixing (ws : List ℕ) (start sum : ℕ) (left : List ℕ) : Type 0 where
  pub small : sum < 65536
  pub fits : list_is_fit nonterminal_limit terminal_limit left ≡ true
  pub same : mixed sum (listed left) ≡ mixed start (listed ws)

symbol_number_lem : (k x : ℕ) → k < 2 → symbol_number (symbol_of_kind k x) ≡ k * 32 + x
unfolding symbol_number symbol_of_kind
symbol_number_lem zero x h = omega arith
symbol_number_lem (suc zero) x h = omega arith
symbol_number_lem (suc (suc k)) x h = absurd (omega arith)

-- the ways through it
module _ {ws : List ℕ} {start sum : ℕ} {left : List ℕ} (M : Mixing ws start sum left) where
  pub mix_end : length left < 2 → sum ≡ mixed start (listed ws)
  unfolding mixed
  mix_end h = rw (listed_short left h) at M.same

  pub mix-more : (two rest : List ℕ) → left ≡ two ++ rest → length two ≡ 2 → {k x : ℕ} → k ≡ get_or two 0 0 → x ≡ get_or two 1 0
      → Mixing ws start ((sum * 211 + (k * 32 + x)) % 65536) rest
  unfolding mixed
  mix-more two rest e l {k} {x} ek ex =
      let f = sym (pair_fits nonterminal_limit terminal_limit left two rest e l) ∙ M.fits in
      let number : symbol_number (symbol_of_kind (get_or two 0 0) (get_or two 1 0)) ≡ k * 32 + x = symbol_number_lem (get_or two 0 0) (get_or two 1 0) (symbol_range nonterminal_limit terminal_limit (get_or two 0 0) (get_or two 1 0) (and_left _ _ f)).0 ∙ rw (ek, ex) in
      record {
        small = omega arith;
        fits = and_right (symbol_is_fit nonterminal_limit terminal_limit (get_or two 0 0) (get_or two 1 0)) _ f;
        same = sym (ap (mixed sum) (pair_listed left two rest e l) ∙ ap (λ (z : ℕ). mixed ((sum * 211 + z) % 65536) (listed rest)) number) ∙ M.same;
      }

-- the label's words that `bucket_of` mixes, and what it gives
pub words_fit_lem : (g : List ℕ) (m : ℕ) (v : EdgeValue) → Packed g m → v.label.production < m → {ws : List ℕ} → ws ≡ symbol_words g v.label.production → list_is_fit nonterminal_limit terminal_limit ws ≡ true
words_fit_lem g m v P h e = rw e (P.fits v.label.production h)

pub bucket_made : (g : List ℕ) (m : ℕ) (v : EdgeValue) → v.label.production < m → {from to r : ℕ} {ws : List ℕ} → from ≡ number_of_node (node_is v.source) → to ≡ number_of_node (node_is v.target) → ws ≡ symbol_words g v.label.production
    → r ≡ mixed ((from * 3001 + (to * 613 + v.label.index * 89)) % 65536) (listed ws) → r % bucket_limit ≡ bucket_number (productions_in g m) (edge_is v)
unfolding bucket_number edge_is
bucket_made g m v h es et ew er = rw (er, es, et, ew, production-symbols g m v.label.production h)
