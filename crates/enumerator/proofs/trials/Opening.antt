-- When opening gives a listing (specs/trials/Advance), and which.
use Rattle.std.proofs.Common.{◌≡◌, ℕ, ◌≤◌, true, leb, List, length, refl, ◌∙◌, arith, le-leb, leb-true}
use mathlib.Core.Option.{Option}
use Rattle.lr1_base.specs.repr.Reply.{Reply, answered, refused}
use Rattle.lr1_base.specs.repr.Sizes.{graph_room}
use Rattle.lr1_base.specs.repr.Meaning.{Item, Table, TableFits}
use Rattle.lr1_base.proofs.repr.Lists.{cases}
use Rattle.table.specs.Checked.{Checked, Accepted, Refused as NotAccepted}
use Rattle.table.specs.Decoded.{meaning}
use Rattle.table.specs.Refusals.{check_of}
use Rattle.table.proofs.Decoding.{fits}
use Rattle.trace_graph.specs.Graph.{at_item, is_node_of}
use Rattle.trace_graph.specs.Words.{edges_in}
use Rattle.trace_graph.specs.Fits.{item_is_fit, graph_fits}
use Rattle.enumerator.specs.trials.Trials.{ends_of, Small}
use Rattle.enumerator.specs.trials.Opening.{listing, Ready}
use Rattle.enumerator.specs.trials.Advance.{set_of, ahead_fits, lent_graph_fits, asked, open_in, open_by, open_of}
use Rattle.enumerator.specs.trials.Lookahead.{Lookahead}
use Rattle.enumerator.specs.declared.trials.Listing.{Listing}
use Rattle.lr1_base.proofs.laws.Bools.{both}
use Rattle.enumerator.proofs.trials.Edges.{small_of}
use Rattle.enumerator.proofs.trials.Taken.{fits_long, asked_graph}

-- what opening asks, part by part
pub ready : (t : List ℕ) (i : Item) (ahead : Lookahead) (g : List ℕ) → check_of t ≡ Accepted → item_is_fit (meaning t).productions i.production i.index ≡ true
    → ahead_fits (meaning t) (set_of ahead) ≡ true → graph_room ≤ length g → graph_fits (length (meaning t).nonterminals) (meaning t).productions g ≡ true
    → is_node_of (at_item i) (edges_in g) ≡ true → Ready t i ahead g
unfolding asked
ready t i ahead g a f s l x n = record {
  accepted = a;
  asks =
      both (item_is_fit (meaning t).productions i.production i.index) _ f
      (both (ahead_fits (meaning t) (set_of ahead)) (lent_graph_fits (meaning t) g) s (fits_long (meaning t) g (le-leb graph_room (length g) l) ∙ x));
  long = l;
  node = n;
}

pub opens : (t : List ℕ) (i : Item) (ahead : Lookahead) (g : List ℕ) → Ready t i ahead g → open_of t i ahead g ≡ answered (listing i ahead 0 true)
unfolding open_of open_by open_in
opens t i ahead g R = rw (R.accepted, R.asks, le-leb graph_room (length g) R.long, R.node, open_in)

open_in_lem : (T : Table) (i : Item) (ahead : Lookahead) (g : List ℕ) (l : Listing) → open_in i ahead g T ≡ answered l
    → (asked T i (set_of ahead) g ≡ true) × (leb graph_room (length g) ≡ true) × (is_node_of (at_item i) (edges_in g) ≡ true) × (l ≡ listing i ahead 0 true)
unfolding open_in
open_in_lem T i ahead g l e =
    cases (asked T i (set_of ahead) g)
    (λ a.
    cases (leb graph_room (length g))
    (λ b.
    cases (is_node_of (at_item i) (edges_in g))
    (λ c. let z : ◌≡◌ {A = Reply Listing} (answered (listing i ahead 0 true)) (answered l) = rw (a, b, c, open_in) at e in (a, b, c, cc))
    (λ c. let z : ◌≡◌ {A = Reply Listing} (refused 15 0) (answered l) = rw (a, b, c, open_in) at e in let y : ◌≡◌ {A = ℕ} 0 1 = cc in absurd (omega arith)))
    (λ b. let z : ◌≡◌ {A = Reply Listing} (refused 11 0) (answered l) = rw (a, b, open_in) at e in let y : ◌≡◌ {A = ℕ} 0 1 = cc in absurd (omega arith)))
    (λ a. let z : ◌≡◌ {A = Reply Listing} (refused 9 0) (answered l) = rw (a, open_in) at e in let y : ◌≡◌ {A = ℕ} 0 1 = cc in absurd (omega arith))

-- a listing that opening gives is fresh
pub opened : (t : List ℕ) (i : Item) (ahead : Lookahead) (g : List ℕ) (l : Listing) → open_of t i ahead g ≡ answered l → Ready t i ahead g × (l ≡ listing i ahead 0 true)
unfolding open_of open_by
opened t i ahead g l e = by (check_of t) refl e
  where
    by : (k : Checked) → check_of t ≡ k → open_by t i ahead g k ≡ answered l → Ready t i ahead g × (l ≡ listing i ahead 0 true)
    by Accepted a f =
        let r = open_in_lem (meaning t) i ahead g l f in
        (record { accepted = a; asks = r.0; long = leb-true graph_room (length g) r.1; node = r.2 }, r.3)
    by (NotAccepted n r) a f = let z : ◌≡◌ {A = Reply Listing} (refused n r) (answered l) = f in let y : ◌≡◌ {A = ℕ} 0 1 = cc in absurd (omega arith)

-- over an accepted table a graph that is asked for comes from nonterminals below 32, so that the trials are all paths (`complete` of proofs/trials/Exact)
pub asked_small : (T : Table) (i : Item) (a : Option ℕ) (g : List ℕ) → TableFits T → graph_room ≤ length g → asked T i a g ≡ true → Small (ends_of (edges_in g))
asked_small T i a g F l e = small_of (length T.nonterminals) T.productions g (asked_graph T i a g l e) F.few_nonterminals

pub ready_small : (t : List ℕ) (i : Item) (ahead : Lookahead) (g : List ℕ) → Ready t i ahead g → Small (ends_of (edges_in g))
ready_small t i ahead g R = asked_small (meaning t) i (set_of ahead) g (fits t R.accepted) R.long R.asks
