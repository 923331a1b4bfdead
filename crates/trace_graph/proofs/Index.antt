-- Laws of the index (specs/Index): the edges that pass a test, the links along them, and an edge put in front.
use Rattle.std.proofs.Common.{◌≡◌, ℕ, zero, suc, ◌+◌, ◌<◌, ◌≤◌, Bool, true, false, ◌||◌, eqb, List, [], ◌∷◌, length, get_or, replicate, sym, refl, ap, ◌∙◌, arith, eqb-true}
use mathlib.Core.Bool.{or-false, or-true}
use lib.ListN.{length-replicate, get_or-replicate}
use borrow.Author.Tests.{eqb-false}
use Rattle.lr1_base.specs.repr.Sizes.{edge_limit}
use Rattle.lr1_base.specs.repr.Lists.{some?}
use Rattle.lr1_base.specs.repr.Meaning.{Production}
use Rattle.lr1_base.proofs.repr.Lists.{cases}
use Rattle.lr1_base.proofs.repr.Tests.{some?-append, some?-yes, some?_no, some?-nil}
use Rattle.trace_graph.specs.Graph.{TraceEdge}
use Rattle.trace_graph.specs.Words.{edge_at}
use Rattle.lr1_base.specs.hash_index.Chains.{newest, Linked, chained}
use Rattle.lr1_base.proofs.hash_index.Chains.{newest-none, newest-yes, newest_no, linked_cons, linked_nil, linked_top, linked_step, chained_long, chain_joined, chain_beside}
use Rattle.trace_graph.specs.Index.{bucket_number, in_bucket, Indexed, bucket_limit, index_room}
use Rattle.trace_graph.specs.Values.{first_edges}
use Rattle.trace_graph.proofs.Words.{first-none, first_more}

-- an edge that is kept is in the same bucket
pub bucket_kept : (ps : List Production) (ws ws' : List ℕ) (b j : ℕ) → edge_at ws' j ≡ edge_at ws j → in_bucket ps ws' b j ≡ in_bucket ps ws b j
unfolding in_bucket
bucket_kept ps ws ws' b j e = rw e

-- links

module _ (ix : List ℕ) (links : ℕ) (u : ℕ → Bool) where
  -- a test that only edges of the chain pass is passed by none between a link and k
  pub linked_some : (ws : List ℕ) (t : TraceEdge → Bool) (h k : ℕ) → ((j : ℕ) → j < k → u j ≡ false → t (edge_at ws j) ≡ false)
      → Linked ix links h (newest u k) → some? t (first_edges ws k) ≡ some? t (first_edges ws h)
  linked_some ws t h zero f l = let z = linked_nil ix links u h (rw (newest-none u) at l) in ap (λ (j : ℕ). some? t (first_edges ws j)) (sym z)
  linked_some ws t h (suc k) f l =
      cases (u k)
      (λ s. let e = (linked_cons ix links u h k (newest u k) (rw (newest-yes u k s) at l)).0 in ap (λ (j : ℕ). some? t (first_edges ws j)) (sym e))
      (λ s. some_no t ws k (f k (omega arith) s) ∙ linked_some ws t h k (λ j m. f j (omega arith)) (rw (newest_no u k s) at l))
    where
      some_no : (t : TraceEdge → Bool) (ws : List ℕ) (k : ℕ) → t (edge_at ws k) ≡ false → some? t (first_edges ws (suc k)) ≡ some? t (first_edges ws k)
      some_no t ws k e = rw (first_more ws k) (some?-append t (first_edges ws k) (edge_at ws k ∷ []) ∙ rw (some?_no t (edge_at ws k) [] e, some?-nil t) (or-false (some? t (first_edges ws k))))

-- one edge more
pub some-last : (t : TraceEdge → Bool) (ws : List ℕ) (k : ℕ) → some? t (first_edges ws (suc k)) ≡ (some? t (first_edges ws k) || t (edge_at ws k))
some-last t ws k =
    rw (first_more ws k) (some?-append t (first_edges ws k) (edge_at ws k ∷ [])
    ∙ cases (t (edge_at ws k)) (λ e. rw (some?-yes t (edge_at ws k) [] e, e)) (λ e. rw (some?_no t (edge_at ws k) [] e, some?-nil t, e)))

-- the turns of `find`: what is left to do gives what the whole gives
pub record Turn (ws ix : List ℕ) (links : ℕ) (u : ℕ → Bool) (t : TraceEdge → Bool) (k next : ℕ) : Type 0 where
  pub below : next ≤ k
  pub linked : Linked ix links next (newest u next)
  pub same : some? t (first_edges ws next) ≡ some? t (first_edges ws k)

module _ (ws ix : List ℕ) (links : ℕ) (u : ℕ → Bool) (t : TraceEdge → Bool) (k : ℕ) (f : (j : ℕ) → j < k → u j ≡ false → t (edge_at ws j) ≡ false) where
  pub turn_first : (next : ℕ) → Linked ix links next (newest u k) → Turn ws ix links u t k next
  turn_first next l =
      let r = linked_top ix links u next k l in
      record { below = r.0; linked = rw r.1 at l; same = sym (linked_some ix links u ws t next k f l) }

  pub turn_end : (next : ℕ) → Turn ws ix links u t k next → next ≡ 0 → false ≡ some? t (first_edges ws k)
  turn_end next T e = sym (some?-nil t) ∙ (rw (e, first-none ws) at T.same)

  module _ (next i : ℕ) (T : Turn ws ix links u t k next) (e : next ≡ suc i) where
    step : Linked ix links (get_or ix (links + i) 0) (newest u i)
    step = linked_step ix links u i (rw e at T.linked)

    pub turn_less : get_or ix (links + i) 0 ≤ i
    turn_less = (linked_top ix links u (get_or ix (links + i) 0) i step).0

    pub turn_found : t (edge_at ws i) ≡ true → true ≡ some? t (first_edges ws k)
    turn_found h = sym (sym (rw e at T.same) ∙ some-last t ws i ∙ rw h (or-true (some? t (first_edges ws i))))

    pub turn_again : (j : ℕ) → j ≡ get_or ix (links + i) 0 → t (edge_at ws i) ≡ false → Turn ws ix links u t k j
    turn_again j q h =
        let b = T.below in
        let l : Linked ix links j (newest u i) = rw q step in
        let r = linked_top ix links u j i l in
        record {
          below = omega (arith, r.0);
          linked = rw r.1 at l;
          same = sym (linked_some ix links u ws t j i (λ m g. f m (omega arith)) l) ∙ sym (some-last t ws i ∙ rw h (or-false (some? t (first_edges ws i)))) ∙ (rw e at T.same);
        }

-- no edges
pub index_none : (ps : List Production) (ws ix : List ℕ) → ix ≡ replicate index_room 0 → Indexed ps ws ix 0
unfolding Linked
index_none ps ws ix e = record {
  long = ap length e ∙ length-replicate {A = ℕ} index_room 0;
  bucketed = λ b h. rw (newest-none (in_bucket ps ws b)) (ap (λ (l : List ℕ). get_or l b 0) e ∙ get_or-replicate {A = ℕ} index_room b 0 0 (omega arith));
}

-- edge k put in front of its bucket's chain
pub index_linked : (ps : List Production) (ws ix : List ℕ) (k bucket : ℕ) → k < edge_limit → Indexed ps ws ix k → bucket ≡ bucket_number ps (edge_at ws k) → bucket < bucket_limit
    → Indexed ps ws (chained ix bucket_limit bucket k) (suc k)
unfolding in_bucket
index_linked ps ws ix k bucket hk I eb hb = record {
  long = chained_long ix bucket_limit bucket k ∙ I.long;
  bucketed = λ b h.
      let room : bucket_limit + k < length ix = omega (arith, I.long) in
      cases (eqb (bucket_number ps (edge_at ws k)) b)
      (λ s. let m : b ≡ bucket = sym (eqb-true (bucket_number ps (edge_at ws k)) b s) ∙ sym eb in rw m (chain_joined ix bucket_limit bucket k hb room (in_bucket ps ws bucket) (rw m at s) (rw m at (I.bucketed b h))))
      (λ s.
      let ne = eqb-false (bucket_number ps (edge_at ws k)) b s in
      chain_beside ix bucket_limit bucket k hb room (in_bucket ps ws b) b h (λ q. ne (sym eb ∙ sym q)) s (I.bucketed b h));
}
