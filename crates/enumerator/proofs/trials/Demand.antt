-- Whole lists of calls (docs/RULES.md, "Listing"; `Demand` of specs/trials/Demand): over any list of calls, refused ones included, between one example and the next no path is passed over.
use Rattle.std.proofs.Common.{◌≡◌, ℕ, ◌-◌, Bool, true, false, List, [], ◌∷◌, ◌++◌, map, length, drop, refl, ap, ◌∙◌}
use Rattle.lr1_base.specs.repr.Reply.{Reply, answered}
use Rattle.lr1_base.specs.repr.Sizes.{trial_limit}
use Rattle.lr1_base.specs.repr.Meaning.{Item}
use Rattle.table.specs.Decoded.{meaning}
use Rattle.trace_graph.specs.Words.{edges_in}
use Rattle.enumerator.specs.trials.Trials.{Path}
use Rattle.enumerator.specs.trials.Lister.{enough, Found, hit, out, over, search, Out, found_out, found_then, plain_find, plain_out, plain_then, plain_run, plain_lister}
use Rattle.enumerator.specs.trials.Advance.{outcome, set_of, open_of}
use Rattle.enumerator.specs.trials.Calls.{Lent, left_by, listing_by, scratch_by, called, calls, listing_after, scratch_after, lengths, left_all}
use Rattle.enumerator.specs.trials.Opening.{listing, Ready}
use Rattle.enumerator.specs.trials.Behind.{trials_in, Fit, Behind}
use Rattle.enumerator.specs.trials.Told.{count_after, open_at, open_after}
use Rattle.enumerator.specs.trials.Demand.{Demand}
use Rattle.enumerator.specs.trials.Lookahead.{Lookahead}
use Rattle.enumerator.specs.declared.trials.Listing.{Listing}
use Rattle.enumerator.specs.declared.trials.Advanced.{Advanced}
use Rattle.enumerator.proofs.trials.Opening.{opened, ready_small}
use Rattle.enumerator.proofs.trials.Calling.{hands_in, says_in}
use Rattle.enumerator.proofs.trials.Moving.{call_moves}
use Rattle.enumerator.proofs.trials.Handed.{handed_out}

goes : (t g : List ℕ) (l : Listing) (ws : List ℕ) (k : Lent) (ks : List Lent) (a : Reply Advanced) (l' : Listing) (s b : List ℕ) → called t g l ws k ≡ outcome a l' s b
    → calls t g l ws (k ∷ ks) ≡ record { answer = a; count = l'.count; buffer = b } ∷ calls t g l' (s ++ drop k.scratch ws) ks
unfolding calls left_by listing_by scratch_by
goes t g l ws k ks a l' s b e = rw e

-- the plain lister's state after a call, from its answer
plain-found : (say : Path → List ℕ) (F : Found) → ((found_then F).count ≡ (found_out say F).count) × ((found_then F).is_open ≡ open_at (found_out say F).answer true)
unfolding found_then found_out
plain-found say (hit n p) = (refl, refl)
plain-found say (out n) = (refl, refl)
plain-found say over = (refl, refl)

plain-moves : (test : Path → Bool) (say : Path → List ℕ) (ts : List Path) (e o : Bool) (c : ℕ)
    → ((plain_then test say ts e o (record { count = c; is_open = o })).count ≡ (plain_out test say ts e o (record { count = c; is_open = o })).count)
    × ((plain_then test say ts e o (record { count = c; is_open = o })).is_open ≡ open_at (plain_out test say ts e o (record { count = c; is_open = o })).answer o)
unfolding plain_then plain_out plain_find
plain-moves test say ts false o c = (refl, refl)
plain-moves test say ts true false c = (refl, refl)
plain-moves test say ts true true c = plain-found say (search test (trial_limit - c) c (drop c ts))

module _ (t : List ℕ) (i : Item) (ahead : Lookahead) (g : List ℕ) (R : Ready t i ahead g) (ws₀ : List ℕ) where
  same_answers : (ks : List Lent) (c : ℕ) (o : Bool) (ws : List ℕ) → Fit i g ws₀ c o ws → length ws ≡ length ws₀
      → calls t g (listing i ahead c o) ws ks
      ≡ left_all ks (plain_run (hands_in t ahead g) (says_in t g) (trials_in i g) (map (lengths g ws₀) ks) (record { count = c; is_open = o }))
  unfolding calls left_all plain_run
  same_answers [] c o ws f len = refl
  same_answers (k ∷ ks) c o ws f len =
      let M = call_moves t i ahead g R ws₀ k c ws len o f in
      let s = plain_then (hands_in t ahead g) (says_in t g) (trials_in i g) (enough (lengths g ws₀ k)) o (record { count = c; is_open = o }) in
      let a = goes t g (listing i ahead c o) ws k ks M.answer (listing i ahead s.count s.is_open) M.scratch M.buffer M.outcomes in
      let b = M.left in
      let d = same_answers ks s.count s.is_open (M.scratch ++ drop k.scratch ws) M.fit M.long in
      cc

  run : List Lent → ℕ → Bool → List Out
  run ks c o = plain_run (hands_in t ahead g) (says_in t g) (trials_in i g) (map (lengths g ws₀) ks) (record { count = c; is_open = o })

  behind : (ks : List Lent) (c : ℕ) (o : Bool) (ws : List ℕ) → Fit i g ws₀ c o ws → length ws ≡ length ws₀
      → Behind i ahead g ws₀ (count_after c (run ks c o)) (open_after o (run ks c o)) (listing_after t g (listing i ahead c o) ws ks) (scratch_after t g (listing i ahead c o) ws ks)
  unfolding run listing_after scratch_after listing_by scratch_by plain_run
  behind [] c o ws f len = record { listed = refl; fit = f; long = len }
  behind (k ∷ ks) c o ws f len =
      let M = call_moves t i ahead g R ws₀ k c ws len o f in
      let e = enough (lengths g ws₀ k) in
      let s = plain_then (hands_in t ahead g) (says_in t g) (trials_in i g) e o (record { count = c; is_open = o }) in
      let x = plain-moves (hands_in t ahead g) (says_in t g) (trials_in i g) e o c in
      rw (M.outcomes, ← x.0, ← x.1) (behind ks s.count s.is_open (M.scratch ++ drop k.scratch ws) M.fit M.long)

-- the whole list: from the listing that opening gives, over any scratch and any list of calls
pub demand : (t : List ℕ) (i : Item) (ahead : Lookahead) (g : List ℕ) (l : Listing) → open_of t i ahead g ≡ answered l → (scratch : List ℕ) (cs : List Lent) → Demand t i ahead g l scratch cs
unfolding Fit plain_lister run
demand t i ahead g l e scratch cs =
    let r = opened t i ahead g l e in
    record {
      same = ap (λ (x : Listing). calls t g x scratch cs) r.1 ∙ same_answers t i ahead g r.0 scratch cs 0 true scratch refl refl;
      handed = handed_out (meaning t) (edges_in g) i (set_of ahead) (map (lengths g scratch) cs) (ready_small t i ahead g r.0);
      behind = rw r.1 (behind t i ahead g r.0 scratch cs 0 true scratch refl refl);
    }
