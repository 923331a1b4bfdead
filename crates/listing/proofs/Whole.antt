-- The ways through `examples`: what applies first is answered, and the calls that are made are answered as the plain lister says.
use Prim.Native.Nat.{ℕ, zero, suc, ◌/◌, ◌≤◌, ◌<◌}
use mathlib.Core.Path.{◌≡◌, refl, sym, ap, ◌∙◌}
use mathlib.Core.List.{List, [], ◌++◌}
use lib.ListN.{length, drop}
use borrow.Author.Tests.{lt-ltb, le-ltb}
use Rattle.lr1_base.specs.repr.Reply.{answered, refused}
use Rattle.lr1_base.specs.repr.Meaning.{Item}
use Rattle.enumerator.specs.trials.Advance.{open_of}
use Rattle.enumerator.specs.trials.Calls.{Left, scratch_after}
use Rattle.enumerator.specs.trials.Lookahead.{Lookahead}
use Rattle.enumerator.specs.declared.trials.Listing.{Listing}
use Rattle.enumerator.proofs.trials.Demand.{demand}
use Rattle.listing.specs.CallList.{lents_in, output_words, records_of, refusal_of_calls, Ran, listed, list_by, list_of, Ended, ended, ended_of}

module _ (t : List ℕ) (i : Item) (ahead : Lookahead) (cs g scratch out : List ℕ) where
  -- the list's refusal against opening's
  lower_list : (k n r : ℕ) → (k ≡ 0 → ⊥) → k < n → listed (refused k 0) scratch out ≡ list_by t i ahead cs g scratch out k (refused n r)
  unfolding list_by
  lower_list zero n r ne h = absurd (ne refl)
  lower_list (suc k) n r ne h = rw (lt-ltb _ _ h, list_by)

  lower_opening : (k n r : ℕ) → (k ≡ 0 → ⊥) → n ≤ k → listed (refused n r) scratch out ≡ list_by t i ahead cs g scratch out k (refused n r)
  unfolding list_by
  lower_opening zero n r ne h = absurd (ne refl)
  lower_opening (suc k) n r ne h = rw (le-ltb _ _ h, list_by)

  list_alone : (k : ℕ) (l : Listing) → (k ≡ 0 → ⊥) → listed (refused k 0) scratch out ≡ list_by t i ahead cs g scratch out k (answered l)
  unfolding list_by
  list_alone zero l ne = absurd (ne refl)
  list_alone (suc k) l ne = refl

  -- the calls that are made
  finished : ℕ → Ended → Ran
  finished n (ended s x) = listed (answered n) s x

  all_made : (l : Listing) → open_of t i ahead g ≡ answered l → (s x : List ℕ) → ended s x ≡ ended_of t g cs l scratch [] out → listed (answered (length cs / 3)) s x ≡ list_by t i ahead cs g scratch out 0 (answered l)
  unfolding list_by ended_of finished
  all_made l e s x h =
      ap (finished (length cs / 3)) h
      ∙ ap (λ (ls : List Left). listed (answered (length cs / 3)) (scratch_after t g l scratch (lents_in cs out)) (records_of ls ++ drop (output_words cs) out)) (demand t i ahead g l e scratch (lents_in cs out)).same

  module _ (k : ℕ) (ek : k ≡ refusal_of_calls cs (length out)) where
    module _ (n r : ℕ) (e : refused n r ≡ open_of t i ahead g) where
      pub opening_refused : k ≡ 0 → listed (refused n r) scratch out ≡ list_of t i ahead cs g scratch out
      unfolding list_of list_by
      opening_refused z = rw (← ek, ← e, z)

      pub list_refused_lower : (k ≡ 0 → ⊥) → k < n → listed (refused k 0) scratch out ≡ list_of t i ahead cs g scratch out
      unfolding list_of
      list_refused_lower ne h = rw (← ek, ← e) (lower_list k n r ne h)

      pub opening_refused_lower : (k ≡ 0 → ⊥) → n ≤ k → listed (refused n r) scratch out ≡ list_of t i ahead cs g scratch out
      unfolding list_of
      opening_refused_lower ne h = rw (← ek, ← e) (lower_opening k n r ne h)

    module _ (l : Listing) (e : answered l ≡ open_of t i ahead g) where
      pub list_refused : (k ≡ 0 → ⊥) → listed (refused k 0) scratch out ≡ list_of t i ahead cs g scratch out
      unfolding list_of
      list_refused ne = rw (← ek, ← e) (list_alone k l ne)

      pub calls-made : k ≡ 0 → (s x : List ℕ) → ended s x ≡ ended_of t g cs l scratch [] out → listed (answered (length cs / 3)) s x ≡ list_of t i ahead cs g scratch out
      unfolding list_of
      calls-made z s x h = let a = all_made l (sym e) s x h in rw (← ek, z, ← e) a
