-- One call, and the calls that are left.
use Prim.Native.Nat.{ℕ, suc, ◌+◌, ◌-◌, ◌%◌, ◌/◌, ◌≤◌, ◌<◌, min}
use native.Mathlib.Omega.{arith}
use mathlib.Core.Path.{◌≡◌, refl, sym, ap, ◌∙◌}
use mathlib.Core.Bool.{Bool, true, false}
use mathlib.Core.List.{List, [], ◌∷◌, ◌++◌, append_assoc, append-nil}
use lib.ListN.{length, get_or, set, take, drop, take-append-drop, drop_of_length-le, length-drop, length-append}
use lib.Dec.{leb}
use lib.Seq.{take_all, take-length, drop-length, drop-drop, take_at, take-nil, length-take-le}
use borrow.Author.Tests.{leb-true, leb-false}
use borrow.Rule.Slice.PartMut.{put_mid, drop_put}
use Rattle.lr1_base.specs.repr.Reply.{Reply}
use Rattle.enumerator.specs.trials.Advance.{outcome, advance_of}
use Rattle.enumerator.specs.trials.Calls.{Lent, left_by, listing_by, scratch_by, called, calls, scratch_after}
use Rattle.enumerator.specs.declared.trials.Listing.{Listing}
use Rattle.enumerator.specs.declared.trials.Advanced.{Advanced}
use Rattle.listing.specs.CallList.{lents_in, output_words, number_of_answer, record_of, records_of, Made, made, made_by, made_of, Ended, ended, ended_of}
use Rattle.listing.proofs.Asked.{call_is}

-- ---- a beginning
by_size : (n : ℕ) (l : List ℕ) {A : Type 0} → (n ≤ length l → A) → (length l ≤ n → A) → A
by_size n l {A} few all = go (leb n (length l)) refl
  where
    go : (b : Bool) → leb n (length l) ≡ b → A
    go true e = few (leb-true _ _ e)
    go false e = let h : length l < n = leb-false _ _ e in all (omega (arith, h))

pub take-least : (n k : ℕ) (l : List ℕ) → k ≡ min n (length l) → take k l ≡ take n l
take-least n k l e = by_size n l
    (λ h. let f : k ≡ n = omega arith in rw f)
    (λ h. let f : k ≡ length l = omega arith in rw f (take-length l ∙ sym (take_all n l h)))

pub drop-least : (n k : ℕ) (l : List ℕ) → k ≡ min n (length l) → drop k l ≡ drop n l
drop-least n k l e = by_size n l
    (λ h. let f : k ≡ n = omega arith in rw f)
    (λ h. let f : k ≡ length l = omega arith in rw f (drop-length l ∙ sym (drop_of_length-le l h)))

-- ---- a call's part of the output
pub three_words : (part : List ℕ) (x y z : ℕ) → 3 ≤ length part → set (set (set part 0 x) 1 y) 2 z ≡ x ∷ y ∷ z ∷ drop 3 part
three_words [] x y z h = absurd (omega arith)
three_words (p ∷ []) x y z h = absurd (omega arith)
three_words (p ∷ q ∷ []) x y z h = absurd (omega arith)
three_words (p ∷ q ∷ r ∷ part) x y z h = refl

-- the buffer is what follows the three words
pub buffer_lent : (part : List ℕ) → take (length part - 3) (drop 3 part) ≡ drop 3 part
buffer_lent part = take_all (length part - 3) (drop 3 part) (let e = length-drop 3 part in omega arith)

pub buffer_back : (part b : List ℕ) → 3 ≤ length part → drop 3 (put_mid 3 (length part - 3) part b) ≡ b
buffer_back [] b h = absurd (omega arith)
buffer_back (p ∷ []) b h = absurd (omega arith)
buffer_back (p ∷ q ∷ []) b h = absurd (omega arith)
buffer_back (p ∷ q ∷ r ∷ part) b h = ap (λ (x : List ℕ). b ++ x) (drop_of_length-le part {i = length (p ∷ q ∷ r ∷ part) - 3} (omega arith)) ∙ append-nil b

module _ (t g : List ℕ) (l : Listing) (scratch : List ℕ) where
  pub made_is : (n m n' m' : ℕ) (part : List ℕ) → 3 ≤ length part → n' ≡ min n (length g) → m' ≡ min m (length scratch)
      → (a : Reply Advanced) (l' : Listing) (s b : List ℕ) → outcome a l' s b ≡ advance_of l t (take n' g) (take m' scratch) (take (length part - 3) (drop 3 part))
      → (x : ℕ) → x ≡ number_of_answer a → (p : List ℕ) → p ≡ x ∷ l'.count % 65536 ∷ l'.count / 65536 ∷ drop 3 (put_mid 3 (length part - 3) part b)
      → made l' (s ++ drop m' scratch) p ≡ made_of t g l n m scratch part
  unfolding made_of made_by called listing_by scratch_by left_by record_of
  made_is n m n' m' part h en em a l' s b e x ex p ep =
      let d : advance_of l t (take n g) (take m scratch) (drop 3 part) ≡ outcome a l' s b =
      sym (e ∙ ap (λ (u : List ℕ). advance_of l t u (take m' scratch) (take (length part - 3) (drop 3 part))) (take-least n n' g en)
      ∙ ap (λ (u : List ℕ). advance_of l t (take n g) u (take (length part - 3) (drop 3 part))) (take-least m m' scratch em)
      ∙ ap (λ (u : List ℕ). advance_of l t (take n g) (take m scratch) u) (buffer_lent part)) in
      rw (d, drop-least m m' scratch em, ep, buffer_back part b h, ex)

-- ---- the calls that are left
drop_lent : (b : ℕ) (out : List ℕ) → drop 3 (take (3 + b) out) ≡ take b (drop 3 out)
drop_lent b out = ap (λ (k : ℕ). drop 3 (take k out)) three ∙ past out
  where
    three : 3 + b ≡ suc (suc (suc b))
    three = omega arith

    past : (out : List ℕ) → drop 3 (take (suc (suc (suc b))) out) ≡ take b (drop 3 out)
    past [] = sym (take-nil b)
    past (x ∷ []) = sym (take-nil b)
    past (x ∷ y ∷ []) = sym (take-nil b)
    past (x ∷ y ∷ z ∷ out) = refl

module _ (t g : List ℕ) where
  pub calls-none : (left : List ℕ) → length left < 3 → (l : Listing) (scratch out : List ℕ) (from : ℕ) → ended scratch out ≡ ended_of t g left l scratch (take from out) (drop from out)
  unfolding ended_of lents_in scratch_after calls records_of output_words
  calls-none [] h l scratch out from = ap (λ (x : List ℕ). ended scratch x) (sym (take-append-drop from out))
  calls-none (x ∷ []) h l scratch out from = ap (λ (x : List ℕ). ended scratch x) (sym (take-append-drop from out))
  calls-none (x ∷ y ∷ []) h l scratch out from = ap (λ (x : List ℕ). ended scratch x) (sym (take-append-drop from out))
  calls-none (x ∷ y ∷ z ∷ left) h l scratch out from = absurd (omega arith)

  -- from where a call came, the rest
  unfoldable went : List ℕ → List Lent → List ℕ → Made → Ended
  went front ks rest (made l s p) = ended (scratch_after t g l s ks) (front ++ p ++ (records_of (calls t g l s ks) ++ rest))

  calls-next : (l : Listing) (scratch front out : List ℕ) (n m b : ℕ) (cs : List ℕ) (l' : Listing) (s p : List ℕ) → made l' s p ≡ made_of t g l n m scratch (take (3 + b) out)
      → ended_of t g cs l' s (front ++ p) (drop (3 + b) out) ≡ ended_of t g (n ∷ m ∷ b ∷ cs) l scratch front out
  unfolding ended_of lents_in scratch_after calls records_of output_words made_of made_by went
  calls-next l scratch front out n m b cs l' s p e =
      let k : Lent = record { graph = n; scratch = m; buffer = take b (drop 3 out) } in
      let o = called t g l scratch k in
      let ks = lents_in cs (drop (3 + b) out) in
      let R = records_of (calls t g (listing_by o) (scratch_by m scratch o) ks) in
      ap (went front ks (drop (output_words cs) (drop (3 + b) out))) (e ∙ ap (λ (u : List ℕ). made_by m scratch (called t g l scratch (record { graph = n; scratch = m; buffer = u }))) (drop_lent b out))
      ∙ ap (λ (u : List ℕ). ended (scratch_after t g (listing_by o) (scratch_by m scratch o) ks) u)
      (append_assoc front (record_of (left_by o)) (R ++ drop (output_words cs) (drop (3 + b) out))
      ∙ ap (λ (u : List ℕ). front ++ u) (sym (append_assoc (record_of (left_by o)) R (drop (output_words cs) (drop (3 + b) out))) ∙ ap (λ (u : List ℕ). record_of (left_by o) ++ R ++ u) (drop-drop (output_words cs) (3 + b) out)))

  -- the part that the call was lent is in its place
  pub calls-more : {left : List ℕ} (three rest : List ℕ) → left ≡ three ++ rest → length three ≡ 3 → (l : Listing) (scratch out : List ℕ) (from to n m b : ℕ)
      → n ≡ get_or three 0 0 → m ≡ get_or three 1 0 → b ≡ get_or three 2 0 → to ≡ from + (3 + b) → to ≤ length out
      → (l' : Listing) (s p : List ℕ) → length p ≡ length (take (to - from) (drop from out)) → made l' s p ≡ made_of t g l n m scratch (take (to - from) (drop from out))
      → ended_of t g rest l' s (take to (put_mid from (to - from) out p)) (drop to (put_mid from (to - from) out p)) ≡ ended_of t g left l scratch (take from out) (drop from out)
  calls-more {left} three rest q k l scratch out from to n m b en em eb et le l' s p lp e =
      let size : to - from ≡ 3 + b = omega arith in
      let start : from ≤ to = omega arith in
      let long : length p ≡ to - from = lp ∙ length-take-le (to - from) (drop from out) (let d = length-drop from out in omega arith) in
      let front : length (take from out) ≡ from = length-take-le from out (omega arith) in
      let taken : take to (put_mid from (to - from) out p) ≡ take from out ++ p = ap (take to) (sym (append_assoc (take from out) p _)) ∙ take_at (take from out ++ p) _ to (let a = length-append (take from out) p in omega arith) in
      let dropped : drop to (put_mid from (to - from) out p) ≡ drop (3 + b) (drop from out) = drop_put from to out p start le long ∙ sym (drop-drop (3 + b) from out ∙ ap (λ (k : ℕ). drop k out) (let z : from + (3 + b) ≡ to = omega arith in z)) in
      let next : left ≡ n ∷ m ∷ b ∷ rest = rw (en, em, eb) (q ∙ ap (λ (x : List ℕ). x ++ rest) (call_is three k)) in
      rw (taken, dropped, next) (calls-next l scratch (take from out) (drop from out) n m b rest l' s p (rw (← size) e))
