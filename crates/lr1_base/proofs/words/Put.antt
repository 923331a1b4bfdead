-- Laws of words put into a list at a place (`put_at` of specs/words/Insert): a copy, a few stores, one part after the other.
use Rattle.std.proofs.Common.{◌≡◌, ℕ, ◌+◌, ◌≤◌, List, [], ◌∷◌, ◌++◌, length, take, drop, set, sym, refl, ap, ◌∙◌, append_assoc, zero-add, add-one, arith, length-append, length-drop, take-append-drop, length-take, length-take-le, drop-drop, take_at, drop_at}
use native.Mathlib.Numerals.{add-two}
use lib.Seq.{sets-eq}
use Rattle.lr1_base.specs.words.Lent.{in_front}
use Rattle.lr1_base.specs.words.Insert.{put_at}

pub put-nil : (at : ℕ) (old : List ℕ) → put_at at [] old ≡ old
unfolding put_at
put-nil at old = let e : at + 0 ≡ at = omega arith in rw e (take-append-drop at old)

pub put-length : (at : ℕ) (new old : List ℕ) → at + length new ≤ length old → length (put_at at new old) ≡ length old
unfolding put_at
put-length at new old h = simp (length-append, length-take, length-drop) (omega arith)

pub put_front : (new old : List ℕ) → put_at 0 new old ≡ in_front new old
unfolding put_at in_front
put_front new old = ap (λ (k : ℕ). new ++ drop k old) (zero-add (length new))

-- one part after the other
pub put-more : (at : ℕ) (xs ys old : List ℕ) → at + length xs ≤ length old → put_at (at + length xs) ys (put_at at xs old) ≡ put_at at (xs ++ ys) old
unfolding put_at
put-more at xs ys old h = rw (front, back) (simp append_assoc)
  where
    split : take at old ++ (xs ++ drop (at + length xs) old) ≡ take at old ++ xs ++ drop (at + length xs) old
    split = sym (append_assoc (take at old) xs (drop (at + length xs) old))

    size : length (take at old ++ xs) ≡ at + length xs
    size = let a = length-append (take at old) xs in let b = length-take-le at old (omega arith) in omega arith

    front : take (at + length xs) (take at old ++ (xs ++ drop (at + length xs) old)) ≡ take at old ++ xs
    front = rw split (take_at (take at old ++ xs) (drop (at + length xs) old) (at + length xs) size)

    later : drop (at + length xs) (take at old ++ (xs ++ drop (at + length xs) old)) ≡ drop (at + length xs) old
    later = rw split (drop_at (take at old ++ xs) (drop (at + length xs) old) (at + length xs) size)

    sum : at + length xs + length ys ≡ at + length (xs ++ ys)
    sum = let a = length-append xs ys in omega arith

    back : drop (at + length xs + length ys) (take at old ++ (xs ++ drop (at + length xs) old)) ≡ drop (at + length (xs ++ ys)) old
    back =
        sym (drop-drop (length ys) (at + length xs) (take at old ++ (xs ++ drop (at + length xs) old)))
        ∙ ap (drop (length ys)) later
        ∙ drop-drop (length ys) (at + length xs) old
        ∙ ap (λ (k : ℕ). drop k old) sum

-- a few stores
pub stored_three : (at a b c : ℕ) (old : List ℕ) → at + 3 ≤ length old → set (set (set old at a) (at + 1) b) (at + 2) c ≡ put_at at (a ∷ b ∷ c ∷ []) old
unfolding put_at
stored_three at a b c old h = rw (add-one at, add-two at) (sets-eq (a ∷ b ∷ c ∷ []) old at h ∙ append_assoc (take at old) (a ∷ b ∷ c ∷ []) (drop (at + 3) old))

-- Where a writer stands: what is left to put, from a place on, gives what the whole gives.
pub record Turn (at : ℕ) (whole first : List ℕ) (place : ℕ) (rest buffer : List ℕ) : Type 0 where
  pub same : put_at place rest buffer ≡ put_at at whole first
  pub size : length buffer ≡ length first
  pub sum : place + length rest ≡ at + length whole
  pub room : at + length whole ≤ length first

pub turn_start : (at : ℕ) (whole first rest : List ℕ) → rest ≡ whole → at + length whole ≤ length first → Turn at whole first at rest first
turn_start at whole first rest e h = rw e (record { same = refl; size = refl; sum = refl; room = h })

module _ {at : ℕ} {whole first : List ℕ} {place : ℕ} {rest buffer : List ℕ} (t : Turn at whole first place rest buffer) where
  pub turn_room : (part next : List ℕ) → rest ≡ part ++ next → place + length part ≤ length buffer
  turn_room part next e =
      let a = ap length e in
      let b = length-append part next in
      let c = t.size in
      let d = t.sum in
      let f = t.room in
      omega arith

  pub turn_more : (part next : List ℕ) → rest ≡ part ++ next → (after : List ℕ) → after ≡ put_at place part buffer → Turn at whole first (place + length part) next after
  turn_more part next e after q =
      let h = turn_room part next e in
      let a = ap length e in
      let b = length-append part next in
      let c = t.size in
      let d = t.sum in
      let f = t.room in
      let l = put-length place part buffer h in
      let k = ap length q in
      record {
        same = rw q (put-more place part next buffer h) ∙ ap (λ (l : List ℕ). put_at place l buffer) (sym e) ∙ t.same;
        size = omega arith;
        sum = omega arith;
        room = f;
      }

  pub turn_next : (part next : List ℕ) → rest ≡ part ++ next → (after : List ℕ) → after ≡ put_at place part buffer → (r : ℕ) → r ≡ place + length part → Turn at whole first r next after
  turn_next part next e after q r k = rw k (turn_more part next e after q)

  pub turn_end : rest ≡ [] → (buffer ≡ put_at at whole first) × (place ≡ at + length whole)
  turn_end e =
      let a = ap length e in
      let d = t.sum in
      (sym (put-nil place buffer) ∙ ap (λ (l : List ℕ). put_at place l buffer) (sym e) ∙ t.same, omega arith)
