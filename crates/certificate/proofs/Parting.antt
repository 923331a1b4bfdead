-- Where two readings part: behind all that they begin with alike.
use Rattle.std.proofs.Common.{◌≡◌, ◌≢◌, ℕ, zero, suc, ◌+◌, ◌<◌, ◌≤◌, inl, inr, List, [], ◌∷◌, ◌++◌, length, get_or, take, drop, refl, sym, ◌∙◌, ap, add-one, drop-cons, arith, length-append}
use Rattle.std.proofs.lemmas.List.{take-append-drop, take_at}
use Rattle.std.proofs.lemmas.Bool.{cases_order}
use Rattle.std.proofs.lemmas.Option.{slice_get-get_or, get_or_from_slice_get}
use Rattle.std.specs.Prelude.{slice_get, Some}
use Rattle.certificate.specs.declared.reading.Action.{Action}
use Rattle.certificate.specs.declared.reading.Action.TheVariants.{Shift, Reduce}
use Rattle.certificate.specs.declared.judging.Fork.{Fork}
use Rattle.certificate.specs.Readings.{shifts_of}
use Rattle.certificate.specs.Shown.{PartAt}

get_left : (xs ys : List Action) (i : ℕ) → i < length xs → slice_get (xs ++ ys) i ≡ slice_get xs i
get_left [] ys i l = absurd (omega arith)
get_left (x ∷ xs) ys zero l = refl
get_left (x ∷ xs) ys (suc i) l = get_left xs ys i (omega arith)

get_at : (xs : List Action) (y : Action) (ys : List Action) → slice_get (xs ++ (y ∷ ys)) (length xs) ≡ Some y
get_at [] y ys = refl
get_at (x ∷ xs) y ys = get_at xs y ys

get_taken : (xs : List Action) (n i : ℕ) → i < n → slice_get (take n xs) i ≡ slice_get xs i
get_taken xs zero i l = absurd (omega arith)
get_taken [] (suc n) i l = refl
get_taken (x ∷ xs) (suc n) zero l = refl
get_taken (x ∷ xs) (suc n) (suc i) l = get_taken xs n i (omega arith)

longer : (before rest all : List Action) (x : Action) → all ≡ before ++ (x ∷ rest) → length before < length all
longer before rest all x e = let l = ap length e in omega (arith, length-append before (x ∷ rest))

got : (before rest all : List Action) (x : Action) → all ≡ before ++ (x ∷ rest) → slice_get all (length before) ≡ Some x
got before rest all x e = rw e (get_at before x rest)

module _ (fork : Fork) (first second : List Action) (at : ℕ) (same : take at first ≡ take at second)
    (parts : at < length first → at < length second → slice_get first at ≢ slice_get second at) where
  module _ (n : ℕ) (p : PartAt fork first second n) where
    alike : at < length p.before → slice_get first at ≡ slice_get second at
    alike less = rw (p.one, p.two) (get_left p.before (Reduce fork.production ∷ p.rest) at less ∙ sym (get_left p.before (fork.other ∷ p.other_rest) at less))

    differ : length p.before < at → fork.other ≡ Reduce fork.production
    differ more =
        let one = got p.before p.rest first (Reduce fork.production) p.one in
        let two = got p.before p.other_rest second fork.other p.two in
        let both : slice_get first (length p.before) ≡ slice_get second (length p.before) =
        sym (get_taken first at (length p.before) more) ∙ ap (λ (l : List Action). slice_get l (length p.before)) same ∙ get_taken second at (length p.before) more in
        cc

    at_before : at ≡ length p.before
    at_before =
        let long = longer p.before p.rest first (Reduce fork.production) p.one in
        let long_too = longer p.before p.other_rest second fork.other p.two in
        elim (cases_order at (length p.before)) [
          | inl e ↦ e
          | inr o ↦ elim o [
            | inl less ↦ absurd (parts (omega arith) (omega arith) (alike less))
            | inr more ↦ absurd (p.different (differ more))
          ]
        ]

    pub within_first : at < length first
    within_first = let e = at_before in let l = longer p.before p.rest first (Reduce fork.production) p.one in omega arith

    pub within_second : at < length second
    within_second = let e = at_before in let l = longer p.before p.other_rest second fork.other p.two in omega arith

    pub first_at : get_or first at Shift ≡ Reduce fork.production
    first_at = get_or_from_slice_get first at (Reduce fork.production) Shift (ap (slice_get first) at_before ∙ got p.before p.rest first (Reduce fork.production) p.one)

    pub second_at : get_or second at Shift ≡ fork.other
    second_at = get_or_from_slice_get second at fork.other Shift (ap (slice_get second) at_before ∙ got p.before p.other_rest second fork.other p.two)

    pub shifts_before : shifts_of (take at first) ≡ n
    shifts_before = ap (λ (i : ℕ). shifts_of (take i first)) at_before ∙ ap (λ (l : List Action). shifts_of (take (length p.before) l)) p.one
        ∙ ap shifts_of (take_at p.before (Reduce fork.production ∷ p.rest) (length p.before) refl) ∙ p.point

  pub parted_at : (n : ℕ) → at < length first → at < length second → get_or first at Shift ≡ Reduce fork.production → get_or second at Shift ≡ fork.other → shifts_of (take at first) ≡ n
      → PartAt fork first second n
  parted_at n l m one two point = record {
    before = take at first;
    rest = drop (suc at) first;
    other_rest = drop (suc at) second;
    one = split first (Reduce fork.production) l one;
    two = rw same (split second fork.other m two);
    different = λ e. parts l m (slice_get-get_or first at Shift l ∙ ap Some (one ∙ sym e ∙ sym two) ∙ sym (slice_get-get_or second at Shift m));
    point = point;
  }
    where
      split : (xs : List Action) (x : Action) → at < length xs → get_or xs at Shift ≡ x → xs ≡ take at xs ++ (x ∷ drop (suc at) xs)
      split xs x h e = sym (take-append-drop at xs) ∙ ap (λ (l : List Action). take at xs ++ l) (drop-cons xs at Shift h ∙ ap (λ (y : Action). y ∷ drop (suc at) xs) e)
