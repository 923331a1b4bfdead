-- Elements of lists that are mapped and filtered.
use Rattle.std.proofs.Common.{◌≡◌, ◌<◌, Bool, true, false, cond, List, [], ◌∷◌, ◌⊎◌, inl, inr, map, filter, Contains, refl, sym, ap, subst, ◌∙◌, true≢false, arith}
use Rattle.std.proofs.lemmas.List.{length-map, get_or-map}
use Rattle.std.proofs.lemmas.List.Elements.{Contains-append_left, Contains-append_right, Contains-append_cases, Contains-push_cases}

pub Contains-map : {A B : Type 0} (f : A → B) (xs : List A) (x : A) → Contains xs x → Contains (map f xs) (f x)
Contains-map f xs x c = (c.0, subst (λ n. c.0 < n) (sym (length-map xs f)) c.1, get_or-map f xs c.0 x (f x) c.1 ∙ ap f c.2)

no_element : {A : Type 0} (P : Type 0) (x : A) → Contains [] x → P
no_element P x c = absurd (omega (arith, c.1))

only_element : {A : Type 0} (y x : A) → Contains (y ∷ []) x → y ≡ x
only_element y x c = by (Contains-push_cases [] y x c)
  where
    by : (Contains [] x ⊎ (y ≡ x)) → y ≡ x
    by (inl none) = no_element (y ≡ x) x none
    by (inr e) = e

pub Contains-filter : {A : Type 0} (p : A → Bool) (xs : List A) (x : A) → p x ≡ true → Contains xs x → Contains (filter p xs) x
Contains-filter p [] x h c = no_element (Contains (filter p []) x) x c
Contains-filter p (y ∷ ys) x h c = by (p y) refl (Contains-filter p ys x h) (Contains-append_cases (y ∷ []) ys x c)
  where
    by : (b : Bool) → p y ≡ b → (Contains ys x → Contains (filter p ys) x) → (Contains (y ∷ []) x ⊎ Contains ys x)
        → Contains (cond b (y ∷ filter p ys) (filter p ys)) x
    by true e rest (inl one) = Contains-append_left (y ∷ []) (filter p ys) x one
    by true e rest (inr more) = Contains-append_right (y ∷ []) (filter p ys) x (rest more)
    by false e rest (inl one) = absurd (true≢false (sym h ∙ ap p (sym (only_element y x one)) ∙ e))
    by false e rest (inr more) = rest more
