-- Numbering looks at ids alone, not at their places.
use Prim.Native.Nat.{ℕ, suc}
use mathlib.Core.Bool.{Bool, true, false}
use mathlib.Core.Path.{◌≡◌, refl, sym, ap, ◌∙◌}
use mathlib.Core.List.{List, [], ◌∷◌, ◌++◌, map}
use Rattle.lr1_base.specs.repr.Lists.{some?, joined}
use Rattle.lr1_base.proofs.repr.Lists.{cases}
use Rattle.yacc_syntax.specs.text.Grammar.{Id}
use Rattle.yacc_reader.specs.parsed_file.Source.{same_id, Known, is_known, number_in, enter, entered}

abbrev pub ids_of : List Known → List Id
ids_of ks = map (λ k. k.id) ks

unfoldable pub known_id : List Id → Id → Bool
known_id xs x = some? (λ y. same_id x y) xs

unfoldable pub number_id : List Id → Id → ℕ
number_id [] x = 0
number_id (y ∷ xs) x = elim (same_id x y) [ true ↦ 0 | false ↦ suc (number_id xs x) ]

unfoldable pub enter_id : List Id → Id → List Id
enter_id xs x = elim (known_id xs x) [ true ↦ xs | false ↦ xs ++ (x ∷ []) ]

unfoldable pub entered_ids : List Id → List Id → List Id
entered_ids xs [] = xs
entered_ids xs (o ∷ os) = entered_ids (enter_id xs o) os

-- two tests that begin alike
pub by_test : (t : Bool) (a b c d : Bool) → a ≡ elim t [ true ↦ true | false ↦ c ] → b ≡ elim t [ true ↦ true | false ↦ d ] → c ≡ d → a ≡ b
by_test true a b c d p q r = p ∙ sym q
by_test false a b c d p q r = p ∙ r ∙ sym q

pub known_ids : (ks : List Known) (x : Id) → is_known ks x ≡ known_id (ids_of ks) x
unfolding is_known known_id some?
known_ids [] x = refl
known_ids (k ∷ ks) x = by_test (same_id x k.id) (is_known (k ∷ ks) x) (known_id (ids_of (k ∷ ks)) x) (is_known ks x) (known_id (ids_of ks) x) refl refl (known_ids ks x)

by_number : (t : Bool) (a b c d : ℕ) → a ≡ elim t [ true ↦ 0 | false ↦ suc c ] → b ≡ elim t [ true ↦ 0 | false ↦ suc d ] → c ≡ d → a ≡ b
by_number true a b c d p q r = p ∙ sym q
by_number false a b c d p q r = p ∙ ap suc r ∙ sym q

pub number_ids : (ks : List Known) (x : Id) → number_in ks x ≡ number_id (ids_of ks) x
unfolding number_in number_id
number_ids [] x = refl
number_ids (k ∷ ks) x = by_number (same_id x k.id) (number_in (k ∷ ks) x) (number_id (ids_of (k ∷ ks)) x) (number_in ks x) (number_id (ids_of ks) x) refl refl (number_ids ks x)

ids_append : (ks js : List Known) → ids_of (ks ++ js) ≡ ids_of ks ++ ids_of js
ids_append [] js = refl
ids_append (k ∷ ks) js = ap (λ (l : List Id). k.id ∷ l) (ids_append ks js)

enter_ids : (ks : List Known) (k : Known) → ids_of (enter ks k) ≡ enter_id (ids_of ks) k.id
unfolding enter enter_id
enter_ids ks k =
    cases (is_known ks k.id)
    (λ e. let f : known_id (ids_of ks) k.id ≡ true = sym (known_ids ks k.id) ∙ e in rw (e, f, enter, enter_id))
    (λ e. let f : known_id (ids_of ks) k.id ≡ false = sym (known_ids ks k.id) ∙ e in rw (e, f, enter, enter_id) (ids_append ks (k ∷ [])))

pub entered_ids_lem : (os ks : List Known) → ids_of (entered ks os) ≡ entered_ids (ids_of ks) (ids_of os)
unfolding entered entered_ids
entered_ids_lem [] ks = refl
entered_ids_lem (o ∷ os) ks = entered_ids_lem os (enter ks o) ∙ ap (λ (l : List Id). entered_ids l (ids_of os)) (enter_ids ks o)

pub joined-ids {ℓ} : {A : Type ℓ} (f : A → List Known) (es : List A) → ids_of (joined f es) ≡ joined (λ e. ids_of (f e)) es
unfolding joined
joined-ids f [] = refl
joined-ids f (e ∷ es) = ids_append (f e) (joined f es) ∙ ap (λ (l : List Id). ids_of (f e) ++ l) (joined-ids f es)
