-- Ids that are known, and their numbers.
use Prim.Native.Nat.{ℕ, suc, ◌<◌}
use native.Mathlib.Omega.{arith}
use mathlib.Core.Bool.{Bool, true, false, ◌&&◌, ◌||◌, or-false, true≢false}
use mathlib.Core.Path.{◌≡◌, refl, sym, ap, ◌∙◌}
use mathlib.Core.List.{List, [], ◌∷◌, ◌++◌}
use lib.Dec.{eqb}
use lib.ListN.{length}
use borrow.Author.Tests.{eqb-true, eq-eqb}
use Rattle.lr1_base.specs.words.Same.{same_words}
use Rattle.lr1_base.proofs.words.Same.{same_words_eq, same_words_refl}
use Rattle.lr1_base.specs.repr.Meaning.{All}
use Rattle.lr1_base.proofs.repr.Lists.{cases}
use Rattle.lr1_base.proofs.repr.Tests.{some?-nil, some?-yes, some?_no, some?-append}
use Rattle.yacc_syntax.specs.text.Grammar.{Id, named, quoted}
use Rattle.yacc_reader.specs.parsed_file.Source.{same_id, Known, is_known, number_in, enter, entered}
use Rattle.lr1_base.proofs.laws.Bools.{or_second}

pub same_id_lem : (x : Id) → same_id x x ≡ true
unfolding same_id
same_id_lem (named n ns) = ap (λ (t : Bool). t && same_words ns ns) (eq-eqb n n refl) ∙ same_words_refl ns
same_id_lem (quoted b) = eq-eqb b b refl

-- the test of `is_known`
abbrev is_it : Id → Known → Bool
is_it x k = same_id x k.id

known_more : (ks : List Known) (k : Known) (x : Id) → is_known (ks ++ (k ∷ [])) x ≡ (is_known ks x || is_known (k ∷ []) x)
unfolding is_known
known_more ks k x = some?-append (is_it x) ks (k ∷ [])

known_one : (k : Known) → is_known (k ∷ []) k.id ≡ true
unfolding is_known
known_one k = some?-yes (is_it k.id) k [] (same_id_lem k.id)

pub enter_old : (ks : List Known) (k : Known) → is_known ks k.id ≡ true → enter ks k ≡ ks
unfolding enter
enter_old ks k e = rw (e, enter)

pub enter_new : (ks : List Known) (k : Known) → is_known ks k.id ≡ false → enter ks k ≡ ks ++ (k ∷ [])
unfolding enter
enter_new ks k e = rw (e, enter)

enter_known : (ks : List Known) (k : Known) → is_known (enter ks k) k.id ≡ true
enter_known ks k =
    cases (is_known ks k.id) (λ e. ap (λ (l : List Known). is_known l k.id) (enter_old ks k e) ∙ e)
    (λ e. ap (λ (l : List Known). is_known l k.id) (enter_new ks k e) ∙ known_more ks k k.id ∙ or_second (is_known ks k.id) (is_known (k ∷ []) k.id) (known_one k))

enter-keeps : (ks : List Known) (k : Known) (x : Id) → is_known ks x ≡ true → is_known (enter ks k) x ≡ true
enter-keeps ks k x h =
    cases (is_known ks k.id) (λ e. ap (λ (l : List Known). is_known l x) (enter_old ks k e) ∙ h)
    (λ e. ap (λ (l : List Known). is_known l x) (enter_new ks k e) ∙ known_more ks k x ∙ ap (λ (t : Bool). t || is_known (k ∷ []) x) h)

entered-keeps : (os ks : List Known) (x : Id) → is_known ks x ≡ true → is_known (entered ks os) x ≡ true
unfolding entered
entered-keeps [] ks x h = h
entered-keeps (o ∷ os) ks x h = entered-keeps os (enter ks o) x (enter-keeps ks o x h)

-- what is known in the end: what was known, and every occurrence
pub same_id_eq : (x y : Id) → same_id x y ≡ true → x ≡ y
unfolding same_id
same_id_eq (named n ns) (named m ms) e = go (eqb n m) refl e
  where
    go : (b : Bool) → eqb n m ≡ b → (b && same_words ns ms) ≡ true → named n ns ≡ named m ms
    go true h f = ap (λ (k : ℕ). named k ns) (eqb-true n m h) ∙ ap (named m) (same_words_eq ns ms f)
    go false h f = absurd (true≢false (sym f))
same_id_eq (named n ns) (quoted c) e = absurd (true≢false (sym e))
same_id_eq (quoted b) (named m ms) e = absurd (true≢false (sym e))
same_id_eq (quoted b) (quoted c) e = ap quoted (eqb-true b c e)

pub known_cons : (o : Known) (os : List Known) (x : Id) → is_known (o ∷ os) x ≡ (same_id x o.id || is_known os x)
unfolding is_known
known_cons o os x = cases (is_it x o) (λ e. some?-yes (is_it x) o os e ∙ sym (ap (λ (t : Bool). t || is_known os x) e)) (λ e. some?_no (is_it x) o os e ∙ sym (ap (λ (t : Bool). t || is_known os x) e))

pub known_none : (x : Id) → is_known [] x ≡ false
unfolding is_known
known_none x = some?-nil (is_it x)

pub enter_is : (ks : List Known) (k : Known) (x : Id) → is_known (enter ks k) x ≡ (is_known ks x || same_id x k.id)
enter_is ks k x =
    cases (is_known ks k.id)
    (λ e. ap (λ (l : List Known). is_known l x) (enter_old ks k e)
    ∙ cases (same_id x k.id)
    (λ s. let h : is_known ks x ≡ true = ap (is_known ks) (same_id_eq x k.id s) ∙ e in h ∙ sym (ap (λ (t : Bool). t || same_id x k.id) h))
    (λ s. sym (ap (λ (t : Bool). is_known ks x || t) s ∙ or-false (is_known ks x))))
    (λ e. ap (λ (l : List Known). is_known l x) (enter_new ks k e)
    ∙ known_more ks k x
    ∙ ap (λ (t : Bool). is_known ks x || t) (known_cons k [] x ∙ ap (λ (t : Bool). same_id x k.id || t) (known_none x) ∙ or-false (same_id x k.id)))

or_three : (a b c : Bool) → ((a || b) || c) ≡ (a || (b || c))
or_three true b c = refl
or_three false b c = refl

pub known_entered : (os ks : List Known) (x : Id) → is_known (entered ks os) x ≡ (is_known ks x || is_known os x)
unfolding entered
known_entered [] ks x = sym (ap (λ (t : Bool). is_known ks x || t) (known_none x) ∙ or-false (is_known ks x))
known_entered (o ∷ os) ks x =
    known_entered os (enter ks o) x
    ∙ ap (λ (t : Bool). t || is_known os x) (enter_is ks o x)
    ∙ or_three (is_known ks x) (same_id x o.id) (is_known os x)
    ∙ ap (λ (t : Bool). is_known ks x || t) (sym (known_cons o os x))

-- every occurrence is known in the end
pub entered_all : (os ks : List Known) → All (λ (o : Known). is_known (entered ks os) o.id ≡ true) os
unfolding entered All
entered_all [] ks = tt
entered_all (o ∷ os) ks = (entered-keeps os (enter ks o) o.id (enter_known ks o), entered_all os (enter ks o))

pub number_here : (k : Known) (ks : List Known) (x : Id) → is_it x k ≡ true → number_in (k ∷ ks) x ≡ 0
unfolding number_in
number_here k ks x e = rw (e, number_in)

pub number_there : (k : Known) (ks : List Known) (x : Id) → is_it x k ≡ false → number_in (k ∷ ks) x ≡ suc (number_in ks x)
unfolding number_in
number_there k ks x e = rw (e, number_in)

-- the number of what is known is one of theirs
pub number-below : (ks : List Known) (x : Id) → is_known ks x ≡ true → number_in ks x < length ks
unfolding is_known
number-below [] x h = let e : ◌≡◌ {A = Bool} false true = sym (some?-nil (is_it x)) ∙ h in let o : ◌≡◌ {A = ℕ} 0 1 = cc in absurd (omega arith)
number-below (k ∷ ks) x h =
    cases (is_it x k) (λ e. let n = number_here k ks x e in omega arith)
    (λ e. let i = number-below ks x (sym (some?_no (is_it x) k ks e) ∙ h) in let n = number_there k ks x e in omega arith)
