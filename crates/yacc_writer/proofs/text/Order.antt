-- Left sides that are met in the order of their numbers are numbered as they were.
use Prim.Native.Nat.{ℕ, zero, suc, ◌+◌, ◌≤◌, ◌<◌}
use native.Mathlib.Omega.{arith}
use mathlib.Core.Bool.{Bool, true, false, not}
use mathlib.Core.Path.{◌≡◌, refl, sym, ap, ◌∙◌, subst}
use mathlib.Core.List.{List, [], ◌∷◌, ◌++◌, map}
use lib.Dec.{eqb, ltb}
use lib.ListN.{length, get_or, drop, drop_of_length-le}
use lib.Seq.{drop-cons}
use borrow.Author.Tests.{eqb-true, eqb-false, lt-ltb, le-ltb, ltb-true, ltb-false}
use Rattle.lr1_base.specs.words.Same.{same_words}
use Rattle.lr1_base.specs.repr.Lists.{up_from, below, mem, some?, every?}
use Rattle.lr1_base.specs.repr.Meaning.{Symbol, nonterminal, terminal, is_same_symbol}
use Rattle.lr1_base.proofs.repr.Lists.{cases, mem_below, mem-cons_here, mem-cons_there, below_last}
use Rattle.lr1_base.proofs.repr.Tests.{every?_below}
use Rattle.lr1_base.specs.numerals.Numeral.{numeral_by, numeral}
use Rattle.yacc_syntax.specs.text.Grammar.{Id}
use Rattle.yacc_reader.specs.parsed_file.Source.{same_id}
use Rattle.yacc_reader.proofs.parsed_file.Ids.{by_test, known_id, number_id, enter_id, entered_ids}
use Rattle.yacc_writer.specs.text.Text.{name_of}
use Rattle.yacc_writer.proofs.text.Names.{number_of}

-- two numerals differ as their numbers do
abbrev same : Bool → Bool → Bool
same true b = b
same false b = not b

same_is : (a b : Bool) → same a b ≡ true → a ≡ b
same_is true true e = refl
same_is true false e = sym e
same_is false true e = e
same_is false false e = refl

all_differ : every? (λ a. every? (λ b. same (same_words (numeral a) (numeral b)) (eqb a b)) (below 63)) (below 63) ≡ true
unfolding every? below up_from same_words numeral numeral_by
all_differ = refl

numerals_differ : (a b : ℕ) → a < 63 → b < 63 → same_words (numeral a) (numeral b) ≡ eqb a b
numerals_differ a b g h =
    same_is (same_words (numeral a) (numeral b)) (eqb a b)
    (every?_below (λ j. same (same_words (numeral a) (numeral j)) (eqb a j)) 63 b (every?_below (λ i. every? (λ j. same (same_words (numeral i) (numeral j)) (eqb i j)) (below 63)) 63 a all_differ g) h)

pub names_differ : (s u : Symbol) → number_of s < 63 → number_of u < 63 → same_id (name_of s) (name_of u) ≡ is_same_symbol s u
unfolding same_id name_of is_same_symbol number_of
names_differ (nonterminal n) (nonterminal m) g h = numerals_differ n m g h
names_differ (nonterminal n) (terminal m) g h = refl
names_differ (terminal n) (nonterminal m) g h = refl
names_differ (terminal n) (terminal m) g h = numerals_differ n m g h

-- numbers that are met in order: each was met, or is the next; c were met, and n in the end
unfoldable pub Follows : ℕ → List ℕ → ℕ → Type 0
Follows c [] n = c ≡ n
Follows c (o ∷ os) n = (o ≤ c) × Follows (elim (eqb o c) [ true ↦ suc c | false ↦ c ]) os n

follows_old : (c o : ℕ) (os : List ℕ) (n : ℕ) → eqb o c ≡ false → Follows c (o ∷ os) n → Follows c os n
unfolding Follows
follows_old c o os n e F = rw e at F.1

follows_new : (c o : ℕ) (os : List ℕ) (n : ℕ) → eqb o c ≡ true → Follows c (o ∷ os) n → Follows (suc c) os n
unfolding Follows
follows_new c o os n e F = rw e at F.1

follows_first : (c o : ℕ) (os : List ℕ) (n : ℕ) → Follows c (o ∷ os) n → o ≤ c
unfolding Follows
follows_first c o os n F = F.0

follows_end : (c n : ℕ) → Follows c [] n → c ≡ n
unfolding Follows
follows_end c n F = F

follows_le : (os : List ℕ) (c n : ℕ) → Follows c os n → c ≤ n
follows_le [] c n F = let e = follows_end c n F in omega arith
follows_le (o ∷ os) c n F = cases (eqb o c) (λ e. let i = follows_le os (suc c) n (follows_new c o os n e F) in omega arith) (λ e. follows_le os c n (follows_old c o os n e F))

-- names f of numbers below 63 that differ as the numbers do
module _ (f : ℕ → Id) (differ : (a b : ℕ) → a < 63 → b < 63 → same_id (f a) (f b) ≡ eqb a b) where
  known_up : (k from o : ℕ) → o < 63 → from + k ≤ 63 → known_id (map f (up_from from k)) (f o) ≡ mem o (up_from from k)
  unfolding known_id some? mem up_from
  known_up zero from o g h = refl
  known_up (suc k) from o g h =
      by_test (eqb o from) (known_id (map f (up_from from (suc k))) (f o)) (mem o (up_from from (suc k))) (known_id (map f (up_from (suc from) k)) (f o)) (mem o (up_from (suc from) k))
      (ap (λ (t : Bool). elim t [ true ↦ true | false ↦ known_id (map f (up_from (suc from) k)) (f o) ]) (differ o from g (omega arith))) refl (known_up k (suc from) o g (omega arith))

  pub known_below : (c o : ℕ) → o < 63 → c ≤ 63 → known_id (map f (below c)) (f o) ≡ ltb o c
  unfolding below
  known_below c o g h = known_up c 0 o g (omega arith) ∙ mem_below o c

  number_here : (x : Id) (xs : List Id) (o : Id) → same_id o x ≡ true → number_id (x ∷ xs) o ≡ 0
  unfolding number_id
  number_here x xs o e = rw (e, number_id)

  number_there : (x : Id) (xs : List Id) (o : Id) → same_id o x ≡ false → number_id (x ∷ xs) o ≡ suc (number_id xs o)
  unfolding number_id
  number_there x xs o e = rw (e, number_id)

  number_up : (k from o : ℕ) → from ≤ o → o < from + k → from + k ≤ 63 → from + number_id (map f (up_from from k)) (f o) ≡ o
  unfolding up_from
  number_up zero from o a b h = absurd (omega arith)
  number_up (suc k) from o a b h =
      cases (eqb o from)
      (λ e. let q = eqb-true o from e in let n = number_here (f from) (map f (up_from (suc from) k)) (f o) (differ o from (omega arith) (omega arith) ∙ e) in omega arith)
      (λ e. let q = eqb-false o from e in
      let z : suc from ≤ o = (let l : from < o = lt_of_ne o from a q in l) in
      let n = number_there (f from) (map f (up_from (suc from) k)) (f o) (differ o from (omega arith) (omega arith) ∙ e) in
      let i = number_up k (suc from) o z (omega arith) (omega arith) in
      omega arith)
    where
      lt_of_ne : (o from : ℕ) → from ≤ o → (o ≡ from → ⊥) → from < o
      lt_of_ne o from a q = omega arith

  pub number-below_is : (c o : ℕ) → o < c → c ≤ 63 → number_id (map f (below c)) (f o) ≡ o
  unfolding below
  number-below_is c o g h = let n = number_up c 0 o (omega arith) (omega arith) (omega arith) in omega arith

  enter_old : (xs : List Id) (x : Id) → known_id xs x ≡ true → enter_id xs x ≡ xs
  unfolding enter_id
  enter_old xs x e = rw (e, enter_id)

  enter_new : (xs : List Id) (x : Id) → known_id xs x ≡ false → enter_id xs x ≡ xs ++ (x ∷ [])
  unfolding enter_id
  enter_new xs x e = rw (e, enter_id)

  map_more : (ns : List ℕ) (n : ℕ) → map f (ns ++ (n ∷ [])) ≡ map f ns ++ (f n ∷ [])
  map_more [] n = refl
  map_more (m ∷ ns) n = ap (λ (l : List Id). f m ∷ l) (map_more ns n)

  pub entered_follows : (os : List ℕ) (c n : ℕ) → n ≤ 63 → c < 64 → Follows c os n → ((i : ℕ) → mem i os ≡ true → i < n) → entered_ids (map f (below c)) (map f os) ≡ map f (below n)
  unfolding entered_ids
  entered_follows [] c n h k F m = ap (λ (j : ℕ). map f (below j)) (follows_end c n F)
  entered_follows (o ∷ os) c n h k F m =
      let b = m o (mem-cons_here o os) in
      let l = follows_le (o ∷ os) c n F in
      cases (eqb o c)
      (λ e.
      let q = eqb-true o c e in
      let u : known_id (map f (below c)) (f o) ≡ false = known_below c o (omega arith) (omega arith) ∙ le-ltb o c (omega arith) in
      let w : enter_id (map f (below c)) (f o) ≡ map f (below (suc c)) = enter_new (map f (below c)) (f o) u ∙ ap (λ (j : ℕ). map f (below c) ++ (f j ∷ [])) q ∙ sym (ap (map f) (below_last c) ∙ map_more (below c) c) in
      let g = follows_le os (suc c) n (follows_new c o os n e F) in
      ap (λ (x : List Id). entered_ids x (map f os)) w ∙ entered_follows os (suc c) n h (omega arith) (follows_new c o os n e F) (λ i z. m i (mem-cons_there i o os z)))
      (λ e.
      let q = eqb-false o c e in
      let a = follows_first c o os n F in
      let u : known_id (map f (below c)) (f o) ≡ true = known_below c o (omega arith) (omega arith) ∙ lt-ltb o c (omega arith) in
      ap (λ (x : List Id). entered_ids x (map f os)) (enter_old (map f (below c)) (f o) u) ∙ entered_follows os c n h k (follows_old c o os n e F) (λ i z. m i (mem-cons_there i o os z)))

-- the first place p of each number, in the order of the numbers
pub record Firsts (os : List ℕ) (n : ℕ) (p : ℕ → ℕ) : Type 0 where
  pub inside : (a : ℕ) → a < n → p a < length os
  pub owner : (a : ℕ) → a < n → get_or os (p a) 0 ≡ a
  pub least : (q : ℕ) → q < length os → p (get_or os q 0) ≤ q
  pub rising : (a b : ℕ) → a < b → b < n → p a < p b
  pub small : (q : ℕ) → q < length os → get_or os q 0 < n

module _ (os : List ℕ) (n : ℕ) (p : ℕ → ℕ) (F : Firsts os n p) where
  follows_from : (r k c : ℕ) → k + r ≡ length os → c ≤ n → ((a : ℕ) → a < c → p a < k) → ((a : ℕ) → c ≤ a → a < n → k ≤ p a) → Follows c (drop k os) n
  unfolding Follows
  follows_from zero k c e l A B =
      subst (λ (x : List ℕ). Follows c x n) (sym (drop_of_length-le os {i = k} (omega arith)))
      (cases (ltb c n) (λ t. let u = ltb-true c n t in let b = B c (omega arith) u in let i = F.inside c u in absurd (omega arith)) (λ f. let u = ltb-false c n f in omega arith))
  follows_from (suc r) k c e l A B =
      let h : k < length os = omega arith in
      let o = get_or os k 0 in
      let s = F.small k h in
      let m = F.least k h in
      let z : o ≤ c = (cases (ltb c o) (λ t. let u = ltb-true c o t in let w = F.rising c o u s in let b = B c (omega arith) (omega arith) in absurd (omega arith)) (λ f. ltb-false c o f)) in
      subst (λ (x : List ℕ). Follows c x n) (sym (drop-cons os k 0 h)) (
        z,
        cases (eqb o c)
            (λ t.
            let q = eqb-true o c t in
            let g : p c ≤ k = subst (λ (x : ℕ). p x ≤ k) q m in
            rw t (follows_from r (suc k) (suc c) (omega arith) (omega arith)
            (λ a u. cases (ltb a c) (λ y. let w = A a (ltb-true a c y) in omega arith) (λ y. let v = ltb-false a c y in let x : a ≡ c = omega arith in subst (λ (j : ℕ). p j < suc k) (sym x) (omega arith)))
            (λ a u v. let w = F.rising c a (omega arith) v in let b = B c (omega arith) (omega arith) in omega arith)))
            (λ t.
            let q = eqb-false o c t in
            rw t (follows_from r (suc k) c (omega arith) l (λ a u. let w = A a u in omega arith)
            (λ a u v. let b = B a u v in cases (eqb (p a) k)
            (λ y. let x = eqb-true (p a) k y in let i = F.owner a v in let j : get_or os k 0 ≡ a = subst (λ (d : ℕ). get_or os d 0 ≡ a) x i in absurd (omega arith))
            (λ y. let x = eqb-false (p a) k y in omega arith)))),
      )

  pub follows : Follows 0 os n
  follows = follows_from (length os) 0 0 (omega arith) (omega arith) (λ a u. absurd (omega arith)) (λ a u v. omega arith)
