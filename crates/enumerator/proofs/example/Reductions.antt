-- The reductions innermost first (`around` of specs/example/Written) are those of specs/example/Example, built outermost first as in the Rust.
use Rattle.std.proofs.Common.{◌≡◌, ℕ, ◌+◌, ◌-◌, ◌*◌, List, [], ◌∷◌, ◌++◌, reverse, length, refl, ap, ◌∙◌, arith}
use mathlib.Core.List.{reverse-cons, reverse-append}
use Rattle.lr1_base.specs.repr.Sizes.{reduction_room}
use Rattle.lr1_base.specs.repr.Meaning.{Production}
use Rattle.lr1_base.proofs.repr.Lists.{joined_nil, joined_cons}
use Rattle.enumerator.specs.example.Example.{Label, sets_of, prefixes, suffixes, symbols, Reduction, spans, reductions, reduction_words}
use Rattle.enumerator.specs.example.Written.{around, around_words}
use Rattle.enumerator.proofs.example.Sizes.{prefixes-cons, suffixes-cons}

module _ (ps : List Production) where
  -- a label more at the end: its span is what the labels before it leave
  spans-last : (a b : ℕ) (xs : List Label) (l : Label)
      → spans ps a b (xs ++ (l ∷ [])) ≡ spans ps a b xs ++ (record { start = a + length (prefixes ps xs); end = b - length (suffixes ps xs); nonterminal = l.nonterminal } ∷ [])
  unfolding spans prefixes suffixes
  spans-last a b [] l = let e : a + 0 ≡ a = omega arith in let f : b - 0 ≡ b = omega arith in rw (e, f)
  spans-last a b (x ∷ xs) l =
      let p = length (sets_of ps x).prefix in
      let s = length (sets_of ps x).suffix in
      let u = prefixes-cons ps x xs in
      let v = suffixes-cons ps x xs in
      let e : a + length (prefixes ps (x ∷ xs)) ≡ a + p + length (prefixes ps xs) = omega arith in
      let f : b - length (suffixes ps (x ∷ xs)) ≡ b - s - length (suffixes ps xs) = omega arith in
      rw (e, f) (ap (λ (r : List Reduction). record { start = a; end = b; nonterminal = x.nonterminal } ∷ r) (spans-last (a + p) (b - s) xs l))

  prefixes-append : (xs ys : List Label) → length (prefixes ps (xs ++ ys)) ≡ length (prefixes ps xs) + length (prefixes ps ys)
  unfolding prefixes
  prefixes-append [] ys = omega arith
  prefixes-append (x ∷ xs) ys =
      let a = prefixes-append xs ys in
      let b = prefixes-cons ps x (xs ++ ys) in
      let c = prefixes-cons ps x xs in
      omega arith

  suffixes-append : (xs ys : List Label) → length (suffixes ps (xs ++ ys)) ≡ length (suffixes ps xs) + length (suffixes ps ys)
  unfolding suffixes
  suffixes-append [] ys = omega arith
  suffixes-append (x ∷ xs) ys =
      let a = suffixes-append xs ys in
      let b = suffixes-cons ps x (xs ++ ys) in
      let c = suffixes-cons ps x xs in
      omega arith

  prefixes-reverse : (ls : List Label) → length (prefixes ps (reverse ls)) ≡ length (prefixes ps ls)
  prefixes-reverse [] = refl
  prefixes-reverse (l ∷ ls) =
      let a = prefixes-append (reverse ls) (l ∷ []) in
      let b = prefixes-append (l ∷ []) ls in
      let c = prefixes-reverse ls in
      rw (reverse-cons l ls) (omega arith)

  suffixes-reverse : (ls : List Label) → length (suffixes ps (reverse ls)) ≡ length (suffixes ps ls)
  suffixes-reverse [] = refl
  suffixes-reverse (l ∷ ls) =
      let a = suffixes-append (reverse ls) (l ∷ []) in
      let b = suffixes-append (l ∷ []) ls in
      let c = suffixes-reverse ls in
      rw (reverse-cons l ls) (omega arith)

  spans-around : (n : ℕ) (ls : List Label) → reverse (spans ps 0 n (reverse ls)) ≡ around ps n ls
  unfolding around spans
  spans-around n [] = refl
  spans-around n (l ∷ ls) =
      let a : 0 + length (prefixes ps (reverse ls)) ≡ length (prefixes ps ls) = let q = prefixes-reverse ls in omega arith in
      let r : Reduction = record { start = length (prefixes ps ls); end = n - length (suffixes ps ls); nonterminal = l.nonterminal } in
      let step : spans ps 0 n (reverse (l ∷ ls)) ≡ spans ps 0 n (reverse ls) ++ (r ∷ []) =
      rw (reverse-cons l ls) (spans-last 0 n (reverse ls) l ∙ rw (a, suffixes-reverse ls)) in
      ap (λ (x : List Reduction). reverse x) step
      ∙ reverse-append (spans ps 0 n (reverse ls)) (r ∷ [])
      ∙ ap (λ (x : List Reduction). r ∷ x) (spans-around n ls)

  pub reductions-around : (ls : List Label) → reductions ps ls ≡ around ps (length (symbols ps ls)) ls
  unfolding reductions
  reductions-around ls = spans-around (length (symbols ps ls)) ls

  -- the last spans all
  pub reductions-last : (ls : List Label) (l : Label)
      → reductions ps (ls ++ (l ∷ [])) ≡ reverse (spans ps (length (sets_of ps l).prefix) (length (symbols ps (ls ++ (l ∷ []))) - length (sets_of ps l).suffix) (reverse ls)) ++ (record { start = 0; end = length (symbols ps (ls ++ (l ∷ []))); nonterminal = l.nonterminal } ∷ [])
  unfolding reductions spans
  reductions-last ls l =
      let n = length (symbols ps (ls ++ (l ∷ []))) in
      let a : 0 + length (sets_of ps l).prefix ≡ length (sets_of ps l).prefix = omega arith in
      ap (λ (x : List Label). reverse (spans ps 0 n x)) (reverse-append ls (l ∷ []))
      ∙ reverse-cons (record { start = 0; end = n; nonterminal = l.nonterminal }) (spans ps (0 + length (sets_of ps l).prefix) (n - length (sets_of ps l).suffix) (reverse ls))
      ∙ rw a

  -- in words
  pub around-nil : (n : ℕ) → around_words ps n [] ≡ []
  unfolding around around_words
  around-nil n = joined_nil reduction_words

  pub around-cons : (n : ℕ) (l : Label) (ls : List Label)
      → around_words ps n (l ∷ ls) ≡ (length (prefixes ps ls) ∷ (n - length (suffixes ps ls)) ∷ l.nonterminal ∷ []) ++ around_words ps n ls
  unfolding around around_words reduction_words
  around-cons n l ls = joined_cons reduction_words (record { start = length (prefixes ps ls); end = n - length (suffixes ps ls); nonterminal = l.nonterminal }) (around ps n ls)

  pub around-length : (n : ℕ) (ls : List Label) → length (around_words ps n ls) ≡ reduction_room * length ls
  around-length n [] = rw (around-nil n)
  around-length n (l ∷ ls) = let a = around-length n ls in rw (around-cons n l ls) (omega arith)
