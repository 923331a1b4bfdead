-- One law for each way through the code of `end_marked`, `first0`, `first1` and of `Answer` (src/lib), over specs/First: FIRST of a list, symbol by symbol.
use mathlib.Core.Path.{◌≡◌, sym, ap, ◌∙◌}
use mathlib.Core.Bool.{Bool, true, false, not}
use lib.Dec.{eqb}
use mathlib.Core.List.{List, [], ◌∷◌}
use Prim.Native.Nat.{ℕ, ◌≤◌, ◌<◌}
use native.Mathlib.Omega.{arith}
use Rattle.lr1_base.specs.repr.Sizes.{terminal_limit}
use Rattle.lr1_base.specs.repr.Meaning.{Symbol, terminal}
use Rattle.lr1_base.specs.lookahead.Tokens.{has, single, union, meet, without, with}
use Rattle.lr1_base.proofs.lookahead.Laws.{with_yes, without_no}
use Rattle.lr1_base.proofs.lookahead.Sets.{union-zero-left, union_assoc}
use Rattle.first.specs.First.{join, first_of, marked_at_end, unmarked, first0, followed, first1, meets_ahead, disjoint}
use Rattle.first.specs.declared.Answer.{Answer}
use Rattle.first.proofs.Join.{join_null, join_own, end_marked-nil, end_marked-cons}

-- one symbol

pub symbol-terminal : (sets : List ℕ) (t r : ℕ) → t < terminal_limit → r ≡ with 0 t → r ≡ first_of sets (terminal t)
unfolding first_of
symbol-terminal sets t r h e = e ∙ with_yes 0 t (omega arith) ∙ union-zero-left (single t)

-- what is left of a list, after the symbols before it gave acc

module _ (e : ℕ) (sets : List ℕ) (xs : List Symbol) where
  pub walk_start : (acc : ℕ) → acc ≡ 0 → union acc (marked_at_end e sets xs) ≡ marked_at_end e sets xs
  walk_start acc z = rw z (union-zero-left (marked_at_end e sets xs))

  pub walk_end : (acc r : ℕ) → xs ≡ [] → e ≤ terminal_limit → r ≡ with acc e → r ≡ union acc (marked_at_end e sets xs)
  walk_end acc r n l q = q ∙ with_yes acc e (omega arith) ∙ sym (rw (n, end_marked-nil e sets))

  module _ (x : Symbol) (rest : List Symbol) (f t acc r : ℕ) (c : Bool) (is : xs ≡ x ∷ rest) (ef : f ≡ first_of sets x) (et : t ≡ without f e) (ec : c ≡ has f e) (er : r ≡ union acc t) where
    here : marked_at_end e sets xs ≡ join e f (marked_at_end e sets rest)
    here = rw (is, end_marked-cons e sets x rest, ef)

    -- a nullable symbol: the rest counts too
    pub walk_more : c ≡ true → union r (marked_at_end e sets rest) ≡ union acc (marked_at_end e sets xs)
    walk_more y =
        rw (er, et) (union_assoc acc (without f e) (marked_at_end e sets rest))
        ∙ sym (ap (union acc) (here ∙ join_null e f (marked_at_end e sets rest) (sym ec ∙ y)))

    pub walk-stop : c ≡ false → r ≡ union acc (marked_at_end e sets xs)
    walk-stop y =
        let no : has f e ≡ false = sym ec ∙ y in
        er ∙ ap (union acc) (et ∙ without_no f e no ∙ sym (here ∙ join_own e f (marked_at_end e sets rest) no))

-- a lookahead that follows the list

module _ (e : ℕ) (sets : List ℕ) (xs : List Symbol) (ahead : ℕ) (a : Answer) (ea : a ≡ first0 e sets xs) where
  pub ahead-yes : (r : ℕ) → a.nullable ≡ true → r ≡ union a.tokens.0 ahead → r ≡ first1 e sets xs ahead
  unfolding first1 followed
  ahead-yes r y er = er ∙ yes_is ∙ ap (λ (b : Answer). followed b ahead) ea
    where
      yes_is : union a.tokens.0 ahead ≡ followed a ahead
      yes_is = rw y

  pub ahead_no : (r : ℕ) → a.nullable ≡ false → r ≡ a.tokens.0 → r ≡ first1 e sets xs ahead
  unfolding first1 followed
  ahead_no r n er = er ∙ no_is ∙ ap (λ (b : Answer). followed b ahead) ea
    where
      no_is : a.tokens.0 ≡ followed a ahead
      no_is = rw n

-- the mark told apart

pub answer_is : (e : ℕ) (sets : List ℕ) (xs : List Symbol) (s t : ℕ) (c : Bool) → s ≡ marked_at_end e sets xs → t ≡ without s e → c ≡ has s e
    → record { tokens = record { 0 = t }; nullable = c } ≡ first0 e sets xs
unfolding first0 unmarked
answer_is e sets xs s t c es et ec = rw (et, ec, es)

-- what is asked of an answer

module _ (a b : Answer) (c : Bool) (ec : c ≡ eqb (meet a.tokens.0 b.tokens.0) 0) where
  pub disjoint_no : c ≡ false → c ≡ disjoint a b
  unfolding disjoint
  disjoint_no n = n ∙ sym (rw (sym ec ∙ n))

  pub disjoint_one : c ≡ true → a.nullable ≡ true → (r : Bool) → r ≡ b.nullable → not r ≡ disjoint a b
  unfolding disjoint
  disjoint_one y n r er = rw (sym ec ∙ y, n, er)

  pub disjoint_yes : c ≡ true → a.nullable ≡ false → (r : Bool) → r ≡ a.nullable → not r ≡ disjoint a b
  unfolding disjoint
  disjoint_yes y n r er = rw (sym ec ∙ y, n, er, n)

module _ (e : ℕ) (a : Answer) (ahead : ℕ) (c : Bool) (ec : c ≡ not (eqb (meet a.tokens.0 ahead) 0)) where
  pub meets-token : c ≡ true → true ≡ meets_ahead e a ahead
  unfolding meets_ahead
  meets-token y = rw (sym ec ∙ y)

  pub meets_end : c ≡ false → a.nullable ≡ true → (r : Bool) → r ≡ has ahead e → r ≡ meets_ahead e a ahead
  unfolding meets_ahead
  meets_end n y r er = rw (sym ec ∙ n, y) er

  pub meets-not : c ≡ false → a.nullable ≡ false → false ≡ meets_ahead e a ahead
  unfolding meets_ahead
  meets-not n z = rw (sym ec ∙ n, z)
