-- The answers of specs/First beside the Rust's sets (specs/Rust), for every table: its set is the terminals with end added for yes; what the filter, the inline
-- test and tracing ask of an answer is what the Rust asks of its set.
use mathlib.Core.Path.{◌≡◌, refl, sym, ap, ◌∙◌}
use mathlib.Core.Bool.{Bool, true, false, ◌&&◌, not, and-true, and-false, or-true, or-false}
use mathlib.Core.List.{List}
use Prim.Native.Nat.{ℕ}
use lib.Dec.{eqb}
use borrow.Author.Tests.{eqb-true, ne_eqb}
use Rattle.lr1_base.specs.repr.Meaning.{Symbol, Table}
use Rattle.lr1_base.proofs.repr.Lists.{cases, clash}
use Rattle.lr1_base.specs.lookahead.Tokens.{has, single, union, meet, without}
use Rattle.lr1_base.proofs.lookahead.Laws.{has-none, has-union, has_meet, has-single, has-without, without_no}
use Rattle.lr1_base.proofs.lookahead.Sets.{same_set}
use Rattle.first.specs.First.{unmarked, first0, meets_ahead, disjoint, FIRST, nullable}
use Rattle.first.specs.Rust.{rust_first0, with_end, rust_nullable, rust_meets, rust_disjoint}

-- the mark alone

module _ (e s : ℕ) where
  -- end taken out and added again
  again : has s e ≡ true → union (without s e) (single e) ≡ s
  again y = same_set (union (without s e) (single e)) s (λ k.
      has-union (without s e) (single e) k
      ∙ rw (has-without s e k, has-single e k)
      (cases (eqb k e)
      (λ q. rw q (or-true (has s k && false)) ∙ sym (ap (has s) (eqb-true k e q) ∙ y))
      (λ q. rw q (or-false (has s k && true) ∙ and-true (has s k)))))

  with_end_lem : with_end e (unmarked e s) ≡ s
  unfolding with_end unmarked
  with_end_lem = cases (has s e) (λ y. rw y (again y)) (λ n. rw n (without_no s e n))

  -- end in both
  common : (r : ℕ) → has s e && has r e ≡ true → eqb (meet s r) 0 ≡ false
  common r b =
      ne_eqb (meet s r) 0 (λ z. clash (has (meet s r) e) (has_meet s r e ∙ b) (ap (λ (m : ℕ). has m e) z ∙ has-none e))

  -- end not in both: it may be taken out
  apart : (r : ℕ) → has s e && has r e ≡ false → meet (without s e) r ≡ meet s r
  apart r b = same_set (meet (without s e) r) (meet s r) (λ k.
      has_meet (without s e) r k
      ∙ rw (has-without s e k)
      (cases (eqb k e)
      (λ q. rw q (ap (λ (c : Bool). c && has r k) (and-false (has s k))) ∙ sym (has_meet s r k ∙ ap (λ (m : ℕ). has s m && has r m) (eqb-true k e q) ∙ b))
      (λ q. rw q (ap (λ (c : Bool). c && has r k) (and-true (has s k))) ∙ sym (has_meet s r k))))

  -- it is taken out of both
  taken_out : (r : ℕ) → meet (without s e) (without r e) ≡ meet (without s e) r
  taken_out r = same_set (meet (without s e) (without r e)) (meet (without s e) r) (λ k.
      has_meet (without s e) (without r e) k
      ∙ sym (has_meet (without s e) r k
      ∙ rw (has-without s e k, has-without r e k)
      (cases (eqb k e)
      (λ q. rw (q, and-false (has s k)) refl)
      (λ q. rw (q, and-true (has r k)) refl))))

  meets-mark : (r : ℕ) → meets_ahead e (unmarked e s) r ≡ not (eqb (meet s r) 0)
  unfolding meets_ahead unmarked
  meets-mark r =
      cases (has s e && has r e)
      (λ b. rw (b, common r b) (or-true (not (eqb (meet (without s e) r) 0))))
      (λ b. rw (b, apart r b) (or-false (not (eqb (meet s r) 0))))

  disjoint-mark : (r : ℕ) → disjoint (unmarked e s) (unmarked e r) ≡ eqb (meet s r) 0
  unfolding disjoint unmarked
  disjoint-mark r =
      cases (has s e && has r e)
      (λ b. rw (b, common r b) (and-false (eqb (meet (without s e) (without r e)) 0)))
      (λ b. rw (b, taken_out r, apart r b) (and-true (eqb (meet s r) 0)))

-- of a table

module _ (T : Table) (xs : List Symbol) where
  -- the Rust's set: the terminals, with end added for yes
  pub rust_set : rust_first0 T xs ≡ with_end T.terminals (FIRST T xs)
  unfolding FIRST first0 rust_first0
  rust_set = sym (with_end_lem T.terminals (rust_first0 T xs))

  -- the answer from the Rust's set
  pub from_rust : FIRST T xs ≡ unmarked T.terminals (rust_first0 T xs)
  unfolding FIRST first0 rust_first0
  from_rust = refl

  pub rust_nullable_lem : nullable T xs ≡ rust_nullable T xs
  unfolding nullable FIRST first0 unmarked rust_nullable rust_first0
  rust_nullable_lem = refl

  pub rust_meets_lem : (ahead : ℕ) → meets_ahead T.terminals (FIRST T xs) ahead ≡ rust_meets T xs ahead
  unfolding rust_meets
  rust_meets_lem ahead = ap (λ (a : _). meets_ahead T.terminals a ahead) from_rust ∙ meets-mark T.terminals (rust_first0 T xs) ahead

  pub rust_disjoint_lem : (ys : List Symbol) → disjoint (FIRST T xs) (FIRST T ys) ≡ rust_disjoint T xs ys
  unfolding FIRST first0 rust_first0 rust_disjoint
  rust_disjoint_lem ys = disjoint-mark T.terminals (rust_first0 T xs) (rust_first0 T ys)
