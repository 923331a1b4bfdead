-- The filter's test is what a lookahead asks of a path (`Meets` of specs/trials/Told; docs/RULES.md, "Listing"): a terminal in common, or end where all is nullable.
use Rattle.std.proofs.Common.{◌≡◌, ℕ, suc, ◌%◌, Bool, true, not, ◌&&◌, ◌||◌, eqb, ◌↔◌, List, sym, refl, ap, ◌∙◌, inl, inr, ⊎_elim, arith, eqb-true}
use mathlib.Core.Bool.{or-true}
use mathlib.Core.Option.{Option, none, some}
use lib.Arith.{bin_ind}
use borrow.Author.Tests.{not-true, eqb-false}
use Rattle.lr1_base.specs.repr.Meaning.{Table}
use Rattle.lr1_base.proofs.repr.Lists.{cases, clash}
use Rattle.lr1_base.specs.lookahead.Tokens.{has, meet}
use Rattle.lr1_base.proofs.lookahead.Laws.{has-none, has_lowest, has_half, has_meet}
use Rattle.first.specs.First.{meets_ahead, FIRST}
use Rattle.enumerator.specs.example.Example.{ahead, meets}
use Rattle.trace_graph.specs.Graph.{TraceEdge}
use Rattle.enumerator.specs.trials.Trials.{Path}
use Rattle.enumerator.specs.trials.Lister.{labels_of, passes}
use Rattle.enumerator.specs.trials.Told.{Meets}
use Rattle.lr1_base.proofs.laws.Bools.{and_left, and_right}

-- a set that is not empty has a token
some-token : (s : ℕ) → (s ≡ 0 → ⊥) → (k : ℕ) × (has s k ≡ true)
some-token = bin_ind (λ (s : ℕ). (s ≡ 0 → ⊥) → (k : ℕ) × (has s k ≡ true)) (λ n. absurd (n refl)) (λ s half n.
    cases (eqb (s % 2) 1)
    (λ e. (0, has_lowest s ∙ e))
    (λ e.
    let l = eqb-false (s % 2) 1 e in
    let r = half (λ z. n (omega arith)) in
    (suc r.0, has_half s r.0 ∙ r.1)))

shared : (a b : ℕ) → not (eqb (meet a b) 0) ≡ true → (k : ℕ) × (has a k ≡ true) × (has b k ≡ true)
shared a b e =
    let r = some-token (meet a b) (eqb-false (meet a b) 0 (not-true (eqb (meet a b) 0) e)) in
    let h = sym (has_meet a b r.0) ∙ r.1 in
    (r.0, and_left (has a r.0) (has b r.0) h, and_right (has a r.0) (has b r.0) h)

sharing : (a b k : ℕ) → has a k ≡ true → has b k ≡ true → not (eqb (meet a b) 0) ≡ true
sharing a b k h l =
    cases (eqb (meet a b) 0)
    (λ e. clash (has (meet a b) k) (has_meet a b k ∙ rw (h, l)) (ap (λ (s : ℕ). has s k) (eqb-true (meet a b) 0 e) ∙ has-none k))
    (λ e. rw e)

pub passes-meets : (T : Table) (es : List TraceEdge) (a : Option ℕ) (p : Path) → (passes T es a p ≡ true) ↔ Meets T es a p
unfolding passes meets Meets FIRST meets_ahead
passes-meets T es none p = (λ e. tt, λ m. refl)
passes-meets T es (some set) p =
    let a = FIRST T (ahead T.productions (labels_of T.productions es p)) in
    let token = not (eqb (meet a.tokens.0 set) 0) in
    let end = a.nullable && has set T.terminals in (
      λ e. cases token
          (λ y. inl (shared a.tokens.0 set y))
          (λ n.
          let b : end ≡ true = sym (ap (λ (c : Bool). c || end) n) ∙ e in
          inr (and_left a.nullable (has set T.terminals) b, and_right a.nullable (has set T.terminals) b)),
      λ m. ⊎_elim
          (λ w. ap (λ (c : Bool). c || end) (sharing a.tokens.0 set w.0 w.1 w.2))
          (λ w. ap (λ (c : Bool). token || c) (rw (w.0, w.1) refl) ∙ or-true token)
          m,
    )
