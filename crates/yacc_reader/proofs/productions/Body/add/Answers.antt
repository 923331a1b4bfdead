use mathlib.Core.Path.{refl, ap, ◌∙◌}
use Prim.Native.Nat.{ℕ}
use lib.ListN.{length-set}
use native.Mathlib.Omega.{arith}
use Rattle.yacc_reader.proofs.productions.Words.{kind_given, number_given}
use Rattle.yacc_reader.proofs.productions.Laws.{begun_is, span_small, added_is}
use Rattle.yacc_reader.proofs.productions.Body.add.Goals as goal
use Rattle.yacc_reader.proofs.productions.Body.add.Goals.{then-self-ge-LIMIT-via-then-self-ge-LIMIT, then-self-ge-LIMIT-via-else-self-ge-LIMIT+then-self-ge-SYMBOLS}

pub returns-then-self-ge-LIMIT : goal.returns-then-self-ge-LIMIT
returns-then-self-ge-LIMIT c = (
  c.requires.small,
  record {
    production = refl;
    owner = refl;
    long = refl;
    front = refl;
    more = λ h k. absurd (elim c.then-self-ge-LIMIT.branch [
      | then-self-ge-LIMIT-via-then-self-ge-LIMIT w ↦ (let t = w.if-self-ge-LIMIT.true in omega (arith, h, t))
      | then-self-ge-LIMIT-via-else-self-ge-LIMIT+then-self-ge-SYMBOLS w ↦ (let t = w.if-self-ge-SYMBOLS.true in omega (arith, k, t))
    ]);
  },
)

pub bounds-grammar-at-2 : goal.bounds-grammar-at-2
bounds-grammar-at-2 c = let l = c.requires.long in let h = c.if-self-ge-LIMIT.false in let k = c.if-self-ge-SYMBOLS.false in simp length-set (omega (arith, l, h, k))

pub returns : goal.returns
returns c = let B = c.requires.small in
    let k = c.if-self-ge-SYMBOLS.false in
    let w = c.args.lexeme.wide in
    let l = c.requires.past_bound in (
      record { production = B.production; owner = B.owner; symbols = omega (arith, k); span = (rw c.unwrap_or-start.ensures (span_small _ c.args.lexeme.from _ B.span (omega (arith, w, l)) l).0, l) },
      added_is _ _ _ _ _ _ _ _ _ (λ h. kind_given _ _ _ c.words-kind.ensures.0 c.words-kind.ensures.1) (λ h. number_given _ _ _ c.words-kind.ensures.0) (ap (λ (s : ℕ × ℕ). s.0) c.unwrap_or-start.ensures ∙ begun_is c.args.self.span _ _),
    )
