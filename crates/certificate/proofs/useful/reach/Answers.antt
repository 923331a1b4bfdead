use Rattle.std.proofs.Common.{◌≡◌, ◌≤◌, ℕ, subst, true, false, inl, inr, length, sym, ◌∙◌, ap, refl, arith}
use Rattle.std.proofs.lemmas.Bool.{OnFalse_from, cases_lt}
use Rattle.std.proofs.lemmas.Option.{slice_get_within}
use Rattle.grammar.specs.declared.symbol.Symbol.TheVariants.{Nonterminal}
use Rattle.certificate.specs.Sets.{PassesOn, StandsAt, IsIn}
use Rattle.certificate.proofs.Growth.{passed}
use Rattle.certificate.proofs.useful.reach.Goals as goal
use Rattle.certificate.proofs.useful.reach.Goals.{then-reach_at, else-reach_at}

pub loop-i-preserved : goal.loop-i-preserved
loop-i-preserved c =
    let i = c.loop-i.i in
    let inv = c.loop-i.invariant in
    let productive = c.args.productive.now in
    let right = c.args.production.now.right.items in
    let list = c.as_slice-right.ensures.value in
    let left_in = c.contains.ensures.0 c.if-not-contains.false in
    let only = rw list at c.reach_at.ensures.only in
    let adds = rw list at c.reach_at.ensures.adds in
    record {
      len = c.reach_at.ensures.len ∙ inv.len;
      keeps = λ n h. c.reach_at.ensures.keeps n (inv.keeps n h);
      sound = λ ps rule derive before n m. elim (only n m) [
        | inl k ↦ inv.sound ps rule derive before n k
        | inr k ↦ passed ps productive derive c.args.production.now.left right rule (before c.args.production.now.left left_in) i n k
      ];
      passed = λ j n l s. elim (cases_lt j i) [
        | inl k ↦ c.reach_at.ensures.keeps n (inv.passed j n k s)
        | inr k ↦ let e : j ≡ i = omega arith in adds n (let P : ℕ → Type 0 = λ (x : ℕ). StandsAt productive right x n in subst P e s)
      ];
      same = λ e. elim c.if-reach_at.branch [
        | then-reach_at w ↦ let bad : true ≡ false = sym w.changed-is ∙ e in cc
        | else-reach_at w ↦ w.if-reach_at.ensures.same ∙ inv.same (sym w.changed-is ∙ e)
      ];
      few = omega (arith, c.reach_at.ensures.room.0, inv.few);
      less = λ e. elim c.if-reach_at.branch [
        | then-reach_at w ↦ omega (arith, w.if-reach_at.ensures.room.1, inv.few)
        | else-reach_at w ↦ omega (arith, inv.less (sym w.changed-is ∙ e), c.reach_at.ensures.room.0)
      ];
    }

pub returns-clause-closed : goal.returns-clause-closed
returns-clause-closed c =
    let right = c.args.production.now.right.items in
    let list = ap length c.as_slice-right.ensures.value in
    OnFalse_from c.loop-i.changed (PassesOn c.args.productive.now c.loop-i.set c.args.production.now)
    (λ e marked i n s. let within = slice_get_within right i (Nonterminal n) s.at in c.loop-i.invariant.passed i n (omega (arith, list)) s)
