use Rattle.std.proofs.Common.{◌≡◌, ℕ, false, true, inl, inr, arith, sym, ◌∙◌, ap, length, get_or, below_more}
use Rattle.grammar.specs.declared.symbol.Symbol.TheVariants.{Terminal}
use Rattle.first_sets.specs.Sets.{IsSame, SymbolNull}
use Rattle.first_sets.proofs.Textbook.{all_null}
use Rattle.first_sets.proofs.Grown.{grown_sound, added_sound, covered_more, closed_at, closed_all, closed_same, on_false, symbol_null_same}
use Rattle.first_sets.proofs.sets.FirstSets.grow.Goals as goal
use Rattle.first_sets.proofs.sets.FirstSets.grow.Goals.{then-add, else-add}

pub returns-then-not-may_be_empty-clause-sound : goal.returns-then-not-may_be_empty-clause-sound
returns-then-not-may_be_empty-clause-sound c ps rule sound =
    added_sound ps c.loop-symbol.self c.add.new.self c.args.production.now.left c.args.production.now.right.items c.loop-symbol.symbol-index rule
    (c.loop-symbol.invariant.sound ps rule sound) c.add.ensures.nullable (rw c.deref-symbol-items.ensures.value at c.add.ensures.only)
    (omega (arith, ap length c.deref-symbol-items.ensures.value)) c.loop-symbol.invariant.null

pub returns-then-not-may_be_empty-clause-closed : goal.returns-then-not-may_be_empty-clause-closed
returns-then-not-may_be_empty-clause-closed c =
    let i = c.loop-symbol.symbol-index in
    let list = c.deref-symbol-items.ensures.value in
    on_false c.if-add.changed (λ e. elim c.if-add.branch [
      | then-add w ↦ let bad : true ≡ false = sym w.changed-is ∙ e in cc
      | else-add w ↦
          closed_at c.add.new.self c.args.production.now.left c.args.production.now.right.items i (omega (arith, ap length list))
          (λ n. let bad : true ≡ false = sym ((rw list at c.may_be_empty.ensures.1) n) ∙ c.if-not-may_be_empty.true in cc)
          (covered_more c.loop-symbol.self c.add.new.self c.args.production.now.left c.args.production.now.right.items i c.add.ensures.keeps
          w.if-add.ensures.same (rw list at c.add.ensures.adds) (c.loop-symbol.invariant.covered (sym w.changed-is ∙ e)))
    ])

pub loop-symbol-preserved : goal.loop-symbol-preserved
loop-symbol-preserved c =
    let i = c.loop-symbol.symbol-index in
    let inv = c.loop-symbol.invariant in
    let list = c.deref-symbol-items.ensures.value in
    let s = c.loop-symbol.self in
    let u = c.add.new.self in
    let l = c.args.production.now.left in
    let r = c.args.production.now.right.items in
    record {
      shape = record { rows = c.add.ensures.shape.rows ∙ inv.shape.rows; columns = c.add.ensures.shape.columns ∙ inv.shape.columns };
      nullable = c.add.ensures.nullable ∙ inv.nullable;
      null = below_more (λ (j : ℕ). SymbolNull u (get_or r j (Terminal 0))) i (λ j k. symbol_null_same s u c.add.ensures.nullable (get_or r j (Terminal 0)) (inv.null j k))
          ((rw list at c.may_be_empty.ensures.0) c.if-not-may_be_empty.false);
      sound = λ ps rule sound.
          added_sound ps s u l r i rule (inv.sound ps rule sound) c.add.ensures.nullable (rw list at c.add.ensures.only) (omega (arith, ap length list)) inv.null;
      keeps = λ a b h. c.add.ensures.keeps a b (inv.keeps a b h);
      same = λ e. elim c.if-add.branch [
        | then-add w ↦ let bad : true ≡ false = sym w.changed-is ∙ e in cc
        | else-add w ↦ λ a b h. inv.same (sym w.changed-is ∙ e) a b (w.if-add.ensures.same a b h)
      ];
      covered = λ e. elim c.if-add.branch [
        | then-add w ↦ let bad : true ≡ false = sym w.changed-is ∙ e in cc
        | else-add w ↦ covered_more s u l r i c.add.ensures.keeps w.if-add.ensures.same (rw list at c.add.ensures.adds) (inv.covered (sym w.changed-is ∙ e))
      ];
      few = omega (arith, c.add.ensures.room.0, inv.few);
      less = λ e. elim c.if-add.branch [
        | then-add w ↦ omega (arith, w.if-add.ensures.room.1, inv.few)
        | else-add w ↦ omega (arith, inv.less (sym w.changed-is ∙ e), c.add.ensures.room.0)
      ];
    }

pub returns-then-mark-clause-sound : goal.returns-then-mark-clause-sound
returns-then-mark-clause-sound c ps rule sound =
    let inv = c.loop-symbol.invariant in
    let r = c.args.production.now.right.items in
    let list = ap length c.deref-symbol-items.ensures.value in
    grown_sound ps c.loop-symbol.self c.mark.new.self c.args.production.now.left r rule (inv.sound ps rule sound)
    (λ n a. elim (c.mark.ensures.only n a) [ inl k ↦ inl k | inr k ↦ inr (k, all_null c.loop-symbol.self r (λ j h. inv.null j (omega (arith, list)))) ])
    (λ n t f. inl (rw c.mark.ensures.sets at f))

pub returns-clause-closed : goal.returns-clause-closed
returns-clause-closed c =
    let inv = c.loop-symbol.invariant in
    let s = c.loop-symbol.self in
    let r = c.args.production.now.right.items in
    let list = ap length c.deref-symbol-items.ensures.value in
    let same : IsSame s c.mark.new.self = record {
      kept = λ a b h. rw c.mark.ensures.sets h;
      no_more = λ a b h. rw c.mark.ensures.sets at h;
      nullable = ap (λ v. v.items) c.if-mark.ensures.same;
    } in
    on_false c.loop-symbol.changed (λ e.
    closed_same s c.mark.new.self same c.args.production.now.left r
    (closed_all s c.args.production.now.left r (rw same.nullable at c.mark.ensures.marked) (λ j h. inv.covered e j (omega (arith, list)))))
