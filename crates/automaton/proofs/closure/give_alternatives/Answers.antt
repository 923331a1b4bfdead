use Rattle.std.proofs.Common.{◌≡◌, ◌≤◌, true, false, sym, ◌∙◌, arith, length}
use Rattle.std.proofs.lemmas.List.{take_all}
use Rattle.std.proofs.lemmas.List.Elements.{All-more}
use Rattle.first_sets.proofs.Grown.{on_false}
use Rattle.automaton.specs.Spreading.{IsSpreadFrom}
use Rattle.automaton.proofs.Spreads.{shape_trans, keeps_trans, all_from_same}
use Rattle.automaton.proofs.closure.give_alternatives.Goals as goal
use Rattle.automaton.proofs.closure.give_alternatives.Goals.{then-give, else-give}

pub loop-q-preserved : goal.loop-q-preserved
loop-q-preserved c =
    let i = c.loop-q.q-index in
    let inv = c.loop-q.invariant in
    let g = c.args.grammar.now in
    let f = c.args.first.now in
    record {
      shape = shape_trans inv.shape c.give.ensures.shape;
      keeps = keeps_trans inv.keeps c.give.ensures.keeps;
      same = λ e. elim c.if-give.branch [
        | then-give w ↦ let bad : true ≡ false = sym w.changed-is ∙ e in cc
        | else-give w ↦ keeps_trans w.if-give.ensures.same (inv.same (sym w.changed-is ∙ e))
      ];
      spread = λ e. elim c.if-give.branch [
        | then-give w ↦ let bad : true ≡ false = sym w.changed-is ∙ e in cc
        | else-give w ↦
            All-more (IsSpreadFrom g f c.give.new.table c.args.left) c.args.productions.now i _ (omega arith)
            (all_from_same g f c.give.ensures.keeps w.if-give.ensures.same c.args.left _ (inv.spread (sym w.changed-is ∙ e)))
            (record { spread = rw c.rest.ensures.rest at w.if-give.ensures.spread })
      ];
      few = omega (arith, c.give.ensures.room.0, inv.few);
      less = λ e. elim c.if-give.branch [
        | then-give w ↦ omega (arith, w.if-give.ensures.room.1, inv.few)
        | else-give w ↦ omega (arith, inv.less (sym w.changed-is ∙ e), c.give.ensures.room.0)
      ];
    }

pub returns-clause-spread : goal.returns-clause-spread
returns-clause-spread c = on_false c.loop-q.changed (λ e.
    let enough : length c.args.productions.now ≤ c.loop-q.q-index = omega arith in rw take_all at (c.loop-q.invariant.spread e))
