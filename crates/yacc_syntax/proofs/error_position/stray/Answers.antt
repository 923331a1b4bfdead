use native.Mathlib.Omega.{arith}
use mathlib.Core.Bool.{true≢false}
use mathlib.Core.Path.{◌≡◌, refl, sym, ◌∙◌}
use Rattle.yacc_syntax.specs.declared.recognizer.Mode.TheVariants.{Dead}
use Rattle.yacc_syntax.specs.error_position.Automaton.{fed}
use Rattle.yacc_syntax.proofs.error_position.Live.{is_dead}
use Rattle.yacc_syntax.proofs.error_position.Numbers.{live_mode, turn, turn_dies, turn_ends}
use Rattle.yacc_syntax.proofs.error_position.stray.Goals.{in-Dead, in_default}
use Rattle.yacc_syntax.proofs.error_position.stray.Goals as goal

pub loop-i-init : goal.loop-i-init
unfolding fed is_dead
loop-i-init c = (refl, refl)

pub returns-then-matches : goal.returns-then-matches
returns-then-matches c =
    let d : c.step-stage.result.mode ≡ Dead = elim c.match-matches.branch [ in-Dead w ↦ w.in-Dead.is | in_default w ↦ absurd (true≢false (sym c.if-matches.true ∙ w.matches-is)) ] in
    turn_dies c.args.text.now c.loop-i.i c.loop-i.stage c.loop-i-test.true c.loop-i.invariant.1 _ c.step-stage.ensures c.loop-i.invariant.0 d

pub loop-i-preserved : goal.loop-i-preserved
loop-i-preserved c =
    let d : c.step-stage.result.mode ≡ Dead → ⊥ = elim c.match-matches.branch [ in-Dead w ↦ absurd (true≢false (sym w.matches-is ∙ c.if-matches.false)) | in_default w ↦ w.in_default.not-Dead ] in
    (live_mode _ d, turn c.args.text.now c.loop-i.i c.loop-i.stage c.loop-i-test.true c.loop-i.invariant.1 _ c.step-stage.ensures)

pub returns : goal.returns
returns c = turn_ends c.args.text.now c.loop-i.i c.loop-i.stage (omega arith) c.loop-i.invariant.0 c.loop-i.invariant.1
