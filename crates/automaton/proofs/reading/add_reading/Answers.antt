use Rattle.std.proofs.Common.{◌≡◌, ◌≤◌, true, false, sym, ◌∙◌, arith, length}
use Rattle.std.proofs.lemmas.List.{take_all}
use Rattle.automaton.proofs.Readings.{none_read, from_push, from_skip}
use Rattle.automaton.proofs.reading.add_reading.Goals as goal
use Rattle.automaton.proofs.reading.add_reading.Goals.{then-reads+in_ok-push, else-reads}

pub loop-q-init : goal.loop-q-init
loop-q-init c = none_read c.args.grammar.now c.args.token c.args.found.now.items

pub loop-q-preserved : goal.loop-q-preserved
loop-q-preserved c =
    let g = c.args.grammar.now in
    let qs = c.args.productions.now in
    let i = c.loop-q.q-index in
    elim c.if-reads.branch [
      | then-reads+in_ok-push w ↦
          rw (w.found-is, w.in_ok-push.ensures.items) (from_push g c.args.token qs i (omega arith) (c.reads.ensures.0 w.if-reads.true) c.loop-q.invariant)
      | else-reads w ↦
          rw w.found-is
          (from_skip g c.args.token qs i (omega arith) (λ r. let bad : false ≡ true = sym w.if-reads.false ∙ c.reads.ensures.1 r in cc) c.loop-q.invariant)
    ]

pub returns : goal.returns
returns c = let enough : length c.args.productions.now ≤ c.loop-q.q-index = omega arith in rw take_all at c.loop-q.invariant
