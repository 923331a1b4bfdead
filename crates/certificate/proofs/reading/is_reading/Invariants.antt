use Rattle.std.proofs.Common.{◌≤◌, length, drop}
use Rattle.certificate.proofs.Steps.{Goes}
use Rattle.certificate.proofs.reading.is_reading.Given as goal

abbrev pub invariant-loop-action : goal.invariant-loop-action
invariant-loop-action l = record {
  within : l.read ≤ length l.form;
  goes : Goes l.grammar.productions.items l.actions l.form (drop l.action-index l.actions) l.stack.items (drop l.read l.form);
}
