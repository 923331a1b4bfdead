use Rattle.std.proofs.Common.{◌≡◌, List, take}
use Rattle.grammar.specs.declared.symbol.Symbol.{Symbol}
use Rattle.certificate.specs.Readings.{IsReading, shifts_of}
use Rattle.certificate.proofs.Rows.{Shows, Told}
use Rattle.certificate.proofs.brackets.brackets_of.Given as goal

abbrev pub invariant-loop-action : goal.invariant-loop-action
invariant-loop-action l = record {
  read : l.read ≡ shifts_of (take l.action-index l.actions);
  told : Told (take l.action-index l.actions) l.read l.brackets.items;
  shows : (form : List Symbol) (x : Symbol) → IsReading l.grammar.productions.items l.actions form x
      → Shows l.grammar.productions.items l.actions form x l.action-index l.starts.items l.brackets.items;
}
