use Rattle.std.proofs.Common.{subst}
use Rattle.conflict_report.specs.Entries.{AreTokensOf, AreStatesOf}
use Rattle.conflict_report.proofs.entry.entry_of.Goals as goal

pub returns-clause-whole : goal.returns-clause-whole
returns-clause-whole c = record {
  tokens = subst (λ l. AreTokensOf l c.in_ok-tokens.tokens) c.as_slice.ensures.value c.in_ok-tokens.ensures;
  states = subst (λ l. AreStatesOf l c.in_ok-states.states) c.as_slice-2.ensures.value c.in_ok-states.ensures;
}
