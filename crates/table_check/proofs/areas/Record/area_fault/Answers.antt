use Rattle.table_check.proofs.Faults.{fault-zero, fault-nonterminal, fault_state, fault-production}
use mathlib.Core.Path.{◌∙◌}
use native.Mathlib.Omega.{arith}
use Rattle.table_check.proofs.areas.Record.area_fault.Goals as goal

pub returns-in-0 : goal.returns-in-0
returns-in-0 c = fault-zero _ _ c.in-0.is

pub returns-in_default : goal.returns-in_default
returns-in_default c = let A = c.args.self.gathered.surveyed.of in
    c.nonterminal_fault.ensures ∙ fault-nonterminal _ _ (λ z. absurd (omega arith)) (omega (arith, c.if-r-areas.true))

pub returns-in_default-2 : goal.returns-in_default-2
returns-in_default-2 c = let A = c.args.self.gathered.surveyed.of in
    c.state_fault.ensures ∙ fault_state _ _ (omega (arith, c.if-r-areas.false)) (omega (arith, c.if-r-areas-2.true))

pub returns-in_default-3 : goal.returns-in_default-3
returns-in_default-3 c = let A = c.args.self.gathered.surveyed.of in
    c.production_fault.ensures ∙ fault-production _ _ (omega (arith, c.if-r-areas-2.false)) (omega (arith, c.requires))
