use Rattle.indexmap.specs.IndexSet.{index_set_len}
use Rattle.yacc_file.specs.Syntax.{RuleFits}
use Rattle.yacc_file.proofs.Fits.{pushed_fits}
use Rattle.yacc_file.proofs.file.File.add_rule.Goals as goal

pub invariant_of-self-clause-rules_fit : goal.invariant_of-self-clause-rules_fit
invariant_of-self-clause-rules_fit c =
    pushed_fits (RuleFits (index_set_len c.args.self.now.names)) _ c.args.self.now.rules.items c.push.new.self.items c.args.rule c.push.ensures.items c.args.self.now.rules_fit c.requires
