use Rattle.indexmap.specs.IndexSet.{index_set_len}
use Rattle.yacc_file.specs.Syntax.{AliasFits}
use Rattle.yacc_file.proofs.Fits.{pushed_fits}
use Rattle.yacc_file.proofs.file.File.add_alias.Goals as goal

pub invariant_of-self-clause-aliases_fit : goal.invariant_of-self-clause-aliases_fit
invariant_of-self-clause-aliases_fit c =
    pushed_fits (AliasFits (index_set_len c.args.self.now.names)) _ c.args.self.now.aliases.items c.push.new.self.items c.args.alias c.push.ensures.items c.args.self.now.aliases_fit c.requires
