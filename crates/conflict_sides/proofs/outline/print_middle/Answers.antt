use Rattle.std.proofs.Common.{sym, ap, ◌∙◌}
use Rattle.lr1_base.specs.repr.Lists.{joined}
use Rattle.lr1_base.proofs.repr.Lists.{joined_nil}
use Rattle.enumerator.specs.example.Example.{symbol_words}
use Rattle.conflict_sides.specs.outline.Outline.{print_words}
use Rattle.conflict_sides.proofs.outline.Prints.{words-none}
use Rattle.conflict_sides.proofs.outline.print_middle.Goals as goal

pub print_list-requires : goal.print_list-requires
print_list-requires c = c.requires

pub returns-in-Some : goal.returns-in-Some
returns-in-Some c = (c.print_list.ensures.0 ∙ ap (print_words c.args.print) (sym c.in-Some.ensures.1), c.print_list.ensures.1)

pub returns-in-None : goal.returns-in-None
returns-in-None c = (words-none c.args.print _ (ap (joined symbol_words) c.in-None.ensures ∙ joined_nil symbol_words), c.requires)
