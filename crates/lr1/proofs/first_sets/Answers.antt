use mathlib.Core.Path.{◌∙◌}
use Rattle.lr1.proofs.Entered.{sets-read}
use Rattle.lr1.proofs.first_sets.Goals as goal

pub new-requires : goal.new-requires
new-requires c = rw c.counts.ensures.terminals c.counts.ensures.fits.few_terminals

pub returns : goal.returns
returns c = record {
  is = sets-read _ _ _ _ c.counts.ensures.terminals c.read_grammar-grammar.ensures.1 _ c.new.ensures.is;
  terminals = c.new.ensures.terminals ∙ c.counts.ensures.terminals;
}
