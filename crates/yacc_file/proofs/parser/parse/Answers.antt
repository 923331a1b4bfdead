use Rattle.std.proofs.Common.{◌≡◌, ℕ, List, All, rules, arith, subst, sym}
use Rattle.indexmap.specs.IndexSet.{index_set_len}
use Rattle.yacc_file.specs.Words.{WordFits}
use Rattle.yacc_file.proofs.parser.parse.Goals as goal

pub invariant_of-parser : goal.invariant_of-parser
invariant_of-parser c = record {
  within = omega arith;
  in_range = rw c.new.ensures c.args.words.in_range;
}
