use lib.ListN.{length}
use Prim.Native.Nat.{ℕ, ◌+◌}
use mathlib.Core.Path.{ap, ◌∙◌}
use borrow.Author.Tests.{tests}
use Rattle.std.proofs.Common.{rules}
use Rattle.std.specs.Slice.Iter.{iter_rest}
use Rattle.std.proofs.lemmas.Iterator.{YieldsList-from_slice}
use Rattle.std.proofs.lemmas.Iterator.Search.{YieldsList-from_take_while}
use Rattle.std.proofs.lemmas.Iterator.Consumers.{count_from_yields_List}
use Rattle.yacc_syntax.specs.text.Grammar.{kind_of, goes_on_byte}
use Rattle.yacc_syntax.proofs.lexer.Runs.{rest_of, run_passes}
use Rattle.yacc_syntax.proofs.lexer.run_end.Goals as goal

pub returns : goal.returns
returns c =
    let w = c.take_while.ensures in
    ap (λ (n : ℕ). c.args.at + n)
    (count_from_yields_List _ _ c.count.ensures.ran (YieldsList-from_take_while _ (λ b. goes_on_byte (kind_of b)) (YieldsList-from_slice _ (ap iter_rest w.source ∙ c.iter.ensures.rest ∙ rest_of c.args.at c.args.text.now)) w.closure w.done (λ x b q k. search (rules, tests)))
    ∙ ap length (run_passes _))
