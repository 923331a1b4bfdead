use Rattle.std.proofs.Common.{refl, ◌∙◌, rules, tests}
use Rattle.std.proofs.lemmas.Iterator.Consumers.{YieldsList-from_first}
use Rattle.std.proofs.lemmas.Iterator.Search.{any_from_yields_List}
use Rattle.lr1_base.specs.repr.Meaning.{nonterminal, is_same_symbol}
use Rattle.lr1_base.specs.repr.Listed.{listed}
use Rattle.lr1_base.specs.repr.Symbols.{meant}
use Rattle.table_rewrite.proofs.start_production.Uses.{is_nonterminal, among_is}
use Rattle.table_rewrite.proofs.start_production.is_among.Goals as goal

pub returns : goal.returns
returns c = any_from_yields_List (is_same_symbol (nonterminal c.args.n.0)) c.any.new.self _ _ c.any.ensures.ran (YieldsList-from_first meant (λ s. listed s.words.now) (listed c.args.symbols.now) refl) (λ x b q k. let e = is_nonterminal c.args.n x in search (rules, tests))
    ∙ among_is c.args.n.0 (listed c.args.symbols.now)
