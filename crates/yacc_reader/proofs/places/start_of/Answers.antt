use borrow.Author.Tests.{tests}
use mathlib.Core.Path.{◌∙◌}
use Rattle.std.proofs.Common.{rules}
use Rattle.yacc_reader.proofs.events.Along.{found_inside}
use Rattle.yacc_reader.proofs.name_errors.Laws.{start_word}
use Rattle.yacc_reader.proofs.places.Laws.{start_first, start_found, number_known, number_unknown}
use Rattle.yacc_reader.proofs.places.start_of.Goals as goal

pub returns-in_default : goal.returns-in_default
returns-in_default c = λ l p.
    let n = c.new-tokens.ensures in
    rw c.in_default.is at (start_found c.args.symbols.now.ids.text.now l p _ _ (λ x q k. search (rules, tests)) (λ x q k. search (rules, tests)) _ _ _ c.find.ensures.ran n.text (rw (n.mode, n.at) (start_first c.args.symbols.now.ids.text.now l p)))

pub left-requires : goal.left-requires
left-requires c = rw c.in-Some.is at (found_inside c.args.symbols.now.ids.text.now _ _ (λ x q k. search rules) _ _ _ c.find.ensures.ran c.new-tokens.ensures.text)

pub returns-in-Some-left : goal.returns-in-Some-left
returns-in-Some-left c = λ l p.
    let n = c.new-tokens.ensures in
    let H = c.args.symbols.now.named.held l p in
    let M = rw c.in-Some.is at (start_found c.args.symbols.now.ids.text.now l p _ _ (λ x q k. search (rules, tests)) (λ x q k. search (rules, tests)) _ _ _ c.find.ensures.ran n.text (rw (n.mode, n.at) (start_first c.args.symbols.now.ids.text.now l p))) in
    c.from.ensures ∙ number_known _ _ _ (c.in-Some-left.ensures (start_word _ _ _ c.in-Some.token.says M.0) _ _ H) ∙ M.1

pub returns-in-None : goal.returns-in-None
returns-in-None c = λ l p.
    let n = c.new-tokens.ensures in
    let H = c.args.symbols.now.named.held l p in
    let M = rw c.in-Some.is at (start_found c.args.symbols.now.ids.text.now l p _ _ (λ x q k. search (rules, tests)) (λ x q k. search (rules, tests)) _ _ _ c.find.ensures.ran n.text (rw (n.mode, n.at) (start_first c.args.symbols.now.ids.text.now l p))) in
    number_unknown _ _ _ (c.in-None.ensures (start_word _ _ _ c.in-Some.token.says M.0) _ _ H) H.nonterminals.numbers.count ∙ M.1
