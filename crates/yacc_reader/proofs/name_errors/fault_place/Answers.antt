use native.Mathlib.Omega.{arith}
use mathlib.Core.Path.{◌≡◌}
use Rattle.std.proofs.Common.{rules}
use Rattle.lr1_base.specs.repr.Lists.{some?}
use Rattle.yacc_syntax.specs.lexer.Steps.{token_at, found_at}
use Rattle.yacc_syntax.specs.recognizer.Accepted.{mode_of}
use Rattle.yacc_reader.specs.parsed_file.Source.{Source}
use Rattle.yacc_reader.specs.parsed_file.Events.{event_of}
use Rattle.yacc_reader.proofs.events.Along.{asked_along, found_inside}
use Rattle.yacc_reader.specs.symbol_table.Table.{Holds}
use Rattle.yacc_reader.specs.name_errors.Fault.{faulty}
use Rattle.yacc_reader.proofs.name_errors.Fault.{rests_first, fault_found}
use Rattle.yacc_reader.proofs.name_errors.fault_place.Goals as goal

pub find-requires-clause-callable : goal.find-requires-clause-callable
find-requires-clause-callable c = asked_along c.args.symbols.now.ids.text.now _ _ (λ x q k. search rules) _ (λ x h. search rules) _ c.new.ensures.text

pub returns-in_err-token-clause-first : goal.returns-in_err-token-clause-first
unfolding found_at
returns-in_err-token-clause-first c = λ l p.
    let t = c.args.symbols.now.ids.text.now in
    let n = c.new.ensures in
    let H = c.args.symbols.now.named.held l p in
    let M = fault_found t l p _ _
    (λ x b q k. (search rules, (let told : (S : Source) → Holds c.args.symbols.now.ids S.nonterminals S.terminals → b ≡ some? (faulty S) (event_of (mode_of x.mode) (token_at t x.lexeme.word x.lexeme.from x.lexeme.past) x.lexeme.from x.lexeme.past) = search rules in told _ H)))
    _ _ _ c.find.ensures.ran n.text (rw (n.mode, n.at) (rests_first t l p)) in
    rw c.from_residual.ensures (rw c.in_err-token.was at M)

pub returns-clause-inside : goal.returns-clause-inside
returns-clause-inside c =
    let h = rw c.in_ok-token.was at (found_inside c.args.symbols.now.ids.text.now _ _ (λ x q k. search rules) _ _ _ c.find.ensures.ran c.new.ensures.text) in
    let w = c.in_ok-token.token.lexeme.wide in
    omega (arith, h, w)

pub returns-clause-first : goal.returns-clause-first
unfolding found_at
returns-clause-first c = λ l p.
    let t = c.args.symbols.now.ids.text.now in
    let n = c.new.ensures in
    let H = c.args.symbols.now.named.held l p in
    let M = fault_found t l p _ _
    (λ x b q k. (search rules, (let told : (S : Source) → Holds c.args.symbols.now.ids S.nonterminals S.terminals → b ≡ some? (faulty S) (event_of (mode_of x.mode) (token_at t x.lexeme.word x.lexeme.from x.lexeme.past) x.lexeme.from x.lexeme.past) = search rules in told _ H)))
    _ _ _ c.find.ensures.ran n.text (rw (n.mode, n.at) (rests_first t l p)) in
    rw c.in_ok-token.was at M
