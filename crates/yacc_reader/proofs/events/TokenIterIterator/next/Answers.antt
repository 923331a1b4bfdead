use Rattle.std.proofs.Common.{arith, refl}
use Rattle.yacc_syntax.specs.lexer.Steps.{Told}
use Rattle.yacc_syntax.proofs.recognizer.Laws.{turn, told_ends}
use Rattle.yacc_reader.specs.events.Tokens.{Gives}
use Rattle.yacc_reader.proofs.events.TokenIterIterator.next.Goals as goal

pub invariant_of-token : goal.invariant_of-token
invariant_of-token c = record { says = c.said.ensures }

pub invariant_of-self : goal.invariant_of-self
unfolding Told
invariant_of-self c = record {
  inside = c.in-Token.ensures.inside;
  accepted = turn _ _ _ _ c.args.self.now.accepted _ _ _ _ c.in-Token.ensures (c.moved-self.ensures _ _ _);
}

pub returns-in-Token-clause-steps : goal.returns-in-Token-clause-steps
unfolding Told Gives
returns-in-Token-clause-steps c = record { leads = c.in-Token.ensures; in_mode = refl; text = refl; at = refl; mode = c.moved-self.ensures _ _ _ }

pub returns-in-Token-clause-goes : goal.returns-in-Token-clause-goes
unfolding Told
returns-in-Token-clause-goes c =
    let L = c.in-Token.ensures in
    let o = L.order in
    let w = L.wide in
    let i = L.inside in
    record { on = λ f. (tt, tt, omega (arith, o, w, i)); keeps = tt; rests = λ f. tt }

pub returns-in-End-clause-steps : goal.returns-in-End-clause-steps
unfolding Gives
returns-in-End-clause-steps c = told_ends _ _ _ c.args.self.now.accepted _ c.in-End.is c.next_token.ensures
