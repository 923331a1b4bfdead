use Rattle.std.proofs.Common.{◌≡◌, ℕ, ◌<◌, ◌≤◌, List, length, rules, arith, ap}
use Rattle.yacc_file.proofs.Order.{in_order_weaker, in_order_at}
use Rattle.yacc_file.proofs.word.read_words.Goals as goal

pub loop-token-preserved : goal.loop-token-preserved
loop-token-preserved c = record {
  text = search rules;
  names = omega arith;
  order = in_order_at 0 c.loop-token.lexer.at c.next_token.new.self.at c.in-Some.token.span c.loop-token.words.words.items c.push.new.self.words.items
      c.in_ok-push.ensures.words c.loop-token.invariant.order c.in-Some.ensures.token.0 c.in-Some.ensures.token.1 c.in-Some.ensures.token.2;
}

pub returns : goal.returns
returns c =
    let same : length c.loop-token.lexer.text.now ≡ length c.args.text.now = ap length c.loop-token.invariant.text in
    record { order = in_order_weaker 0 c.loop-token.lexer.at (length c.args.text.now) c.loop-token.words.words.items c.loop-token.invariant.order (omega arith) }
