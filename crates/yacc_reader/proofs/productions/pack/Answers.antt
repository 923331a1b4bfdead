use Rattle.std.proofs.Common.{arith, ◌∙◌}
use Rattle.yacc_reader.specs.parsed_file.Outcome.{source_in}
use Rattle.yacc_reader.proofs.events.Laws.{read_in, says_in, ends_in}
use Rattle.yacc_reader.proofs.productions.Laws.{zero_body, turn_first, turn_last, whole_of, said_all}
use Rattle.yacc_reader.proofs.productions.pack.Goals as goal

pub loop-token-init : goal.loop-token-init
loop-token-init c =
    let n = c.new-token-items.ensures in
    rw (c.into_iter-token-iterator.ensures.into_iter_gives, n.mode, n.at, zero_body c.default-body.result c.default-body.ensures) (
      n.text,
      c.requires.long,
      record { production = omega arith; owner = omega arith; symbols = omega arith; span = tt },
      λ l p. turn_first _ _ _ (said_all _ l p),
    )

pub step-body-requires : goal.step-body-requires
step-body-requires c =
    let i = c.loop-token.invariant in
    let R = read_in _ c.loop-token.token-iterator i.0 _ _ c.in-Some.ensures.steps in
    record { inside = (R.leads.inside, c.requires.short); long = i.1; small = i.2 }

pub loop-token-preserved : goal.loop-token-preserved
loop-token-preserved c =
    let i = c.loop-token.invariant in
    let R = read_in _ c.loop-token.token-iterator i.0 _ _ c.in-Some.ensures.steps in (
      R.text,
      c.step-body.auto.grammar ∙ i.1,
      c.step-body.ensures.small,
      λ l p. rw R.at (c.step-body.ensures.turn (source_in l.pieces) (c.args.symbols.now.named.held l p) (whole_of _ l p (c.requires.readable l p)) _ _ _ R.leads (says_in _ c.loop-token.token-iterator i.0 _ _ R) R.mode (i.3 l p)),
    )

pub returns : goal.returns
returns c =
    let i = c.loop-token.invariant in
    λ l p. turn_last (source_in l.pieces) _ _ _ _ _ (i.3 l p) (ends_in _ _ i.0 _ c.in-None.ensures.steps) (whole_of _ l p (c.requires.readable l p)) i.1
