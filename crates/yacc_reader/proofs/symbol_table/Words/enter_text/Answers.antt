use Rattle.std.proofs.Common.{refl, ◌∙◌}
use Rattle.yacc_reader.proofs.events.Laws.{read_in, judged_in, says_in, ends_in}
use Rattle.yacc_reader.proofs.symbol_table.Laws.{zero_ids, turn_first, turn_within, turn_open, turn_lefts, turn_tokens, no_quote, turn_next, turn_last}
use Rattle.yacc_reader.proofs.symbol_table.Words.enter_text.Goals as goal

pub loop-token-init : goal.loop-token-init
loop-token-init c =
    let n = c.new-token-items.ensures in
    rw (c.into_iter-token-iterator.ensures.into_iter_gives, n.mode, n.at, zero_ids _ c.default-ids.ensures)
    (n.text, record { starts = refl; pasts = refl; ix = refl; lefts = refl; tokens = refl }, (refl, refl, refl, refl, refl), turn_first _ _ _ _ _ _ c.requires.0)

pub enter-ids-requires : goal.enter-ids-requires
enter-ids-requires c =
    let i = c.loop-token.invariant in
    let F = c.requires.0 in
    let R = read_in _ _ i.0 _ _ c.in-Some.ensures.steps in
    record {
      ready = record {
        names = turn_open _ _ _ _ _ _ _ _ _ i.3 _ _ _ _ _ F _ _ _ R.leads i.1.starts i.1.pasts i.1.ix;
        left = turn_lefts _ _ _ _ _ _ _ _ _ i.3 _ _ _ _ _ F _ _ _ R.leads i.1.lefts;
        token = turn_tokens _ _ _ _ _ _ _ _ _ i.3 _ _ _ _ _ F _ _ _ R.leads i.1.tokens;
      };
      within = turn_within _ _ _ _ _ _ _ _ _ i.3 _ _ _ F.short R.leads;
      no_quote = rw R.in_mode (no_quote _ _ _ (judged_in _ c.loop-token.token-iterator i.0) _ _ _ R.leads);
    }

pub loop-token-preserved : goal.loop-token-preserved
loop-token-preserved c =
    let i = c.loop-token.invariant in
    let R = read_in _ _ i.0 _ _ c.in-Some.ensures.steps in
    let e = c.enter-ids.ensures.enters in
    let m = e.room in
    let s = c.enter-ids.ensures.same in (
      R.text,
      record { starts = m.starts ∙ i.1.starts; pasts = m.pasts ∙ i.1.pasts; ix = m.ix ∙ i.1.ix; lefts = m.lefts ∙ i.1.lefts; tokens = m.tokens ∙ i.1.tokens },
      (s.0 ∙ i.2.0, s.1 ∙ i.2.1, s.2 ∙ i.2.2, s.3 ∙ i.2.3, s.4 ∙ i.2.4),
      rw R.at (turn_next _ _ _ _ _ _ _ _ _ i.3 _ _ _ _ _ _ _ _ _ _ R.leads e.grows (rw (says_in _ _ i.0 _ _ R) at e.moves) R.mode),
    )

pub returns-clause-named : goal.returns-clause-named
returns-clause-named c = let i = c.loop-token.invariant in turn_last _ _ _ _ _ _ _ _ _ i.3 (ends_in _ _ i.0 _ c.in-None.ensures.steps)
