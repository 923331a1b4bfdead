use Rattle.lr1_states.proofs.start_state.Laws.{start_kernel, start-closed, holds_none, start_told}
use Rattle.std.proofs.Common.{◌*◌, refl, arith, length-take-le}
use Rattle.lr1_base.specs.repr.Sizes.{index_limit}
use Rattle.lr1_states.proofs.start_state.first_state.Goals as goal

pub close-state-requires : goal.close-state-requires
close-state-requires c = record { held = c.requires.held; kernel = start_kernel _ _ _ _ _ _ (omega (arith, c.requires.held.1.tokens, c.requires.held.1.fits.few_terminals)) c.requires.start_lt_productions.0 c.eof.ensures.0 c.place.ensures.is c.words.ensures }

pub append-requires : goal.append-requires
append-requires c = let r = c.requires.start_lt_productions in
    let n = length-take-le (index_limit * c.args.source.grammar.productions) c.close-state.result (rw c.close-state.ensures.0 (omega (arith, c.args.source.grammar.packed.few))) in
    record { items_few = (omega (arith, n, c.args.source.grammar.packed.few), r.1, r.2); record_limit_in_bounds = (r.3, omega arith, rw r.4 (omega arith)) }

pub returns : goal.returns
returns c = λ T room G k. start_told _ _ T _ room _ _ _ c.args.source.grammar.productions k _ _ _ _ c.close-state.result (holds_none T _ _ _ c.requires.start_lt_productions.3 c.args.begins.now.long c.requires.start_lt_productions.4) (start-closed _ _ _ _ _ _ (omega (arith, c.requires.held.1.tokens, c.requires.held.1.fits.few_terminals)) c.requires.start_lt_productions.0 c.eof.ensures.0 c.place.ensures.is c.words.ensures T _ _ _ G c.close-state.ensures.1) c.requires.start_lt_productions.4 _ _ refl c.append.result c.append.ensures
