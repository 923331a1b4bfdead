use Rattle.lr1_tables.proofs.state_conflicts.Counts.{clashes_in_lem}
use Rattle.lr1_tables.proofs.conflict_words.write_state.Goals as goal

pub write_actions-requires : goal.write_actions-requires
write_actions-requires c = let G = c.requires.by_index.3 in rw (c.new-actions.ensures.productions, clashes_in_lem _ _ _ _ _ G _ _ _ (c.new-actions.ensures.reductions _ _ _ G) (c.new-actions.ensures.shifts _ _ _ G)) c.requires.by_index.4

pub returns : goal.returns
returns c = λ T e sets G. rw (← (clashes_in_lem T c.args.grammar.words.now c.args.grammar.productions e sets G c.args.state.now c.new-actions.result.reductions c.new-actions.result.shifts.0 (c.new-actions.ensures.reductions T e sets G) (c.new-actions.ensures.shifts T e sets G))) (rw c.new-actions.ensures.productions at c.write_actions.ensures)
