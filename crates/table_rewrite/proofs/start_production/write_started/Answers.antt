use mathlib.Core.Path.{refl, ◌∙◌}
use Rattle.table_rewrite.proofs.start_production.Written.{extent, counted_from, behind_productions, counted, started_short, started_target, started_written}
use native.Mathlib.Omega.{arith}
use Rattle.table_rewrite.proofs.start_production.write_started.Goals as goal

pub overflow_add-records : goal.overflow_add-records
overflow_add-records c = let Q = c.requires.grammar_of in
    omega (arith, counted Q.0 _ _ _ _ _ Q.1 _ _ c.count_symbols.ensures (counted_from Q.0 _ _ _ _ _ Q.1 _ c.productions_at.ensures _), (extent Q.0 _ _ _ _ _ Q.1).few)

pub returns-then-records-out : goal.returns-then-records-out
returns-then-records-out c = λ U G. started_short U _ _ _ _ _ G _ _ c.count_symbols.ensures (counted_from U _ _ _ _ _ G _ c.productions_at.ensures _) _ _ c.if-records-out.true

pub write_front-requires : goal.write_front-requires
write_front-requires c = let Q = c.requires.grammar_of in
    (Q.0, (started_target Q.0 _ _ _ _ _ Q.1 _ _ c.count_symbols.ensures (counted_from Q.0 _ _ _ _ _ Q.1 _ c.productions_at.ensures _) _ c.if-records-out.false _ refl, Q.1.packed))

pub write_productions-requires : goal.write_productions-requires
write_productions-requires c = let Q = c.requires.grammar_of in
    (Q.0, (started_target Q.0 _ _ _ _ _ Q.1 _ _ c.count_symbols.ensures (counted_from Q.0 _ _ _ _ _ Q.1 _ c.productions_at.ensures _) _ c.if-records-out.false _ (c.put.auto.table ∙ c.write_front.auto.out), Q.1.packed))

pub write_symbols-requires : goal.write_symbols-requires
write_symbols-requires c = let Q = c.requires.grammar_of in
    (Q.0, (Q.1.packed, (behind_productions Q.0 _ _ _ _ _ Q.1 _ c.productions_at.ensures, (started_target Q.0 _ _ _ _ _ Q.1 _ _ c.count_symbols.ensures (counted_from Q.0 _ _ _ _ _ Q.1 _ c.productions_at.ensures _) _ c.if-records-out.false _ (c.write_productions.auto.out ∙ c.put.auto.table ∙ c.write_front.auto.out)).room)))

pub overflow_cast-result : goal.overflow_cast-result
overflow_cast-result c = let Q = c.requires.grammar_of in
    omega (arith, counted Q.0 _ _ _ _ _ Q.1 _ _ c.count_symbols.ensures (counted_from Q.0 _ _ _ _ _ Q.1 _ c.productions_at.ensures _), (extent Q.0 _ _ _ _ _ Q.1).few)

pub returns : goal.returns
returns c = λ U G.
    let T = started_target U _ _ _ _ _ G _ _ c.count_symbols.ensures (counted_from U _ _ _ _ _ G _ c.productions_at.ensures _) _ c.if-records-out.false in
    started_written U _ _ _ _ _ G _ _ c.count_symbols.ensures (counted_from U _ _ _ _ _ G _ c.productions_at.ensures _) _ c.if-records-out.false _ _ _ _ _ c.write_front.auto.out
    (c.write_front.ensures U (T _ refl) G.packed) (rw c.states_at.ensures at c.put.ensures)
    (c.write_productions.ensures U (T _ (c.put.auto.table ∙ c.write_front.auto.out)) G.packed)
    (c.write_symbols.ensures U G.packed (behind_productions U _ _ _ _ _ G _ c.productions_at.ensures) (T _ (c.write_productions.auto.out ∙ c.put.auto.table ∙ c.write_front.auto.out)).room)
