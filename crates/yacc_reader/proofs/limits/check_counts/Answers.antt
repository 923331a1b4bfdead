use Rattle.yacc_reader.proofs.limits.Laws.{low, small, limit_nonterminals, limit_terminals, limit_productions, limit_long, limit_table, limit_places, limit_none}
use native.Mathlib.Omega.{arith}
use Rattle.yacc_reader.proofs.limits.check_counts.Goals as goal
use Rattle.yacc_reader.proofs.limits.check_counts.Goals.{then-n-gt-LIMIT-via-then-n-gt-LIMIT, then-n-gt-LIMIT-via-else-n-gt-LIMIT+then-m-gt-TERMINALS, then-n-gt-LIMIT-via-else-n-gt-LIMIT+else-m-gt-TERMINALS+then-counts-gt-LIMIT, then-table-records-via-then-table-records, then-table-records-via-else-table-records+then-places-n}

pub returns-then-n-gt-LIMIT : goal.returns-then-n-gt-LIMIT
returns-then-n-gt-LIMIT c = λ w. elim c.then-n-gt-LIMIT.branch [
  | then-n-gt-LIMIT-via-then-n-gt-LIMIT b ↦ limit_nonterminals _ _ _ w _ _ b.if-n-gt-LIMIT.true
  | then-n-gt-LIMIT-via-else-n-gt-LIMIT+then-m-gt-TERMINALS b ↦ limit_terminals _ _ _ w _ _ b.if-n-gt-LIMIT.false b.if-m-gt-TERMINALS.true
  | then-n-gt-LIMIT-via-else-n-gt-LIMIT+else-m-gt-TERMINALS+then-counts-gt-LIMIT b ↦ limit_productions _ _ _ w _ _ b.if-n-gt-LIMIT.false b.if-m-gt-TERMINALS.false b.if-counts-gt-LIMIT.true
]

pub overflow_add-result-in-Some : goal.overflow_add-result-in-Some
overflow_add-result-in-Some c = let a = c.if-n-gt-LIMIT.false in let b = c.if-counts-gt-LIMIT.false in let d = low _ _ _ c.requires _ c.in-Some.is in omega (arith, a, b, d)

pub overflow_cast-result : goal.overflow_cast-result
overflow_cast-result c = let a = c.if-n-gt-LIMIT.false in let b = c.if-counts-gt-LIMIT.false in let d = low _ _ _ c.requires _ c.in-Some.is in omega (arith, a, b, d)

pub returns-in-Some : goal.returns-in-Some
returns-in-Some c = λ w. limit_long _ _ _ w _ _ c.if-n-gt-LIMIT.false c.if-m-gt-TERMINALS.false c.if-counts-gt-LIMIT.false _ c.in-Some.is

pub overflow_add-records-3 : goal.overflow_add-records-3
overflow_add-records-3 c = let a = c.if-n-gt-LIMIT.false in let b = c.if-counts-gt-LIMIT.false in let s = small _ _ _ c.requires c.if-counts-gt-LIMIT.false c.in_default.is in omega (arith, a, b, s)

pub returns-then-table-records : goal.returns-then-table-records
returns-then-table-records c = λ w. elim c.then-table-records.branch [
  | then-table-records-via-then-table-records b ↦ limit_table _ _ _ w _ _ c.if-n-gt-LIMIT.false c.if-m-gt-TERMINALS.false c.if-counts-gt-LIMIT.false c.in_default.is b.if-table-records.true
  | then-table-records-via-else-table-records+then-places-n b ↦ limit_places _ _ _ w _ _ c.if-n-gt-LIMIT.false c.if-m-gt-TERMINALS.false c.if-counts-gt-LIMIT.false c.in_default.is b.if-table-records.false b.if-places-n.true
]

pub returns : goal.returns
returns c = λ w. limit_none _ _ _ w _ _ c.if-n-gt-LIMIT.false c.if-m-gt-TERMINALS.false c.if-counts-gt-LIMIT.false c.in_default.is c.if-table-records.false c.if-places-n.false
