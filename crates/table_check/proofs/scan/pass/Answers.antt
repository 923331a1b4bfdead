use Rattle.std.proofs.Common.{sym, ◌∙◌, arith}
use Rattle.table.proofs.Reached.{loose-named}
use Rattle.table_check.proofs.Passed.{tested, reaching_no}
use Rattle.table_check.proofs.Ways.{next_named, next_end, next_unasked, next_bad}
use Rattle.table_check.proofs.Faults.{fault-marked}
use Rattle.table_check.proofs.scan.pass.Goals as goal
use Rattle.table_check.proofs.scan.pass.Goals.{else-next-ne0-via-then-next-ne0+else-any, else-next-ne0-via-else-next-ne0}

pub pass_to-roles-requires : goal.pass_to-roles-requires
pass_to-roles-requires g c = let A = c.args.this.gathered.surveyed.of in
    let N = loose-named _ _ _ (tested _ _ _ _ c.loose.ensures.records c.names.ensures c.if-names.true) in
    omega (arith, c.well_formed, c.requires.reaching.symbols.long, c.args.this.inside, A.records, N.early)

pub loose_fault-requires : goal.loose_fault-requires
loose_fault-requires g c = next_named _ _ _ c.word-next.ensures _ _ _ (tested _ _ _ _ c.loose.ensures.records c.names.ensures c.if-names.true)

pub returns-then-names-clause-value : goal.returns-then-names-clause-value
returns-then-names-clause-value g c = let A = c.args.this.gathered.surveyed.of in
    let m = c.pass_to-roles.ensures in
    c.loose_fault.ensures ∙ fault-marked _ _ _ _ _ c.requires.reaching (omega (arith, c.requires.loose, A.loose_at)) _ _ _ m.symbol m.item m.edge

pub returns-then-names-clause-reaching : goal.returns-then-names-clause-reaching
returns-then-names-clause-reaching g c = c.pass_to-roles.ensures.reaching _ c.word-next.ensures (tested _ _ _ _ c.loose.ensures.records c.names.ensures c.if-names.true) c.requires.reaching

pub returns-then-any-clause-value : goal.returns-then-any-clause-value
returns-then-any-clause-value g c = let A = c.args.this.gathered.surveyed.of in
    let m = c.roles-roles.ensures in
    next_bad _ _ _ c.word-next.ensures _ _ _ (tested _ _ _ _ c.loose.ensures.records c.names.ensures c.if-names.false) c.if-next-ne0.true (sym c.any.ensures ∙ c.if-any.true)
    ∙ fault-marked _ _ _ _ _ c.requires.reaching (omega (arith, c.requires.loose, A.loose_at)) _ _ _ m.symbol m.item m.edge

pub returns-then-any-clause-reaching : goal.returns-then-any-clause-reaching
returns-then-any-clause-reaching g c = reaching_no c.requires.reaching c.word-next.ensures (tested _ _ _ _ c.loose.ensures.records c.names.ensures c.if-names.false)

pub loose_fault-requires-2 : goal.loose_fault-requires-2
loose_fault-requires-2 g c = elim c.else-next-ne0.branch [
  | else-next-ne0-via-then-next-ne0+else-any w ↦ next_unasked _ _ _ c.word-next.ensures _ _ _ (sym w.any.ensures ∙ w.if-any.false)
  | else-next-ne0-via-else-next-ne0 w ↦ next_end _ _ _ c.word-next.ensures _ _ _ w.if-next-ne0.false
]

pub returns-clause-value : goal.returns-clause-value
returns-clause-value g c = let A = c.args.this.gathered.surveyed.of in
    let m = c.roles-roles.ensures in
    c.loose_fault-2.ensures ∙ fault-marked _ _ _ _ _ c.requires.reaching (omega (arith, c.requires.loose, A.loose_at)) _ _ _ m.symbol m.item m.edge

pub returns-clause-reaching : goal.returns-clause-reaching
returns-clause-reaching g c = reaching_no c.requires.reaching c.word-next.ensures (tested _ _ _ _ c.loose.ensures.records c.names.ensures c.if-names.false)
