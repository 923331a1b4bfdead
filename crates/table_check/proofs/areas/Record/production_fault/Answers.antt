use Rattle.table_check.proofs.Ways.{production_1, production_2, production_3, production_4, production_5}
use mathlib.Core.Path.{sym, ◌∙◌}
use native.Mathlib.Omega.{arith}
use Rattle.table_check.proofs.areas.Record.production_fault.Goals as goal
use Rattle.table_check.proofs.areas.Record.production_fault.Goals.{then-bad_production_index-via-then-bad_production_index, then-bad_production_index-via-else-bad_production_index+then-bad_loose_index}

pub returns-then-bad_production_index : goal.returns-then-bad_production_index
returns-then-bad_production_index c = elim c.then-bad_production_index.branch [
  | then-bad_production_index-via-then-bad_production_index w ↦ production_1 _ _ (sym c.bad_production_index.ensures ∙ w.if-bad_production_index.true)
  | then-bad_production_index-via-else-bad_production_index+then-bad_loose_index w ↦ production_2 _ _ (sym c.bad_production_index.ensures ∙ w.if-bad_production_index.false)
      (sym w.bad_loose_index.ensures ∙ w.if-bad_loose_index.true)
]

pub returns-then-g-p-ne1 : goal.returns-then-g-p-ne1
returns-then-g-p-ne1 c = let A = c.args.self.gathered.surveyed.of in
    production_3 _ _ (sym c.bad_production_index.ensures ∙ c.if-bad_production_index.false) (sym c.bad_loose_index.ensures ∙ c.if-bad_loose_index.false)
    _ (omega arith) (omega arith) _ c.args.self.gathered.known.held c.if-g-p-ne1.true

pub returns-then-g-p-gt-SYMBOLS : goal.returns-then-g-p-gt-SYMBOLS
returns-then-g-p-gt-SYMBOLS c = let A = c.args.self.gathered.surveyed.of in
    production_4 _ _ (sym c.bad_production_index.ensures ∙ c.if-bad_production_index.false) (sym c.bad_loose_index.ensures ∙ c.if-bad_loose_index.false)
    _ (omega arith) (omega arith) _ c.args.self.gathered.known.held c.if-g-p-ne1.false _ c.args.self.gathered.known.lengths c.if-g-p-gt-SYMBOLS.true

pub returns : goal.returns
returns c = let A = c.args.self.gathered.surveyed.of in
    production_5 _ _ (sym c.bad_production_index.ensures ∙ c.if-bad_production_index.false) (sym c.bad_loose_index.ensures ∙ c.if-bad_loose_index.false)
    _ (omega arith) (omega arith) _ c.args.self.gathered.known.held c.if-g-p-ne1.false _ c.args.self.gathered.known.lengths c.if-g-p-gt-SYMBOLS.false
