use Rattle.table.specs.Decoded.{production_chain}
use Rattle.table.specs.Words.{chain, production_area}
use Rattle.table_check.specs.Known.{area, bump}
use Rattle.table_check.proofs.Steps.{Holding}
use Rattle.table_check.proofs.held.hold_chain.Given as goal

abbrev pub invariant-loop-r : goal.invariant-loop-r
invariant-loop-r l =
    let i = l.r-iterator in
    Holding l.fn.s.areas.productions_at l.fn.s.areas.loose_at (chain i.surveyed.words.now (area i.area.from i.area.past) i.last i.at) l.held
    (bump (production_area l.fn.s.words.now) l.initial.held (production_chain l.fn.s.words.now l.fn.n))
