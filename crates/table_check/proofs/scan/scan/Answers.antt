use Rattle.std.proofs.Common.{refl, ap, arith}
use Rattle.table_check.specs.Faults.{fault_at, Best}
use Rattle.table_check.specs.Offences.{row_of}
use Rattle.table.specs.Words.{records}
use Rattle.table_check.specs.Rows.{number_of_row}
use Rattle.table_check.proofs.Faults.{pass_accepted, pass_refused}
use Rattle.table_check.proofs.Ways.{some_row}
use Rattle.table_check.proofs.scan.scan.Goals as goal

pub returns-in-None : goal.returns-in-None
returns-in-None g c = let A = c.args.gathered.surveyed.of in
    pass_accepted _ (omega (arith, A.room, A.loose_at, A.records)) _ _ _ refl (ap row_of c.in-None.is) c.scan_loose.ensures

pub refusal-requires : goal.refusal-requires
refusal-requires g c = let A = c.args.gathered.surveyed.of in
    let B : Best (fault_at c.args.gathered.surveyed.words.now) (records c.args.gathered.surveyed.words.now) (number_of_row c.in-Some.offence.row) c.in-Some.offence.place = rw c.in-Some.is at c.scan_loose.ensures in
    omega (arith, A.few, A.records, B.within)

pub returns-in-Some : goal.returns-in-Some
returns-in-Some g c = let A = c.args.gathered.surveyed.of in
    let B : Best (fault_at c.args.gathered.surveyed.words.now) (records c.args.gathered.surveyed.words.now) (number_of_row c.in-Some.offence.row) c.in-Some.offence.place = rw c.in-Some.is at c.scan_loose.ensures in
    rw (c.refusal.ensures.number, c.refusal.ensures.place)
    (pass_refused _ (omega (arith, A.room, A.loose_at, A.records)) _ _ _ refl (some_row c.in-Some.offence.row) B)
