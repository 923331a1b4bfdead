use lib.ListN.{length-set}
use Rattle.table.proofs.Written.{production_place-asked, stored_room, few_words, production_stored}
use native.Mathlib.Omega.{arith}
use Rattle.table.proofs.accepted_table.AcceptedTable.read_symbols_of.Goals as goal

pub word-start-requires : goal.word-start-requires
word-start-requires c = production_place-asked _ c.args.self.accepted _ _ _ c.production_record-record.ensures c.requires.1 (omega arith)

pub word-end-requires : goal.word-end-requires
word-end-requires c = production_place-asked _ c.args.self.accepted _ _ _ c.production_record-record.ensures c.requires.1 (omega arith)

pub overflow_mul-base : goal.overflow_mul-base
overflow_mul-base c = omega (arith, few_words _ c.args.self.accepted _ c.requires.1)

pub overflow_add-grammar : goal.overflow_add-grammar
overflow_add-grammar c = omega (arith, few_words _ c.args.self.accepted _ c.requires.1)

pub offset_bounds-grammar-base : goal.offset_bounds-grammar-base
offset_bounds-grammar-base c = omega (arith, few_words _ c.args.self.accepted _ c.requires.1)

pub bounds-grammar-base : goal.bounds-grammar-base
bounds-grammar-base c = omega (arith, stored_room _ c.args.self.accepted _ c.requires.1 _ _ _ c.requires.0 c.store_symbols-count.ensures)

pub overflow_add-grammar-2 : goal.overflow_add-grammar-2
overflow_add-grammar-2 c = omega (arith, few_words _ c.args.self.accepted _ c.requires.1)

pub offset_bounds-grammar-base-2 : goal.offset_bounds-grammar-base-2
offset_bounds-grammar-base-2 c = omega (arith, few_words _ c.args.self.accepted _ c.requires.1)

pub bounds-grammar-base-2 : goal.bounds-grammar-base-2
bounds-grammar-base-2 c = let r = stored_room _ c.args.self.accepted _ c.requires.1 _ _ _ c.requires.0 c.store_symbols-count.ensures in simp length-set (omega arith)

pub overflow_add-grammar-3 : goal.overflow_add-grammar-3
overflow_add-grammar-3 c = omega (arith, few_words _ c.args.self.accepted _ c.requires.1)

pub offset_bounds-grammar-base-3 : goal.offset_bounds-grammar-base-3
offset_bounds-grammar-base-3 c = omega (arith, few_words _ c.args.self.accepted _ c.requires.1)

pub bounds-grammar-base-3 : goal.bounds-grammar-base-3
bounds-grammar-base-3 c = let r = stored_room _ c.args.self.accepted _ c.requires.1 _ _ _ c.requires.0 c.store_symbols-count.ensures in simp length-set (omega arith)

pub returns : goal.returns
returns c = production_stored _ c.args.self.accepted _ c.requires.1 _ _ _ _ _ _ c.requires.0 c.production_record-record.ensures c.word-start.ensures.0 c.word-end.ensures.0 c.store_symbols-count.ensures
