use Rattle.std.proofs.Common.{sym, refl, ◌∙◌, arith, ltb-false, ltb-true}
use Rattle.enumerator.proofs.example.LabelList.{some_label, item-production, item_small}
use Rattle.enumerator.proofs.example.Parts.{cursor_is, cursor_none}
use Rattle.enumerator.proofs.example.cursor_part.Goals as goal

pub symbols-symbols-requires : goal.symbols-symbols-requires
symbols-symbols-requires c = let A = c.args in
    let e = c.label_item-first.ensures in
    item-production A.grammar.words.now A.grammar.productions A.labels.now c.requires 0 (some_label _ c.requires) _ _ e.0 e.1

pub can_shift-requires : goal.can_shift-requires
can_shift-requires c = let A = c.args in
    let e = c.label_item-first.ensures in
    item-production A.grammar.words.now A.grammar.productions A.labels.now c.requires 0 (some_label _ c.requires) _ _ e.0 e.1

pub overflow_mul-from : goal.overflow_mul-from
overflow_mul-from c = let A = c.args in
    let e = c.label_item-first.ensures in
    omega (arith, item_small A.grammar.words.now A.grammar.productions A.labels.now c.requires 0 (some_label _ c.requires) _ _ e.0 e.1 A.grammar.packed)

pub overflow_add-result : goal.overflow_add-result
overflow_add-result c = let A = c.args in
    let e = c.label_item-first.ensures in
    omega (arith, item_small A.grammar.words.now A.grammar.productions A.labels.now c.requires 0 (some_label _ c.requires) _ _ e.0 e.1 A.grammar.packed)

pub offset_bounds-symbols-from : goal.offset_bounds-symbols-from
offset_bounds-symbols-from c = let A = c.args in
    let e = c.label_item-first.ensures in
    omega (arith, item_small A.grammar.words.now A.grammar.productions A.labels.now c.requires 0 (some_label _ c.requires) _ _ e.0 e.1 A.grammar.packed)

pub slice_bounds-result-end : goal.slice_bounds-result-end
slice_bounds-result-end c = let A = c.args in
    let e = c.label_item-first.ensures in
    rw c.symbols-symbols.ensures (cursor_is A.grammar.words.now A.grammar.productions A.grammar.packed A.labels.now c.requires (some_label _ c.requires) _ _ e.0 e.1 (ltb-true _ _ (sym c.can_shift.ensures ∙ c.if-can_shift.true)) _ refl).0

pub returns-then-can_shift : goal.returns-then-can_shift
returns-then-can_shift c = let A = c.args in
    let e = c.label_item-first.ensures in
    rw c.symbols-symbols.ensures (cursor_is A.grammar.words.now A.grammar.productions A.grammar.packed A.labels.now c.requires (some_label _ c.requires) _ _ e.0 e.1 (ltb-true _ _ (sym c.can_shift.ensures ∙ c.if-can_shift.true)) _ refl).1

pub returns-else-can_shift : goal.returns-else-can_shift
returns-else-can_shift c = let A = c.args in
    let e = c.label_item-first.ensures in
    cursor_none A.grammar.words.now A.grammar.productions A.grammar.packed A.labels.now c.requires (some_label _ c.requires) _ _ e.0 e.1 (ltb-false _ _ (sym c.can_shift.ensures ∙ c.if-can_shift.false))
