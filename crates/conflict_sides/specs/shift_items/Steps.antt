-- A step of the iterator over the items that a conflict shifts: the first of those that are left from its place on, and the place behind that one's.
use Rattle.std.specs.Prelude.{Option, MatchOption, ◌≡◌, ◌*◌, ◌<◌, ◌≤◌, List}
use Rattle.std.specs.Iterator.{YieldsFirstBy}
use Rattle.lr1_base.specs.repr.Sizes.{symbol_limit}
use Rattle.lr1_base.specs.repr.Meaning.{Item}
use Rattle.lr1_base.specs.declared.item.Item.{Item as ItemOf}
use Rattle.conflict_sides.specs.declared.shift_items.ShiftItemIter.{ShiftItemIter}
use Rattle.conflict_sides.specs.shift_items.Left.{meant, items_wanted}

-- those that are left
abbrev pub left_of : ShiftItemIter → List Item
left_of s = items_wanted s.grammar.words.now s.marks.now s.token s.order.now s.grammar.productions s.at

-- the items are read from the same words by the same token
abbrev pub SameItems : ShiftItemIter → ShiftItemIter → Type 0
SameItems s u = (u.grammar.words.now ≡ s.grammar.words.now) × (u.grammar.productions ≡ s.grammar.productions) × (u.order.now ≡ s.order.now) × (u.marks.now ≡ s.marks.now) × (u.token ≡ s.token)

abbrev pub ShiftItemStep : ShiftItemIter → Option ItemOf → ShiftItemIter → Type 0
ShiftItemStep s r u = YieldsFirstBy meant left_of s r u × SameItems s u × MatchOption r (u.at ≡ s.at) (λ i. (s.at < u.at) × (u.at ≤ s.grammar.productions * symbol_limit))
