use Rattle.std.proofs.Common.{◌≡◌, ◌+◌, ◌*◌, get_or, ◌∙◌}
use Rattle.trace.proofs.edge_codes.Coding.{key-least, key_itself}
use Rattle.trace.proofs.edge_codes.KindLaws.{not_between}
use Rattle.trace.proofs.edge_codes.EdgeCode.key.Goals as goal
use Rattle.lr1_base.specs.item.Places.{item_place}

pub word-requires : goal.word-requires
word-requires c = (c.requires.2.1 _ c.requires.0, c.requires.1)

pub returns-in-Between : goal.returns-in-Between
unfolding item_place
returns-in-Between c =
    let w : c.word.result ≡ 2176 + (get_or c.args.least.now c.args.self.item.production 0 * 17 + c.args.self.item.index) = rw c.in-Between.is at c.word.ensures.0 in
    (c.word.ensures.1, λ ps L h. rw c.in-Between.is (w ∙ key-least ps _ c.args.self.item.production c.args.self.item.index L h))

pub returns-in-IntoItem : goal.returns-in-IntoItem
unfolding item_place
returns-in-IntoItem c = (c.word-in-IntoItem.ensures.1, λ ps L h. c.word-in-IntoItem.ensures.0 ∙ key_itself ps _ c.args.self.item.production c.args.self.item.index (not_between _ c.in-IntoItem.is))
