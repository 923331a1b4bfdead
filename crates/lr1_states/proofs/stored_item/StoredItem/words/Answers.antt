use Rattle.std.proofs.Common.{refl}
use Rattle.lr1_states.specs.stored_item.Stored.{entry_words}
use Rattle.lr1_states.proofs.stored_item.StoredItem.words.Goals as goal

pub returns : goal.returns
unfolding entry_words
returns c = refl
