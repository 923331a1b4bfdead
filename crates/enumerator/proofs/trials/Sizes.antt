-- An example's words fit the buffer that refusal 11 asks for (1,158 words), so that an example changes no buffer's length.
use Rattle.std.proofs.Common.{◌≡◌, ℕ, ◌≤◌, List, length, arith}
use mathlib.Core.List.{Memᴰ}
use Rattle.lr1_base.specs.repr.Sizes.{example_room}
use Rattle.lr1_base.proofs.words.Lent.{length-in_front}
use Rattle.lr1_base.specs.words.Lent.{in_front}
use Rattle.lr1_base.specs.repr.Meaning.{Production, Table, TableFits}
use Rattle.lr1_base.proofs.repr.Lists.{length_mapped}
use Rattle.enumerator.proofs.example.Sizes.{at_most_1158, short_of_lem}
use Rattle.trace_graph.specs.Graph.{Node, TraceEdge}
use Rattle.enumerator.specs.trials.Trials.{Path, ends_of, trials}
use Rattle.enumerator.specs.trials.Lister.{label_at, labels_of, says}
use Rattle.enumerator.proofs.trials.Short.{short_trial}

pub length_labels : (ps : List Production) (es : List TraceEdge) (p : Path) → length (labels_of ps es p) ≡ length p
unfolding labels_of
length_labels ps es p = length_mapped (label_at ps es) p

module _ (T : Table) (F : TableFits T) (es : List TraceEdge) (start : Node) where
  pub says-fits : (p : Path) → Memᴰ p (trials (ends_of es) start) → length (says T es p) ≤ example_room
  unfolding says
  says-fits p m =
      let a = short_trial (ends_of es) start p m in
      let b = length_labels T.productions es p in
      at_most_1158 T.productions (short_of_lem T F) (labels_of T.productions es p) (omega arith)

  pub buffer_stays : (p : Path) (buffer : List ℕ) → Memᴰ p (trials (ends_of es) start) → example_room ≤ length buffer → length (in_front (says T es p) buffer) ≡ length buffer
  buffer_stays p buffer m h = let a = says-fits p m in length-in_front (says T es p) buffer (omega arith)
