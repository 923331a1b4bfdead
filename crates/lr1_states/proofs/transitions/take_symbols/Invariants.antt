use mathlib.Core.List.{[]}
use mathlib.Core.Path.{◌≡◌}
use Prim.Native.Nat.{◌+◌}
use lib.ListN.{length, get_or}
use Rattle.lr1_states.proofs.transitions.Laws.{Turn}
use Rattle.lr1_states.specs.goto.Search.{Search}
use Rattle.lr1_states.proofs.transitions.take_symbols.Given as goal

abbrev pub invariant-loop-n : goal.invariant-loop-n
invariant-loop-n l = (length l.kernel ≡ length l.initial.kernel) × ((s : Search l.source l.initial.words l.initial.begins.items l.initial.begins.states) → Turn s.T s.start s.room (get_or s.Rs l.k []) s.Rs l.words l.begins.items l.initial.edges.words l.edges.words l.n l.initial.edges.many l.edges.many l.begins.states)

abbrev pub invariant-loop-terminal : goal.invariant-loop-terminal
invariant-loop-terminal l = (length l.kernel ≡ length l.fn.kernel) × ((s : Search l.source l.fn.words l.fn.begins.items l.fn.begins.states) → Turn s.T s.start s.room (get_or s.Rs l.k []) s.Rs l.words l.begins.items l.fn.edges.words l.edges.words (l.source.sizes.nonterminals + l.terminal) l.fn.edges.many l.edges.many l.begins.states)
