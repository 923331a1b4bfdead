use Rattle.std.proofs.Common.{◌≡◌, ◌<◌, [], All, take, vec_len}
use Rattle.automaton.specs.Reach.{size_of}
use Rattle.automaton.proofs.Reached.{Exploring}
use Rattle.automaton.proofs.reach.reachable.Given as goal

abbrev pub invariant-loop-n : goal.invariant-loop-n
invariant-loop-n l = record {
  len : vec_len l.frontier.met ≡ vec_len l.grammar.nonterminals;
  none : l.reached.items ≡ [];
  exploring : Exploring l.grammar (take l.n-index l.starts) l.frontier.met.items l.frontier.waiting.items [];
  in_range : All (λ m. m < vec_len l.frontier.met) l.frontier.waiting.items;
}

abbrev pub invariant-visiting : goal.invariant-visiting
invariant-visiting l = record {
  len : vec_len l.frontier.met ≡ vec_len l.grammar.nonterminals;
  exploring : Exploring l.grammar l.starts l.frontier.met.items l.frontier.waiting.items l.reached.items;
  in_range : All (λ m. m < vec_len l.frontier.met) l.frontier.waiting.items;
  reached_in_range : All (λ m. m < vec_len l.grammar.nonterminals) l.reached.items;
}

abbrev pub decreases-visiting : goal.decreases-visiting
decreases-visiting l = size_of l.frontier
