use Rattle.std.proofs.Common.{◌≡◌, ◌<◌, All, take, vec_len}
use Rattle.automaton.specs.Reach.{size_of}
use Rattle.automaton.proofs.Reached.{Meeting}
use Rattle.automaton.proofs.reach.Frontier.meet_leading.Given as goal

abbrev pub invariant-loop-q : goal.invariant-loop-q
invariant-loop-q l = record {
  len : vec_len l.self.met ≡ vec_len l.initial.self.met;
  meeting : Meeting l.grammar (take l.q-index l.productions) l.initial.self.met.items l.self.met.items l.initial.self.waiting.items l.self.waiting.items;
  in_range : All (λ m. m < vec_len l.self.met) l.self.waiting.items;
  size : size_of l.self ≡ size_of l.initial.self;
}
