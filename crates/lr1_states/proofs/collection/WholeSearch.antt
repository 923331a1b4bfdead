-- Laws of the whole search.
use mathlib.Core.Path.{◌≡◌, refl}
use Rattle.std.proofs.Common.{Result, Err}
use mathlib.Core.Bool.{true, false}
use mathlib.Core.List.{List, [], ◌∷◌}
use Prim.Native.Nat.{ℕ}
use Rattle.lr1_states.specs.canonical.States.{start_state}
use Rattle.lr1_states.specs.canonical.Outcome.{number_of}
use Rattle.lr1_states.specs.goto.Steps.{collect_to, found_to}
use Rattle.lr1_states.specs.goto.Search.{Search}
use Rattle.lr1_states.proofs.goto.Steps.{first-full, first_fits}
use Rattle.lr1_states.specs.start_state.Start.{Started}
use Rattle.lr1_states.specs.collection.Rows.{FoundAs}
use Rattle.lr1_states.specs.declared.goto.Halt.{Halt}
use Rattle.lr1_states.specs.declared.goto.Halt.TheVariants.{Records}
use Rattle.lr1_states.specs.declared.goto.Source.{Source}
use Rattle.lr1_states.specs.collection.Ready.{Ready}

module _ (source : Source) (start : ℕ) (s : Ready source start) (ws bs : List ℕ) (n : ℕ) where
  -- the search that state 0 begins
  abbrev pub begun : Started s.T start s.room ws bs true × (n ≡ 1) → Search source ws bs n
  begun k = record {
    T = s.T;
    start = start;
    room = s.room;
    Rs = start_state s.T start ∷ [];
    grammar = s.grammar;
    started = rw (← s.grammar.many) s.started;
    nonterminals_are = s.counted.nonterminals_are;
    fixed_is = s.counted.fixed_is;
    fixed_small = s.small;
    limit_is = s.counted.limit_is;
    holds = k.0.holds refl;
    many = k.1;
  }

  pub none_fit : (h : Halt) → (h ≡ Records) × Started s.T start s.room ws bs false → (ws' bs' E es : List ℕ) (n' : ℕ) → FoundAs s.T start (found_to s.T start s.room) ws' bs' E es n' (Err h)
  unfolding FoundAs number_of
  none_fit h k ws' bs' E es n' = rw k.0 (first-full s.T start s.room (k.1.full refl))

  pub goes_on : Started s.T start s.room ws bs true × (n ≡ 1) → (ws' bs' E es : List ℕ) (n' : ℕ) (r : Result (Unit {0}) Halt) → FoundAs s.T start (collect_to 129 s.T s.room (start_state s.T start ∷ []) []) ws' bs' E es n' r
      → FoundAs s.T start (found_to s.T start s.room) ws' bs' E es n' r
  goes_on k ws' bs' E es n' r h = rw (first_fits s.T start s.room (k.0.fits refl)) h
