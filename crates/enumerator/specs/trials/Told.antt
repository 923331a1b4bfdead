-- The second half of what holds of whole lists of calls (docs/RULES.md, "Listing"): what the plain lister's answers to a list of calls tell of the paths.
use Rattle.std.specs.Prelude.{◌≡◌, ℕ, suc, ◌<◌, ◌≤◌, Bool, true, false, ◌⊎◌, ◌↔◌, List, [], ◌∷◌, ◌++◌, map, length, take, drop, ◌==◌}
use mathlib.Core.List.{Memᴰ}
use Rattle.std.proofs.Math.Option.{Option, none, some}
use Rattle.lr1_base.specs.repr.Sizes.{trial_limit}
use Rattle.lr1_base.specs.repr.Lists.{keep}
use Rattle.lr1_base.specs.repr.Meaning.{Item, Table}
use Rattle.lr1_base.specs.lookahead.Tokens.{has}
use Rattle.first.specs.First.{FIRST}
use Rattle.enumerator.specs.example.Example.{ahead}
use Rattle.trace_graph.specs.Graph.{at_item, TraceEdge}
use Rattle.enumerator.specs.trials.Trials.{Path, ends_of, trials, is_example_in, IsTrial, Increasing, Enumerates}
use Rattle.enumerator.specs.trials.Lister.{Call, labels_of, passes, hands, says, Answer, example, end, refused, Out, fresh, plain_run, plain_lister}

-- an example's path in the place of its words
abbrev pub plainly : Path → List ℕ
plainly p = p

-- the plain lister that hands out the paths themselves
unfoldable pub path_lister : Table → List TraceEdge → Item → Option ℕ → List Call → List Out
path_lister T es start a cs = plain_run (hands T es a) plainly (trials (ends_of es) (at_item start)) cs fresh

abbrev pub spoken_answer : (Path → List ℕ) → Answer → Answer
spoken_answer say (example p) = example (say p)
spoken_answer say end = end
spoken_answer say (refused n) = refused n

-- the answer with the words of its example
abbrev pub spoken : (Path → List ℕ) → Out → Out
spoken say o = record { answer = spoken_answer say o.answer; count = o.count }

abbrev pub handed_by : Answer → List Path → List Path
handed_by (example p) ps = p ∷ ps
handed_by end ps = ps
handed_by (refused n) ps = ps

-- the paths handed out
abbrev pub handed : List Out → List Path
handed [] = []
handed (o ∷ os) = handed_by o.answer (handed os)

abbrev pub ends_at : Answer → Bool → Bool
ends_at (example p) b = b
ends_at end b = true
ends_at (refused n) b = elim (n == 13) [ true ↦ false | false ↦ b ]

-- the listing ends, with no refusal 13 before
abbrev pub ends : List Out → Bool
ends [] = false
ends (o ∷ os) = ends_at o.answer (ends os)

abbrev pub answers : List Out → List Answer
answers os = map (λ o. o.answer) os

-- the count after the calls, c before them
abbrev pub count_after : ℕ → List Out → ℕ
count_after c [] = c
count_after c (o ∷ os) = count_after o.count os

abbrev pub open_at : Answer → Bool → Bool
open_at (example p) o = o
open_at end o = false
open_at (refused n) o = elim (n == 13) [ true ↦ false | false ↦ o ]

-- whether the listing is open after the calls, o before them: the end and 13 close it
abbrev pub open_after : Bool → List Out → Bool
open_after o [] = o
open_after o (x ∷ xs) = open_after (open_at x.answer o) xs

-- after the end or 13 it ends again with its count, or is lent too little
abbrev pub EndsAgain : Answer → Type 0
EndsAgain (example p) = ⊥
EndsAgain end = Unit {0}
EndsAgain (refused n) = n ≡ 11

abbrev pub Closed : ℕ → List Out → Type 0
Closed c [] = Unit {0}
Closed c (o ∷ os) = (o.count ≡ c) × EndsAgain o.answer × Closed c os

-- an example past count c is a later trial than trial c, and the count after it its number; at the end the count is that of all trials; at refusal 13 it is
-- 100,000, and there are more trials; a call that is lent too little leaves it
abbrev pub NumberedAt : List Path → ℕ → Answer → ℕ → Type 0 → Type 0 → Type 0
NumberedAt ts c (example p) n more shut = ((m : ℕ) × (n ≡ suc m) × (c ≤ m) × (drop m ts ≡ p ∷ drop n ts)) × more
NumberedAt ts c end n more shut = (n ≡ length ts) × shut
NumberedAt ts c (refused k) n more shut = elim (k == 13) [ true ↦ (n ≡ trial_limit) × (trial_limit < length ts) × shut | false ↦ (k ≡ 11) × (n ≡ c) × more ]

abbrev pub Numbered : List Path → ℕ → List Out → Type 0
Numbered ts c [] = Unit {0}
Numbered ts c (o ∷ os) = NumberedAt ts c o.answer o.count (Numbered ts o.count os) (Closed o.count os)

-- what a lookahead asks of a path: FIRST of the first edge's cursor, then of the suffixes outward, has one of its terminals; or the lookahead has end, and all that is nullable
unfoldable pub Meets : Table → List TraceEdge → Option ℕ → Path → Type 0
Meets T es none p = Unit {0}
Meets T es (some set) p =
    let a = FIRST T (ahead T.productions (labels_of T.productions es p)) in
    ((k : ℕ) × (has a.tokens.0 k ≡ true) × (has set k ≡ true)) ⊎ ((a.nullable ≡ true) × (has set T.terminals ≡ true))

-- a path to hand out: a trial whose last edge comes from an item, and that the lookahead, if there is one, takes
pub record IsHanded (T : Table) (es : List TraceEdge) (start : Item) (a : Option ℕ) (p : Path) : Type 0 where
  pub trial : IsTrial (ends_of es) (at_item start) p
  pub example : is_example_in (ends_of es) p ≡ true
  pub meets : Meets T es a p

-- of the plain lister's answers to calls cs, with the paths in the place of their words
pub record Handed (T : Table) (es : List TraceEdge) (start : Item) (a : Option ℕ) (cs : List Call) : Type 0 where
  -- an example is the words of its path (docs/RULES.md, "An example in words")
  pub words : plain_lister T es start a cs ≡ map (spoken (says T es)) (path_lister T es start a cs)
  -- the trials are all, in the order of trials, and no other list is
  pub trials_are : Enumerates (ends_of es) (at_item start) (trials (ends_of es) (at_item start))
  pub trials-only : (ps : List Path) → Enumerates (ends_of es) (at_item start) ps → ps ≡ trials (ends_of es) (at_item start)
  -- each count is its trial's number, at the end that of all trials, at 13 it is 100,000
  pub numbered : Numbered (trials (ends_of es) (at_item start)) 0 (path_lister T es start a cs)
  pub bounded : count_after 0 (path_lister T es start a cs) ≤ trial_limit
  -- the paths come in order, each to hand out
  pub order : Increasing (handed (path_lister T es start a cs))
  pub only : (p : Path) → Memᴰ p (handed (path_lister T es start a cs)) → IsHanded T es start a p
  -- none is passed over: up to the trial that the count numbers all were handed out, a beginning of all
  pub so_far : handed (path_lister T es start a cs) ≡ keep (hands T es a) (take (count_after 0 (path_lister T es start a cs)) (trials (ends_of es) (at_item start)))
  pub left : List Path
  pub beginning : handed (path_lister T es start a cs) ++ left ≡ keep (hands T es a) (trials (ends_of es) (at_item start))
  -- once it ends without 13, all
  pub all : ends (path_lister T es start a cs) ≡ true → handed (path_lister T es start a cs) ≡ keep (hands T es a) (trials (ends_of es) (at_item start))
  pub exactly : ends (path_lister T es start a cs) ≡ true → (p : Path) → Memᴰ p (handed (path_lister T es start a cs)) ↔ IsHanded T es start a p
  -- at 13, all up to trial 100,000
  pub limit : Memᴰ (refused 13) (answers (path_lister T es start a cs))
      → handed (path_lister T es start a cs) ≡ keep (hands T es a) (take trial_limit (trials (ends_of es) (at_item start)))
  -- a filter takes out of the examples exactly those that miss the lookahead
  pub filtered : keep (hands T es a) (trials (ends_of es) (at_item start)) ≡ keep (passes T es a) (keep (is_example_in (ends_of es)) (trials (ends_of es) (at_item start)))
  pub misses : (p : Path) → (passes T es a p ≡ true) ↔ Meets T es a p
