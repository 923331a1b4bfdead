-- One call on both sides: what it answers and leaves is what the plain lister says, and the listing that it leaves fits the words that it leaves.
use Rattle.std.proofs.Common.{◌≡◌, ℕ, suc, ◌-◌, ◌≤◌, Bool, true, false, List, ◌∷◌, ◌++◌, length, take, drop, refl, ap, ◌∙◌, arith, take-append-drop}
use mathlib.Core.Option.{Option}
use Rattle.lr1_base.specs.repr.Reply.{Reply, answered, refused}
use Rattle.lr1_base.specs.repr.Sizes.{scratch_words, trial_limit}
use Rattle.lr1_base.proofs.words.Lent.{length-in_front, length-zeroed}
use Rattle.lr1_base.specs.words.Lent.{in_front, zeroed}
use Rattle.lr1_base.specs.repr.Meaning.{Item, Table}
use Rattle.table.specs.Decoded.{meaning}
use Rattle.trace_graph.specs.Graph.{at_item, TraceEdge}
use Rattle.trace_graph.specs.Words.{edges_in}
use Rattle.enumerator.specs.trials.Trials.{Path, ends_of, is_example_in}
use Rattle.enumerator.specs.trials.Words.{words_of}
use Rattle.enumerator.specs.trials.Lister.{enough, hands, passes, Found, hit, out, over, search, Out, Plain, found_out, found_then, plain_find, plain_out, plain_then}
use Rattle.enumerator.specs.trials.Advance.{outcome, set_of, moved, found_outcome}
use Rattle.enumerator.specs.trials.Calls.{Lent, called, lengths, left_of}
use Rattle.enumerator.specs.trials.Opening.{listing, Ready}
use Rattle.enumerator.specs.trials.Behind.{trials_in, Fit}
use Rattle.enumerator.specs.trials.Lookahead.{Lookahead}
use Rattle.enumerator.specs.declared.trials.Advanced.{Advanced}
use Rattle.enumerator.specs.declared.trials.Advanced.TheVariants.{Example, End}
use Rattle.lr1_base.proofs.laws.Bools.{and_left}
use Rattle.enumerator.proofs.trials.Short.{short_trial}
use Rattle.enumerator.proofs.trials.After.{drop_in}
use Rattle.enumerator.proofs.trials.WordsOf.{words_long}
use Rattle.enumerator.proofs.trials.Search.{Finds, finds}
use Rattle.enumerator.proofs.trials.Scratch.{front_kept, zeros_kept, length_back}
use Rattle.enumerator.proofs.trials.Calling.{hands_in, says_in, fit_count, fit_rest, lent_parts, call_short, call_ended, call_open}

-- an example that the search finds is one of the trials, of its number
hands-example : (T : Table) (es : List TraceEdge) (a : Option ℕ) (p : Path) → hands T es a p ≡ true → is_example_in (ends_of es) p ≡ true
unfolding hands
hands-example T es a p e = and_left (is_example_in (ends_of es) p) (passes T es a p) e

-- a call that answers and leaves what the plain lister says, u its answer and s its state after
pub record Moves (t : List ℕ) (i : Item) (ahead : Lookahead) (g ws₀ : List ℕ) (k : Lent) (c : ℕ) (o : Bool) (ws : List ℕ) (u : Out) (s : Plain) : Type 0 where
  pub answer : Reply Advanced
  pub scratch : List ℕ
  pub buffer : List ℕ
  pub outcomes : called t g (listing i ahead c o) ws k ≡ outcome answer (listing i ahead s.count s.is_open) scratch buffer
  pub fit : Fit i g ws₀ s.count s.is_open (scratch ++ drop k.scratch ws)
  pub long : length (scratch ++ drop k.scratch ws) ≡ length ws₀
  pub left : record { answer = answer; count = s.count; buffer = buffer } ≡ left_of k u

module _ (t : List ℕ) (i : Item) (ahead : Lookahead) (g : List ℕ) (R : Ready t i ahead g) (ws₀ : List ℕ) (k : Lent) (c : ℕ) (ws : List ℕ) (len : length ws ≡ length ws₀) where
  -- after what a search found
  found : scratch_words ≤ length (take k.scratch ws) → drop scratch_words ws ≡ drop scratch_words ws₀ → (F : Found) → Finds (hands_in t ahead g) (trials_in i g) (trial_limit - c) c F
      → called t g (listing i ahead c true) ws k ≡ found_outcome (meaning t) (edges_in g) (listing i ahead c true) (take k.scratch ws) k.buffer F
      → Moves t i ahead g ws₀ k c true ws (found_out (says_in t g) F) (found_then F)
  unfolding Fit Finds found_outcome found_out found_then left_of moved
  found h r (hit n p) (m, a, v, z, b, y, q) e =
      let d : drop m (trials_in i g) ≡ p ∷ drop (suc m) (trials_in i g) = rw a at b in
      let s = short_trial (ends_of (edges_in g)) (at_item i) p (drop_in m (trials_in i g) p (drop (suc m) (trials_in i g)) d) in
      let u = words_long p (omega arith) in
      let w = in_front (words_of p) (take k.scratch ws) in
      record {
        answer = answered Example;
        scratch = w;
        buffer = in_front (says_in t g p) k.buffer;
        outcomes = e;
        fit = rw a (p, d, hands-example (meaning t) (edges_in g) (set_of ahead) p y, front_kept k.scratch ws ws₀ h r p (omega arith));
        long = length_back k.scratch w ws (length-in_front (words_of p) (take k.scratch ws) (omega arith)) ∙ len;
        left = refl;
      }
  found h r (out n) f e = record {
    answer = answered End;
    scratch = zeroed scratch_words (take k.scratch ws);
    buffer = k.buffer;
    outcomes = e;
    fit = zeros_kept k.scratch ws ws₀ h r;
    long = length_back k.scratch (zeroed scratch_words (take k.scratch ws)) ws (length-zeroed scratch_words (take k.scratch ws) h) ∙ len;
    left = refl;
  }
  found h r over f e = record {
    answer = refused 13 0;
    scratch = zeroed scratch_words (take k.scratch ws);
    buffer = k.buffer;
    outcomes = e;
    fit = zeros_kept k.scratch ws ws₀ h r;
    long = length_back k.scratch (zeroed scratch_words (take k.scratch ws)) ws (length-zeroed scratch_words (take k.scratch ws) h) ∙ len;
    left = refl;
  }

  -- a call that leaves listing and words
  stays : (o : Bool) → Fit i g ws₀ c o ws → (a : Reply Advanced) (u : Out) → called t g (listing i ahead c o) ws k ≡ outcome a (listing i ahead c o) (take k.scratch ws) k.buffer
      → record { answer = a; count = c; buffer = k.buffer } ≡ left_of k u → Moves t i ahead g ws₀ k c o ws u (record { count = c; is_open = o })
  stays o f a u e l =
      let w = take-append-drop k.scratch ws in
      record { answer = a; scratch = take k.scratch ws; buffer = k.buffer; outcomes = e; fit = rw w f; long = ap length w ∙ len; left = l }

  moves : (b : Bool) → enough (lengths g ws₀ k) ≡ b → (o : Bool) → Fit i g ws₀ c o ws
      → Moves t i ahead g ws₀ k c o ws (plain_out (hands_in t ahead g) (says_in t g) (trials_in i g) b o (record { count = c; is_open = o }))
      (plain_then (hands_in t ahead g) (says_in t g) (trials_in i g) b o (record { count = c; is_open = o }))
  unfolding plain_out plain_then plain_find left_of
  moves false e o f = stays o f (refused 11 0) _ (call_short t i ahead g R ws₀ k c ws len o e) refl
  moves true e false f = stays false f (answered End) _ (call_ended t i ahead g R ws₀ k c ws len e) refl
  moves true e true f =
      found (lent_parts t i ahead g R ws₀ k c ws len e).1 (fit_rest t i ahead g R ws₀ c true ws f) (search (hands_in t ahead g) (trial_limit - c) c (drop c (trials_in i g)))
      (finds (hands_in t ahead g) (trials_in i g) (trial_limit - c) c (drop c (trials_in i g)) refl (fit_count t i ahead g R ws₀ c ws f))
      (call_open t i ahead g R ws₀ k c ws len e f)

  -- one call of a listing whose words fit it
  pub call_moves : (o : Bool) → Fit i g ws₀ c o ws
      → Moves t i ahead g ws₀ k c o ws (plain_out (hands_in t ahead g) (says_in t g) (trials_in i g) (enough (lengths g ws₀ k)) o (record { count = c; is_open = o }))
      (plain_then (hands_in t ahead g) (says_in t g) (trials_in i g) (enough (lengths g ws₀ k)) o (record { count = c; is_open = o }))
  call_moves o f = moves (enough (lengths g ws₀ k)) refl o f
