-- What a list of calls leaves behind: the listing, and the scratch word for word (docs/RULES.md, "Listing").
use Rattle.std.specs.Prelude.{◌≡◌, ℕ, zero, suc, Bool, true, false, List, ◌∷◌, length, drop}
use Rattle.lr1_base.specs.repr.Sizes.{scratch_words}
use Rattle.lr1_base.specs.words.Lent.{in_front, zeroed}
use Rattle.lr1_base.specs.repr.Meaning.{Item}
use Rattle.trace_graph.specs.Graph.{at_item}
use Rattle.trace_graph.specs.Words.{edges_in}
use Rattle.enumerator.specs.trials.Trials.{Path, ends_of, trials, is_example_in}
use Rattle.enumerator.specs.trials.Words.{words_of}
use Rattle.enumerator.specs.trials.Opening.{listing}
use Rattle.enumerator.specs.trials.Lookahead.{Lookahead}
use Rattle.enumerator.specs.declared.trials.Listing.{Listing}

-- the trials over a graph's words
abbrev pub trials_in : Item → List ℕ → List Path
trials_in i g = trials (ends_of (edges_in g)) (at_item i)

-- the scratch ws of a listing by its count and whether it is open, ws₀ before any call: fresh, as it was; after an example the words of the trial with the
-- count's number; after the end or 13 zeros; and behind the first 32,000 words as it was
unfoldable pub Fit : Item → List ℕ → List ℕ → ℕ → Bool → List ℕ → Type 0
Fit i g ws₀ c false ws = ws ≡ zeroed scratch_words ws₀
Fit i g ws₀ zero true ws = ws ≡ ws₀
Fit i g ws₀ (suc m) true ws =
    (p : Path) × (drop m (trials_in i g) ≡ p ∷ drop (suc m) (trials_in i g)) × (is_example_in (ends_of (edges_in g)) p ≡ true) × (ws ≡ in_front (words_of p) ws₀)

-- the listing l and the scratch ws that calls leave with count c, open or not
pub record Behind (i : Item) (ahead : Lookahead) (g ws₀ : List ℕ) (c : ℕ) (o : Bool) (l : Listing) (ws : List ℕ) : Type 0 where
  pub listed : l ≡ listing i ahead c o
  pub fit : Fit i g ws₀ c o ws
  pub long : length ws ≡ length ws₀
