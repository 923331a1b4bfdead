-- The filter over its parts is the plain lister's over a table (specs/filter/Filter), and a search asks its test of each path alone.
use Rattle.std.specs.Prelude.{◌≡◌, ℕ, zero, suc, Bool, true, false, List, [], ◌∷◌}
use mathlib.Core.Path.{refl, sym, ◌∙◌}
use mathlib.Core.Option.{Option, none, some}
use Rattle.lr1_base.specs.repr.Meaning.{Table}
use Rattle.first.specs.First.{sets_of_first}
use Rattle.trace_graph.specs.Graph.{TraceEdge}
use Rattle.enumerator.specs.trials.Trials.{Path}
use Rattle.enumerator.specs.trials.Lister.{passes, hands, search}
use Rattle.enumerator.proofs.trials.Search.{search-hit, search_on}
use Rattle.enumerator.specs.filter.Filter.{passes_by, hands_by}

pub hands_by_lem : (T : Table) (es : List TraceEdge) (ahead : Option ℕ) (p : Path)
    → hands T es ahead p ≡ hands_by T.terminals (sets_of_first T.terminals T.productions) T.productions es ahead p
unfolding hands passes hands_by passes_by
hands_by_lem T es none p = refl
hands_by_lem T es (some set) p = refl

-- without a lookahead the FIRST sets are not looked at
pub hands-any : (T : Table) (sets : List ℕ) (es : List TraceEdge) (p : Path) → hands T es none p ≡ hands_by T.terminals sets T.productions es none p
unfolding hands passes hands_by passes_by
hands-any T sets es p = refl

pub search_same : (t u : Path → Bool) → ((p : Path) → t p ≡ u p) → (l c : ℕ) (ts : List Path) → search t l c ts ≡ search u l c ts
unfolding search
search_same t u e l c [] = refl
search_same t u e zero c (p ∷ ts) = refl
search_same t u e (suc l) c (p ∷ ts) = by (search_same t u e l (suc c) ts) (t p) refl
  where
    by : search t l (suc c) ts ≡ search u l (suc c) ts → (b : Bool) → t p ≡ b → search t (suc l) c (p ∷ ts) ≡ search u (suc l) c (p ∷ ts)
    by ih true q = search-hit t l c p ts q ∙ sym (search-hit u l c p ts (sym (e p) ∙ q))
    by ih false q = search_on t l c p ts q ∙ ih ∙ sym (search_on u l c p ts (sym (e p) ∙ q))
