-- The same sets computed. A state is a list of token sets (specs/lookahead/Tokens of lr1_base), item [production, index] at 17 * production + index, so that its order
-- is by production, then index, and two states are equal exactly if their lists are.
use Rattle.std.specs.Prelude.{ℕ, zero, suc, ◌+◌, ◌*◌, ◌/◌, ◌%◌, ◌^◌, Bool, true, false, ◌&&◌, not, List, [], ◌∷◌, ◌++◌, map, length, get_or, set, replicate, drop, eqb, ltb}
use Rattle.std.proofs.Math.Option.{Option, none, some}
use Rattle.lr1_base.specs.repr.Sizes.{index_limit}
use Rattle.lr1_base.specs.words.Same.{same_words}
use Rattle.lr1_base.specs.repr.Lists.{below, keep, every?, joined}
use Rattle.lr1_base.specs.repr.Meaning.{Symbol, nonterminal, terminal, is_same_symbol, Item, Edge, Table, production_at}
use Rattle.lr1_base.specs.lookahead.Tokens.{has, single, union, meet, members}
use Rattle.first.specs.First.{join}
use Rattle.first.specs.Rust.{rust_first0}
use Rattle.lr1_states.specs.canonical.Canonical.{Clash}

-- how many items a state has room for, the tokens of one
abbrev pub places : Table → ℕ
places T = index_limit * length T.productions

unfoldable pub tokens : List ℕ → Item → ℕ
tokens S i = elim (ltb i.index index_limit) [ true ↦ get_or S (index_limit * i.production + i.index) 0 | false ↦ 0 ]

-- the symbols from the cursor of item x on
abbrev pub from : Table → ℕ → List Symbol
from T x = drop (x % index_limit) (production_at T (x / index_limit)).symbols

-- closure(I): a move takes tokens from an item with its cursor at B to a first item of B; `front` is FIRST of what stands behind B, with end for "nullable"
pub record Move : Type 0 where
  pub source : ℕ
  pub front : ℕ
  pub target : ℕ

unfoldable pub move_to : Table → ℕ → ℕ → List Symbol → List Move
move_to T x q [] = []
move_to T x q (terminal t ∷ β) = []
move_to T x q (nonterminal n ∷ β) = elim (eqb (production_at T q).nonterminal n) [ true ↦ record { source = x; front = rust_first0 T β; target = index_limit * q } ∷ [] | false ↦ [] ]

unfoldable pub moves : Table → List Move
moves T = joined (λ x. joined (λ q. move_to T x q (from T x)) (below (length T.productions))) (below (places T))

-- FIRST(β a) for all a of the item; an item without a token is none of the state's and gives nothing
unfoldable pub gives_of : ℕ → ℕ → ℕ → ℕ
gives_of e front s = elim (eqb s 0) [ true ↦ 0 | false ↦ join e front s ]

abbrev pub gives : ℕ → List ℕ → Move → ℕ
gives e S m = gives_of e m.front (get_or S m.source 0)

unfoldable pub grown : ℕ → List ℕ → Move → List ℕ
grown e S m = set S m.target (union (get_or S m.target 0) (gives e S m))

unfoldable pub round : ℕ → List ℕ → List Move → List ℕ
round e S [] = S
round e S (m ∷ ms) = round e (grown e S m) ms

-- rounds until one changes nothing; `settled` of proofs/canonical/Rounds shows that the fuel of `closure` never cuts
unfoldable pub settle : ℕ → ℕ → List ℕ → List Move → List ℕ
settle zero e S ms = S
settle (suc f) e S ms = elim (same_words (round e S ms) S) [ true ↦ S | false ↦ settle f e (round e S ms) ms ]

unfoldable pub closure : Table → List ℕ → List ℕ
closure T S = settle (suc (places T * 2 ^ 64)) T.terminals S (moves T)

-- goto(I, X): the items with the cursor at X, moved over it, closed; an edge exactly where there are some
unfoldable pub begins : Symbol → List Symbol → Bool
begins X [] = false
begins X (Y ∷ ys) = is_same_symbol X Y

unfoldable pub moved_to : Table → Symbol → List ℕ → ℕ → ℕ → ℕ
moved_to T X S p zero = 0
moved_to T X S p (suc i) = elim (begins X (drop i (production_at T p).symbols)) [ true ↦ get_or S (index_limit * p + i) 0 | false ↦ 0 ]

unfoldable pub moved : Table → Symbol → List ℕ → List ℕ
moved T X S = map (λ y. moved_to T X S (y / index_limit) (y % index_limit)) (below (places T))

unfoldable pub goto : Table → Symbol → List ℕ → List ℕ
goto T X S = closure T (moved T X S)

unfoldable pub start_state : Table → ℕ → List ℕ
start_state T start = closure T (set (replicate (places T) 0) (index_limit * start) (single T.terminals))

-- the number of a state, that of the next one where it is new: lookaheads are compared too
unfoldable pub place : List ℕ → List (List ℕ) → ℕ
place S [] = 0
place S (R ∷ Rs) = elim (same_words S R) [ true ↦ 0 | false ↦ suc (place S Rs) ]

unfoldable pub add : List ℕ → List (List ℕ) → List (List ℕ)
add S Rs = elim (ltb (place S Rs) (length Rs)) [ true ↦ Rs | false ↦ Rs ++ S ∷ [] ]

-- nonterminals first and ascending, then terminals
unfoldable pub tried : Table → List Symbol
tried T = map nonterminal (below (length T.nonterminals)) ++ map terminal (below T.terminals)

unfoldable pub nothing? : List ℕ → Bool
nothing? S = every? (eqb 0) S

-- one state taken: the states then, and its edges as tried
pub record Taken : Type 0 where
  pub states : List (List ℕ)
  pub edges : List Edge

unfoldable pub take : Table → List ℕ → List (List ℕ) → List Symbol → Taken
take T S Rs [] = record { states = Rs; edges = [] }
take T S Rs (X ∷ Xs) =
    elim (nothing? (moved T X S)) [
      | true ↦ take T S Rs Xs
      | false ↦ let C : List ℕ = goto T X S in
          let r : Taken = take T S (add C Rs) Xs in
          record { states = r.states; edges = record { symbol = X; target = place C Rs } ∷ r.edges }
    ]

-- the canonical collection, states taken by number: found, with the edges of each, or those found as there were more than 128
pub data Collected : Type 0 where
  built : List (List ℕ) → List (List Edge) → Collected
  halted : List (List ℕ) → Collected

unfoldable pub collect : ℕ → Table → List (List ℕ) → List (List Edge) → Collected
collect zero T Rs es = halted Rs
collect (suc f) T Rs es =
    elim (ltb (length es) (length Rs)) [
      | true ↦ let r : Taken = take T (get_or Rs (length es) []) Rs (tried T) in
          elim (ltb 128 (length r.states)) [ true ↦ halted r.states | false ↦ collect f T r.states (es ++ r.edges ∷ []) ]
      | false ↦ built Rs es
    ]

unfoldable pub build : Table → ℕ → Collected
build T start = collect 129 T (start_state T start ∷ []) []

-- walking the edges
unfoldable pub target_of : Symbol → List Edge → Option ℕ
target_of X [] = none
target_of X (d ∷ ds) = elim (is_same_symbol X d.symbol) [ true ↦ some d.target | false ↦ target_of X ds ]

unfoldable pub walk : List (List Edge) → ℕ → List Symbol → Option ℕ
walk es k [] = some k
walk es k (X ∷ w) = elim (target_of X (get_or es k [])) [ none ↦ none | some j ↦ walk es j w ]

-- the pairs that are written: each (production, index) with a token, by production, then index
unfoldable pub written : List ℕ → List Item
written S = map (λ x. record { production = x / index_limit; index = x % index_limit }) (keep (λ x. not (eqb (get_or S x 0) 0)) (below (length S)))

-- conflicts of a state (specs/canonical/Canonical): by production, shift before reduce, the other's number, token
unfoldable pub reduces : Table → List ℕ → ℕ → ℕ
reduces T S p = get_or S (index_limit * p + length (production_at T p).symbols) 0

unfoldable pub shifts : Table → List ℕ → ℕ → Bool
shifts T S t = not (nothing? (moved T (terminal t) S))

unfoldable pub clashes_of : Table → List ℕ → ℕ → List Clash
clashes_of T S p =
    map (λ t. record { production = p; action = 0; other = t; token = t }) (keep (λ t. has (reduces T S p) t && shifts T S t) (below T.terminals))
    ++ joined (λ q. map (λ a. record { production = p; action = 1; other = q; token = a }) (members (meet (reduces T S p) (reduces T S q)))) (keep (ltb p) (below (length T.productions)))

unfoldable pub clashes : Table → List ℕ → List Clash
clashes T S = joined (clashes_of T S) (below (length T.productions))
