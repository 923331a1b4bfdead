-- An example (docs/RULES.md, "An example in words"), as `example` and `first0` of lr1/trace/trace_graph build them: on a list of labels, innermost first.
use Rattle.std.specs.Prelude.{ℕ, suc, ◌+◌, ◌-◌, Bool, true, false, List, [], ◌∷◌, ◌++◌, map, reverse, length, slice_index_or}
use Rattle.std.proofs.Math.Option.{Option, none, some}
use Rattle.lr1_base.specs.repr.Lists.{joined}
use Rattle.lr1_base.specs.repr.Meaning.{Symbol, nonterminal, terminal, Production, no_production}
use Rattle.lr1_base.specs.item.Items.{Sets, no_sets, symbol_sets}
use Rattle.first.specs.First.{first0, meets_ahead}

-- the nonterminal of the node that an edge comes from, and the item that is the edge's label
pub record Label : Type 0 where
  pub nonterminal : ℕ
  pub production : ℕ
  pub index : ℕ

unfoldable pub sets_of : List Production → Label → Sets
sets_of ps l = symbol_sets (slice_index_or ps l.production no_production).symbols l.index

-- `ExampleSymbol`
pub data ExampleSymbol : Type 0 where
  symbol : Symbol → ExampleSymbol
  epsilon : ExampleSymbol

-- prefixes, outermost first; a walk's first entry, at the start item, has the empty sets
unfoldable pub prefixes : List Production → List Label → List Symbol
prefixes ps [] = no_sets.prefix
prefixes ps (l ∷ ls) = prefixes ps ls ++ (sets_of ps l).prefix

-- suffixes, innermost first
unfoldable pub suffixes : List Production → List Label → List Symbol
suffixes ps [] = no_sets.suffix
suffixes ps (l ∷ ls) = (sets_of ps l).suffix ++ suffixes ps ls

-- at the cursor place: the first edge's cursor symbol, or the empty mark if it has neither cursor nor prefix
unfoldable pub at_cursor : Option Symbol → List Symbol → List ExampleSymbol
at_cursor (some x) before = symbol x ∷ []
at_cursor none [] = epsilon ∷ []
at_cursor none (y ∷ ys) = []

unfoldable pub middle : List Production → List Label → List ExampleSymbol
middle ps [] = []
middle ps (l ∷ ls) = at_cursor (sets_of ps l).cursor (sets_of ps l).prefix

unfoldable pub symbols : List Production → List Label → List ExampleSymbol
symbols ps ls = map symbol (prefixes ps ls) ++ (middle ps ls ++ map symbol (suffixes ps ls))

-- `Reduction`
pub record Reduction : Type 0 where
  pub start : ℕ
  pub end : ℕ
  pub nonterminal : ℕ

-- outermost first, between two places
unfoldable pub spans : List Production → ℕ → ℕ → List Label → List Reduction
spans ps a b [] = []
spans ps a b (l ∷ ls) =
    record { start = a; end = b; nonterminal = l.nonterminal } ∷ spans ps (a + length (sets_of ps l).prefix) (b - length (sets_of ps l).suffix) ls

-- innermost first; the last spans all
unfoldable pub reductions : List Production → List Label → List Reduction
reductions ps ls = reverse (spans ps 0 (length (symbols ps ls)) (reverse ls))

-- in words: symbol count, cursor, reduction count; kind and number per symbol (kind 2, number 0 the empty mark); start, end, nonterminal per reduction
unfoldable pub symbol_words : ExampleSymbol → List ℕ
symbol_words (symbol (nonterminal n)) = 0 ∷ n ∷ []
symbol_words (symbol (terminal t)) = 1 ∷ t ∷ []
symbol_words epsilon = 2 ∷ 0 ∷ []

unfoldable pub reduction_words : Reduction → List ℕ
reduction_words r = r.start ∷ r.end ∷ r.nonterminal ∷ []

unfoldable pub example_words : List Production → List Label → List ℕ
example_words ps ls =
    length (symbols ps ls) ∷ length (prefixes ps ls) ∷ length ls ∷ (joined symbol_words (symbols ps ls) ++ joined reduction_words (reductions ps ls))

-- what the example expects next: the first edge's cursor, then the suffixes outward
unfoldable pub cursor_of : List Production → List Label → List Symbol
cursor_of ps [] = []
cursor_of ps (l ∷ ls) = elim (sets_of ps l).cursor [ some x ↦ x ∷ [] | none ↦ [] ]

unfoldable pub ahead : List Production → List Label → List Symbol
ahead ps ls = cursor_of ps ls ++ suffixes ps ls

-- what is asked label by label, innermost first: of the first label its cursor symbol, if it has one, followed by its suffix; of every other its suffix
unfoldable pub asked_parts : List Production → List Label → List (List Symbol)
asked_parts ps [] = []
asked_parts ps (l ∷ ls) = (cursor_of ps (l ∷ ls) ++ (sets_of ps l).suffix) ∷ map (λ (m : Label). (sets_of ps m).suffix) ls

-- how many are asked: up to the first that is not nullable
unfoldable pub asked_in : ℕ → List ℕ → List (List Symbol) → ℕ
asked_in e sets [] = 0
asked_in e sets (xs ∷ rest) = elim (first0 e sets xs).nullable [ true ↦ suc (asked_in e sets rest) | false ↦ 1 ]

unfoldable pub asked_of : ℕ → List ℕ → List Production → List Label → ℕ
asked_of e sets ps ls = asked_in e sets (asked_parts ps ls)

-- the filter: the lookahead meets FIRST of that; e is the end of input, sets the FIRST sets
unfoldable pub meets : ℕ → List ℕ → List Production → ℕ → List Label → Bool
meets e sets ps lookahead ls = meets_ahead e (first0 e sets (ahead ps ls)) lookahead
