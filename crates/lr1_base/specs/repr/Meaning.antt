-- What a table means: grammar/repr.rs's `Grammar` and `Production`, and the states with their items and edges, as plain lists.
-- Everything above the table speaks of this and not of words.
use Rattle.std.specs.Prelude.{ℕ, ◌≤◌, ◌<◌, Bool, false, List, [], ◌∷◌, length, get_or, eqb}
use Rattle.lr1_base.specs.repr.Sizes.{nonterminal_limit, terminal_limit, state_limit, production_limit, symbol_limit}

-- `Symbol` of grammar/repr.rs
pub data Symbol : Type 0 where
  nonterminal : ℕ → Symbol
  terminal : ℕ → Symbol

unfoldable pub is_same_symbol : Symbol → Symbol → Bool
is_same_symbol (nonterminal n) (nonterminal m) = eqb n m
is_same_symbol (nonterminal n) (terminal m) = false
is_same_symbol (terminal n) (nonterminal m) = false
is_same_symbol (terminal n) (terminal m) = eqb n m

-- `Production` of grammar/repr.rs; a production is its number, its place in the table's list
pub record Production : Type 0 where
  pub nonterminal : ℕ
  pub symbols : List Symbol
  pub start : ℕ
  pub end : ℕ

-- `Item` of lr1/core, without a lookahead
pub record Item : Type 0 where
  pub production : ℕ
  pub index : ℕ

-- an edge leaving a state
pub record Edge : Type 0 where
  pub symbol : Symbol
  pub target : ℕ

pub record State : Type 0 where
  pub items : List Item
  pub edges : List Edge

-- `nonterminals`: of each nonterminal the numbers of its productions, in the order of its chain
pub record Table : Type 0 where
  pub terminals : ℕ
  pub nonterminals : List (List ℕ)
  pub productions : List Production
  pub states : List State

abbrev pub no_production : Production
no_production = record { nonterminal = 0; symbols = []; start = 0; end = 0 }

abbrev pub no_state : State
no_state = record { items = []; edges = [] }

-- production p, state s
abbrev pub production_at : Table → ℕ → Production
production_at T p = get_or T.productions p no_production

abbrev pub state_at : Table → ℕ → State
state_at T s = get_or T.states s no_state

-- a number in range
unfoldable pub SymbolFits : Table → Symbol → Type 0
SymbolFits T (nonterminal n) = n < length T.nonterminals
SymbolFits T (terminal n) = n < T.terminals

unfoldable pub All {ℓ} : {A : Type ℓ} → (A → Type 0) → List A → Type 0
All P [] = Unit {0}
All P (x ∷ xs) = P x × All P xs

pub record ProductionFits (T : Table) (p : Production) : Type 0 where
  pub owner : p.nonterminal < length T.nonterminals
  pub short : length p.symbols ≤ symbol_limit
  pub symbols : All (SymbolFits T) p.symbols

pub record ItemFits (T : Table) (i : Item) : Type 0 where
  pub production : i.production < length T.productions
  pub index : i.index ≤ length (production_at T i.production).symbols

pub record EdgeFits (T : Table) (e : Edge) : Type 0 where
  pub symbol : SymbolFits T e.symbol
  pub target : e.target < length T.states

pub record StateFits (T : Table) (s : State) : Type 0 where
  pub items : All (ItemFits T) s.items
  pub edges : All (EdgeFits T) s.edges

-- what refusals 2 and 5 to 7 leave: every number in range
pub record TableFits (T : Table) : Type 0 where
  pub some-nonterminal : 1 ≤ length T.nonterminals
  pub few_nonterminals : length T.nonterminals ≤ nonterminal_limit
  pub few_terminals : T.terminals ≤ terminal_limit
  pub some_state : 1 ≤ length T.states
  pub few_states : length T.states ≤ state_limit
  pub few_productions_lem : length T.productions ≤ production_limit
  pub productions : All (ProductionFits T) T.productions
  pub states : All (StateFits T) T.states
