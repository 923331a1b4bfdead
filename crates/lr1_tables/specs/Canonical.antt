-- What building promises where it answers a table, in the book's terms.
use Rattle.std.specs.Prelude.{ℕ, ◌<◌, ◌≤◌, true, ◌≡◌, ◌↔◌, length, get_or}
use mathlib.Core.List.{List, [], map, Memᴰ}
use Rattle.std.proofs.Math.Option.{some}
use Rattle.lr1_base.specs.repr.Lists.{below, joined}
use Rattle.lr1_base.specs.repr.Meaning.{Symbol, Item, Edge, Table, state_at}
use Rattle.lr1_base.specs.lookahead.Tokens.{has}
use Rattle.table.specs.Checked.{Accepted}
use Rattle.table.specs.Decoded.{meaning}
use Rattle.table.specs.Refusals.{check_of}
use Rattle.table_rewrite.specs.spelling.Spelled.{edge_lists, spell}
use Rattle.lr1_states.specs.canonical.Canonical.{Set, Viable, Inhabited, Clash, Conflict, Before, ItemBefore, Ascends, InOrder}
use Rattle.lr1_states.specs.canonical.States.{tokens, walk}
use Rattle.lr1_states.specs.canonical.Built.{clash_words}

-- the set that a state with its tokens is
abbrev pub set_of : List ℕ → Set
set_of S i a = has (tokens S i) a ≡ true

-- item by item and token by token
abbrev pub Equals : Set → Set → Type 0
Equals K L = (i : Item) (a : ℕ) → K i a ↔ L i a

-- the numbers of a conflict are the table's; nothing shifts the end of the input
pub record InTable (T : Table) (c : Clash) : Type 0 where
  pub production : c.production < length T.productions
  pub token : c.token ≤ T.terminals
  pub shift : c.action ≡ 0 → (c.other < T.terminals) × (c.token < T.terminals)
  pub reduction : (c.action ≡ 0 → ⊥) → (c.action ≡ 1) × (c.other < length T.productions)

-- u are the words of the table, list those of its conflicts; T is the table that was lent
pub record IsCanonical (T : Table) (start : ℕ) (u list : List ℕ) : Type 0 where
  pub accepted : check_of u ≡ Accepted
  pub spelling : spell (meaning u) ≡ u
  -- the grammar is the one that was lent
  pub terminals : (meaning u).terminals ≡ T.terminals
  pub nonterminals : (meaning u).nonterminals ≡ T.nonterminals
  pub productions : (meaning u).productions ≡ T.productions
  -- the states, each with its tokens
  pub states : List (List ℕ)
  pub many : length (meaning u).states ≡ length states
  -- walking the written edges from state 0 by w ends in k exactly if the book's set of w is not empty and is that of state k
  pub canonical : (w : List Symbol) (k : ℕ) → (walk (edge_lists (meaning u)) 0 w ≡ some k) ↔ (Inhabited (Viable T start w) × Equals (Viable T start w) (set_of (get_or states k [])))
  pub reached : (k : ℕ) → k < length states → (w : List Symbol) × (walk (edge_lists (meaning u)) 0 w ≡ some k)
  pub differ : (j k : ℕ) → j < length states → k < length states → Equals (set_of (get_or states j [])) (set_of (get_or states k [])) → j ≡ k
  pub in_order : InOrder 1 (joined (λ (ds : List Edge). map (λ (d : Edge). d.target) ds) (edge_lists (meaning u))) (length states)
  -- the pairs that occur, once each, by production, then index
  pub items : (k : ℕ) → k < length states → (i : Item) → Memᴰ i (state_at (meaning u) k).items ↔ ((a : ℕ) × set_of (get_or states k []) i a)
  pub items_ascend : (k : ℕ) → k < length states → Ascends ItemBefore (state_at (meaning u) k).items
  -- the conflicts of each state, all of them, strictly ascending
  pub conflicts : ℕ → List Clash
  pub words : list ≡ joined (λ (k : ℕ). joined (clash_words k) (conflicts k)) (below (length states))
  pub exact : (k : ℕ) → k < length states → (c : Clash) → Memᴰ c (conflicts k) ↔ Conflict T (set_of (get_or states k [])) c
  pub ascend : (k : ℕ) → k < length states → Ascends Before (conflicts k)
  pub inside : (k : ℕ) → k < length states → (c : Clash) → Memᴰ c (conflicts k) → InTable (meaning u) c
