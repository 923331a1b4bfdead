-- The canonical LR(1) item sets of Aho, Sethi and Ullman, as the book has them: an item has one token, a set is what its rules give. No fuel, no numbers
-- for sets. Tokens 0 to T - 1 are terminals, T is the end.
use Rattle.std.specs.Prelude.{ℕ, suc, ◌<◌, ◌≡◌, ◌⊎◌, length, drop}
use mathlib.Core.List.{List, [], ◌∷◌, Memᴰ}
use Rattle.lr1_base.specs.repr.Meaning.{Symbol, nonterminal, terminal, Item, Table, production_at}
use Rattle.first.specs.Derives.{Derives}

-- a set of LR(1) items [i, a]: an item without lookahead, and one token
abbrev pub Set : Type 1
Set = Item → ℕ → Type 0

-- the symbols from an item's cursor on
abbrev pub rest : Table → Item → List Symbol
rest T i = drop i.index (production_at T i.production).symbols

-- b is in FIRST(β a), the book's: a terminal that begins something β derives, or a itself where β derives the empty list
abbrev pub InFirst : Table → List Symbol → ℕ → ℕ → Type 0
InFirst T β a b = ((b < T.terminals) × ((ys : List Symbol) × Derives T.productions β (terminal b ∷ ys))) ⊎ ((b ≡ a) × Derives T.productions β [])

-- closure(K), the least set: K itself, and with [A → α . B β, a] each [B → . γ, b], for each production B → γ and each b in FIRST(β a)
pub data Closed (T : Table) (K : Item → ℕ → Type 0) : Item → ℕ → Type 0 where
  given : {i : Item} {a : ℕ} → K i a → Closed T K i a
  added : {i j : Item} {a b : ℕ} (n : ℕ) (β : List Symbol) → Closed T K i a → rest T i ≡ nonterminal n ∷ β
      → j.index ≡ 0 → j.production < length T.productions → (production_at T j.production).nonterminal ≡ n → InFirst T β a b → Closed T K j b

-- the items of K with the cursor at X, moved over it
abbrev pub Moved : Table → Symbol → Set → Set
Moved T X K j a = (i : Item) × (β : List Symbol) × (j.production ≡ i.production) × (j.index ≡ suc i.index) × (rest T i ≡ X ∷ β) × K i a

-- goto(K, X)
abbrev pub Goto : Table → Symbol → Set → Set
Goto T X K = Closed T (Moved T X K)

-- [start, 0, end]
abbrev pub Start : Table → ℕ → Set
Start T start i a = (i.production ≡ start) × (i.index ≡ 0) × (a ≡ T.terminals)

-- what a list of symbols leads to from a set, and from state 0's: the items valid for a viable prefix
unfoldable pub Reached : Table → Set → List Symbol → Set
Reached T K [] = K
Reached T K (X ∷ w) = Reached T (Goto T X K) w

abbrev pub Viable : Table → ℕ → List Symbol → Set
Viable T start w = Reached T (Closed T (Start T start)) w

abbrev pub Inhabited : Set → Type 0
Inhabited K = (i : Item) × (a : ℕ) × K i a

-- conflicts of a set (docs/RULES.md, "Building states"): the complete item of production p reduces with token a, the start production's too

abbrev pub Reduces : Table → Set → ℕ → ℕ → Type 0
Reduces T K p a = K (record { production = p; index = length (production_at T p).symbols }) a

-- some item has its cursor at the terminal t
abbrev pub Shifts : Table → Set → ℕ → Type 0
Shifts T K t = (i : Item) × (a : ℕ) × (β : List Symbol) × (rest T i ≡ terminal t ∷ β) × K i a

-- the five words of a conflict without the state: action 0 is a shift of `other`, the token itself, 1 a reduction by production `other`
pub record Clash : Type 0 where
  pub production : ℕ
  pub action : ℕ
  pub other : ℕ
  pub token : ℕ

abbrev pub Conflict : Table → Set → Clash → Type 0
Conflict T K c =
    ((c.action ≡ 0) × (c.other ≡ c.token) × Reduces T K c.production c.token × Shifts T K c.token)
    ⊎ ((c.action ≡ 1) × (c.production < c.other) × Reduces T K c.production c.token × Reduces T K c.other c.token)

-- the order of the list: by production, shift before reduce, the other's number, token
abbrev pub Before : Clash → Clash → Type 0
Before c d =
    (c.production < d.production) ⊎ ((c.production ≡ d.production) × ((c.action < d.action) ⊎ ((c.action ≡ d.action)
    × ((c.other < d.other) ⊎ ((c.other ≡ d.other) × (c.token < d.token))))))

-- items by production, then index
abbrev pub ItemBefore : Item → Item → Type 0
ItemBefore i j = (i.production < j.production) ⊎ ((i.production ≡ j.production) × (i.index < j.index))

-- each before all that come after it
unfoldable pub Ascends : {A : Type 0} → (A → A → Type 0) → List A → Type 0
Ascends R [] = Unit {0}
Ascends R (x ∷ xs) = ((y : _) → Memᴰ y xs → R x y) × Ascends R xs

-- numbers in the order found: each is one of the m before it or the next; n are found in the end
unfoldable pub InOrder : ℕ → List ℕ → ℕ → Type 0
InOrder m [] n = m ≡ n
InOrder m (t ∷ ts) n = ((t < m) × InOrder m ts n) ⊎ ((t ≡ m) × InOrder (suc m) ts n)
