-- A table typed as text, a line a record: its four words, then a comment that says what it is.
use Rattle.std.specs.Prelude.{ℕ, ◌+◌, ◌-◌, ◌*◌, ◌≤◌, ◌<◌, Bool, true, false, ◌||◌, List, [], ◌∷◌, ◌++◌, get_or, take, drop, eqb, ltb}
use Rattle.lr1_base.specs.repr.Sizes.{production_place}
use Rattle.lr1_base.specs.repr.Lists.{joined}
use Rattle.lr1_base.specs.repr.Packed.{symbol_words}
use Rattle.table.specs.Words.{word_at, state_area, production_area, loose}
use Rattle.output_text.specs.conflict_lines.Lines.{spaced, symbol_text, symbol_texts}
use Rattle.table_check.specs.declared.loose.Roles.{Roles}

-- texts, byte for byte
-- ` #`
abbrev pub hash_text : List ℕ
hash_text = 32 ∷ 35 ∷ []

-- `: nonterminals, terminals, states, productions`
abbrev pub counts_text : List ℕ
counts_text = 58 ∷ 32 ∷ 110 ∷ 111 ∷ 110 ∷ 116 ∷ 101 ∷ 114 ∷ 109 ∷ 105 ∷ 110 ∷ 97 ∷ 108 ∷ 115 ∷ 44 ∷ 32 ∷ 116 ∷ 101 ∷ 114 ∷ 109 ∷ 105 ∷ 110 ∷ 97 ∷ 108 ∷ 115 ∷ 44 ∷ 32 ∷ 115 ∷ 116 ∷ 97 ∷ 116 ∷ 101 ∷ 115 ∷ 44 ∷ 32 ∷ 112 ∷ 114 ∷ 111 ∷ 100 ∷ 117 ∷ 99 ∷ 116 ∷ 105 ∷ 111 ∷ 110 ∷ 115 ∷ []

-- `: nonterminal`
abbrev pub nonterminal_text : List ℕ
nonterminal_text = 58 ∷ 32 ∷ 110 ∷ 111 ∷ 110 ∷ 116 ∷ 101 ∷ 114 ∷ 109 ∷ 105 ∷ 110 ∷ 97 ∷ 108 ∷ []

-- `: state`
abbrev pub state_text : List ℕ
state_text = 58 ∷ 32 ∷ 115 ∷ 116 ∷ 97 ∷ 116 ∷ 101 ∷ []

-- `: production`
abbrev pub production_text : List ℕ
production_text = 58 ∷ 32 ∷ 112 ∷ 114 ∷ 111 ∷ 100 ∷ 117 ∷ 99 ∷ 116 ∷ 105 ∷ 111 ∷ 110 ∷ []

-- `: symbol`
abbrev pub symbol_place : List ℕ
symbol_place = 58 ∷ 32 ∷ 115 ∷ 121 ∷ 109 ∷ 98 ∷ 111 ∷ 108 ∷ []

-- `: item`
abbrev pub item_place : List ℕ
item_place = 58 ∷ 32 ∷ 105 ∷ 116 ∷ 101 ∷ 109 ∷ []

-- ` =`
abbrev pub equals_text : List ℕ
equals_text = 32 ∷ 61 ∷ []

-- ` .`
abbrev pub dot_text : List ℕ
dot_text = 32 ∷ 46 ∷ []

-- `: edge by nonterminal`
abbrev pub by_nonterminal : List ℕ
by_nonterminal = 58 ∷ 32 ∷ 101 ∷ 100 ∷ 103 ∷ 101 ∷ 32 ∷ 98 ∷ 121 ∷ 32 ∷ 110 ∷ 111 ∷ 110 ∷ 116 ∷ 101 ∷ 114 ∷ 109 ∷ 105 ∷ 110 ∷ 97 ∷ 108 ∷ []

-- `: edge by terminal`
abbrev pub by_terminal : List ℕ
by_terminal = 58 ∷ 32 ∷ 101 ∷ 100 ∷ 103 ∷ 101 ∷ 32 ∷ 98 ∷ 121 ∷ 32 ∷ 116 ∷ 101 ∷ 114 ∷ 109 ∷ 105 ∷ 110 ∷ 97 ∷ 108 ∷ []

-- ` to state`
abbrev pub to_state : List ℕ
to_state = 32 ∷ 116 ∷ 111 ∷ 32 ∷ 115 ∷ 116 ∷ 97 ∷ 116 ∷ 101 ∷ []

-- `: unused`
abbrev pub unused_text : List ℕ
unused_text = 58 ∷ 32 ∷ 117 ∷ 110 ∷ 117 ∷ 115 ∷ 101 ∷ 100 ∷ []

-- a text, then a number
unfoldable pub named : List ℕ → ℕ → List ℕ
named name n = name ++ spaced n

-- what a loose record is, for each sort of chain that reaches it

unfoldable pub symbol_part : Bool → ℕ → ℕ → List ℕ
symbol_part shown kind number = elim shown [ true ↦ symbol_place ++ symbol_text kind number | false ↦ [] ]

-- an item with the nonterminal n and the symbols ws (kind and number each), the cursor behind i of them
unfoldable pub rule_text : ℕ → List ℕ → ℕ → List ℕ
rule_text n ws i = named item_place n ++ (equals_text ++ (symbol_texts (take (2 * i) ws) ++ (dot_text ++ symbol_texts (drop (2 * i) ws))))

-- productions packed as in repr's specs/Packed
unfoldable pub item_part : Bool → List ℕ → ℕ → ℕ → List ℕ
item_part shown g p i = elim shown [ true ↦ rule_text (get_or g (production_place p) 0) (symbol_words g p) i | false ↦ [] ]

unfoldable pub by_text : ℕ → List ℕ
by_text kind = elim (eqb kind 0) [ true ↦ by_nonterminal | false ↦ by_terminal ]

unfoldable pub edge_part : Bool → ℕ → ℕ → ℕ → List ℕ
edge_part shown kind number target = elim shown [ true ↦ named (by_text kind) number ++ named to_state target | false ↦ [] ]

unfoldable pub unused_part : Roles → List ℕ
unused_part R = elim (R.symbol || (R.item || R.edge)) [ true ↦ [] | false ↦ unused_text ]

-- loose record r of table t, with the packed productions g
unfoldable pub loose_text : List ℕ → List ℕ → ℕ → Roles → List ℕ
loose_text t g r R =
    symbol_part R.symbol (word_at t r 1) (word_at t r 2)
    ++ (item_part R.item g (word_at t r 1) (word_at t r 2)
    ++ (edge_part R.edge (word_at t r 1) (word_at t r 2) (word_at t r 3) ++ unused_part R))

-- a record of the areas
unfoldable pub area_text : List ℕ → ℕ → List ℕ
area_text t r = elim (eqb r 0) [
  | true ↦ counts_text
  | false ↦ elim (ltb r (state_area t)) [
    | true ↦ named nonterminal_text (r - 1)
    | false ↦ elim (ltb r (production_area t)) [ true ↦ named state_text (r - state_area t) | false ↦ named production_text (r - production_area t) ]
  ]
]

unfoldable pub record_text : List ℕ → List ℕ → ℕ → Roles → List ℕ
record_text t g r R = elim (ltb r (loose t)) [ true ↦ area_text t r | false ↦ loose_text t g r R ]

-- numbers, a space before each, and a comment to the end of the line
unfoldable pub line_of : List ℕ → List ℕ → List ℕ
line_of ws comment = joined spaced ws ++ (comment ++ (10 ∷ []))

-- the line of record r
unfoldable pub line_of_record : List ℕ → List ℕ → ℕ → Roles → List ℕ
line_of_record t g r R = line_of (take 4 (drop (r * 4) t)) (named hash_text r ++ record_text t g r R)

-- production and index of an item, the productions being packed
pub record IsItem (g : List ℕ) (productions p i : ℕ) : Type 0 where
  pub production : p < productions
  pub index : i ≤ get_or g (production_place p + 1) 0
