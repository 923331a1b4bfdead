-- The table a caller lends (docs/RULES.md, "Words of a table"): records of four words, areas, chains.
use Rattle.std.specs.Prelude.{ℕ, zero, suc, ◌+◌, ◌*◌, ◌/◌, Bool, true, false, ◌&&◌, not, List, [], ◌∷◌, length, get_or, eqb, ltb, leb}

-- word k of record r
unfoldable pub word_at : List ℕ → ℕ → ℕ → ℕ
word_at t r k = get_or t (r * 4 + k) 0

unfoldable pub records : List ℕ → ℕ
records t = length t / 4

-- record 0
abbrev pub nonterminals : List ℕ → ℕ
nonterminals t = word_at t 0 0

abbrev pub terminals : List ℕ → ℕ
terminals t = word_at t 0 1

abbrev pub states : List ℕ → ℕ
states t = word_at t 0 2

abbrev pub productions : List ℕ → ℕ
productions t = word_at t 0 3

-- where the areas begin; nonterminal n is record 1 + n
unfoldable pub state_area : List ℕ → ℕ
state_area t = 1 + nonterminals t

unfoldable pub production_area : List ℕ → ℕ
production_area t = state_area t + states t

unfoldable pub loose : List ℕ → ℕ
loose t = production_area t + productions t

-- the records that an index may name: from `from` up to and without `past`
pub record Area : Type 0 where
  pub from : ℕ
  pub past : ℕ

unfoldable pub production_records : List ℕ → Area
production_records t = record { from = production_area t; past = loose t }

unfoldable pub loose_records : List ℕ → Area
loose_records t = record { from = loose t; past = records t }

-- index x, held by record r, names a record by the rule: in the area, and larger than r
unfoldable pub names : Area → ℕ → ℕ → Bool
names a r x = leb a.from x && (ltb x a.past && ltb r x)

-- an index against the rule: not 0, and no such name
unfoldable pub against : Area → ℕ → ℕ → Bool
against a r x = not (eqb x 0) && not (names a r x)

-- the records of a chain from index x on, which record r holds; f bounds the steps, and the number of records is enough (`chain-whole` of proofs/Chains).
-- An index against the rule is not followed
unfoldable pub chain_by : ℕ → List ℕ → Area → ℕ → ℕ → List ℕ
chain_by zero t a r x = []
chain_by (suc f) t a r x = elim (not (eqb x 0) && names a r x) [ true ↦ x ∷ chain_by f t a x (word_at t x 0) | false ↦ [] ]

unfoldable pub chain : List ℕ → Area → ℕ → ℕ → List ℕ
chain t a r x = chain_by (records t) t a r x
