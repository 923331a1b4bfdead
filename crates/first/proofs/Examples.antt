-- FIRST computed from its definition: table B, and S → a X where X has no production.
use mathlib.Core.Bool.{true, false}
use mathlib.Core.Path.{◌≡◌, refl}
use mathlib.Core.List.{[], ◌∷◌}
use Rattle.lr1_base.specs.words.Same.{same_words}
use Rattle.lr1_base.specs.repr.Meaning.{nonterminal, terminal, Table}
use Rattle.lr1_base.specs.lookahead.Tokens.{has, single, union, without}
use Rattle.first.specs.First.{join, first_of, marked_at_end, unmarked, first0, grown, round, settle, sets_of_first, FIRST}

-- E → E + E, E → n; the terminals are + and n
abbrev pub table_b : Table
table_b = record {
  terminals = 2;
  nonterminals = (0 ∷ 1 ∷ []) ∷ [];
  productions = record { nonterminal = 0; symbols = nonterminal 0 ∷ terminal 0 ∷ nonterminal 0 ∷ []; start = 0; end = 9 }
      ∷ record { nonterminal = 0; symbols = terminal 1 ∷ []; start = 12; end = 13 }
      ∷ [];
  states = [];
}

-- of nothing: no terminal, and yes
pub b_nothing : FIRST table_b [] ≡ record { tokens = record { 0 = 0 }; nullable = true }
unfolding FIRST first0 unmarked marked_at_end has single without
b_nothing = refl

-- of E: n, and no
pub b_e : FIRST table_b (nonterminal 0 ∷ []) ≡ record { tokens = record { 0 = 2 }; nullable = false }
unfolding FIRST first0 unmarked marked_at_end first_of sets_of_first settle same_words round grown join has single union without
b_e = refl

-- S → a X, and X has no production; the terminal is a
abbrev pub table_sa_x : Table
table_sa_x = record {
  terminals = 1;
  nonterminals = (0 ∷ []) ∷ [] ∷ [];
  productions = record { nonterminal = 0; symbols = terminal 0 ∷ nonterminal 1 ∷ []; start = 0; end = 7 } ∷ [];
  states = [];
}

-- of S: a, and no
pub s_a : FIRST table_sa_x (nonterminal 0 ∷ []) ≡ record { tokens = record { 0 = 1 }; nullable = false }
unfolding FIRST first0 unmarked marked_at_end first_of sets_of_first settle same_words round grown join has single union without
s_a = refl

-- of X: nothing, and no
pub x_none : FIRST table_sa_x (nonterminal 1 ∷ []) ≡ record { tokens = record { 0 = 0 }; nullable = false }
unfolding FIRST first0 unmarked marked_at_end first_of sets_of_first settle same_words round grown join has single union without
x_none = refl
