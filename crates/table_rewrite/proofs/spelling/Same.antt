-- What the spelling promises (docs/RULES.md, "One spelling"): tables of equal meaning are spelled alike and others never, and spelling again changes nothing.
use mathlib.Core.Path.{◌≡◌, sym, ap, ◌∙◌}
use mathlib.Core.List.{List, []}
use mathlib.Core.Logic.{◌↔◌}
use Prim.Native.Nat.{ℕ, ◌≤◌}
use native.Mathlib.Omega.{arith}
use lib.ListN.{length, get_or}
use lib.Seq.{ext_get_or}
use Rattle.lr1_base.specs.repr.Sizes.{record_limit}
use Rattle.lr1_base.specs.repr.Lists.{below, keep}
use Rattle.lr1_base.specs.repr.Meaning.{Table, TableFits}
use Rattle.table.specs.Checked.{Accepted}
use Rattle.table.specs.Decoded.{meaning}
use Rattle.table.specs.Refusals.{check_of}
use Rattle.table.proofs.Decoding.{fits}
use Rattle.table_rewrite.specs.spelling.Spelled.{records_of, owns, spell, Ordered, SameTable}
use Rattle.table_rewrite.proofs.spelling.Meaning.{made_table, spell-meaning}
use Rattle.table_rewrite.proofs.spelling.Accepted.{spell_accepted}
use Rattle.table_rewrite.proofs.spelling.Rising.{meaning_ordered}

-- the lists of nonterminals follow from the rest

owned_same : (T U : Table) (n : ℕ) → T.productions ≡ U.productions → keep (owns T n) (below (length T.productions)) ≡ keep (owns U n) (below (length U.productions))
unfolding owns
owned_same T U n e = rw e

table_is : (T U : Table) → T.terminals ≡ U.terminals → T.nonterminals ≡ U.nonterminals → T.productions ≡ U.productions → T.states ≡ U.states → T ≡ U
table_is T U a b c d = made_table T.terminals U.terminals T.nonterminals U.nonterminals T.productions U.productions T.states U.states a b c d

pub same_is : (T U : Table) → Ordered T → Ordered U → SameTable T U → T ≡ U
same_is T U O Q S =
    table_is T U S.terminals
    (ext_get_or [] T.nonterminals U.nonterminals S.nonterminals
    (λ n h. O.lists n h ∙ owned_same T U n S.productions ∙ sym (Q.lists n (omega (arith, S.nonterminals)))))
    S.productions S.states

pub is_same : (T U : Table) → T ≡ U → SameTable T U
is_same T U e = record {
  nonterminals = ap (λ (X : Table). length X.nonterminals) e;
  terminals = ap (λ (X : Table). X.terminals) e;
  productions = ap (λ (X : Table). X.productions) e;
  states = ap (λ (X : Table). X.states) e;
}

-- other states under the same grammar leave the order (for building states)
pub ordered_parts : (T U : Table) → T.nonterminals ≡ U.nonterminals → T.productions ≡ U.productions → Ordered T → Ordered U
ordered_parts T U a b O = record {
  lists = λ n h. ap (λ (l : List (List ℕ)). get_or l n []) (sym a) ∙ O.lists n (rw a h) ∙ owned_same T U n b;
}

-- two spellings

pub spell_injective : (T U : Table) → TableFits T → TableFits U → Ordered T → Ordered U → spell T ≡ spell U → T ≡ U
spell_injective T U F G O Q e = sym (spell-meaning T F O) ∙ ap meaning e ∙ spell-meaning U G Q

-- of two accepted tables: equal words exactly for the same counts, productions, spans, items and edges
pub equal_words : (t u : List ℕ) → check_of t ≡ Accepted → check_of u ≡ Accepted → (spell (meaning t) ≡ spell (meaning u)) ↔ SameTable (meaning t) (meaning u)
equal_words t u a b = (
  λ e. is_same (meaning t) (meaning u) (spell_injective (meaning t) (meaning u) (fits t a) (fits u b) (meaning_ordered t a) (meaning_ordered u b) e),
  λ S. ap spell (same_is (meaning t) (meaning u) (meaning_ordered t a) (meaning_ordered u b) S),
)

-- the same with equal meanings
pub equal_meaning : (t u : List ℕ) → check_of t ≡ Accepted → check_of u ≡ Accepted → (spell (meaning t) ≡ spell (meaning u)) ↔ (meaning t ≡ meaning u)
equal_meaning t u a b = (
  λ e. spell_injective (meaning t) (meaning u) (fits t a) (fits u b) (meaning_ordered t a) (meaning_ordered u b) e,
  λ e. ap spell e,
)

-- of an accepted table: its spelling means the same, spelling it again changes nothing, and it is accepted where it has at most 8,192 records

module _ (t : List ℕ) (e : check_of t ≡ Accepted) where
  pub meaning_again : meaning (spell (meaning t)) ≡ meaning t
  meaning_again = spell-meaning (meaning t) (fits t e) (meaning_ordered t e)

  pub spell_again : spell (meaning (spell (meaning t))) ≡ spell (meaning t)
  spell_again = ap spell meaning_again

  pub accepted_again : records_of (meaning t) ≤ record_limit → check_of (spell (meaning t)) ≡ Accepted
  accepted_again few = spell_accepted (meaning t) (fits t e) few
