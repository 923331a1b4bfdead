-- Names that are written: a letter and at most two digits.
use Prim.Native.Nat.{ℕ, ◌≤◌, ◌<◌}
use native.Mathlib.Omega.{arith}
use mathlib.Core.Bool.{true}
use mathlib.Core.Path.{◌≡◌, refl, ap}
use mathlib.Core.List.{[], append-nil}
use lib.Dec.{leb}
use lib.ListN.{length}
use borrow.Author.Tests.{leb-true}
use Rattle.lr1_base.specs.repr.Lists.{up_from, below, every?}
use Rattle.lr1_base.specs.repr.Meaning.{Symbol, nonterminal, terminal, Table, SymbolFits, TableFits}
use Rattle.lr1_base.proofs.repr.Tests.{every?_below}
use Rattle.lr1_base.specs.numerals.Numeral.{numeral_by, numeral, is_digit_byte}
use Rattle.yacc_syntax.specs.text.Grammar.{is_white_byte, is_letter_byte, kind_of, letter?, goes_on_byte, spell_id, all_run, ok_id}
use Rattle.yacc_writer.specs.text.Text.{name_of}

all_run_lem : every? (λ n. all_run (numeral n)) (below 63) ≡ true
unfolding every? below up_from all_run numeral numeral_by goes_on_byte kind_of is_white_byte is_letter_byte is_digit_byte
all_run_lem = refl

all_short : every? (λ n. leb (length (numeral n)) 2) (below 63) ≡ true
unfolding every? below up_from numeral numeral_by
all_short = refl

run_small : (n : ℕ) → n < 63 → all_run (numeral n) ≡ true
run_small n h = every?_below (λ k. all_run (numeral k)) 63 n all_run_lem h

short_small : (n : ℕ) → n < 63 → length (numeral n) ≤ 2
short_small n h = leb-true (length (numeral n)) 2 (every?_below (λ k. leb (length (numeral k)) 2) 63 n all_short h)

-- a symbol's number, below 63 in either case
unfoldable pub number_of : Symbol → ℕ
number_of (nonterminal n) = n
number_of (terminal n) = n

pub number_small : (T : Table) (s : Symbol) → TableFits T → SymbolFits T s → number_of s < 63
unfolding SymbolFits number_of
number_small T (nonterminal n) F h = let f = F.few_nonterminals in omega arith
number_small T (terminal n) F h = let f = F.few_terminals in omega arith

pub name_ok : (s : Symbol) → number_of s < 63 → ok_id (name_of s) ≡ true
unfolding number_of ok_id name_of letter? kind_of is_white_byte is_letter_byte is_digit_byte
name_ok (nonterminal n) h = run_small n h
name_ok (terminal n) h = run_small n h

pub name_wide : (s : Symbol) → number_of s < 63 → length (spell_id (name_of s) []) ≤ 3
unfolding number_of name_of spell_id
name_wide (nonterminal n) h = let l = short_small n h in let a = ap length (append-nil (numeral n)) in omega arith
name_wide (terminal n) h = let l = short_small n h in let a = ap length (append-nil (numeral n)) in omega arith
