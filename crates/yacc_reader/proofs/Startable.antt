-- What is read stands in the words that were lent, has one empty state, and its start is one of its nonterminals: a start production can be added (module start_production of table_rewrite).
use Prim.Native.Nat.{ℕ, ◌*◌, ◌/◌, ◌≤◌, ◌<◌}
use native.Mathlib.Omega.{arith}
use mathlib.Core.Bool.{Bool, true, false, ◌||◌, not}
use mathlib.Core.Path.{◌≡◌, refl, sym, ap, ◌∙◌, subst}
use mathlib.Core.List.{List, [], ◌∷◌}
use lib.ListN.{length, take}
use borrow.Author.Tests.{leb-true}
use Rattle.lr1_base.specs.repr.Lists.{some?}
use Rattle.lr1_base.specs.repr.Meaning.{All, Table}
use Rattle.lr1_base.specs.declared.repr.NonterminalString.{NonterminalString}
use Rattle.lr1_base.proofs.repr.Tests.{some?-cons}
use Rattle.table.specs.Decoded.{meaning}
use Rattle.table_rewrite.specs.spelling.Spelled.{records_of}
use Rattle.table_rewrite.specs.start_production.Started.{Startable}
use Rattle.yacc_syntax.specs.text.Grammar.{Id}
use Rattle.yacc_reader.specs.parsed_file.Source.{Known, is_known, Alternative, Source}
use Rattle.yacc_reader.specs.parsed_file.Meaning.{table_of, start_of}
use Rattle.yacc_reader.specs.parsed_file.Outcome.{undefined_use, named_both_ways, undefined_start, misnamed, room, answer_of, source_in, read_of, read_as}
use Rattle.yacc_reader.specs.declared.parsed_file.Reading.{Reading}
use Rattle.yacc_reader.proofs.parsed_file.Known.{number-below}
use Rattle.yacc_reader.proofs.parsed_file.Fits.{Good, count_nonterminals}
use Rattle.yacc_reader.proofs.parsed_file.Read.{same_reading, was_read, front-meaning}
use Rattle.lr1_base.proofs.laws.Bools.{or-none, and-true}

known : (a : Bool) → not a ≡ false → a ≡ true
known true e = refl
known false e = let o : ◌≡◌ {A = ℕ} 0 1 = cc in absurd (omega arith)

by_starts : (ks : List Known) (xs : List Id) → 0 < length ks → some? (λ x. not (is_known ks x)) xs ≡ false → start_of ks xs < length ks
unfolding start_of
by_starts ks [] z e = z
by_starts ks (x ∷ xs) z e = number-below ks x (known (is_known ks x) (or-none (not (is_known ks x)) (some? (λ y. not (is_known ks y)) xs) (sym (some?-cons (λ y. not (is_known ks y)) x xs) ∙ e)).0)

some_left : (ks : List Known) (as' : List Alternative) → 1 ≤ length as' → All (λ (a : Alternative). is_known ks a.left ≡ true) as' → 0 < length ks
unfolding All
some_left ks [] l h = absurd (omega (arith, l))
some_left ks (a ∷ as') l h = let n = number-below ks a.left h.0 in omega (arith, n)

start-inside : (S : Source) → Good S → start_of S.nonterminals S.starts < length S.nonterminals
unfolding misnamed undefined_start
start-inside S G = by_starts S.nonterminals S.starts (some_left S.nonterminals S.alternatives G.some_one G.lefts) (or-none (named_both_ways S) (undefined_start S) (or-none (undefined_use S) _ G.named).1).1

startable : (S : Source) → Good S → (n m : ℕ) (s : NonterminalString) → answer_of S ≡ read_as n m s → Startable (table_of S) s.0
unfolding table_of answer_of
startable S G n m s e =
    let q : start_of S.nonterminals S.starts ≡ s.0 = ap (λ (a : Reading). a.start.0) (same_reading _ _ e) in
    let i = start-inside S G in
    let c = count_nonterminals S in
    record { alone = refl; inside = omega (arith, q, i, c) }

pub read_startable : (text table places ws vs : List ℕ) (n m : ℕ) (s : NonterminalString) → read_of text table places ≡ record { answer = read_as n m s; table = ws; places = vs } → Startable (meaning (take (n * 4) ws)) s.0
read_startable text table places ws vs n m s e =
    let R = was_read text table places ws vs n m s e in
    subst (λ (T : Table). Startable T s.0) (sym (front-meaning text table places ws vs n m s e)) (startable (source_in R.layout.pieces) R.good n m s R.answered)

pub read_fits : (text table places ws vs : List ℕ) (n m : ℕ) (s : NonterminalString) → read_of text table places ≡ record { answer = read_as n m s; table = ws; places = vs } → n * 4 ≤ length table
unfolding room answer_of
read_fits text table places ws vs n m s e =
    let R = was_read text table places ws vs n m s e in
    let T = table_of (source_in R.layout.pieces) in
    let q : records_of T ≡ n = ap (λ (a : Reading). a.records) (same_reading _ _ R.answered) in
    let l = leb-true (records_of T) (length table / 4) (and-true _ _ R.roomy).0 in
    omega (arith, q, l)
