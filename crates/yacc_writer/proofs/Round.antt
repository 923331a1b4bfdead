-- What `write_yacc` writes, read back with room, is the grammar of the table again (specs/Round).
use Prim.Native.Nat.{ℕ, suc, ◌+◌, ◌*◌, ◌/◌, ◌≤◌}
use native.Mathlib.Omega.{arith}
use mathlib.Core.Bool.{true, false}
use mathlib.Core.Path.{◌≡◌, refl, sym, ap, ◌∙◌}
use mathlib.Core.List.{List, [], ◌∷◌, map}
use lib.Dec.{leb}
use lib.ListN.{length, get_or, take, drop, length-append}
use lib.Seq.{take_at}
use borrow.Author.Tests.{le-leb}
use Rattle.lr1_base.specs.words.Lent.{in_front}
use Rattle.lr1_base.specs.repr.Lists.{up_from, below, keep}
use Rattle.lr1_base.specs.repr.Reply.{Reply, answered, refused}
use Rattle.lr1_base.specs.repr.Meaning.{Production, Table, TableFits}
use Rattle.lr1_base.proofs.repr.Lists.{cases, clash, length_mapped}
use Rattle.table.specs.Checked.{Checked, Accepted, Refused as No}
use Rattle.table.specs.Decoded.{meaning}
use Rattle.table.specs.Refusals.{check_of}
use Rattle.table.proofs.Decoding.{fits}
use Rattle.table_rewrite.specs.spelling.Spelled.{states_at, productions_at, symbols_at, items_place, edges_at, records_of, size_of, symbol_lists, spell, owns, Ordered}
use Rattle.table_rewrite.proofs.spelling.Places.{spell-length}
use Rattle.table_rewrite.proofs.spelling.Rising.{meaning_ordered}
use Rattle.yacc_reader.specs.parsed_file.Source.{Known, Source}
use Rattle.yacc_reader.specs.parsed_file.Meaning.{table_of, places_of, start_of}
use Rattle.yacc_reader.specs.parsed_file.Outcome.{room, answer_of, read_as, read_of, source_in}
use Rattle.yacc_reader.specs.declared.parsed_file.Reading.{Reading}
use Rattle.yacc_reader.proofs.parsed_file.Fits.{Good, read_accepted, read-meaning}
use Rattle.yacc_writer.specs.text.Text.{ascending, pieces_of, text_of}
use Rattle.yacc_writer.specs.text.Outcome.{Outcome, written_of, write_of}
use Rattle.yacc_writer.proofs.text.Again.{nonterminals-back, terminals-back, owners_back, symbols-back, start_back, written_again, table_terminals}
use Rattle.yacc_writer.proofs.text.Back.{chains_back}
use Rattle.yacc_writer.proofs.text.Reread.{reread_good, written_read}
use Rattle.yacc_writer.specs.Round.{records_again, places_again, RoundTrip}
use Rattle.yacc_writer.proofs.Turns.{write-refused, write_accepted, written_disordered, written-full, written_roomy}

-- an answer of bytes is no refusal
unfoldable bytes? : Reply ℕ → ℕ
bytes? (answered n) = 1
bytes? (refused n r) = 0

unfoldable size : Reply ℕ → ℕ
size (answered n) = n
size (refused n r) = 0

-- what is known where bytes were answered
pub record Done (t text bs : List ℕ) (n : ℕ) : Type 0 where
  pub accepted : check_of t ≡ Accepted
  pub ordered : ascending 0 (meaning t).nonterminals ≡ true
  pub many : n ≡ length (text_of (meaning t))
  pub is : bs ≡ in_front (text_of (meaning t)) text

module _ (t text bs : List ℕ) (n : ℕ) (w : write_of t text ≡ record { answer = answered n; text = bs }) where
  abbrev T : Table
  T = meaning t

  none_refused : (x y : ℕ) → record { answer = refused x y; text = text } ≡ write_of t text → ⊥
  unfolding bytes?
  none_refused x y e =
      let z : ◌≡◌ {A = ℕ} 0 1 = ap (λ (o : Outcome). bytes? o.answer) (e ∙ w) in
      omega arith

  fitted : check_of t ≡ Accepted → ascending 0 T.nonterminals ≡ true → leb (length (text_of T)) (length text) ≡ true → Done t text bs n
  unfolding size
  fitted a o l =
      let e = written_roomy T text o l ∙ write_accepted t text a ∙ w in
      record { accepted = a; ordered = o; many = sym (ap (λ (x : Outcome). size x.answer) e); is = sym (ap (λ (x : Outcome). x.text) e) }

  by_check : (c : Checked) → check_of t ≡ c → Done t text bs n
  by_check (No x y) a = absurd (none_refused x y (write-refused t text x y a))
  by_check Accepted a =
      cases (ascending 0 T.nonterminals)
      (λ o. cases (leb (length (text_of T)) (length text)) (fitted a o) (λ l. absurd (none_refused 17 0 (written-full T text o l ∙ write_accepted t text a))))
      (λ o. absurd (none_refused 23 0 (written_disordered T text o ∙ write_accepted t text a)))

  done : Done t text bs n
  done = by_check (check_of t) refl

-- an ordered table that ascends has a production
first-empty : (ns : List (List ℕ)) → 1 ≤ length ns → get_or ns 0 [] ≡ [] → ascending 0 ns ≡ false
unfolding ascending
first-empty [] h e = absurd (omega arith)
first-empty ([] ∷ ns) h e = refl
first-empty ((p ∷ ps) ∷ ns) h e = let z : suc (length ps) ≡ 0 = ap length e in absurd (omega arith)

none_owned : (T : Table) → Ordered T → 1 ≤ length T.nonterminals → T.productions ≡ [] → get_or T.nonterminals 0 [] ≡ []
unfolding keep below up_from
none_owned T O h e = O.lists 0 h ∙ ap (λ (l : List Production). keep (owns T 0) (below (length l))) e

-- what is read has one state, and the counts are those of its source
records_of_lem : (Q : Source) → records_of (table_of Q) ≡ 2 + length (table_of Q).nonterminals + length (table_of Q).productions + size_of (symbol_lists (table_of Q))
unfolding records_of edges_at items_place symbols_at productions_at states_at size_of table_of
records_of_lem Q = omega arith

written_same : (U T : Table) (text : List ℕ) → U.nonterminals ≡ T.nonterminals → text_of U ≡ text_of T → written_of U text ≡ written_of T text
written_same U T text a b =
    cases (ascending 0 T.nonterminals)
    (λ o.
    cases (leb (length (text_of T)) (length text))
    (λ l.
    sym (written_roomy U text (ap (ascending 0) a ∙ o) (ap (λ (w : List ℕ). leb (length w) (length text)) b ∙ l))
    ∙ ap (λ (w : List ℕ). record { answer = answered (length w); text = in_front w text }) b
    ∙ written_roomy T text o l)
    (λ l. sym (written-full U text (ap (ascending 0) a ∙ o) (ap (λ (w : List ℕ). leb (length w) (length text)) b ∙ l)) ∙ written-full T text o l))
    (λ o. sym (written_disordered U text (ap (ascending 0) a ∙ o)) ∙ written_disordered T text o)

module _ (t text bs : List ℕ) (n : ℕ) (table places : List ℕ) (D : Done t text bs n) (r : records_again (meaning t) ≤ length table / 4) (m : places_again (meaning t) ≤ length places) where
  abbrev K : Table
  K = meaning t

  F : TableFits K
  F = fits t D.accepted

  O : Ordered K
  O = meaning_ordered t D.accepted

  module _ (p : Production) (ps : List Production) (e : K.productions ≡ p ∷ ps) where
    abbrev Q : Source
    Q = source_in (pieces_of K)

    abbrev U : Table
    U = table_of Q

    A : ascending 0 K.nonterminals ≡ true
    A = D.ordered

    chains : U.nonterminals ≡ K.nonterminals
    chains = chains_back K p ps F e O A

    records_are : records_of U ≡ records_again K
    unfolding records_again
    records_are =
        let a : length U.nonterminals ≡ length K.nonterminals = ap length chains in
        let b : length U.productions ≡ length K.productions = sym (length_mapped (λ (q : Production). q.nonterminal) U.productions) ∙ ap length (owners_back K p ps F e O A) ∙ length_mapped (λ (q : Production). q.nonterminal) K.productions in
        let c : size_of (symbol_lists U) ≡ size_of (symbol_lists K) = ap size_of (symbols-back K p ps F e O A) in
        let d = records_of_lem Q in
        omega arith

    places_are : length (places_of Q) ≡ places_again K
    unfolding places_of places_again
    places_are =
        let a = length-append (map (λ (k : Known). k.at) Q.nonterminals) (map (λ (k : Known). k.at) Q.terminals) in
        let b = length_mapped (λ (k : Known). k.at) Q.nonterminals in
        let c = length_mapped (λ (k : Known). k.at) Q.terminals in
        let d = nonterminals-back K p ps F e O A in
        let f = terminals-back K p ps F e O A in
        omega arith

    roomy : room Q table places ≡ true
    unfolding room
    roomy =
        let a = records_are in
        let b = places_are in
        rw (le-leb (records_of U) (length table / 4) (omega arith), le-leb (length (places_of Q)) (length places) (omega arith))

    answer_is : answer_of Q ≡ read_as (records_again K) (places_again K) (record { 0 = 0 })
    unfolding answer_of
    answer_is =
        ap (λ (k : ℕ). read_as k (length (places_of Q)) (record { 0 = start_of Q.nonterminals Q.starts })) records_are
        ∙ ap (λ (k : ℕ). read_as (records_again K) k (record { 0 = start_of Q.nonterminals Q.starts })) places_are
        ∙ ap (λ (k : ℕ). read_as (records_again K) (places_again K) (record { 0 = k })) (start_back K p ps F e O A)

    bytes_are : take n bs ≡ text_of K
    unfolding in_front
    bytes_are = ap (take n) D.is ∙ take_at (text_of K) (drop (length (text_of K)) text) n (sym D.many)

    good : Good Q
    good = reread_good K p ps F e O A

    meant : meaning (spell U) ≡ U
    meant = read-meaning Q good

    trip : RoundTrip t text (take n bs) table places
    trip = record {
      words = spell U;
      listed = places_of Q;
      long = spell-length U ∙ ap (λ (k : ℕ). 4 * k) records_are;
      read =
          ap (λ (b : List ℕ). read_of b table places) bytes_are
          ∙ written_read K p ps F e O A table places roomy
          ∙ ap (λ (a : Reply Reading). record { answer = a; table = in_front (spell U) table; places = in_front (places_of Q) places }) answer_is;
      accepted = read_accepted Q good;
      terminals = ap (λ (X : Table). X.terminals) meant ∙ table_terminals Q ∙ terminals-back K p ps F e O A;
      chains = ap (λ (X : Table). X.nonterminals) meant ∙ chains;
      owners = ap (λ (X : Table). map (λ q. q.nonterminal) X.productions) meant ∙ owners_back K p ps F e O A;
      symbols = ap (λ (X : Table). map (λ q. q.symbols) X.productions) meant ∙ symbols-back K p ps F e O A;
      again =
          sym (write_accepted (spell U) text (read_accepted Q good))
          ∙ ap (λ (X : Table). written_of X text) meant
          ∙ written_same U K text chains (written_again K p ps F e O A)
          ∙ write_accepted t text D.accepted;
    }

-- where bytes are answered, they are read back
pub round_trip : (t text bs : List ℕ) (n : ℕ) → write_of t text ≡ record { answer = answered n; text = bs } → (table places : List ℕ)
    → records_again (meaning t) ≤ length table / 4 → places_again (meaning t) ≤ length places → RoundTrip t text (take n bs) table places
round_trip t text bs n w table places r m = go (meaning t).productions refl
  where
    go : (l : List Production) → (meaning t).productions ≡ l → RoundTrip t text (take n bs) table places
    go [] e =
        let f = (fits t (done t text bs n w).accepted).some-nonterminal in
        clash (ascending 0 (meaning t).nonterminals) (done t text bs n w).ordered (first-empty (meaning t).nonterminals f (none_owned (meaning t) (meaning_ordered t (done t text bs n w).accepted) f e))
    go (p ∷ ps) e = trip t text bs n table places (done t text bs n w) r m p ps e
