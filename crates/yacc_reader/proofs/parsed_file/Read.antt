-- Of the call itself: what a text that is read leaves is accepted, means the file's productions and one empty state, and is its own spelling.
use Prim.Native.Nat.{ℕ, ◌*◌, ◌≤◌}
use native.Mathlib.Omega.{arith}
use mathlib.Core.Bool.{true, false}
use mathlib.Core.Path.{◌≡◌, refl, sym, ap, ◌∙◌}
use mathlib.Core.List.{List, ◌++◌, map}
use mathlib.Core.Option.{Option, none, some}
use lib.Dec.{leb}
use lib.ListN.{length, take, drop}
use lib.Seq.{take-append_seam}
use borrow.Author.Tests.{leb-true}
use Rattle.lr1_base.specs.words.Lent.{in_front}
use Rattle.lr1_base.specs.repr.Reply.{answered, refused}
use Rattle.lr1_base.specs.declared.repr.NonterminalString.{NonterminalString}
use Rattle.lr1_base.proofs.repr.Lists.{cases}
use Rattle.table.specs.Checked.{Accepted}
use Rattle.table.specs.Decoded.{meaning}
use Rattle.table.specs.Refusals.{check_of}
use Rattle.table_rewrite.specs.spelling.Spelled.{records_of, spell}
use Rattle.table_rewrite.proofs.spelling.Places.{spell-length}
use Rattle.yacc_syntax.specs.text.Grammar.{Layout, text_limit}
use Rattle.yacc_syntax.specs.text.Parse.{parse}
use Rattle.yacc_syntax.proofs.text.Exact.{parse_sound}
use Rattle.yacc_reader.specs.parsed_file.Source.{Source}
use Rattle.yacc_reader.specs.parsed_file.Files.{bare_of, file_bares}
use Rattle.yacc_reader.specs.parsed_file.Meaning.{table_of, places_of}
use Rattle.yacc_reader.specs.parsed_file.Outcome.{Outcome, unchanged, misnamed, too_many, too_long, room, answer_of, fitted_of, counted_of, named_of, source_in, parsed_of, read_of, read_as}
use Rattle.yacc_reader.specs.declared.parsed_file.Reading.{Reading}
use Rattle.yacc_reader.proofs.parsed_file.Said.{read_alternatives, lefts_known, some-alternative}
use Rattle.yacc_reader.proofs.parsed_file.Fits.{Good, read_accepted, read-meaning}

pub same_reading : (a b : Reading) → answered a ≡ answered b → a ≡ b
same_reading a b e = cc

-- a text that is read, and what is left
pub record Reads (text table places ws vs : List ℕ) (n m : ℕ) (s : NonterminalString) : Type 0 where
  pub layout : Layout
  pub short : length text ≤ text_limit
  pub parsed : parse text ≡ some layout
  pub good : Good (source_in layout.pieces)
  pub roomy : room (source_in layout.pieces) table places ≡ true
  pub answered : answer_of (source_in layout.pieces) ≡ read_as n m s
  pub words : in_front (spell (table_of (source_in layout.pieces))) table ≡ ws
  pub listed : in_front (places_of (source_in layout.pieces)) places ≡ vs

module _ (table places ws vs : List ℕ) (n m : ℕ) (s : NonterminalString) where
  abbrev Was : Outcome → Type 0
  Was o = o ≡ record { answer = read_as n m s; table = ws; places = vs }

  refusing : (k r : ℕ) → Was (unchanged k r table places) → ⊥
  unfolding unchanged
  refusing k r e =
      let a : refused k r ≡ read_as n m s = ap (λ (o : Outcome). o.answer) e in
      let z : ◌≡◌ {A = ℕ} 0 1 = cc in
      omega arith

  -- what the refusals behind 20 leave
  record Passed (Q : Source) : Type 0 where
    named : misnamed Q ≡ false
    few : too_many Q ≡ false
    short : too_long 0 Q.alternatives ≡ none
    roomy : room Q table places ≡ true
    is : Was (record { answer = answer_of Q; table = in_front (spell (table_of Q)) table; places = in_front (places_of Q) places })

  fitted_was : (Q : Source) (x : Option ℕ) → misnamed Q ≡ false → too_many Q ≡ false → too_long 0 Q.alternatives ≡ x → Was (fitted_of Q table places x) → Passed Q
  unfolding fitted_of
  fitted_was Q (some p) a b c e = absurd (refusing 5 _ e)
  fitted_was Q none a b c e =
      cases (room Q table places) (λ t. record { named = a; few = b; short = c; roomy = t; is = rw (t, fitted_of) at e })
      (λ f. absurd (refusing 17 0 (rw (f, fitted_of) at e)))

  counted_was : (Q : Source) → misnamed Q ≡ false → Was (counted_of Q table places) → Passed Q
  unfolding counted_of
  counted_was Q a e =
      cases (too_many Q) (λ t. absurd (refusing 2 0 (rw (t, counted_of) at e))) (λ f. fitted_was Q (too_long 0 Q.alternatives) a f refl (rw (f, counted_of) at e))

  named_was : (Q : Source) → Was (named_of Q table places) → Passed Q
  unfolding named_of
  named_was Q e = cases (misnamed Q) (λ t. absurd (refusing 21 0 (rw (t, named_of) at e))) (λ f. counted_was Q f (rw (f, named_of) at e))

  parsed_was : (text : List ℕ) (o : Option Layout) → length text ≤ text_limit → parse text ≡ o → Was (parsed_of o table places) → Reads text table places ws vs n m s
  unfolding parsed_of
  parsed_was text none h p e = absurd (refusing 20 0 e)
  parsed_was text (some l) h p e =
      let P = named_was (source_in l.pieces) e in
      let S = (parse_sound text l p).0 in
      record {
        layout = l;
        short = h;
        parsed = p;
        good = record { lefts = lefts_known l S; some_one = some-alternative l S; named = P.named; few = P.few; short = P.short };
        roomy = P.roomy;
        answered = ap (λ (o : Outcome). o.answer) P.is;
        words = ap (λ (o : Outcome). o.table) P.is;
        listed = ap (λ (o : Outcome). o.places) P.is;
      }

  pub reads : (text : List ℕ) → Was (read_of text table places) → Reads text table places ws vs n m s
  unfolding read_of
  reads text e =
      cases (leb (length text) text_limit)
      (λ t. parsed_was text (parse text) (leb-true (length text) text_limit t) refl (rw (t, read_of) at e))
      (λ f. absurd (refusing 20 0 (rw (f, read_of) at e)))

-- the records that are answered, at the front of the table
pub read-front : (text table places ws vs : List ℕ) (n m : ℕ) (s : NonterminalString) (R : Reads text table places ws vs n m s) → take (n * 4) ws ≡ spell (table_of (source_in R.layout.pieces))
unfolding in_front answer_of
read-front text table places ws vs n m s R =
    let T = table_of (source_in R.layout.pieces) in
    let q : records_of T ≡ n = ap (λ (a : Reading). a.records) (same_reading _ _ R.answered) in
    let l : length (spell T) ≡ n * 4 = spell-length T ∙ (let c : 4 * records_of T ≡ n * 4 = omega arith in c) in
    ap (take (n * 4)) (sym R.words) ∙ ap (λ (k : ℕ). take k (spell T ++ drop (length (spell T)) table)) (sym l) ∙ take-append_seam (spell T) (drop (length (spell T)) table)

module _ (text table places ws vs : List ℕ) (n m : ℕ) (s : NonterminalString) (e : read_of text table places ≡ record { answer = read_as n m s; table = ws; places = vs }) where
  pub was_read : Reads text table places ws vs n m s
  was_read = reads table places ws vs n m s text e

  pub front_accepted : check_of (take (n * 4) ws) ≡ Accepted
  front_accepted = ap check_of (read-front text table places ws vs n m s was_read) ∙ read_accepted (source_in was_read.layout.pieces) was_read.good

  pub front-meaning : meaning (take (n * 4) ws) ≡ table_of (source_in was_read.layout.pieces)
  front-meaning = ap meaning (read-front text table places ws vs n m s was_read) ∙ read-meaning (source_in was_read.layout.pieces) was_read.good

  pub front_spelling : spell (meaning (take (n * 4) ws)) ≡ take (n * 4) ws
  front_spelling = ap spell front-meaning ∙ sym (read-front text table places ws vs n m s was_read)

  pub front_alternatives : map bare_of (source_in was_read.layout.pieces).alternatives ≡ file_bares was_read.layout.file
  front_alternatives = read_alternatives was_read.layout (parse_sound text was_read.layout was_read.parsed).0
