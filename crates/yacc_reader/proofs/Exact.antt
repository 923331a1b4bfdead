-- A text is read exactly if it is of the grammar and no refusal applies; what is left of it; a refusal changes nothing (specs/Reading).
use Prim.Native.Nat.{ℕ, ◌+◌}
use mathlib.Core.Bool.{true, false}
use mathlib.Core.Path.{◌≡◌, refl, ap, ◌∙◌}
use mathlib.Core.List.{List}
use mathlib.Core.Option.{Option, none, some}
use lib.ListN.{length}
use lib.Dec.{leb}
use Rattle.lr1_base.specs.repr.Reply.{Reply, answered, refused}
use Rattle.lr1_base.specs.declared.repr.NonterminalString.{NonterminalString}
use Rattle.lr1_base.proofs.repr.Lists.{cases, clash}
use Rattle.table_rewrite.specs.spelling.Spelled.{productions_at}
use Rattle.yacc_syntax.specs.text.Grammar.{Layout, text_limit}
use Rattle.yacc_syntax.specs.text.Parse.{parse}
use Rattle.yacc_syntax.proofs.text.Exact.{parse_sound, text_parsed}
use Rattle.yacc_reader.specs.parsed_file.Source.{Source}
use Rattle.yacc_reader.specs.parsed_file.Meaning.{table_of}
use Rattle.yacc_reader.specs.parsed_file.Outcome.{Outcome, unchanged, misnamed, too_many, too_long, room, answer_of, fitted_of, counted_of, named_of, source_in, parsed_of, read_of, read_as}
use Rattle.yacc_reader.specs.declared.parsed_file.Reading.{Reading}
use Rattle.yacc_reader.proofs.parsed_file.Said.{read_alternatives}
use Rattle.yacc_reader.proofs.parsed_file.Fits.{read_accepted, read-meaning, read_spelling}
use Rattle.yacc_reader.proofs.parsed_file.Read.{was_read}
use Rattle.yacc_reader.proofs.counts.Limits.{written_of}
use Rattle.yacc_reader.specs.Reading.{is_read, Bytes, Legible, Leaves, Untouched, IsRead}
use Rattle.yacc_reader.proofs.Laws.{read-counted, counted-passes, good}

-- refusals change nothing
module _ (table places : List ℕ) where
  abbrev Quiet : Outcome → Type 0
  Quiet o = is_read o.answer ≡ false → Untouched table places o

  quiet : (n r : ℕ) → Quiet (unchanged n r table places)
  unfolding unchanged is_read
  quiet n r f = record { refused = refl; words = refl; listed = refl }

  fitted_quiet : (S : Source) (x : Option ℕ) → Quiet (fitted_of S table places x)
  unfolding fitted_of answer_of is_read
  fitted_quiet S (some p) = quiet 5 (productions_at (table_of S) + p)
  fitted_quiet S none = cases (room S table places) (λ y. rw (y, fitted_of) (λ f. clash true refl f)) (λ n. rw (n, fitted_of) (quiet 17 0))

  counted_quiet : (S : Source) → Quiet (counted_of S table places)
  unfolding counted_of
  counted_quiet S = cases (too_many S) (λ y. rw (y, counted_of) (quiet 2 0)) (λ n. rw (n, counted_of) (fitted_quiet S (too_long 0 S.alternatives)))

  named_quiet : (S : Source) → Quiet (named_of S table places)
  unfolding named_of
  named_quiet S = cases (misnamed S) (λ y. rw (y, named_of) (quiet 21 0)) (λ n. rw (n, named_of) (counted_quiet S))

  parsed_quiet : (o : Option Layout) → Quiet (parsed_of o table places)
  unfolding parsed_of
  parsed_quiet none = quiet 20 0
  parsed_quiet (some l) = named_quiet (source_in l.pieces)

  read_quiet : (t : List ℕ) → Quiet (read_of t table places)
  unfolding read_of
  read_quiet t = cases (leb (length t) text_limit) (λ y. rw (y, read_of) (parsed_quiet (parse t))) (λ n. rw (n, read_of) (quiet 20 0))

module _ (t table places : List ℕ) (b : Bytes t) where
  read_legible : (n m : ℕ) (s : NonterminalString) (ws vs : List ℕ) → read_of t table places ≡ record { answer = read_as n m s; table = ws; places = vs } → Legible t table places
  read_legible n m s ws vs e =
      let R = was_read t table places ws vs n m s e in
      let P = parse_sound t R.layout R.parsed in
      record {
        text = record { short = R.short; bytes = b; layout = R.layout; sound = P.0; spelled = P.1 };
        passes = record { named = R.good.named; few = R.good.few; short = R.good.short; roomy = R.roomy };
      }

  only_legible : (a : Reply Reading) → (read_of t table places).answer ≡ a → is_read a ≡ true → Legible t table places
  unfolding is_read
  only_legible (answered r) e y = read_legible r.records r.places r.start (read_of t table places).table (read_of t table places).places (ap (λ (a : Reply Reading). record { answer = a; table = (read_of t table places).table; places = (read_of t table places).places }) e)
  only_legible (refused n r) e y = clash false y refl

  all_leave : (G : Legible t table places) → Leaves t table places G (read_of t table places)
  all_leave G =
      let l = G.text.layout in
      let p = text_parsed t G.text in
      let w : read_of t table places ≡ written_of (source_in l.pieces) table places = read-counted t table places G.text.short l p G.passes.named ∙ counted-passes (source_in l.pieces) table places G.passes in
      let g = good t l p table places G.passes in
      record {
        answer = ap (λ (o : Outcome). o.answer) w;
        words = ap (λ (o : Outcome). o.table) w;
        listed = ap (λ (o : Outcome). o.places) w;
        accepted = read_accepted (source_in l.pieces) g;
        means = read-meaning (source_in l.pieces) g;
        again = read_spelling (source_in l.pieces) g;
        productions = read_alternatives l G.text.sound;
      }

  -- of the call: read_of is what `read_yacc` answers and leaves
  pub is_read_lem : IsRead t table places (read_of t table places)
  is_read_lem = record {
    only = only_legible (read_of t table places).answer refl;
    all = all_leave;
    others = read_quiet table places t;
  }
