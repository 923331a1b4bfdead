-- What is written is read again: no refusal but 17 is left.
use Prim.Native.Nat.{ℕ, suc, ◌+◌, ◌≤◌, ◌<◌}
use native.Mathlib.Omega.{arith}
use mathlib.Core.Bool.{Bool, true, false, ◌&&◌, not}
use mathlib.Core.Path.{◌≡◌, refl, sym, ap, ◌∙◌, subst}
use mathlib.Core.List.{List, [], ◌∷◌, map}
use mathlib.Core.Option.{Option, none, some}
use lib.ListN.{length}
use borrow.Author.Tests.{le-ltb, lt-ltb, le-leb}
use Rattle.lr1_base.specs.words.Lent.{in_front}
use Rattle.lr1_base.specs.repr.Sizes.{symbol_limit}
use Rattle.lr1_base.specs.repr.Lists.{below, some?}
use Rattle.lr1_base.specs.repr.Meaning.{Symbol, nonterminal, terminal, Production, Table, SymbolFits, All, ProductionFits, TableFits}
use Rattle.lr1_base.proofs.repr.Lists.{length_mapped}
use Rattle.lr1_base.proofs.repr.Tests.{some?_no, some?-nil}
use Rattle.table_rewrite.specs.spelling.Spelled.{Ordered, spell}
use Rattle.yacc_syntax.specs.text.Grammar.{Id, Layout, text_limit}
use Rattle.yacc_syntax.specs.text.Parse.{parse}
use Rattle.yacc_reader.specs.parsed_file.Source.{same_id, Known, is_known, Alternative, Source}
use Rattle.yacc_reader.specs.parsed_file.Files.{Bare, bare_of}
use Rattle.yacc_reader.specs.parsed_file.Meaning.{table_of, places_of}
use Rattle.yacc_reader.specs.parsed_file.Outcome.{nowhere, undefined_use, named_both_ways, undefined_start, misnamed, too_many, too_long, room, answer_of, fitted_of, counted_of, named_of, parsed_of, read_of, source_in}
use Rattle.yacc_reader.proofs.parsed_file.Ids.{by_test, ids_of, known_id, known_ids}
use Rattle.yacc_reader.proofs.parsed_file.Said.{lefts_known, some-alternative}
use Rattle.yacc_reader.proofs.parsed_file.Fits.{Good}
use Rattle.yacc_writer.specs.text.Text.{ascending, name_of, pieces_of, text_of}
use Rattle.yacc_writer.specs.text.Files.{layout_of}
use Rattle.yacc_writer.proofs.text.Layouts.{text_size}
use Rattle.yacc_writer.proofs.text.Sound.{layout_sound, written-parsed}
use Rattle.yacc_writer.proofs.text.Order.{known_below}
use Rattle.yacc_writer.proofs.text.Again.{N_name, T_name, N_differ, T_differ, N-T, none_up, mk, ids_N, ids_T, known_N, alternatives_back, nonterminals-back, terminals-back, starts-back}

-- what holds of the alternatives without spans
from_bares : (P : Bare → Type 0) (xs : List Alternative) → All P (map bare_of xs) → All (λ (a : Alternative). P (bare_of a)) xs
unfolding All
from_bares P [] h = tt
from_bares P (a ∷ xs) h = (h.0, from_bares P xs h.1)

none_long : (p : ℕ) (xs : List Alternative) → All (λ (a : Alternative). length a.ids ≤ symbol_limit) xs → too_long p xs ≡ none
unfolding too_long All
none_long p [] h = refl
none_long p (a ∷ xs) h = rw (le-ltb symbol_limit (length a.ids) h.0, too_long) (none_long (suc p) xs h.1)

none_of : (t : Alternative → Bool) (xs : List Alternative) → All (λ (a : Alternative). t a ≡ false) xs → some? t xs ≡ false
unfolding All
none_of t [] h = some?-nil t
none_of t (a ∷ xs) h = some?_no t a xs h.0 ∙ none_of t xs h.1

and_no : (a b : Bool) → b ≡ true → (a && not b) ≡ false
and_no true b e = ap not e
and_no false b e = refl

by_ids : (t : Id → Bool) (ks : List Known) → some? (λ (k : Known). t k.id) ks ≡ some? t (ids_of ks)
unfolding some?
by_ids t [] = refl
by_ids t (k ∷ ks) = by_test (t k.id) (some? (λ (x : Known). t x.id) (k ∷ ks)) (some? t (ids_of (k ∷ ks))) (some? (λ (x : Known). t x.id) ks) (some? t (ids_of ks)) refl refl (by_ids t ks)

module _ (T : Table) (p : Production) (ps : List Production) (F : TableFits T) (e : T.productions ≡ p ∷ ps) (O : Ordered T) (A : ascending 0 T.nonterminals ≡ true) where
  abbrev Q : Source
  Q = source_in (pieces_of T)

  known_T : (x : Id) → is_known Q.terminals x ≡ known_id (map T_name (below T.terminals)) x
  known_T x = known_ids Q.terminals x ∙ ap (λ (l : List Id). known_id l x) (ids_T T p ps F e O A)

  somewhere : (s : Symbol) → SymbolFits T s → nowhere Q (name_of s) ≡ false
  unfolding nowhere SymbolFits
  somewhere (nonterminal n) h =
      let f = F.few_nonterminals in
      let k : is_known Q.nonterminals (N_name n) ≡ true = known_N T p ps F e O A (N_name n) ∙ known_below N_name N_differ (length T.nonterminals) n (omega arith) (omega arith) ∙ lt-ltb n (length T.nonterminals) h in
      ap (λ (b : Bool). not b && not (is_known Q.terminals (N_name n))) k
  somewhere (terminal n) h =
      let f = F.few_terminals in
      let k : is_known Q.terminals (T_name n) ≡ true = known_T (T_name n) ∙ known_below T_name T_differ T.terminals n (omega arith) f ∙ lt-ltb n T.terminals h in
      and_no (not (is_known Q.nonterminals (T_name n))) (is_known Q.terminals (T_name n)) k

  symbols_somewhere : (ss : List Symbol) → All (SymbolFits T) ss → some? (nowhere Q) (map name_of ss) ≡ false
  unfolding All
  symbols_somewhere [] h = some?-nil (nowhere Q)
  symbols_somewhere (s ∷ ss) h = some?_no (nowhere Q) (name_of s) (map name_of ss) (somewhere s h.0) ∙ symbols_somewhere ss h.1

  bares_somewhere : (qs : List Production) → All (ProductionFits T) qs → All (λ (b : Bare). some? (nowhere Q) b.ids ≡ false) (map mk qs)
  unfolding All
  bares_somewhere [] h = tt
  bares_somewhere (q ∷ qs) h = (symbols_somewhere q.symbols h.0.symbols, bares_somewhere qs h.1)

  bares_short : (qs : List Production) → All (ProductionFits T) qs → All (λ (b : Bare). length b.ids ≤ symbol_limit) (map mk qs)
  unfolding All
  bares_short [] h = tt
  bares_short (q ∷ qs) h = (let s = h.0.short in let m = length_mapped name_of q.symbols in omega arith, bares_short qs h.1)

  abbrev back : map bare_of Q.alternatives ≡ map mk T.productions
  back = alternatives_back T p ps F e O A

  no_undefined : undefined_use Q ≡ false
  unfolding undefined_use
  no_undefined =
      none_of (λ (a : Alternative). some? (nowhere Q) a.ids) Q.alternatives
      (from_bares (λ (b : Bare). some? (nowhere Q) b.ids ≡ false) Q.alternatives (subst (All (λ (b : Bare). some? (nowhere Q) b.ids ≡ false)) (sym back) (bares_somewhere T.productions F.productions)))

  not-token : (a : ℕ) → a < 0 + length T.nonterminals → is_known Q.terminals (N_name a) ≡ false
  unfolding known_id below
  not-token a h =
      let f = F.few_nonterminals in
      let g = F.few_terminals in
      known_T (N_name a) ∙ none_up (λ y. same_id (N_name a) y) T_name T.terminals 0 (λ b l. N-T a b (omega arith) (omega arith))

  no_both_lem : named_both_ways Q ≡ false
  unfolding named_both_ways below
  no_both_lem =
      by_ids (is_known Q.terminals) Q.nonterminals
      ∙ ap (some? (is_known Q.terminals)) (ids_N T p ps F e O A)
      ∙ none_up (is_known Q.terminals) N_name (length T.nonterminals) 0 not-token

  no_start_lem : undefined_start Q ≡ false
  unfolding undefined_start
  no_start_lem = ap (some? (λ x. not (is_known Q.nonterminals x))) (starts-back T p ps F e) ∙ some?-nil (λ x. not (is_known Q.nonterminals x))

  well_named : misnamed Q ≡ false
  unfolding misnamed
  well_named = rw (no_undefined, no_both_lem, no_start_lem)

  few_enough : too_many Q ≡ false
  unfolding too_many
  few_enough =
      let a = nonterminals-back T p ps F e O A in
      let b = terminals-back T p ps F e O A in
      let c : length Q.alternatives ≡ length T.productions = sym (length_mapped bare_of Q.alternatives) ∙ ap length back ∙ length_mapped mk T.productions in
      let f = F.few_nonterminals in
      let g = F.few_terminals in
      let h = F.few_productions_lem in
      rw (le-ltb 32 (length Q.nonterminals) (omega arith), le-ltb 63 (length Q.terminals) (omega arith), le-ltb 128 (length Q.alternatives) (omega arith))

  pub reread_good : Good Q
  unfolding layout_of
  reread_good = record {
    lefts = lefts_known (layout_of T p ps) (layout_sound T p ps F e);
    some_one = some-alternative (layout_of T p ps) (layout_sound T p ps F e);
    named = well_named;
    few = few_enough;
    short = none_long 0 Q.alternatives (from_bares (λ (b : Bare). length b.ids ≤ symbol_limit) Q.alternatives (subst (All (λ (b : Bare). length b.ids ≤ symbol_limit)) (sym back) (bares_short T.productions F.productions)));
  }

  -- the call: with room it is read
  module _ (table places : List ℕ) (r : room Q table places ≡ true) where
    at_length : read_of (text_of T) table places ≡ parsed_of (parse (text_of T)) table places
    unfolding read_of
    at_length = let s = text_size T F in rw (le-leb (length (text_of T)) text_limit (omega arith), read_of)

    at_layout : parsed_of (some (layout_of T p ps)) table places ≡ named_of Q table places
    unfolding parsed_of layout_of
    at_layout = refl

    at_names : named_of Q table places ≡ counted_of Q table places
    unfolding named_of
    at_names = rw (reread_good.named, named_of)

    at_counts : counted_of Q table places ≡ fitted_of Q table places (too_long 0 Q.alternatives)
    unfolding counted_of
    at_counts = rw (reread_good.few, counted_of)

    at_room : fitted_of Q table places none ≡ record { answer = answer_of Q; table = in_front (spell (table_of Q)) table; places = in_front (places_of Q) places }
    unfolding fitted_of
    at_room = rw (r, fitted_of)

    pub written_read : read_of (text_of T) table places ≡ record { answer = answer_of Q; table = in_front (spell (table_of Q)) table; places = in_front (places_of Q) places }
    written_read =
        at_length
        ∙ ap (λ (o : Option Layout). parsed_of o table places) (written-parsed T p ps F e)
        ∙ at_layout
        ∙ at_names
        ∙ at_counts
        ∙ ap (fitted_of Q table places) reread_good.short
        ∙ at_room
