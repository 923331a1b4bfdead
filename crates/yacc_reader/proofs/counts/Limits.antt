-- Refusals 2, 5 and 17 by the counts of a text.
use Prim.Native.Nat.{ℕ, suc, ◌+◌, ◌*◌, ◌/◌, ◌≤◌, ◌<◌}
use native.Mathlib.Omega.{arith}
use mathlib.Core.Bool.{Bool, true, false, ◌&&◌, ◌||◌}
use mathlib.Core.Path.{◌≡◌, refl, sym, ap, ◌∙◌}
use mathlib.Core.List.{List, [], ◌∷◌, map}
use mathlib.Core.Option.{Option, none, some}
use lib.Dec.{leb, ltb}
use lib.ListN.{length, length-append}
use borrow.Author.Tests.{ltb-false, lt-ltb, le-ltb, lt-leb, le-leb}
use Rattle.lr1_base.specs.words.Lent.{in_front}
use Rattle.lr1_base.specs.repr.Sizes.{nonterminal_limit, terminal_limit, production_limit, symbol_limit}
use Rattle.lr1_base.proofs.repr.Lists.{cases, length_mapped, length-map-below}
use Rattle.table_rewrite.specs.spelling.Spelled.{size_of, states_at, productions_at, symbols_at, items_place, edges_at, records_of, spell}
use Rattle.yacc_syntax.specs.text.Grammar.{Layout}
use Rattle.yacc_syntax.specs.text.Parse.{parse}
use Rattle.yacc_reader.specs.parsed_file.Source.{Known, no_id, Alternative, alternatives_from, Source, source_of}
use Rattle.yacc_reader.specs.parsed_file.Meaning.{symbol_of, production_of, productions_of, owned, table_of, places_of}
use Rattle.yacc_reader.specs.parsed_file.Outcome.{Outcome, unchanged, too_many, too_long, room, answer_of, fitted_of, counted_of, source_in}
use Rattle.yacc_reader.proofs.events.Laws.{said-whole}
use Rattle.std.specs.Prelude.{Option as Answered, Some, None}
use Rattle.yacc_reader.specs.counts.Counted.{long_of, counts_of, no_counts, counts_in}

pub counts_whole : (t : List ℕ) (l : Layout) → parse t ≡ some l → counts_in t ≡ counts_of (source_in l.pieces).alternatives
unfolding counts_in source_in source_of
counts_whole t l e = said-whole no_counts (λ es. counts_of (alternatives_from no_id [] es)) t l e

-- 5: the first that is too long is one of them
long_low : (xs : List Alternative) (a p : ℕ) → too_long a xs ≡ some p → p < a + length xs
unfolding too_long
long_low [] a p e = let z : ◌≡◌ {A = ℕ} 0 1 = ap (λ (o : Option ℕ). elim o [ none ↦ 0 | some q ↦ 1 ]) e in absurd (omega (arith, z))
long_low (x ∷ xs) a p e =
    cases (ltb symbol_limit (length x.ids))
    (λ y. let q : a ≡ p = ap (λ (o : Option ℕ). elim o [ none ↦ 0 | some r ↦ r ]) (sym (ap (λ (b : Bool). elim b [ true ↦ some a | false ↦ too_long (suc a) xs ]) y) ∙ e) in omega (arith, q))
    (λ y. let h = long_low xs (suc a) p (sym (ap (λ (b : Bool). elim b [ true ↦ some a | false ↦ too_long (suc a) xs ]) y) ∙ e) in omega (arith, h))

found_some : (o : Option ℕ) (p : ℕ) → elim o [ none ↦ None | some q ↦ Some q ] ≡ Some p → o ≡ some p
found_some none p e = absurd cc
found_some (some q) p e = ap some cc

found_none : (o : Option ℕ) → elim o as (λ x. Answered ℕ) [ none ↦ None | some q ↦ Some q ] ≡ None → o ≡ none
found_none none e = refl
found_none (some q) e = absurd cc

pub too_long_some : (xs : List Alternative) (p : ℕ) → long_of xs ≡ Some p → too_long 0 xs ≡ some p
unfolding long_of
too_long_some xs p e = found_some (too_long 0 xs) p e

too_long_none : (xs : List Alternative) → long_of xs ≡ None → too_long 0 xs ≡ none
unfolding long_of
too_long_none xs e = found_none (too_long 0 xs) e

pub long_inside : (xs : List Alternative) (p : ℕ) → long_of xs ≡ Some p → p < length xs
long_inside xs p e = let l = long_low xs 0 p (too_long_some xs p e) in omega (arith, l)

-- 17: records
symbols_size : (S : Source) (xs : List Alternative) → size_of (map (λ p. p.symbols) (map (production_of S) xs)) ≡ size_of (map (λ a. a.ids) xs)
unfolding size_of production_of
symbols_size S [] = refl
symbols_size S (x ∷ xs) = let a = length_mapped (symbol_of S) x.ids in let r = symbols_size S xs in omega (arith, a, r)

pub productions_at_lem : (S : Source) → productions_at (table_of S) ≡ 2 + length S.nonterminals
unfolding productions_at states_at table_of
productions_at_lem S = let n = length-map-below (owned (productions_of S)) (length S.nonterminals) in omega (arith, n)

pub records_is : (S : Source) → records_of (table_of S) ≡ 2 + length S.nonterminals + length S.alternatives + size_of (map (λ a. a.ids) S.alternatives)
unfolding records_of edges_at items_place symbols_at table_of size_of productions_of
records_is S =
    let n = productions_at_lem S in
    let p = length_mapped (production_of S) S.alternatives in
    let s = symbols_size S S.alternatives in
    omega (arith, n, p, s)

pub places_long : (S : Source) → length (places_of S) ≡ length S.nonterminals + length S.terminals
unfolding places_of
places_long S =
    let a = length-append (map (λ k. k.at) S.nonterminals) (map (λ k. k.at) S.terminals) in
    let n = length_mapped (λ (k : Known). k.at) S.nonterminals in
    let t = length_mapped (λ (k : Known). k.at) S.terminals in
    omega (arith, a, n, t)

-- of alternatives of which none is too long there are few symbols
short_size : (xs : List Alternative) (a : ℕ) → too_long a xs ≡ none → size_of (map (λ x. x.ids) xs) ≤ symbol_limit * length xs
unfolding too_long size_of
short_size [] a e = omega arith
short_size (x ∷ xs) a e =
    cases (ltb symbol_limit (length x.ids))
    (λ y. let z : ◌≡◌ {A = ℕ} 1 0 = ap (λ (o : Option ℕ). elim o [ none ↦ 0 | some q ↦ 1 ]) (sym (ap (λ (b : Bool). elim b [ true ↦ some a | false ↦ too_long (suc a) xs ]) y) ∙ e) in absurd (omega (arith, z)))
    (λ n. let h = ltb-false symbol_limit (length x.ids) n in
    let r = short_size xs (suc a) (sym (ap (λ (b : Bool). elim b [ true ↦ some a | false ↦ too_long (suc a) xs ]) n) ∙ e) in
    omega (arith, h, r))

-- what is left where nothing refuses
abbrev pub written_of : Source → List ℕ → List ℕ → Outcome
written_of S table places = record { answer = answer_of S; table = in_front (spell (table_of S)) table; places = in_front (places_of S) places }

-- 2, 5 and 17 by the numbers of nonterminals, terminals and alternatives, and the counts
module _ (S : Source) where
  pub many_nonterminals : nonterminal_limit < length S.nonterminals → too_many S ≡ true
  unfolding too_many
  many_nonterminals h = ap (λ (b : Bool). b || (ltb terminal_limit (length S.terminals) || ltb production_limit (length S.alternatives))) (lt-ltb nonterminal_limit (length S.nonterminals) h)

  module _ (n : length S.nonterminals ≤ nonterminal_limit) where
    pub many_terminals : terminal_limit < length S.terminals → too_many S ≡ true
    unfolding too_many
    many_terminals h =
        ap (λ (b : Bool). b || (ltb terminal_limit (length S.terminals) || ltb production_limit (length S.alternatives))) (le-ltb nonterminal_limit (length S.nonterminals) n)
        ∙ ap (λ (b : Bool). b || ltb production_limit (length S.alternatives)) (lt-ltb terminal_limit (length S.terminals) h)

    module _ (m : length S.terminals ≤ terminal_limit) where
      many_by : too_many S ≡ ltb production_limit (length S.alternatives)
      unfolding too_many
      many_by =
          ap (λ (b : Bool). b || (ltb terminal_limit (length S.terminals) || ltb production_limit (length S.alternatives))) (le-ltb nonterminal_limit (length S.nonterminals) n)
          ∙ ap (λ (b : Bool). b || ltb production_limit (length S.alternatives)) (le-ltb terminal_limit (length S.terminals) m)

      pub many_productions : production_limit < length S.alternatives → too_many S ≡ true
      many_productions h = many_by ∙ lt-ltb production_limit (length S.alternatives) h

      pub few : length S.alternatives ≤ production_limit → too_many S ≡ false
      few h = many_by ∙ le-ltb production_limit (length S.alternatives) h

  pub few_symbols : long_of S.alternatives ≡ None → size_of (map (λ a. a.ids) S.alternatives) ≤ symbol_limit * length S.alternatives
  few_symbols n = short_size S.alternatives 0 (too_long_none S.alternatives n)

  module _ (table places : List ℕ) where
    pub table_narrow : length table / 4 < 2 + length S.nonterminals + length S.alternatives + size_of (map (λ a. a.ids) S.alternatives) → room S table places ≡ false
    unfolding room
    table_narrow h = let e = records_is S in ap (λ (b : Bool). b && leb (length (places_of S)) (length places)) (lt-leb (records_of (table_of S)) (length table / 4) (omega (arith, h, e)))

    module _ (l : 2 + length S.nonterminals + length S.alternatives + size_of (map (λ a. a.ids) S.alternatives) ≤ length table / 4) where
      room_by : room S table places ≡ leb (length (places_of S)) (length places)
      unfolding room
      room_by = let e = records_is S in ap (λ (b : Bool). b && leb (length (places_of S)) (length places)) (le-leb (records_of (table_of S)) (length table / 4) (omega (arith, l, e)))

      pub places_narrow : length places < length S.nonterminals + length S.terminals → room S table places ≡ false
      places_narrow h = let e = places_long S in room_by ∙ lt-leb (length (places_of S)) (length places) (omega (arith, h, e))

      pub roomy_both : length S.nonterminals + length S.terminals ≤ length places → room S table places ≡ true
      roomy_both h = let e = places_long S in room_by ∙ le-leb (length (places_of S)) (length places) (omega (arith, h, e))

    pub counted_many : too_many S ≡ true → counted_of S table places ≡ unchanged 2 0 table places
    unfolding counted_of
    counted_many e = ap (λ (b : Bool). elim b [ true ↦ unchanged 2 0 table places | false ↦ fitted_of S table places (too_long 0 S.alternatives) ]) e

    module _ (f : too_many S ≡ false) where
      counted_few : (o : Option ℕ) → too_long 0 S.alternatives ≡ o → counted_of S table places ≡ fitted_of S table places o
      unfolding counted_of
      counted_few o e = ap (λ (b : Bool). elim b [ true ↦ unchanged 2 0 table places | false ↦ fitted_of S table places (too_long 0 S.alternatives) ]) f ∙ ap (fitted_of S table places) e

      pub counted_long : (p : ℕ) → long_of S.alternatives ≡ Some p → counted_of S table places ≡ unchanged 5 (2 + length S.nonterminals + p) table places
      unfolding fitted_of
      counted_long p e =
          counted_few (some p) (too_long_some S.alternatives p e)
          ∙ ap (λ (k : ℕ). unchanged 5 (k + p) table places) (productions_at_lem S)

      module _ (n : long_of S.alternatives ≡ None) where
        pub counted_narrow : room S table places ≡ false → counted_of S table places ≡ unchanged 17 0 table places
        unfolding fitted_of
        counted_narrow e =
            counted_few none (too_long_none S.alternatives n)
            ∙ ap (λ (b : Bool). elim b [ true ↦ written_of S table places | false ↦ unchanged 17 0 table places ]) e

        pub counted-written : room S table places ≡ true → counted_of S table places ≡ written_of S table places
        unfolding fitted_of
        counted-written e =
            counted_few none (too_long_none S.alternatives n)
            ∙ ap (λ (b : Bool). elim b [ true ↦ written_of S table places | false ↦ unchanged 17 0 table places ]) e
