-- The ways through reading: each refusal in its turn, and what is left where nothing refuses.
use Prim.Native.Nat.{ℕ, ◌+◌, ◌/◌, ◌≤◌, ◌<◌}
use native.Mathlib.Omega.{arith}
use mathlib.Core.Bool.{true, false}
use mathlib.Core.Path.{◌≡◌, refl, sym, ap, ◌∙◌, subst}
use mathlib.Core.List.{List, [], ◌∷◌}
use mathlib.Core.Option.{Option, none, some}
use lib.ListN.{length, replicate, length-replicate}
use lib.Dec.{leb}
use borrow.Author.Tests.{leb-true, le-leb, lt-leb}
use Rattle.lr1_base.specs.words.Lent.{in_front}
use Rattle.lr1_base.specs.repr.Reply.{Reply, answered, refused}
use Rattle.lr1_base.specs.repr.Meaning.{no_state, TableFits}
use Rattle.lr1_base.proofs.repr.Lists.{cases, clash, length_mapped}
use Rattle.table_rewrite.specs.spelling.Spelled.{records_of, spell}
use Rattle.table_rewrite.specs.grammar_records.Target.{PackedAs}
use Rattle.table_rewrite.specs.start_production.Started.{started_as, started_in, GrammarOf, Outcome as Alone}
use Rattle.table_rewrite.specs.declared.start_production.Started.{Started}
use Rattle.table_rewrite.proofs.start_production.Exact.{same_started}
use Rattle.std.proofs.Common.{Option as Answer, Some, None}
use Rattle.std.specs.Option.{unwrap_or}
use Rattle.yacc_syntax.specs.lexer.Steps.{found_at}
use Rattle.yacc_reader.specs.name_errors.Fault.{fault_from}
use Rattle.yacc_reader.proofs.name_errors.Fault.{misnamed-fault, never}
use Rattle.yacc_syntax.specs.text.Forward.{top}
use Rattle.yacc_syntax.specs.text.Places.{placed}
use Rattle.yacc_syntax.specs.text.Grammar.{Id, Layout, text_limit, byte_limit}
use Rattle.yacc_syntax.specs.text.Parse.{parse}
use Rattle.yacc_syntax.proofs.text.Exact.{parse_sound}
use Rattle.yacc_syntax.specs.recognizer.Accepted.{is_grammar_text}
use Rattle.yacc_reader.specs.parsed_file.Source.{same_id, Known, number_in, Source}
use Rattle.yacc_reader.specs.parsed_file.Meaning.{production_of, productions_of, table_of, places_of, start_of}
use Rattle.yacc_reader.specs.parsed_file.Outcome.{Outcome, unchanged, misnamed, room, answer_of, fitted_of, counted_of, named_of, source_in, parsed_of, read_of, read_as}
use Rattle.yacc_reader.proofs.parsed_file.Known.{number_here, number_there}
use Rattle.yacc_reader.proofs.parsed_file.Said.{lefts_known, some-alternative}
use Rattle.yacc_reader.proofs.parsed_file.Fits.{Good, count_nonterminals, table_fits}
use Rattle.yacc_reader.proofs.parsed_file.Read.{was_read}
use Rattle.yacc_reader.specs.counts.Counted.{counts_in}
use Rattle.yacc_reader.specs.declared.counts.Counts.{Counts}
use Rattle.yacc_reader.proofs.counts.Limits.{counts_whole, places_long, written_of}
use Rattle.yacc_reader.specs.limits.Limited.{Meant, limited_of}
use Rattle.yacc_reader.specs.names.Names.{bucket_limit}
use Rattle.yacc_reader.specs.declared.symbol_table.Ids.{Ids}
use Rattle.yacc_reader.specs.symbol_table.Ids.{Named, Fresh}
use Rattle.yacc_reader.specs.productions.Readable.{Readable}
use Rattle.yacc_reader.specs.Passed.{Passes}
use Rattle.lr1_base.proofs.laws.Bools.{and_left, and_right}
use Rattle.lr1_base.proofs.laws.Lists.{zero_at}

-- a text of the grammar has a layout
module _ (t : List ℕ) where
  pub layout_of : is_grammar_text t ≡ true → (l : Layout) × (parse t ≡ some l)
  unfolding is_grammar_text
  layout_of g = go (parse t) refl g
    where
      go : (o : Option Layout) → parse t ≡ o → elim o [ none ↦ false | some l ↦ true ] ≡ true → (l : Layout) × (parse t ≡ some l)
      go none e y = clash false y refl
      go (some l) e y = (l, e)

  no_layout : is_grammar_text t ≡ false → parse t ≡ none
  unfolding is_grammar_text
  no_layout g = go (parse t) refl g
    where
      go : (o : Option Layout) → parse t ≡ o → elim o [ none ↦ false | some l ↦ true ] ≡ false → parse t ≡ none
      go none e y = e
      go (some l) e y = clash true refl y

  pub outside : is_grammar_text t ≡ false → (l : Layout) → parse t ≡ some l → ⊥
  outside g l p = let z : ◌≡◌ {A = ℕ} 0 1 = ap (λ (o : Option Layout). elim o [ none ↦ 0 | some k ↦ 1 ]) (sym (no_layout g) ∙ p) in omega (arith, z)

  one_layout : (l k : Layout) → parse t ≡ some l → parse t ≡ some k → k ≡ l
  one_layout l k p q = let e : some k ≡ some l = sym q ∙ p in cc

-- `read_yacc`
module _ (t table places : List ℕ) where
  pub read_long : text_limit < length t → record { answer = refused 20 0; table = table; places = places } ≡ read_of t table places
  unfolding read_of unchanged
  read_long h = sym (rw (lt-leb (length t) text_limit h, read_of))

  module _ (h : length t ≤ text_limit) where
    read_short : read_of t table places ≡ parsed_of (parse t) table places
    unfolding read_of
    read_short = rw (le-leb (length t) text_limit h, read_of)

    pub read-outside : is_grammar_text t ≡ false → record { answer = refused 20 0; table = table; places = places } ≡ read_of t table places
    unfolding parsed_of unchanged
    read-outside g = sym (read_short ∙ ap (λ (o : Option Layout). parsed_of o table places) (no_layout t g))

    pub read-inside : is_grammar_text t ≡ true → (o : Outcome) → ((l : Layout) → parse t ≡ some l → o ≡ named_of (source_in l.pieces) table places) → o ≡ read_of t table places
    unfolding parsed_of
    read-inside g o f =
        let k = layout_of t g in
        f k.0 k.1 ∙ sym (read_short ∙ ap (λ (o : Option Layout). parsed_of o table places) k.1)

    -- what nothing refuses, by what is left
    pub read-counted : (l : Layout) → parse t ≡ some l → misnamed (source_in l.pieces) ≡ false → read_of t table places ≡ counted_of (source_in l.pieces) table places
    unfolding parsed_of named_of
    read-counted l p n = read_short ∙ ap (λ (o : Option Layout). parsed_of o table places) p ∙ rw (n, named_of)

    pub passes-written : (l : Layout) → parse t ≡ some l → misnamed (source_in l.pieces) ≡ false → counted_of (source_in l.pieces) table places ≡ written_of (source_in l.pieces) table places → Passes (source_in l.pieces) table places
    unfolding answer_of
    passes-written l p n e =
        let R = was_read t table places _ _ _ _ _ (read-counted l p n ∙ e) in
        let q : R.layout ≡ l = one_layout t l R.layout p R.parsed in
        subst (λ (k : Layout). Passes (source_in k.pieces) table places) q (record { named = R.good.named; few = R.good.few; short = R.good.short; roomy = R.roomy })

-- `read_named`
module _ (S : Source) (table places : List ℕ) where
  pub named-bad : true ≡ misnamed S → record { answer = refused 21 0; table = table; places = places } ≡ named_of S table places
  unfolding named_of unchanged
  named-bad e = sym (rw (← e, named_of))

  pub named_good : misnamed S ≡ false → counted_of S table places ≡ named_of S table places
  unfolding named_of
  named_good e = sym (rw (e, named_of))

-- `read_counted`
module _ (t starts pasts ix lefts tokens : List ℕ) (ids : Ids) (N : Named t starts pasts ix lefts tokens ids) (c : Counts) (e : c ≡ counts_in t) where
  meant_at : (l : Layout) → parse t ≡ some l → Meant ids.nonterminals ids.terminals c
  meant_at l p = record {
    source = source_in l.pieces;
    nonterminals = (N.held l p).nonterminals.numbers.count;
    terminals = (N.held l p).terminals.numbers.count;
    counts = e ∙ counts_whole t l p;
  }

  pub meant_some : is_grammar_text t ≡ true → Meant ids.nonterminals ids.terminals c
  meant_some g = let k = layout_of t g in meant_at k.0 k.1

  pub limit_at : (r : Reply (Unit {0})) (table places : List ℕ) → ((w : Meant ids.nonterminals ids.terminals c) → counted_of w.source table places ≡ limited_of w.source r table places) → (l : Layout) → parse t ≡ some l → counted_of (source_in l.pieces) table places ≡ limited_of (source_in l.pieces) r table places
  unfolding meant_at
  limit_at r table places f l p = f (meant_at l p)

module _ (S : Source) (table places : List ℕ) where
  pub limit_refused : (n r : ℕ) → record { answer = refused n r; table = table; places = places } ≡ limited_of S (refused n r) table places
  unfolding limited_of unchanged
  limit_refused n r = refl

  pub limit_written : limited_of S (answered tt) table places ≡ written_of S table places
  unfolding limited_of
  limit_written = refl

-- `misnamed_at`: a text that 21 refuses has a token at fault
pub fault_told : (l : Layout) (r : Answer ℕ) (z : ℕ) → found_at r ≡ fault_from (source_in l.pieces) (top false) (placed 0 l.pieces) → misnamed (source_in l.pieces) ≡ true → fault_from (source_in l.pieces) (top false) (placed 0 l.pieces) ≡ some (unwrap_or r z)
unfolding found_at
fault_told l None z e y = let k = misnamed-fault l y in never k.0 (e ∙ k.1)
fault_told l (Some j) z e y = sym e

pub fresh_zeros : (t : List ℕ) → length t ≤ text_limit → (a b c d e : ℕ) → text_limit ≤ a → text_limit ≤ b → bucket_limit + text_limit ≤ c → text_limit ≤ d → byte_limit + text_limit ≤ e → Fresh t (replicate a 0) (replicate b 0) (replicate c 0) (replicate d 0) (replicate e 0)
fresh_zeros t h a b c d e ha hb hc hd he =
    let la = length-replicate {A = ℕ} a 0 in
    let lb = length-replicate {A = ℕ} b 0 in
    let lc = length-replicate {A = ℕ} c 0 in
    let ld = length-replicate {A = ℕ} d 0 in
    let le = length-replicate {A = ℕ} e 0 in
    record {
      short = h;
      begun = omega (arith, h, ha, la);
      ended = omega (arith, h, hb, lb);
      linked = omega (arith, h, hc, lc);
      left_sides = omega (arith, h, hd, ld);
      terminals = omega (arith, h, he, le);
      no_name = λ i l. zero_at c i;
      no_left = λ i. zero_at d i;
      no_token = λ i. zero_at e i;
    }

-- the number of an id is at most how many are known
number_most : (ks : List Known) (x : Id) → number_in ks x ≤ length ks
unfolding number_in
number_most [] x = omega arith
number_most (k ∷ ks) x =
    cases (same_id x k.id)
    (λ y. let a = number_here k ks x y in omega (arith, a))
    (λ n. let a = number_there k ks x n in let i = number_most ks x in omega (arith, a, i))

start_most : (ks : List Known) (xs : List Id) → start_of ks xs ≤ length ks
unfolding start_of
start_most ks [] = omega arith
start_most ks (x ∷ xs) = number_most ks x

-- `write_read`
module _ (S : Source) (table places : List ℕ) (P : Passes S table places) where
  room_table : leb (records_of (table_of S)) (length table / 4) ≡ true
  unfolding room
  room_table = and_left (leb (records_of (table_of S)) (length table / 4)) (leb (length (places_of S)) (length places)) P.roomy

  room-places : length (places_of S) ≤ length places
  unfolding room
  room-places = leb-true (length (places_of S)) (length places) (and_right (leb (records_of (table_of S)) (length table / 4)) (leb (length (places_of S)) (length places)) P.roomy)

  pub readable : Readable S
  readable = record { named = P.named; few = P.few; short = P.short }

  pub counted-passes : counted_of S table places ≡ written_of S table places
  unfolding counted_of fitted_of
  counted-passes = rw (P.few, counted_of, P.short, fitted_of, P.roomy)

module _ (S : Source) where
  one_state : (table_of S).states ≡ no_state ∷ []
  unfolding table_of
  one_state = refl

  count_terminals : (table_of S).terminals ≡ length S.terminals
  unfolding table_of
  count_terminals = refl

  count_productions : length (table_of S).productions ≡ length S.alternatives
  unfolding table_of productions_of
  count_productions = length_mapped (production_of S) S.alternatives

pub good : (t : List ℕ) (l : Layout) → parse t ≡ some l → (table places : List ℕ) → Passes (source_in l.pieces) table places → Good (source_in l.pieces)
good t l p table places P = let s = (parse_sound t l p).0 in record { lefts = lefts_known l s; some_one = some-alternative l s; named = P.named; few = P.few; short = P.short }

module _ (t : List ℕ) (l : Layout) (p : parse t ≡ some l) (table places : List ℕ) (P : Passes (source_in l.pieces) table places) (ids : Ids) (starts pasts ix lefts tokens : List ℕ) (N : Named t starts pasts ix lefts tokens ids) where
  abbrev said : Source
  said = source_in l.pieces

  fits_in : TableFits (table_of said)
  fits_in = table_fits said (good t l p table places P)

  lefts_are : ids.nonterminals ≡ length said.nonterminals
  lefts_are = (N.held l p).nonterminals.numbers.count

  tokens_are : ids.terminals ≡ length said.terminals
  tokens_are = (N.held l p).terminals.numbers.count

  pub grammar_of : (grammar : List ℕ) (n : ℕ) → (n ≡ length said.alternatives) × PackedAs (table_of said) grammar n → GrammarOf (table_of said) ids.nonterminals ids.terminals 1 n grammar
  grammar_of grammar n K = record {
    alone = one_state said;
    counts = record {
      nonterminals = lefts_are ∙ sym (count_nonterminals said);
      terminals = tokens_are ∙ sym (count_terminals said);
      states = sym (ap length (one_state said));
      productions = K.0 ∙ sym (count_productions said);
      fits = fits_in;
    };
    packed = K.1;
  }

  pub listed-room : ids.nonterminals + ids.terminals ≤ length places
  listed-room =
      let a = lefts_are in
      let b = tokens_are in
      let s = places_long said in
      let r = room-places said table places P in
      omega (arith, a, b, s, r)

  pub listed_small : ids.nonterminals + ids.terminals < 65536
  listed_small =
      let a = lefts_are in
      let b = tokens_are in
      let n = count_nonterminals said in
      let m = count_terminals said in
      let f = fits_in.few_nonterminals in
      let g = fits_in.few_terminals in
      omega (arith, a, b, n, m, f, g)

  pub start_small : (s : ℕ) → s ≡ start_of said.nonterminals said.starts → s < 65536
  start_small s e =
      let m = start_most said.nonterminals said.starts in
      let n = count_nonterminals said in
      let f = fits_in.few_nonterminals in
      omega (arith, e, m, n, f)

  -- what was written of it
  module _ (g : Reply Started) (table' : List ℕ) (e : record { answer = g; out = table' } ≡ started_in (table_of said) 0 table) where
    whole : ◌≡◌ {A = Alone} (record { answer = g; out = table' }) (record { answer = started_as (records_of (table_of said)) (record { 0 = 0 }); out = in_front (spell (table_of said)) table })
    unfolding started_in
    whole = e ∙ rw (room_table said table places P, started_in)

    -- there is room
    pub has_room : (n r : ℕ) → g ≡ refused n r → ⊥
    has_room n r h =
        let a : refused n r ≡ started_as (records_of (table_of said)) (record { 0 = 0 }) = sym h ∙ ap (λ (o : Alone). o.answer) whole in
        let z : ◌≡◌ {A = ℕ} 0 1 = cc in
        omega arith

    pub written : (s : Started) (start : ℕ) (places' : List ℕ) → g ≡ answered s → places' ≡ in_front (places_of said) places → start ≡ start_of said.nonterminals said.starts
        → record { answer = read_as s.records (ids.nonterminals + ids.terminals) (record { 0 = start }); table = table'; places = places' } ≡ counted_of said table places
    unfolding answer_of
    written s start places' h ep es =
        let a : s.records ≡ records_of (table_of said) = ap (λ (k : Started). k.records) (same_started _ _ (sym h ∙ ap (λ (o : Alone). o.answer) whole)) in
        let b : table' ≡ in_front (spell (table_of said)) table = ap (λ (o : Alone). o.out) whole in
        let c : ids.nonterminals + ids.terminals ≡ length (places_of said) = (let x = lefts_are in let y = tokens_are in let z = places_long said in omega (arith, x, y, z)) in
        rw (a, b, c, ep, es) (sym (counted-passes said table places P))
