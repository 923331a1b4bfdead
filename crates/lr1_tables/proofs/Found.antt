-- The end of the search: its words are the table that is to be written (`laid`), and what is answered is `outcome`.
use mathlib.Core.Path.{◌≡◌, refl, sym, ap, ◌∙◌}
use mathlib.Core.Bool.{true, not}
use mathlib.Core.List.{List, [], ◌∷◌, map}
use Prim.Native.Nat.{ℕ, ◌+◌, ◌-◌, ◌*◌, ◌/◌, ◌≤◌, ◌<◌, min}
use native.Mathlib.Omega.{arith}
use lib.Dec.{eqb}
use lib.ListN.{length, get_or}
use borrow.Author.Tests.{ltb-true}
use Rattle.lr1_base.specs.repr.Sizes.{record_limit, symbol_limit}
use Rattle.lr1_base.specs.repr.Lists.{below, keep}
use Rattle.lr1_base.specs.repr.Meaning.{All, Production, Edge, State, Table, no_state, state_at, ProductionFits, TableFits}
use Rattle.lr1_base.specs.repr.Reply.{answered, refused}
use Rattle.lr1_base.specs.repr.Packed.{productions_in}
use Rattle.lr1_base.proofs.repr.Lists.{length_mapped, length-map-below, get_d_map, get_d_map-below}
use Rattle.lr1_base.specs.words.Lent.{in_front, zeroed}
use Rattle.table_rewrite.specs.spelling.Spelled.{size_of, symbol_lists, item_lists, states_at, productions_at, symbols_at, items_place, edges_at, records_of, spell}
use Rattle.first.specs.First.{sets_of_first}
use Rattle.lr1_states.specs.closure.Grammar.{OfTable}
use Rattle.lr1_states.specs.canonical.States.{built, written}
use Rattle.lr1_states.specs.canonical.Built.{built_state, built_table, conflict_words}
use Rattle.lr1_states.specs.canonical.Outcome.{sum, refused as stopped, full, finish, outcome}
use Rattle.lr1_states.proofs.canonical.Refusals.{outcome-full}
use Rattle.lr1_states.specs.stored_item.Stored.{packed}
use Rattle.lr1_states.proofs.state_list.Holds.{length-packed, holds_counted}
use Rattle.lr1_states.specs.goto.Steps.{halts, found_to, finish_to}
use Rattle.lr1_states.proofs.goto.Steps.{outcome_steps}
use Rattle.lr1_states.specs.collection.Rows.{row_in, rows_in, FoundAll, FoundAs}
use Rattle.std.proofs.Common.{Result, Ok, Err}
use Rattle.lr1_states.specs.goto.Search.{refusal_of}
use Rattle.lr1_states.specs.declared.goto.Halt.{Halt}
use Rattle.std.specs.Borrow.{Bor}
use Rattle.lr1_states.specs.declared.state_list.Begins.{Begins}
use Rattle.lr1_states.specs.declared.transitions.Edges.{Edges}
use Rattle.lr1_states.specs.declared.goto.Source.{Source}
use Rattle.lr1_tables.specs.declared.FoundStates.{FoundStates}
use Rattle.lr1_states.specs.collection.Ready.{Ready}
use Rattle.lr1_tables.specs.sizes.Complete.{MeasuredAs}
use Rattle.lr1_tables.specs.declared.sizes.Measured.{Measured}
use Rattle.lr1_tables.proofs.sizes.Laws.{length_row}
use Rattle.lr1_tables.proofs.conflict_list.Laws.{list_long}
use Rattle.lr1_tables.specs.state_records.Rows.{item_of, ItemsIn, EdgesIn}
use Rattle.lr1_tables.specs.Outcome.{build_scratch, start_is_fit, conflict_count, built_of}
use Rattle.lr1_tables.specs.Ended.{SizesOf, Ended, Laid}
use Rattle.lr1_tables.proofs.Written.{size-map, items_are, edges_are, records_are}
use Rattle.lr1_base.proofs.laws.Bools.{and-true}

-- the numbers

few_symbols : (T : Table) (ps : List Production) → All (ProductionFits T) ps → sum (λ (p : Production). length p.symbols) ps ≤ symbol_limit * length ps
unfolding All sum
few_symbols T [] A = omega arith
few_symbols T (p ∷ ps) A = let s = A.0.short in let i = few_symbols T ps A.1 in omega arith

module _ {T : Table} (g : List ℕ) {N P symbols : ℕ} (F : TableFits T) (same : productions_in g P ≡ T.productions)
    (n : N ≡ length T.nonterminals) (p : P ≡ length T.productions) (y : symbols ≡ size_of (map (λ (p : Production). p.symbols) (productions_in g P))) where
  symbols_are : symbols ≡ sum (λ (p : Production). length p.symbols) T.productions
  symbols_are = y ∙ ap (λ (ps : List Production). size_of (map (λ (p : Production). p.symbols) ps)) same ∙ size-map (λ (p : Production). p.symbols) T.productions

  pub fixed_small : 1 + N + P + symbols ≤ 65536
  fixed_small = let a = few_symbols T T.productions F.productions in omega (arith, symbols_are, F.few_nonterminals, F.few_productions_lem)

  pub sizes_are : {room limit : ℕ} → limit ≡ min room record_limit → SizesOf T room (record { nonterminals = N; fixed = 1 + N + P + symbols; limit = limit })
  sizes_are l = record {
    counted = record { nonterminals_are = n; fixed_is = omega (arith, symbols_are); limit_is = l };
    small = fixed_small;
  }

-- items as written

map-map : {A B C : Type 0} (f : A → B) (h : B → C) (xs : List A) → map h (map f xs) ≡ map (λ x. h (f x)) xs
map-map f h [] = refl
map-map f h (x ∷ xs) = ap (λ (ys : List _). h (f x) ∷ ys) (map-map f h xs)

packed-written : (S : List ℕ) → map item_of (packed S) ≡ written S
unfolding packed written
packed-written S = map-map (λ (x : ℕ). record { place = x; set = get_or S x 0 }) item_of (keep (λ x. not (eqb (get_or S x 0) 0)) (below (length S)))

module _ {T : Table} {room : ℕ} {found : FoundStates} (s : Ended T room found) where
  abbrev Rs : List (List ℕ)
  Rs = s.all.Rs

  abbrev ds : List (List Edge)
  ds = rows_in found.edges.now.list.words found.edges.now.rows found.kept.begins.now.states

  abbrev pub table_found : Table
  table_found = built_table T s.all.Rs (rows_in found.edges.now.list.words found.edges.now.rows found.kept.begins.now.states)

  long_rows : length ds ≡ length Rs
  unfolding rows_in
  long_rows = length-map-below (row_in found.edges.now.list.words found.edges.now.rows) found.kept.begins.now.states ∙ s.all.many

  row_at : (k : ℕ) → k < found.kept.begins.now.states → get_or ds k [] ≡ row_in found.edges.now.list.words found.edges.now.rows k
  unfolding rows_in
  row_at k h = get_d_map-below (row_in found.edges.now.list.words found.edges.now.rows) found.kept.begins.now.states k [] h

  long_states : length table_found.states ≡ length Rs
  unfolding built_table
  long_states = length-map-below (built_state Rs ds) (length Rs)

  state_at_lem : (k : ℕ) → k < length table_found.states → state_at table_found k ≡ record { items = written (get_or Rs k []); edges = get_or ds k [] }
  unfolding built_table built_state
  state_at_lem k h = get_d_map-below (built_state Rs ds) (length Rs) k no_state (rw (long_states) at h)

  items_in : ItemsIn table_found found.kept.words.now found.kept.begins.now.items
  items_in = record {
    begins = rw (items_are T Rs ds) (record {
      few = rw (length_mapped written Rs) s.all.holds.begun.few;
      front = s.all.holds.front;
      next = λ k h.
          let i : k < length Rs = rw (length_mapped written Rs) at h in
          s.all.holds.counts k i ∙ ap (λ (m : ℕ). get_or found.kept.begins.now.items k 0 + m) (sym (length-packed (get_or Rs k [])) ∙ sym (ap length (get_d_map written Rs k [] [] i)));
    });
    room = s.all.holds.begun.room;
    is = λ k h. ap (map item_of) (s.all.holds.is k (rw long_states at h)) ∙ packed-written (get_or Rs k []) ∙ sym (ap (λ (q : State). q.items) (state_at_lem k h));
  }

  edges_in_lem : EdgesIn table_found found.edges.now.list.words found.edges.now.rows
  edges_in_lem = record {
    begins = rw (edges_are T Rs ds long_rows) (record {
      few = omega (arith, long_rows, s.all.holds.begun.few);
      front = s.all.front;
      next = λ k h.
          let i : k < found.kept.begins.now.states = omega (arith, long_rows, s.all.many) in
          let up = s.all.rises k i in
          let m : length (get_or ds k []) ≡ get_or found.edges.now.rows (k + 1) 0 - get_or found.edges.now.rows k 0 = ap length (row_at k i) ∙ length_row found.edges.now.list.words found.edges.now.rows k in
          omega (arith, up, m);
    });
    is = λ k h. let i : k < found.kept.begins.now.states = omega (arith, long_states, s.all.many) in sym (ap (λ (q : State). q.edges) (state_at_lem k h) ∙ row_at k i);
  }

  items_from_lem : found.sizes.fixed + found.kept.begins.now.states ≡ items_place table_found
  unfolding items_place symbols_at productions_at states_at built_table
  items_from_lem =
      let a : length (map (built_state Rs ds) (below (length Rs))) ≡ length Rs = length-map-below (built_state Rs ds) (length Rs) in
      let y : size_of (symbol_lists T) ≡ sum (λ (p : Production). length p.symbols) T.productions = size-map (λ (p : Production). p.symbols) T.productions in
      rw (a, y) (omega (arith, s.counted.fixed_is, s.all.many))

  edges_from_lem : found.sizes.fixed + found.kept.begins.now.states + get_or found.kept.begins.now.items found.kept.begins.now.states 0 ≡ edges_at table_found
  unfolding edges_at
  edges_from_lem =
      let i : size_of (item_lists table_found) ≡ sum (λ (S : List ℕ). length (written S)) Rs = ap size_of (items_are T Rs ds) ∙ size-map written Rs in
      let b : sum (λ (S : List ℕ). length (written S)) Rs ≡ get_or found.kept.begins.now.items (length Rs) 0 = holds_counted T s.start found.kept.words.now found.kept.begins.now.items Rs s.all.holds in
      let m : get_or found.kept.begins.now.items found.kept.begins.now.states 0 ≡ get_or found.kept.begins.now.items (length Rs) 0 = ap (λ (i : ℕ). get_or found.kept.begins.now.items i 0) s.all.many in
      omega (arith, items_from_lem, i, b, m)

  outcome_is : (words : ℕ) → outcome T s.start room words ≡ finish T room words (built Rs ds)
  unfolding finish_to
  outcome_is words = outcome_steps T s.start room words ∙ ap (finish_to T room words) s.all.is

  -- what `measure` decides

  module _ (words : ℕ) {m : Result Measured Halt} (h : MeasuredAs T room words Rs ds m) where
    pub stops-answer : {v : Halt} → m ≡ Err v → {out conflicts : List ℕ} (S : List ℕ)
        → record { answer = refused (refusal_of v) 0; scratch = zeroed build_scratch S; out = out; conflicts = conflicts } ≡ built_of T S out conflicts (outcome T s.start room words)
    unfolding MeasuredAs built_of
    stops-answer {v} e S = let q : MeasuredAs T room words Rs ds (Err v) = rw e at h in rw (q.0, outcome_is words ∙ q.1) refl

    module _ {v : Measured} (e : m ≡ Ok v) where
      fitted : MeasuredAs T room words Rs ds (Ok v)
      fitted = rw e at h

      whole : outcome T s.start room words ≡ full Rs ds
      unfolding MeasuredAs
      whole = outcome_is words ∙ fitted.0

      records_answered : v.records ≡ records_of table_found
      unfolding MeasuredAs
      records_answered = fitted.1 ∙ sym (records_are T Rs ds long_rows)

      few_written : records_of table_found ≤ min room record_limit
      few_written = rw (records_are T Rs ds long_rows) (outcome-full T s.start room words Rs ds whole).1

      pub few_records : v.records ≤ record_limit
      few_records = omega (arith, records_answered, few_written)

      pub few_conflicts : v.conflicts ≤ 135266304
      unfolding MeasuredAs
      few_conflicts = fitted.3

      pub list_room : length (conflict_words T Rs) ≤ words
      list_room = rw (list_long T Rs) (outcome-full T s.start room words Rs ds whole).2

      pub laid : {out : List ℕ} → room ≡ length out / 4 → Laid table_found found out
      unfolding built_table
      laid q = record {
        target = record {
          nonterminals = s.counted.nonterminals_are;
          terminals = s.grammar.tokens;
          small = omega (arith, s.grammar.tokens, s.grammar.fits.few_terminals);
          states = s.all.many ∙ sym long_states;
          room = record { few = omega (arith, few_written); long = omega (arith, few_written, q) };
        };
        few = omega (arith, s.all.many, s.all.holds.begun.few);
        many = s.grammar.many;
        packed = record { packed = s.grammar.packed; same = s.grammar.same };
        items = items_in;
        edges = edges_in_lem;
        items_at = items_from_lem;
        edges_at = edges_from_lem;
      }

      pub full-answer : (out conflicts : List ℕ) {out' conflicts' : List ℕ} → out' ≡ in_front (spell table_found) out → conflicts' ≡ in_front (conflict_words T Rs) conflicts → (S : List ℕ)
          → record { answer = answered (record { records = v.records; conflicts = v.conflicts }); scratch = zeroed build_scratch S; out = out'; conflicts = conflicts' } ≡ built_of T S out conflicts (outcome T s.start room words)
      unfolding MeasuredAs built_of conflict_count
      full-answer out conflicts a b S = rw (whole, a, b, records_answered, fitted.2) refl

-- what the search gets and leaves

module _ {T : Table} {room : ℕ} (source : Source) (start : ℕ) (F : TableFits T) (z : SizesOf T room source.sizes) (many : source.grammar.productions ≡ length T.productions)
    (tokens : source.sets.now.terminals ≡ T.terminals) (same : productions_in source.grammar.words.now source.grammar.productions ≡ T.productions)
    (q : source.sets.now.map ≡ sets_of_first source.sets.now.terminals (productions_in source.grammar.words.now source.grammar.productions)) (h : start_is_fit T start ≡ true) where
  pub grammar : OfTable T source.grammar.words.now source.grammar.productions source.sets.now.terminals source.sets.now.map
  grammar = record {
    fits = F;
    packed = source.grammar.packed;
    same = same;
    many = many;
    tokens = tokens;
    firsts = q ∙ rw (tokens, same) refl;
  }

  pub started : start < source.grammar.productions
  unfolding start_is_fit
  started = rw many (ltb-true start (length T.productions) (and-true _ _ h).0)

  abbrev pub ready : Ready source start
  ready = record { T = T; room = room; grammar = grammar; counted = z.counted; started = started; small = z.small }

  module _ (ws bs E es : List ℕ) (n : ℕ) {r : Result (Unit {0}) Halt} (w : (s : Ready source start) → FoundAs s.T start (found_to s.T start s.room) ws bs E es n r) where
    pub halts-answer : {v : Halt} → r ≡ Err v → (words : ℕ) {out conflicts : List ℕ} (S : List ℕ)
        → record { answer = refused (refusal_of v) 0; scratch = zeroed build_scratch S; out = out; conflicts = conflicts } ≡ built_of T S out conflicts (outcome T start room words)
    unfolding FoundAs finish_to built_of
    halts-answer {v} x words S = let y : found_to T start room ≡ halts (refusal_of v) = rw x at (w ready) in rw (outcome_steps T start room words ∙ ap (finish_to T room words) y) refl

    pub all_found : {u : Unit {0}} → r ≡ Ok u → FoundAll T start (found_to T start room) ws bs E es n
    unfolding FoundAs
    all_found x = rw x at (w ready)

  abbrev pub ended : (words : Bor (List ℕ)) (begins : Bor Begins) (edges : Bor Edges) {r : Result (Unit {0}) Halt}
      → ((s : Ready source start) → FoundAs s.T start (found_to s.T start s.room) words.now begins.now.items edges.now.list.words edges.now.rows begins.now.states r) → {u : Unit {0}} → r ≡ Ok u
      → Ended T room (record { kept = record { grammar = source.grammar; words = words; begins = begins }; sizes = source.sizes; terminals = source.sets.now.terminals; edges = edges })
  ended words begins edges w x = record {
    start = start;
    sets = source.sets.now.map;
    grammar = grammar;
    started = started;
    counted = z.counted;
    small = z.small;
    all = all_found words.now begins.now.items edges.now.list.words edges.now.rows begins.now.states w x;
  }
