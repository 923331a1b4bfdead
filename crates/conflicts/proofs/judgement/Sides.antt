-- Laws of two sides as they are kept, one for each way through the code: an example made again, the first pair that is read alike, the inline test, and from what is read of a table to the judgement.
use Prim.Native.Nat.{ℕ, zero, suc, ◌+◌, ◌≤◌, ◌<◌}
use native.Mathlib.Omega.{arith}
use mathlib.Core.Path.{◌≡◌, refl, sym, ap, ◌∙◌}
use mathlib.Core.Bool.{Bool, true, false}
use mathlib.Core.List.{List, [], ◌∷◌}
use mathlib.Core.Option.{none, some}
use lib.ListN.{length, get_or}
use lib.Dec.{ltb}
use borrow.Author.Tests.{ltb-true, leb-true}
use Rattle.std.specs.Prelude.{Option as OptionOf, Some, None}
use Rattle.lr1_base.specs.repr.Symbols.{meant}
use Rattle.lr1_base.specs.declared.repr.Symbol.{Symbol as SymbolOf}
use Rattle.lr1_base.specs.repr.Sizes.{nonterminal_limit, terminal_limit, production_place, example_limit}
use Rattle.lr1_base.specs.repr.Meaning.{Production, no_production, Table, TableFits, ProductionFits, production_at, All}
use Rattle.lr1_base.specs.repr.Listed.{symbol_of_kind}
use Rattle.lr1_base.specs.repr.Packed.{Packed, productions_in}
use Rattle.lr1_base.proofs.repr.Tests.{All_at, All_intro}
use Rattle.lr1_base.specs.words.Lent.{in_front}
use Rattle.table.specs.Decoded.{meaning}
use Rattle.table.proofs.Decoding.{fits}
use Rattle.first.specs.First.{sets_of_first}
use Rattle.enumerator.specs.example.Example.{example_words}
use Rattle.enumerator.specs.example.Labels.{LabelFits}
use Rattle.enumerator.proofs.example.Sizes.{at_most_1158, short_of_lem}
use Rattle.conflict_sides.specs.declared.conflict.Class.{Class}
use Rattle.conflict_sides.specs.declared.conflict.Class.TheVariants.{SuggestInline, SuggestQuestion, InsufficientLookahead}
use Rattle.conflict_sides.specs.declared.conflict.Conflict.{Conflict}
use Rattle.conflict_sides.specs.conflict.Sorted.{Pair, first_fit}
use Rattle.conflict_sides.specs.conflict.Judge.{Example, Judged, with_both, reduction_at, is_same_reading, ambiguity_of_shift, ambiguity_of_reduce, ambiguity_of, question_of, inlines, inline_or, question_or, unambiguous, ambiguous_or, judge}
use Rattle.conflict_sides.specs.conflict.Outcome.{place_is_fit, conflict_fits}
use Rattle.conflict_sides.specs.declared.outline.Outline.{Outline}
use Rattle.conflict_sides.specs.outline.Outline.{label_of, outline_from}
use Rattle.conflict_sides.specs.outline.Kept.{outlines_room, nth, outline_in, turn_in, Room, Outlined, labelled_limit, KeptLabels}
use Rattle.conflict_sides.specs.outline.Inline.{CodeFits, Shifts}
use Rattle.conflict_sides.proofs.outline.Upcoming.{first_reduction, kept-item}
use Rattle.conflict_sides.specs.shift_items.Codes.{Grammar}
use Rattle.conflicts.specs.declared.pairs.Test.TheVariants.{Alike, Inline}
use Rattle.conflicts.specs.pairs.Pairs.{test_by, pair_by, RowFits, ColumnFits, first_from, Stopped, FirstFrom, on_pair}
use Rattle.conflicts.proofs.pairs.Pairs.{pair_agree_on, pair-named}
use Rattle.conflicts.proofs.pairs.Product.{found-stop, found_none, found-yes, found_no, from_first, first-none, first_some}
use Rattle.conflicts.proofs.pairs.Tests.{rows_alike, columns_alike, rows_inline, columns_inline, print_agree, inline_agree}
use Rattle.conflict_sides.specs.examples.Reads.{Reads}
use Rattle.conflict_sides.specs.examples.Gathers.{ExampleFits, SideKept, is_shift, reduce_made}
use Rattle.conflicts.specs.declared.judgement.Judged.{Judged as JudgedValue}
use Rattle.conflicts.specs.judgement.Judging.{InBuffer, Sides, Ordered, picked, pair_in, heads_in, both, Judges, found_in, FoundFits, ReadAlike, question_in}
use Rattle.conflicts.proofs.judgement.Ways.{owner_is, question_kind, judges_both, judges_heads}
use Rattle.lr1_base.proofs.laws.Bools.{and_left, and_right}
use Rattle.conflict_sides.proofs.examples.Again.{is_shift_lem}
use Rattle.conflict_sides.proofs.examples.Both.{operand_reduce}

-- what holds of an order's numbers
order_at : (P : ℕ → Type 0) (order : List ℕ) (i x : ℕ) → All P order → i < length order → x ≡ get_or order i 0 → P x
order_at P order i x A h e = rw e (All_at P order i 0 A h)

all-nth : (P : Example → Type 0) (xs : List Example) → ((k : ℕ) → k < length xs → P (nth xs k)) → All P xs
unfolding nth
all-nth P xs h = All_intro P xs [] h

-- an example of a side, by what is kept of it

module _ (T : Table) (shift : Bool) (made : ℕ → ℕ → Example → Type 0) (xs : List Example) (kept prints : List ℕ) (K : SideKept T shift made xs kept prints) (k : ℕ) (h : k < length xs) where
  pub kept-place : (k < example_limit) × Room kept prints
  kept-place = (omega (arith, K.outlined.few), K.outlined.room)

  pub kept_turn : (k < example_limit) × (outlines_room ≤ length kept)
  kept_turn = (omega (arith, K.outlined.few), omega (arith, K.outlined.room.by_words))

  -- one of the first, whose labels are kept
  pub kept_labels : (ps : List Production) → ps ≡ T.productions → k < labelled_limit → KeptLabels ps kept k (nth xs k)
  kept_labels ps e l = rw e (K.labels k h l)

  module _ (o : Outline) (e : o ≡ outline_in kept prints k) where
    pub kept-code : TableFits T → shift ≡ true → CodeFits T.productions o.label
    unfolding outline_from
    kept-code F s =
        let q : o.label ≡ label_of T.productions true (nth xs k) = ap (λ (p : Outline). p.label) (e ∙ K.outlined.each k h) ∙ ap (λ (b : Bool). label_of T.productions b (nth xs k)) s in
        rw q (kept-item T F (nth xs k) (K.shifts s k h) (K.fits k h).each)

    pub kept_again : (t : ℕ) → t ≡ turn_in kept k → made o.label t (nth xs k)
    kept_again t et = rw (e, et) (K.again k h)

    pub kept-first : o.first ≡ (reduction_at T.productions (nth xs k) 0).nonterminal
    unfolding outline_from
    kept-first = ap (λ (p : Outline). p.first) (e ∙ K.outlined.each k h)

-- the nonterminal of the first reduction
first_small : (ps : List Production) (x : Example) → ExampleFits ps x → (reduction_at ps x 0).nonterminal < nonterminal_limit
unfolding All
first_small ps [] X = absurd (omega (arith, X.some_label))
first_small ps (l ∷ ls) X = rw (first_reduction ps l ls) X.each.0.nonterminal

-- what a conflict in range gives

module _ (T : Table) (c : Conflict) (f : conflict_fits T c ≡ true) where
  placed : place_is_fit T c ≡ true
  unfolding conflict_fits
  placed = and_left _ _ f

  pub conflict_production : c.production.0 < length T.productions
  unfolding place_is_fit
  conflict_production = ltb-true c.production.0 (length T.productions) (and_left _ _ (and_right (ltb c.state.0 (length T.states)) _ placed))

  pub conflict_asks : (c.state.0 < length T.states) × ((c.production.0 < length T.productions) × (c.token ≤ T.terminals))
  unfolding conflict_fits place_is_fit
  conflict_asks = (ltb-true _ _ (and_left _ _ (and_left _ _ f)), (conflict_production, leb-true _ _ (and_right (place_is_fit T c) _ f)))

  pub conflict_operand : (c.action ≡ 0 → ⊥) → c.operand < length T.productions
  unfolding place_is_fit
  conflict_operand ne = operand_reduce T c.action c.operand (and_right (ltb c.production.0 (length T.productions)) _ (and_right (ltb c.state.0 (length T.states)) _ placed)) ne

-- what is read of a table

module _ (t g : List ℕ) (productions terminals : ℕ) (sets least ends : List ℕ) (R : Reads t g productions terminals sets least ends) where
  abbrev T : Table
  T = meaning t

  pub table_fits : TableFits T
  table_fits = fits t R.accepted

  pub reads_grammar : Grammar T g productions
  reads_grammar = record { packed = R.packed; same = R.same; many = R.many }

  pub reads_ready : Packed g productions × (terminals ≤ terminal_limit)
  reads_ready = (R.packed, omega (arith, R.tokens, table_fits.few_terminals))

  pub reads_owner : (p : ℕ) → p < length T.productions → (w : ℕ) → w ≡ get_or g (production_place p) 0 → (w ≡ (production_at T p).nonterminal) × (w < length T.nonterminals)
  reads_owner p h w e =
      let q : w ≡ (production_at T p).nonterminal = e ∙ sym (owner_is g productions R.packed p (omega (arith, R.many))) ∙ ap (λ (ps : List Production). (get_or ps p no_production).nonterminal) R.same in
      let f = (All_at (ProductionFits T) T.productions p no_production table_fits.productions h).owner in
      (q, omega arith)

  pub in_buffer : (x : Example) → ExampleFits T.productions x → (before b : List ℕ) → b ≡ in_front (example_words T.productions x) before → InBuffer T.productions x b
  in_buffer x X before b e = record { few = at_most_1158 T.productions (short_of_lem T table_fits) x X.few; before = before; words = e }

-- of a table's judgement

pub ambiguity_shift : (T : Table) (p k o : ℕ) (q : Pair Example) → k ≡ 0 → ambiguity_of_shift (production_at T p) o q ≡ ambiguity_of T p k o q
unfolding ambiguity_of
ambiguity_shift T p k o q e = rw e

pub ambiguity_reduce : (T : Table) (p k o : ℕ) (q : Pair Example) → (k ≡ 0 → ⊥) → ambiguity_of_reduce T.productions (production_at T p) (production_at T o) q ≡ ambiguity_of T p k o q
unfolding ambiguity_of
ambiguity_reduce T p zero o q ne = absurd (ne refl)
ambiguity_reduce T p (suc k) o q ne = refl

pub unambiguous_shift : (T : Table) (p k : ℕ) (as' rs : List Example) (q : Pair Example) → k ≡ 0 → unambiguous T p 0 as' rs q ≡ unambiguous T p k as' rs q
unambiguous_shift T p k as' rs q e = ap (λ (n : ℕ). unambiguous T p n as' rs q) (sym e)

pub unambiguous_reduce : (T : Table) (p k : ℕ) (as' rs : List Example) (q : Pair Example) → (k ≡ 0 → ⊥) → with_both InsufficientLookahead q ≡ unambiguous T p k as' rs q
unfolding unambiguous
unambiguous_reduce T p zero as' rs q ne = absurd (ne refl)
unambiguous_reduce T p (suc k) as' rs q ne = refl

judge-cons : (T : Table) (c : Conflict) (xs ys : List Example) (rows columns : List ℕ) → 0 < length rows → 0 < length columns
    → judge T c (picked xs rows) (picked ys columns) ≡ ambiguous_or T c (first_fit (is_same_reading T.productions) (picked xs rows) (picked ys columns)) (unambiguous T c.production.0 c.action (picked xs rows) (picked ys columns) (heads_in xs ys rows columns))
unfolding judge picked heads_in pair_in
judge-cons T c xs ys [] columns ha hb = absurd (omega arith)
judge-cons T c xs ys (x ∷ rows) [] ha hb = absurd (omega arith)
judge-cons T c xs ys (x ∷ rows) (y ∷ columns) ha hb = refl

-- the packed productions are the table's
module _ (T : Table) (g : List ℕ) (n : ℕ) (G : Grammar T g n) where
  pub shift_reads : (p o : ℕ) (q : Pair Example) → ambiguity_of_shift (get_or (productions_in g n) p no_production) o q ≡ ambiguity_of_shift (production_at T p) o q
  shift_reads p o q = ap (λ (ps : List Production). ambiguity_of_shift (get_or ps p no_production) o q) G.same

  pub reduce_reads : (p o : ℕ) (q : Pair Example) → ambiguity_of_reduce (productions_in g n) (get_or (productions_in g n) p no_production) (get_or (productions_in g n) o no_production) q ≡ ambiguity_of_reduce T.productions (production_at T p) (production_at T o) q
  reduce_reads p o q = ap (λ (ps : List Production). ambiguity_of_reduce ps (get_or ps p no_production) (get_or ps o no_production) q) G.same

  pub first_reads : (x : Example) (w : ℕ) → w ≡ (reduction_at T.productions x 0).nonterminal → w ≡ (reduction_at (productions_in g n) x 0).nonterminal
  first_reads x w e = rw G.same e

-- `try_classify_ambiguity`: the first pair that is read alike is found by prints

module _ (T : Table) (c : Conflict) (xs ys : List Example) (actions prints reduces others : List ℕ) (S : Sides T c xs ys actions prints reduces others) (rows columns : List ℕ) (A : Ordered xs rows) (B : Ordered ys columns) where
  abbrev ps : List Production
  ps = T.productions

  abbrev alike : ℕ → ℕ → Bool
  alike x y = is_same_reading ps (nth xs x) (nth ys y)

  pub alike_asks : (qs : List Production) → (Room actions prints × Room reduces others) × (All (RowFits qs actions prints Alike) rows × All (ColumnFits qs reduces others Alike) columns)
  alike_asks qs = ((S.action.outlined.room, S.reduce.outlined.room), (rows_alike qs actions prints (length xs) S.action.outlined.few rows A.inside, columns_alike qs reduces others (length ys) S.reduce.outlined.few columns B.inside))

  named : first_fit (is_same_reading ps) (picked xs rows) (picked ys columns) ≡ on_pair (nth xs) (nth ys) (first_fit alike rows columns)
  unfolding picked
  named = pair-named (nth xs) (nth ys) (is_same_reading ps) rows columns

  module _ (e : ℕ) (sets : List ℕ) (qs : List Production) (eq : qs ≡ ps) where
    abbrev by_print : ℕ → ℕ → Bool
    by_print = pair_by (test_by e sets qs Alike) actions prints reduces others

    strict : (x y : ℕ) → x < length xs → y < length ys → alike x y ≡ true → by_print x y ≡ true
    strict x y hx hy q = rw eq (print_agree ps (is_shift c) xs actions prints S.action.outlined ys reduces others S.reduce.outlined e sets x y hx hy q)

    module _ (i j : ℕ) (I : first_from alike rows columns i j ≡ first_fit alike rows columns) (found : OptionOf (ℕ × ℕ)) (F : FirstFrom by_print rows columns i j found) where
      pub alike-none : found ≡ None → ReadAlike ps xs ys rows columns None
      unfolding on_pair found_in FoundFits
      alike-none q =
          let n : first_fit alike rows columns ≡ none = sym I ∙ found_none (λ k. k < length xs) (λ k. k < length ys) by_print alike strict rows columns A.inside B.inside i j found F q in
          record { same = sym (named ∙ rw n); fits = tt }

      module _ (k l : ℕ) (q : found ≡ Some (k, l)) (x y : ℕ) (ex : x ≡ get_or rows k 0) (ey : y ≡ get_or columns l 0) where
        there : Stopped by_print rows columns i j k l
        there = found-stop by_print rows columns i j found F (k, l) q

        pub alike-inside : (x < length xs) × (y < length ys)
        alike-inside = (order_at (λ k. k < length xs) rows k x A.inside there.row ex, order_at (λ k. k < length ys) columns l y B.inside there.column ey)

        pub alike-yes : true ≡ alike x y → ReadAlike ps xs ys rows columns (Some (x, y))
        unfolding on_pair found_in FoundFits pair_in
        alike-yes h =
            let n : first_fit alike rows columns ≡ some (record { action = x; reduce = y }) = sym I ∙ found-yes (λ k. k < length xs) (λ k. k < length ys) by_print alike strict rows columns A.inside B.inside i j k l there x y ex ey (sym h) in
            record { same = sym (named ∙ rw n); fits = alike-inside }

        pub alike_no : false ≡ alike x y → first_from alike rows columns k (l + 1) ≡ first_fit alike rows columns
        alike_no h = sym (found_no (λ k. k < length xs) (λ k. k < length ys) by_print alike strict rows columns A.inside B.inside i j k l there x y ex ey (sym h)) ∙ I

  pub alike-start : first_from alike rows columns 0 0 ≡ first_fit alike rows columns
  alike-start = from_first alike rows columns

  -- `try_classify_inline`

  module _ (F : TableFits T) (shift : c.action ≡ 0) where
    outlined : Outlined ps true xs actions prints
    outlined = rw (is_shift_lem c shift) at S.action.outlined

    shifting : All (Shifts ps) xs
    shifting = all-nth (Shifts ps) xs (S.action.shifts (is_shift_lem c shift))

    labelled : All (All (LabelFits ps)) xs
    labelled = all-nth (All (LabelFits ps)) xs (λ k h. (S.action.fits k h).each)

    others_labelled : All (All (LabelFits ps)) ys
    others_labelled = all-nth (All (LabelFits ps)) ys (λ k h. (S.reduce.fits k h).each)

    pub inline_asks : (qs : List Production) → qs ≡ ps → (Room actions prints × Room reduces others) × (All (RowFits qs actions prints Inline) rows × All (ColumnFits qs reduces others Inline) columns)
    inline_asks qs eq = ((S.action.outlined.room, S.reduce.outlined.room), (rw eq (rows_inline T F xs actions prints rows outlined shifting labelled A.inside), rw eq (columns_inline T F ys reduces others columns S.reduce.outlined others_labelled B.inside)))

    module _ (e : ℕ) (sets : List ℕ) (qs : List Production) (ee : e ≡ T.terminals) (es : sets ≡ sets_of_first T.terminals ps) (eq : qs ≡ ps) where
      abbrev by_label : ℕ → ℕ → Bool
      by_label = pair_by (test_by e sets qs Inline) actions prints reduces others

      inline_is : first_fit (inlines T) (picked xs rows) (picked ys columns) ≡ on_pair (nth xs) (nth ys) (first_fit by_label rows columns)
      unfolding picked
      inline_is =
          pair-named (nth xs) (nth ys) (inlines T) rows columns
          ∙ ap (on_pair (nth xs) (nth ys)) (pair_agree_on (λ k. k < length xs) (λ k. k < length ys) (λ x y. inlines T (nth xs x) (nth ys y)) by_label (λ x y hx hy. sym (rw (ee, es, eq) (inline_agree T F xs ys actions prints reduces others outlined S.reduce.outlined shifting labelled others_labelled x y hx hy))) rows columns A.inside B.inside)

      abbrev Inlined : Judged
      Inlined = inline_or ps (heads_in xs ys rows columns) (first_fit (inlines T) (picked xs rows) (picked ys columns))

      module _ (found : OptionOf (ℕ × ℕ)) (found_is : FirstFrom by_label rows columns 0 0 found) where
        pub inline_none : found ≡ None → (v : JudgedValue) → v ≡ both InsufficientLookahead (get_or rows 0 0) (get_or columns 0 0) → Judges xs ys v Inlined
        unfolding inline_or on_pair
        inline_none q v ev = judges_heads xs ys rows columns A.inside A.any B.inside B.any InsufficientLookahead v Inlined ev (rw (inline_is, ← first-none by_label rows columns found found_is q))

        module _ (k l : ℕ) (q : found ≡ Some (k, l)) (x y : ℕ) (ex : x ≡ get_or rows k 0) (ey : y ≡ get_or columns l 0) where
          stopped : Stopped by_label rows columns 0 0 k l
          stopped = found-stop by_label rows columns 0 0 found found_is (k, l) q

          pub inline_inside : (x < length xs) × (y < length ys)
          inline_inside = (order_at (λ k. k < length xs) rows k x A.inside stopped.row ex, order_at (λ k. k < length ys) columns l y B.inside stopped.column ey)

          pub inline_first : (o : Outline) → o ≡ outline_in reduces others y → (o.first ≡ (reduction_at ps (nth ys y) 0).nonterminal) × (o.first < nonterminal_limit)
          inline_first o eo =
              let w = kept-first T false (reduce_made T c.state.0 c.production.0 c.token) ys reduces others S.reduce y inline_inside.1 o eo in
              let s = first_small ps (nth ys y) (S.reduce.fits y inline_inside.1) in
              (w, omega arith)

          pub inline_found : (o : Outline) → o ≡ outline_in reduces others y → (v : JudgedValue) → v ≡ both (SuggestInline (record { 0 = o.first })) x y → Judges xs ys v Inlined
          unfolding inline_or on_pair pair_in
          inline_found o eo v ev =
              let f : first_fit by_label rows columns ≡ some (record { action = x; reduce = y }) = rw (ex, ey) (sym (first_some by_label rows columns k l stopped)) in
              judges_both xs ys x y inline_inside.0 inline_inside.1 (SuggestInline (record { 0 = o.first })) v Inlined ev (rw (inline_is, f, (inline_first o eo).0))

  -- `shift_unambiguous`

  abbrev heads : Pair Example
  heads = heads_in xs ys rows columns

  abbrev Unambiguous : ℕ → ℕ → Judged
  Unambiguous p k = unambiguous T p k (picked xs rows) (picked ys columns) heads

  module _ (p w : ℕ) (ew : w ≡ (production_at T p).nonterminal) (r : OptionOf SymbolOf) (er : question_in r ≡ question_of T w) where
    pub question_some : (s : SymbolOf) (k x : ℕ) → r ≡ Some s → symbol_of_kind k x ≡ meant s → k < 2 → with_both (SuggestQuestion (record { 0 = w }) k x) heads ≡ Unambiguous p 0
    unfolding unambiguous question_or question_in
    question_some s k x e d h =
        let q : question_of T (production_at T p).nonterminal ≡ some (meant s) = rw (← ew, ← er, e) in
        rw (q, ← ew) (ap (λ (z : Class). with_both z heads) (question_kind w k x (meant s) d h))

    pub question_none : r ≡ None → inline_or ps heads (first_fit (inlines T) (picked xs rows) (picked ys columns)) ≡ Unambiguous p 0
    unfolding unambiguous question_or question_in
    question_none e =
        let q : question_of T (production_at T p).nonterminal ≡ none = rw (← ew, ← er, e) in
        rw q

  -- `judge`

  judge_is : judge T c (picked xs rows) (picked ys columns) ≡ ambiguous_or T c (first_fit (is_same_reading ps) (picked xs rows) (picked ys columns)) (Unambiguous c.production.0 c.action)
  judge_is = judge-cons T c xs ys rows columns A.any B.any

  module _ (found : OptionOf (ℕ × ℕ)) (R : ReadAlike ps xs ys rows columns found) where
    pub judge-pair : (i j : ℕ) → found ≡ Some (i, j) → ambiguity_of T c.production.0 c.action c.operand (pair_in xs ys i j) ≡ judge T c (picked xs rows) (picked ys columns)
    unfolding ambiguous_or found_in
    judge-pair i j e =
        let q : first_fit (is_same_reading ps) (picked xs rows) (picked ys columns) ≡ some (pair_in xs ys i j) = sym R.same ∙ rw e in
        sym (judge_is ∙ rw q)

    pub judge-none : found ≡ None → Unambiguous c.production.0 c.action ≡ judge T c (picked xs rows) (picked ys columns)
    unfolding ambiguous_or found_in
    judge-none e =
        let q : first_fit (is_same_reading ps) (picked xs rows) (picked ys columns) ≡ none = sym R.same ∙ rw e in
        sym (judge_is ∙ rw q)

    pub pair_inside : (i j : ℕ) → found ≡ Some (i, j) → (i < length xs) × (j < length ys)
    unfolding FoundFits
    pair_inside i j e = rw e at R.fits
