-- Laws of the class from its parts (specs/conflict/Judge of conflict_sides), one for each way through the code: the operator, the two ambiguities, the question.
use Prim.Native.Nat.{ℕ, zero, suc, ◌+◌, ◌*◌, ◌<◌}
use native.Mathlib.Omega.{arith}
use mathlib.Core.Path.{◌≡◌, refl, sym, ap, ◌∙◌}
use mathlib.Core.Bool.{Bool, true, false, ◌&&◌}
use mathlib.Core.List.{List, [], ◌∷◌}
use mathlib.Core.Option.{Option, none, some}
use lib.ListN.{length, get_or, drop, drop_of_length-le}
use lib.Dec.{eqb}
use borrow.Author.Tests.{eq-eqb, ne_eqb}
use Rattle.std.specs.Prelude.{Option as OptionOf, Some, None}
use Rattle.lr1_base.specs.repr.Symbols.{meant}
use Rattle.lr1_base.specs.declared.repr.Symbol.{Symbol as SymbolOf}
use borrow.Author.Tests.{eqb-true, eqb-false}
use lib.Pointwise.{pointwise}
use Rattle.lr1_base.specs.repr.Sizes.{nonterminal_limit, terminal_limit, production_place}
use Rattle.lr1_base.specs.repr.Meaning.{Symbol, is_same_symbol, Production, no_production, Table, production_at, All}
use Rattle.lr1_base.specs.repr.Listed.{symbol_of_kind, listed, symbol_is_fit, list_is_fit}
use Rattle.lr1_base.specs.repr.Packed.{Packed, symbol_words, production_in, productions_in}
use Rattle.lr1_base.proofs.repr.Lists.{cases, clash, get_d_map-below}
use Rattle.lr1_base.proofs.repr.Tests.{All_at}
use Rattle.lr1_base.proofs.repr.Listed.{fits_head, symbol_range}
use Rattle.lr1_base.proofs.repr.Packed.{words_long}
use Rattle.lr1_base.proofs.repr.Parts.{listed_at, symbols_long, word_of, two_more}
use Rattle.trace_graph.proofs.Fits.{production-symbols}
use Rattle.table.specs.Checked.{Accepted}
use Rattle.table.specs.Decoded.{meaning, productions_from}
use Rattle.table.specs.Index.{ProductionRead}
use Rattle.table.proofs.Written.{productions_end}
use Rattle.table.specs.Refusals.{check_of}
use Rattle.conflict_sides.specs.declared.conflict.Class.{Class}
use Rattle.conflict_sides.specs.declared.conflict.Class.TheVariants.{Ambiguity, Precedence, SuggestQuestion, AmbiguousReduction}
use Rattle.conflict_sides.specs.conflict.Sorted.{Pair}
use Rattle.conflict_sides.specs.conflict.Judge.{Example, Judged, with_both, reduction_at, is_operator_of, ambiguity_of_shift, ambiguity_of_reduce, optional, optional_of, question_of, suggest_question}
use Rattle.conflict_sides.proofs.outline.Diverging.{kinds_same, kinds_differ}
use Rattle.conflict_sides.specs.outline.Kept.{nth}
use Rattle.conflict_sides.specs.shift_items.Codes.{Grammar}
use Rattle.conflicts.specs.declared.judgement.Judged.{Judged as JudgedValue}
use Rattle.conflicts.specs.judgement.Judging.{pair_in, heads_in, both, shown_in, judged_in, ShownFits, Judges, question_in, optional_one}
use Rattle.lr1_base.proofs.laws.Bools.{and_left, and_right}
use Rattle.trace_graph.specs.Graph.{same_symbols}

-- a class with the numbers of the examples shown

pub both_is : (class : Class) (i j : ℕ) → record { class = class; action = Some i; reduce = Some j } ≡ both class i j
unfolding both
both_is class i j = refl

pub judges_same : (xs ys : List Example) (v : JudgedValue) (j k : Judged) → Judges xs ys v j → j ≡ k → Judges xs ys v k
judges_same xs ys v j k J q = rw q at J

pub judges_both : (xs ys : List Example) (i j : ℕ) → i < length xs → j < length ys → (class : Class) (v : JudgedValue) (k : Judged) → v ≡ both class i j → with_both class (pair_in xs ys i j) ≡ k → Judges xs ys v k
unfolding both judged_in shown_in ShownFits with_both pair_in
judges_both xs ys i j hi hj class v k e q = rw e (record { same = q; action = hi; reduce = hj })

-- the first of each order
pub judges_heads : (xs ys : List Example) (rows columns : List ℕ) → All (λ k. k < length xs) rows → 0 < length rows → All (λ k. k < length ys) columns → 0 < length columns → (class : Class) (v : JudgedValue) (k : Judged)
    → v ≡ both class (get_or rows 0 0) (get_or columns 0 0) → with_both class (heads_in xs ys rows columns) ≡ k → Judges xs ys v k
unfolding heads_in
judges_heads xs ys rows columns A ha B hb class v k e q =
    judges_both xs ys (get_or rows 0 0) (get_or columns 0 0) (All_at (λ k. k < length xs) rows 0 0 A ha) (All_at (λ k. k < length ys) columns 0 0 B hb) class v k e q

-- `is_operator`

-- lists of symbols are the same where their words are

two_same : (k x m y : ℕ) → k < 2 → m < 2 → (rest : Bool) → eqb k m && (eqb x y && rest) ≡ is_same_symbol (symbol_of_kind k x) (symbol_of_kind m y) && rest
two_same k x m y hk hm rest = cases (eqb k m) (λ q. rw (q, kinds_same k x m y (eqb-true k m q))) (λ q. rw (q, ← kinds_differ k x m y hk hm (eqb-false k m q)))

Kinds : List ℕ → Type 0
Kinds [] = Unit {0}
Kinds (k ∷ []) = ⊥
Kinds (k ∷ x ∷ ws) = (k < 2) × Kinds ws

same_listed : (us vs : List ℕ) → list_is_fit nonterminal_limit terminal_limit us ≡ true → Kinds vs → pointwise eqb us vs ≡ same_symbols (listed us) (listed vs)
unfolding list_is_fit listed same_symbols Kinds
same_listed [] [] f d = refl
same_listed [] (m ∷ []) f d = absurd d
same_listed [] (m ∷ y ∷ vs) f d = refl
same_listed (k ∷ []) vs f d = clash false f refl
same_listed (k ∷ x ∷ us) [] f d = refl
same_listed (k ∷ x ∷ us) (m ∷ []) f d = absurd d
same_listed (k ∷ x ∷ us) (m ∷ y ∷ vs) f d =
    let s = and_left (symbol_is_fit nonterminal_limit terminal_limit k x) (list_is_fit nonterminal_limit terminal_limit us) f in
    let rest = same_listed us vs (and_right (symbol_is_fit nonterminal_limit terminal_limit k x) (list_is_fit nonterminal_limit terminal_limit us) f) d.1 in
    two_same k x m y (symbol_range nonterminal_limit terminal_limit k x s).0 d.0 (pointwise eqb us vs) ∙ rw rest

fits-drop : (i : ℕ) (ws : List ℕ) → list_is_fit nonterminal_limit terminal_limit ws ≡ true → list_is_fit nonterminal_limit terminal_limit (drop (2 * i) ws) ≡ true
unfolding list_is_fit
fits-drop zero ws e = e
fits-drop (suc i) [] e = rw (two_more i)
fits-drop (suc i) (k ∷ []) e = clash false e refl
fits-drop (suc i) (k ∷ x ∷ ws) e = rw (two_more i) (fits-drop i ws (fits_head nonterminal_limit terminal_limit (k ∷ x ∷ ws) 0 (omega arith) e).1.1)

module _ (g : List ℕ) (n : ℕ) (P : Packed g n) (p : ℕ) (h : p < n) where
  pub owner_is : (get_or (productions_in g n) p no_production).nonterminal ≡ get_or g (production_place p) 0
  unfolding productions_in production_in
  owner_is = ap (λ (q : Production). q.nonterminal) (get_d_map-below (production_in g) n p no_production h)

  start_is : (get_or (productions_in g n) p no_production).start ≡ get_or g (production_place p + 2) 0
  unfolding productions_in production_in
  start_is = ap (λ (q : Production). q.start) (get_d_map-below (production_in g) n p no_production h)

  end_is : (get_or (productions_in g n) p no_production).end ≡ get_or g (production_place p + 3) 0
  unfolding productions_in production_in
  end_is = ap (λ (q : Production). q.end) (get_d_map-below (production_in g) n p no_production h)

  count_is : length (get_or (productions_in g n) p no_production).symbols ≡ get_or g (production_place p + 1) 0
  count_is = ap length (production-symbols g n p h) ∙ symbols_long g n p P h

  -- the symbol at place i
  module _ (i : ℕ) (l : i < get_or g (production_place p + 1) 0) where
    symbol_at_lem : drop i (listed (symbol_words g p)) ≡ symbol_of_kind (get_or g (production_place p + 4 + 2 * i) 0) (get_or g (production_place p + 4 + (2 * i + 1)) 0) ∷ drop (suc i) (listed (symbol_words g p))
    symbol_at_lem =
        let w = words_long g n p P h in
        listed_at (symbol_words g p) i (omega arith) ∙ rw (word_of g n p (2 * i) P h (omega arith), word_of g n p (2 * i + 1) P h (omega arith))

    kind_small : get_or g (production_place p + 4 + 2 * i) 0 < 2
    kind_small =
        let w = words_long g n p P h in
        let f = (fits_head nonterminal_limit terminal_limit (symbol_words g p) (2 * i) (omega arith) (fits-drop i (symbol_words g p) (P.fits p h))).1.0 in
        let r = (symbol_range nonterminal_limit terminal_limit _ _ f).0 in
        rw (word_of g n p (2 * i) P h (omega arith)) at r

  -- `is_operator`: the words of the symbols are the operator's
  pub operator_words : (o nt : ℕ) (ws : List ℕ) (b : Bool) → nt ≡ get_or g (production_place p) 0 → ws ≡ symbol_words g p → b ≡ pointwise eqb ws (0 ∷ nt ∷ 1 ∷ o ∷ 0 ∷ nt ∷ []) → b ≡ is_operator_of (get_or (productions_in g n) p no_production) o
  unfolding is_operator_of listed symbol_of_kind Kinds
  operator_words o nt ws b en ew eb =
      let w = same_listed (symbol_words g p) (0 ∷ nt ∷ 1 ∷ o ∷ 0 ∷ nt ∷ []) (P.fits p h) (omega arith, (omega arith, (omega arith, tt))) in
      eb ∙ rw (ew, w, production-symbols g n p h, owner_is, ← en)

-- `shift_ambiguity`, `reduce_ambiguity`

module _ (g : List ℕ) (n : ℕ) (P : Packed g n) (p : ℕ) (h : p < n) (o : ℕ) (q : Pair Example) where
  pub ambiguity_operator : (w : ℕ) → w ≡ get_or g (production_place p) 0 → true ≡ is_operator_of (get_or (productions_in g n) p no_production) o
      → with_both (Precedence (record { 0 = w })) q ≡ ambiguity_of_shift (get_or (productions_in g n) p no_production) o q
  unfolding ambiguity_of_shift
  ambiguity_operator w ew e = rw (← e, ambiguity_of_shift, owner_is g n P p h, ← ew)

  pub ambiguity_plain : false ≡ is_operator_of (get_or (productions_in g n) p no_production) o → with_both Ambiguity q ≡ ambiguity_of_shift (get_or (productions_in g n) p no_production) o q
  unfolding ambiguity_of_shift
  ambiguity_plain e = rw (← e, ambiguity_of_shift)

module _ (g : List ℕ) (n : ℕ) (P : Packed g n) (p : ℕ) (h : p < n) (o : ℕ) (ho : o < n) (xs ys : List Example) (i j : ℕ) (hi : i < length xs) (hj : j < length ys) (x y : ℕ)
    (ex : x ≡ (reduction_at (productions_in g n) (nth xs i) 0).nonterminal) (ey : y ≡ (reduction_at (productions_in g n) (nth ys j) 0).nonterminal) where
  abbrev ps : List Production
  ps = productions_in g n

  pub reduction_spans : x ≡ y → (s e s' e' : ℕ) → s ≡ get_or g (production_place p + 2) 0 → e ≡ get_or g (production_place p + 3) 0 → s' ≡ get_or g (production_place o + 2) 0 → e' ≡ get_or g (production_place o + 3) 0
      → Judges xs ys (record { class = AmbiguousReduction s e s' e'; action = Some i; reduce = None }) (ambiguity_of_reduce ps (get_or ps p no_production) (get_or ps o no_production) (pair_in xs ys i j))
  unfolding ambiguity_of_reduce pair_in judged_in shown_in ShownFits
  reduction_spans q s e s' e' es ee es' ee' =
      let m : eqb (reduction_at ps (nth xs i) 0).nonterminal (reduction_at ps (nth ys j) 0).nonterminal ≡ true = rw (← ex, ← ey) (eq-eqb x y q) in
      record { same = rw (m, ambiguity_of_reduce, es, ee, es', ee', start_is g n P p h, end_is g n P p h, start_is g n P o ho, end_is g n P o ho); action = hi; reduce = tt }

  pub reduction_plain : (x ≡ y → ⊥) → with_both Ambiguity (pair_in xs ys i j) ≡ ambiguity_of_reduce ps (get_or ps p no_production) (get_or ps o no_production) (pair_in xs ys i j)
  unfolding ambiguity_of_reduce pair_in
  reduction_plain ne =
      let m : eqb (reduction_at ps (nth xs i) 0).nonterminal (reduction_at ps (nth ys j) 0).nonterminal ≡ false = rw (← ex, ← ey) (ne_eqb x y ne) in
      rw (m, ambiguity_of_reduce)

-- `optional`

one_not-none : (xs ys : List Symbol) → (length xs ≡ 0 → ⊥) → none ≡ optional_one xs ys
unfolding optional_one
one_not-none [] ys ne = absurd (ne refl)
one_not-none (x ∷ xs) ys ne = refl

one_not_one : (xs ys : List Symbol) → (length ys ≡ 1 → ⊥) → none ≡ optional_one xs ys
unfolding optional_one
one_not_one [] [] ne = refl
one_not_one [] (y ∷ []) ne = absurd (ne refl)
one_not_one [] (y ∷ z ∷ ys) ne = refl
one_not_one (x ∷ xs) ys ne = refl

one_is : (xs ys : List Symbol) (y : Symbol) → length xs ≡ 0 → ys ≡ y ∷ [] → some y ≡ optional_one xs ys
unfolding optional_one
one_is [] ys y e f = rw f
one_is (x ∷ xs) ys y e f = let z : suc (length xs) ≡ 0 = e in absurd (omega arith)

module _ (g : List ℕ) (n : ℕ) (p : ℕ) (hp : p < n) (q : ℕ) (hq : q < n) where
  abbrev Answer : OptionOf SymbolOf → Type 0
  Answer r = question_in r ≡ optional_one (get_or (productions_in g n) p no_production).symbols (get_or (productions_in g n) q no_production).symbols

  pub optional-some : (length (listed (symbol_words g p)) ≡ 0 → ⊥) → Answer None
  unfolding question_in
  optional-some ne = rw (production-symbols g n p hp) (one_not-none (listed (symbol_words g p)) _ ne)

  pub optional-more : (length (listed (symbol_words g q)) ≡ 1 → ⊥) → Answer None
  unfolding question_in
  optional-more ne = rw (production-symbols g n q hq) (one_not_one (get_or (productions_in g n) p no_production).symbols (listed (symbol_words g q)) ne)

  pub optional_one_lem : length (listed (symbol_words g p)) ≡ 0 → length (listed (symbol_words g q)) ≡ 1 → (s : SymbolOf) → drop 0 (listed (symbol_words g q)) ≡ meant s ∷ drop 1 (listed (symbol_words g q)) → Answer (Some s)
  unfolding question_in
  optional_one_lem none' one s e =
      let z : listed (symbol_words g q) ≡ meant s ∷ [] = e ∙ rw (drop_of_length-le (listed (symbol_words g q)) {i = 1} (omega arith)) refl in
      rw (production-symbols g n p hp, production-symbols g n q hq) (one_is (listed (symbol_words g p)) (listed (symbol_words g q)) (meant s) none' z)

-- `try_classify_question`

pub cons_same : {x : ℕ} {l m : List ℕ} → l ≡ m → x ∷ l ≡ x ∷ m
cons_same {x} e = ap (λ (l : List ℕ). x ∷ l) e

-- the first two productions of a chain, as its steps read them
pub record FirstTwo (t : List ℕ) (at past p q : ℕ) : Type 0 where
  pub list : productions_from t at ≡ p ∷ q ∷ productions_from t past
  pub fits : (p < length (meaning t).productions) × (q < length (meaning t).productions)

pub first_two : {t u v : List ℕ} {at next past p q : ℕ} → u ≡ t → v ≡ u → ProductionRead u at next p → ProductionRead v next past q → FirstTwo t at past p q
first_two {t} e f p q =
    let P : ProductionRead t _ _ _ = rw e at p in
    let Q : ProductionRead t _ _ _ = rw (f ∙ e) at q in
    record { list = P.list ∙ cons_same Q.list; fits = (P.fits, Q.fits) }

-- and no others
pub two_all : {t : List ℕ} {at past p q : ℕ} → FirstTwo t at past p q → past ≡ 0 → productions_from t at ≡ p ∷ q ∷ []
two_all {t} two e = two.list ∙ cons_same (cons_same (ap (productions_from t) e ∙ productions_end t))

optional-left : (xs ys : List Symbol) (x : Symbol) → some x ≡ optional_one xs ys → some x ≡ optional xs ys
unfolding optional_one optional
optional-left [] [] x e = e
optional-left [] (y ∷ []) x e = e
optional-left [] (y ∷ z ∷ ys) x e = e
optional-left (u ∷ []) [] x e = let z : ◌≡◌ {A = ℕ} 0 1 = cc in absurd (omega arith)
optional-left (u ∷ []) (y ∷ ys) x e = e
optional-left (u ∷ v ∷ xs) ys x e = e

optional_right : (xs ys : List Symbol) → none ≡ optional_one xs ys → optional_one ys xs ≡ optional xs ys
unfolding optional_one optional
optional_right [] [] e = refl
optional_right [] (y ∷ []) e = let z : ◌≡◌ {A = ℕ} 0 1 = cc in absurd (omega arith)
optional_right [] (y ∷ z ∷ ys) e = refl
optional_right (u ∷ []) [] e = refl
optional_right (u ∷ []) (y ∷ ys) e = refl
optional_right (u ∷ v ∷ xs) [] e = refl
optional_right (u ∷ v ∷ xs) (y ∷ ys) e = refl

pub question_kind : (w k x : ℕ) (s : Symbol) → symbol_of_kind k x ≡ s → k < 2 → SuggestQuestion (record { 0 = w }) k x ≡ suggest_question w s
unfolding suggest_question symbol_of_kind
question_kind w zero x s e h = rw (← e) refl
question_kind w (suc zero) x s e h = rw (← e) refl
question_kind w (suc (suc k)) x s e h = absurd (omega arith)

module _ (t g : List ℕ) (n : ℕ) (acc : check_of t ≡ Accepted) (G : Grammar (meaning t) g n) where
  abbrev T : Table
  T = meaning t

  -- by the nonterminal's productions
  module _ (nt : ℕ) (qs : List ℕ) (eq : qs ≡ get_or T.nonterminals nt []) where
    abbrev Question : Option Symbol
    Question = question_of T nt

    abbrev symbols_of : ℕ → List Symbol
    symbols_of p = (production_at T p).symbols

    pub question_none : qs ≡ [] → question_in None ≡ Question
    unfolding question_in question_of optional_of
    question_none e = rw (← eq, e)

    pub question_one : (p : ℕ) → qs ≡ p ∷ [] → question_in None ≡ Question
    unfolding question_in question_of optional_of
    question_one p e = rw (← eq, e)

    pub question_many : (p q r : ℕ) (rs : List ℕ) → qs ≡ p ∷ q ∷ r ∷ rs → question_in None ≡ Question
    unfolding question_in question_of optional_of
    question_many p q r rs e = rw (← eq, e)

    module _ (p q : ℕ) (e : qs ≡ p ∷ q ∷ []) where
      two_is : Question ≡ optional (symbols_of p) (symbols_of q)
      unfolding question_of optional_of
      two_is = rw (← eq, e)

      own : (x : ℕ) → (get_or (productions_in g n) x no_production).symbols ≡ symbols_of x
      own x = ap (λ (ps : List Production). (get_or ps x no_production).symbols) G.same

      pub question_left : (r : OptionOf SymbolOf) → (r ≡ None → ⊥) → question_in r ≡ optional_one (get_or (productions_in g n) p no_production).symbols (get_or (productions_in g n) q no_production).symbols → question_in r ≡ Question
      unfolding question_in
      question_left (Some s) ne d =
          let f : some (meant s) ≡ optional_one (symbols_of p) (symbols_of q) = rw (own p, own q) at d in
          optional-left (symbols_of p) (symbols_of q) (meant s) f ∙ sym two_is
      question_left None ne d = absurd (ne refl)

      pub question_right : (r r' : OptionOf SymbolOf) → r ≡ None → question_in r ≡ optional_one (get_or (productions_in g n) p no_production).symbols (get_or (productions_in g n) q no_production).symbols → question_in r' ≡ optional_one (get_or (productions_in g n) q no_production).symbols (get_or (productions_in g n) p no_production).symbols → question_in r' ≡ Question
      unfolding question_in
      question_right r r' er d d' =
          let f : none ≡ optional_one (symbols_of p) (symbols_of q) = rw (er, own p, own q) at d in
          d' ∙ rw (own p, own q) (optional_right (symbols_of p) (symbols_of q) f) ∙ sym two_is
