-- What is written with a start production is accepted, means what was to be written and is its own spelling; no number moved.
use mathlib.Core.Path.{◌≡◌, refl, sym, ap, ◌∙◌}
use mathlib.Core.Bool.{true, false, not, ◌||◌, ◌&&◌}
use mathlib.Core.Logic.{inl, inr}
use mathlib.Core.List.{List, [], ◌∷◌}
use Prim.Native.Nat.{ℕ, ◌/◌, ◌≤◌, ◌<◌}
use native.Mathlib.Omega.{arith}
use lib.ListN.{length, get_or}
use lib.Dec.{eqb, leb}
use borrow.Author.Tests.{ltb-true, eqb-true, eqb-false, not-false}
use Rattle.lr1_base.specs.words.Lent.{in_front}
use Rattle.lr1_base.specs.repr.Reply.{answered, refused}
use Rattle.lr1_base.specs.repr.Sizes.{nonterminal_limit, production_limit}
use Rattle.lr1_base.specs.repr.Lists.{below, mem}
use Rattle.lr1_base.specs.repr.Meaning.{Table, TableFits, production_at}
use Rattle.lr1_base.specs.declared.repr.ProductionIndex.{ProductionIndex}
use Rattle.lr1_base.proofs.repr.Lists.{cases, mem-cons_here, mem_below, mem-keep}
use Rattle.table.specs.Checked.{Accepted}
use Rattle.table.specs.Decoded.{meaning}
use Rattle.table.specs.Refusals.{check_of}
use Rattle.table.proofs.Decoding.{fits}
use Rattle.table_rewrite.specs.spelling.Spelled.{owns, records_of, spell, Ordered}
use Rattle.table_rewrite.proofs.spelling.Accepted.{spell_accepted}
use Rattle.table_rewrite.proofs.spelling.Meaning.{spell-meaning}
use Rattle.table_rewrite.proofs.spelling.Rising.{meaning_ordered}
use Rattle.table_rewrite.specs.declared.start_production.Started.{Started}
use Rattle.table_rewrite.specs.start_production.Started.{stands_in, owned_by, is_start_needed, augmented, full, Outcome, started_as, started_in, started_of, Startable, StartOf, Written}
use Rattle.table_rewrite.proofs.start_production.Written.{few_records}
use Rattle.table_rewrite.proofs.start_production.Augmented.{production_old, production_new, list_old, same_states, same_terminals, fits_more, ordered_more, start_new}
use Rattle.lr1_base.proofs.laws.Bools.{or-none, and_left, and_right}

-- the answer says what was written
apart : (r k m : ℕ) (p : ProductionIndex) → refused k m ≡ started_as r p → ⊥
apart r k m p e = let z : ◌≡◌ {A = ℕ} 0 1 = cc in omega arith

pub same_started : (a b : Started) → answered a ≡ answered b → a ≡ b
same_started a b e = cc

module _ (U : Table) (q r p : ℕ) (out ws : List ℕ) (e : started_in U q out ≡ record { answer = started_as r (record { 0 = p }); out = ws }) where
  in_room : leb (records_of U) (length out / 4) ≡ true → started_in U q out ≡ record { answer = started_as (records_of U) (record { 0 = q }); out = in_front (spell U) out }
  unfolding started_in
  in_room f = rw (f, started_in)

  in_none : leb (records_of U) (length out / 4) ≡ false → started_in U q out ≡ record { answer = refused 17 0; out = out }
  unfolding started_in
  in_none f = rw (f, started_in)

  in_written : (r ≡ records_of U) × ((p ≡ q) × (ws ≡ in_front (spell U) out))
  in_written =
      cases (leb (records_of U) (length out / 4))
      (λ f.
      let z = sym e ∙ in_room f in
      let a = ap (λ (o : Outcome). o.answer) z in
      (ap (λ (s : Started). s.records) (same_started _ _ a), (ap (λ (s : Started). s.production.0) (same_started _ _ a), ap (λ (o : Outcome). o.out) z)))
      (λ f. absurd (apart _ _ _ _ (ap (λ (o : Outcome). o.answer) (sym (in_none f) ∙ e))))

below_it : (a m : ℕ) → a ≤ m → (a ≡ m → ⊥) → a < m
below_it a m h e = omega arith

one_of : (xs : List ℕ) → length xs ≡ 1 → xs ≡ get_or xs 0 0 ∷ []
one_of [] e = absurd (omega arith)
one_of (x ∷ []) e = refl
one_of (x ∷ y ∷ xs) e = absurd (omega arith)

module _ (T : Table) (n : ℕ) (F : TableFits T) (O : Ordered T) (R : Startable T n) where
  -- its own start production
  module _ (e : is_start_needed T n ≡ false) where
    parts : (length (owned_by T n) ≡ 1) × (stands_in T n ≡ false)
    unfolding is_start_needed
    parts = let w = or-none (not (eqb (length (owned_by T n)) 1)) (stands_in T n) e in (eqb-true (length (owned_by T n)) 1 (not-false _ w.0), w.1)

    only : owned_by T n ≡ get_or (owned_by T n) 0 0 ∷ []
    only = one_of (owned_by T n) parts.0

    owned : (mem (get_or (owned_by T n) 0 0) (below (length T.productions)) && owns T n (get_or (owned_by T n) 0 0)) ≡ true
    unfolding owned_by
    owned =
        sym (mem-keep (owns T n) (get_or (owned_by T n) 0 0) (below (length T.productions)))
        ∙ ap (mem (get_or (owned_by T n) 0 0)) only ∙ mem-cons_here (get_or (owned_by T n) 0 0) []

    inside : get_or (owned_by T n) 0 0 < length T.productions
    inside = ltb-true _ _ (sym (mem_below (get_or (owned_by T n) 0 0) (length T.productions)) ∙ and_left _ _ owned)

    owner : (production_at T (get_or (owned_by T n) 0 0)).nonterminal ≡ n
    unfolding owns
    owner =
        eqb-true (production_at T (get_or (owned_by T n) 0 0)).nonterminal n
        (and_right (mem (get_or (owned_by T n) 0 0) (below (length T.productions))) (owns T n (get_or (owned_by T n) 0 0)) owned)

    start_own : StartOf T (get_or (owned_by T n) 0 0)
    start_own = record { inside = inside; only = rw owner only; unused = rw owner parts.1 }

  -- the two ways that write
  module _ (out ws : List ℕ) (r p : ℕ) where
    own_written : is_start_needed T n ≡ false → started_in T (get_or (owned_by T n) 0 0) out ≡ record { answer = started_as r (record { 0 = p }); out = ws } → Written T n r p out ws
    own_written e w =
        let z = in_written T (get_or (owned_by T n) 0 0) r p out ws w in
        let m = spell-meaning T F O in
        let f = few_records T R.alone F in
        record {
          U = T;
          words = z.1.1;
          many = z.0;
          accepted = spell_accepted T F (omega arith);
          means = m;
          again = ap spell m;
          start = rw z.1.0 (start_own e);
          leads = inl (rw z.1.0 (owner e));
          terminals = refl;
          productions = λ k h. refl;
          nonterminals = λ k h. refl;
          states = refl;
        }

    more-written : length T.nonterminals < nonterminal_limit → length T.productions < production_limit
        → started_in (augmented T n) (length T.productions) out ≡ record { answer = started_as r (record { 0 = p }); out = ws } → Written T n r p out ws
    more-written hn hp w =
        let z = in_written (augmented T n) (length T.productions) r p out ws w in
        let G = fits_more T n F R hn hp in
        let m = spell-meaning (augmented T n) G (ordered_more T n F R O) in
        let f = few_records (augmented T n) (same_states T n ∙ R.alone) G in
        record {
          U = augmented T n;
          words = z.1.1;
          many = z.0;
          accepted = spell_accepted (augmented T n) G (omega arith);
          means = m;
          again = ap spell m;
          start = rw z.1.0 (start_new T n F R);
          leads = inr (rw z.1.0 (production_new T n));
          terminals = same_terminals T n;
          productions = production_old T n;
          nonterminals = list_old T n;
          states = same_states T n;
        }

    full_no : full T ≡ false → (length T.nonterminals < nonterminal_limit) × (length T.productions < production_limit)
    unfolding full
    full_no e =
        let w = or-none (eqb (length T.nonterminals) nonterminal_limit) (eqb (length T.productions) production_limit) e in
        let a = eqb-false (length T.nonterminals) nonterminal_limit w.0 in
        let b = eqb-false (length T.productions) production_limit w.1 in
        (below_it _ _ F.few_nonterminals a, below_it _ _ F.few_productions_lem b)

    way_own : is_start_needed T n ≡ false → started_of T n out ≡ started_in T (get_or (owned_by T n) 0 0) out
    unfolding started_of
    way_own e = rw (e, started_of)

    way_more : is_start_needed T n ≡ true → full T ≡ false → started_of T n out ≡ started_in (augmented T n) (length T.productions) out
    unfolding started_of
    way_more e f = rw (e, started_of, f)

    way_none : is_start_needed T n ≡ true → full T ≡ true → started_of T n out ≡ record { answer = refused 2 0; out = out }
    unfolding started_of
    way_none e f = rw (e, started_of, f)

    fits-written : started_of T n out ≡ record { answer = started_as r (record { 0 = p }); out = ws } → Written T n r p out ws
    fits-written w =
        cases (is_start_needed T n)
        (λ e.
        cases (full T)
        (λ f. absurd (apart _ _ _ _ (ap (λ (o : Outcome). o.answer) (sym (way_none e f) ∙ w))))
        (λ f. let l = full_no f in more-written l.0 l.1 (sym (way_more e f) ∙ w)))
        (λ e. own_written e (sym (way_own e) ∙ w))

-- of a table that is accepted
pub start-written : (t out ws : List ℕ) (n r p : ℕ) → check_of t ≡ Accepted → Startable (meaning t) n → started_of (meaning t) n out ≡ record { answer = started_as r (record { 0 = p }); out = ws } → Written (meaning t) n r p out ws
start-written t out ws n r p a R w = fits-written (meaning t) n (fits t a) (meaning_ordered t a) R out ws r p w
