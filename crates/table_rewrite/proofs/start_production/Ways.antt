-- The ways through `with_start`.
use mathlib.Core.Path.{◌≡◌, refl, sym, ap, ◌∙◌}
use mathlib.Core.Bool.{true, false, ◌||◌}
use mathlib.Core.List.{List, [], ◌∷◌, ◌++◌}
use Prim.Native.Nat.{ℕ, ◌+◌, ◌<◌}
use native.Mathlib.Omega.{arith}
use lib.ListN.{length, get_or}
use lib.Dec.{eqb, ltb}
use borrow.Author.Tests.{ltb-true, ltb-false, eq-eqb, ne_eqb}
use Rattle.lr1_base.specs.repr.Reply.{refused}
use Rattle.lr1_base.specs.repr.Sizes.{nonterminal_limit, production_limit}
use Rattle.lr1_base.specs.repr.Meaning.{nonterminal, Production, Table}
use Rattle.lr1_base.specs.repr.Packed.{Packed, productions_in}
use Rattle.lr1_base.proofs.repr.Lists.{cases, clash}
use Rattle.table.specs.Index.{CountsOf}
use Rattle.table_rewrite.specs.grammar_records.Target.{PackedAs, owned_from}
use Rattle.table_rewrite.specs.start_production.Started.{is_start_needed, augmented, full, Outcome, started_in, started_of, Startable, GrammarOf}
use Rattle.table_rewrite.proofs.start_production.Wanted.{wanted-none, from_first}
use Rattle.table_rewrite.proofs.start_production.Augmented.{nonterminals_long, productions_long, same_states, same_terminals, all-productions, fits_more}
use Rattle.lr1_base.proofs.laws.Bools.{or_second}

full-productions : (T : Table) → length T.productions ≡ production_limit → full T ≡ true
unfolding full
full-productions T h = or_second (eqb (length T.nonterminals) nonterminal_limit) _ (eq-eqb (length T.productions) production_limit h)

module _ (T : Table) (n a b s p : ℕ) (C : CountsOf T a b s p) (R : Startable T n) where
  -- what is read
  module _ (grammar : List ℕ) (Q : Packed grammar (length T.productions) × (productions_in grammar (length T.productions) ≡ T.productions)) where
    pub read-packed : PackedAs T grammar p
    read-packed = rw C.productions (record { packed = Q.0; same = Q.1 })

    pub read_grammar : GrammarOf T a b s p grammar
    read_grammar = record { alone = R.alone; counts = C; packed = read-packed }

    -- its own start production
    module _ (first : ℕ) (ef : first ≡ owned_from (productions_in grammar p) n 0) (e : is_start_needed T n ≡ false) where
      pub own_inside : first < p
      own_inside = cases (ltb first p) (λ q. ltb-true first p q) (λ q. clash (is_start_needed T n) (sym (wanted-none T grammar p n first read-packed ef (ltb-false first p q))) e)

      pub own_way : (out : List ℕ) (o : Outcome) → o ≡ started_in T first out → o ≡ started_of T n out
      unfolding started_of
      own_way out o z = rw (e, started_of) (z ∙ ap (λ (k : ℕ). started_in T k out) (sym (ap (λ (xs : List ℕ). get_or xs 0 0) (from_first T grammar p n first read-packed ef own_inside))))

  -- one that is added
  module _ (ha : a ≡ nonterminal_limit → ⊥) (hp : p ≡ production_limit → ⊥) where
    few_nonterminals : a < nonterminal_limit
    few_nonterminals = omega (arith, C.nonterminals, C.fits.few_nonterminals)

    pub few_productions_lem : p < production_limit
    few_productions_lem = omega (arith, C.productions, C.fits.few_productions_lem)

    pub more_grammar : (grammar grammar' : List ℕ) → Packed grammar (length T.productions) × (productions_in grammar (length T.productions) ≡ T.productions)
        → Packed grammar' (p + 1) × (productions_in grammar' (p + 1) ≡ productions_in grammar p ++ record { nonterminal = a; symbols = nonterminal n ∷ []; start = 0; end = 0 } ∷ [])
        → GrammarOf (augmented T n) (a + 1) b s (p + 1) grammar'
    more_grammar grammar grammar' Q W =
        let l = nonterminals_long T n in
        let m = productions_long T n in
        record {
          alone = same_states T n ∙ R.alone;
          counts = record {
            nonterminals = omega (arith, C.nonterminals);
            terminals = C.terminals ∙ sym (same_terminals T n);
            states = C.states ∙ sym (ap length (same_states T n));
            productions = omega (arith, C.productions);
            fits = fits_more T n C.fits R (omega (arith, few_nonterminals, C.nonterminals)) (omega (arith, few_productions_lem, C.productions));
          };
          packed = record {
            packed = W.0;
            same = W.1 ∙ ap (λ (ps : List Production). ps ++ record { nonterminal = a; symbols = nonterminal n ∷ []; start = 0; end = 0 } ∷ []) (read-packed grammar Q).same
                ∙ ap (λ (k : ℕ). T.productions ++ record { nonterminal = k; symbols = nonterminal n ∷ []; start = 0; end = 0 } ∷ []) C.nonterminals ∙ sym (all-productions T n);
          };
        }

    room-left : full T ≡ false
    unfolding full
    room-left = rw (ne_eqb (length T.nonterminals) nonterminal_limit (λ z. ha (C.nonterminals ∙ z)), ne_eqb (length T.productions) production_limit (λ z. hp (C.productions ∙ z)))

  module _ (e : true ≡ is_start_needed T n) (out : List ℕ) where
    too_full : full T ≡ true → record { answer = refused 2 0; out = out } ≡ started_of T n out
    unfolding started_of
    too_full f = rw (← e, started_of, f)

    pub many_nonterminals : a ≡ nonterminal_limit → record { answer = refused 2 0; out = out } ≡ started_of T n out
    unfolding full
    many_nonterminals h = too_full (rw (eq-eqb (length T.nonterminals) nonterminal_limit (sym C.nonterminals ∙ h)))

    pub many_productions : p ≡ production_limit → record { answer = refused 2 0; out = out } ≡ started_of T n out
    many_productions h = too_full (full-productions T (sym C.productions ∙ h))

    pub more_way : (ha : a ≡ nonterminal_limit → ⊥) (hp : p ≡ production_limit → ⊥) (o : Outcome) → o ≡ started_in (augmented T n) p out → o ≡ started_of T n out
    unfolding started_of
    more_way ha hp o z = rw (← e, started_of, room-left ha hp) (z ∙ ap (λ (k : ℕ). started_in (augmented T n) k out) C.productions)
