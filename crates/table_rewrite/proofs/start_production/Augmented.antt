-- The grammar with a start production added: its numbers are in range and those of the old one stay.
use mathlib.Core.Path.{◌≡◌, refl, sym, ap, ◌∙◌, subst}
use mathlib.Core.Bool.{Bool, false, ◌||◌}
use mathlib.Core.List.{List, [], ◌∷◌, ◌++◌, append-nil}
use Prim.Native.Nat.{ℕ, suc, ◌+◌, ◌<◌}
use native.Mathlib.Omega.{arith}
use lib.ListN.{length, get_or, length-append, get_or-append}
use lib.Seq.{get_or-append-add}
use lib.Dec.{eqb, ltb}
use borrow.Author.Tests.{ltb-true, ltb-false, eq-eqb, ne_eqb}
use Rattle.lr1_base.specs.repr.Sizes.{nonterminal_limit, production_limit}
use Rattle.lr1_base.specs.repr.Lists.{below, keep, some?}
use Rattle.lr1_base.specs.repr.Meaning.{Symbol, nonterminal, terminal, is_same_symbol, Production, Table, no_production, no_state, production_at, SymbolFits, All, ProductionFits, StateFits, TableFits}
use Rattle.lr1_base.proofs.repr.Lists.{cases, length-below, get_d_below, below_last, keep-nil, keep-yes, keep_no, keep_append, keep-none, keep_agree}
use Rattle.lr1_base.proofs.repr.Tests.{some?-nil, some?_no, some?-append, All-map, All-append}
use Rattle.table_rewrite.specs.spelling.Spelled.{owns, Ordered}
use Rattle.table_rewrite.proofs.spelling.Meaning.{fits-owned}
use Rattle.table_rewrite.specs.start_production.Started.{uses, stands_in, owned_by, start_production, augmented, Startable, StartOf}

-- a list with one more
module _ {ℓ} {A : Type ℓ} (xs : List A) (x d : A) where
  more_old : (k : ℕ) → k < length xs → get_or (xs ++ x ∷ []) k d ≡ get_or xs k d
  more_old k h = get_or-append xs (x ∷ []) d k h

  more_new : get_or (xs ++ x ∷ []) (length xs) d ≡ x
  more_new = let z : length xs + 0 ≡ length xs = omega arith in ap (λ (k : ℕ). get_or (xs ++ x ∷ []) k d) (sym z) ∙ get_or-append-add xs (x ∷ []) 0 d

  more_long : length (xs ++ x ∷ []) ≡ length xs + 1
  more_long = length-append xs (x ∷ [])

-- a symbol of T is not the nonterminal behind all
different : (T : Table) (s : Symbol) → SymbolFits T s → is_same_symbol (nonterminal (length T.nonterminals)) s ≡ false
unfolding SymbolFits is_same_symbol
different T (nonterminal k) h = ne_eqb (length T.nonterminals) k (λ z. omega arith)
different T (terminal k) h = refl

module _ (T : Table) (n : ℕ) where
  -- the counts, and what has an old number
  pub nonterminals_long : length (augmented T n).nonterminals ≡ length T.nonterminals + 1
  unfolding augmented
  nonterminals_long = more_long T.nonterminals (length T.productions ∷ []) []

  pub productions_long : length (augmented T n).productions ≡ length T.productions + 1
  unfolding augmented
  productions_long = more_long T.productions (start_production T n) no_production

  pub production_old : (k : ℕ) → k < length T.productions → production_at (augmented T n) k ≡ production_at T k
  unfolding augmented
  production_old k h = more_old T.productions (start_production T n) no_production k h

  pub production_new : production_at (augmented T n) (length T.productions) ≡ start_production T n
  unfolding augmented
  production_new = more_new T.productions (start_production T n) no_production

  pub list_old : (k : ℕ) → k < length T.nonterminals → get_or (augmented T n).nonterminals k [] ≡ get_or T.nonterminals k []
  unfolding augmented
  list_old k h = more_old T.nonterminals (length T.productions ∷ []) [] k h

  list_new : get_or (augmented T n).nonterminals (length T.nonterminals) [] ≡ length T.productions ∷ []
  unfolding augmented
  list_new = more_new T.nonterminals (length T.productions ∷ []) []

  pub same_states : (augmented T n).states ≡ T.states
  unfolding augmented
  same_states = refl

  pub same_terminals : (augmented T n).terminals ≡ T.terminals
  unfolding augmented
  same_terminals = refl

  pub all-productions : (augmented T n).productions ≡ T.productions ++ start_production T n ∷ []
  unfolding augmented
  all-productions = refl

  -- numbers stay in range
  wider_symbol : (s : Symbol) → SymbolFits T s → SymbolFits (augmented T n) s
  unfolding SymbolFits
  wider_symbol (nonterminal k) h = let l = nonterminals_long in omega arith
  wider_symbol (terminal k) h = let l = same_terminals in omega arith

  wider_production : (p : Production) → ProductionFits T p → ProductionFits (augmented T n) p
  wider_production p F = record {
    owner = let l = nonterminals_long in omega (arith, F.owner);
    short = F.short;
    symbols = All-map (SymbolFits T) (SymbolFits (augmented T n)) wider_symbol p.symbols F.symbols;
  }

  module _ (F : TableFits T) (R : Startable T n) where
    new_production-fits : All (ProductionFits (augmented T n)) (start_production T n ∷ [])
    unfolding All SymbolFits
    new_production-fits =
        let l = nonterminals_long in
        let r = R.inside in
        (record { owner = omega arith; short = omega arith; symbols = (omega arith, tt) }, tt)

    one_state_fits : All (StateFits (augmented T n)) (no_state ∷ [])
    unfolding All
    one_state_fits = (record { items = tt; edges = tt }, tt)

    pub fits_more : length T.nonterminals < nonterminal_limit → length T.productions < production_limit → TableFits (augmented T n)
    fits_more hn hp =
        let l = nonterminals_long in
        let m = productions_long in
        let s = same_states ∙ R.alone in
        let o = ap length s in
        record {
          some-nonterminal = omega arith;
          few_nonterminals = omega arith;
          few_terminals = let t = same_terminals in let f = F.few_terminals in omega arith;
          some_state = omega arith;
          few_states = omega arith;
          few_productions_lem = omega arith;
          productions = subst (All (ProductionFits (augmented T n))) (sym all-productions) (All-append (ProductionFits (augmented T n)) T.productions (start_production T n ∷ []) (All-map (ProductionFits T) (ProductionFits (augmented T n)) wider_production T.productions F.productions) new_production-fits);
          states = subst (All (StateFits (augmented T n))) (sym s) one_state_fits;
        }

    -- the productions of each nonterminal
    old_owner : (k p : ℕ) → p < length T.productions → owns (augmented T n) k p ≡ owns T k p
    unfolding owns
    old_owner k p h = ap (λ (q : Production). eqb q.nonterminal k) (production_old p h)

    new_owner : (k : ℕ) → owns (augmented T n) k (length T.productions) ≡ eqb (length T.nonterminals) k
    unfolding owns
    new_owner k = ap (λ (q : Production). eqb q.nonterminal k) production_new

    split : (k : ℕ) → owned_by (augmented T n) k ≡ owned_by T k ++ keep (owns (augmented T n) k) (length T.productions ∷ [])
    unfolding owned_by
    split k =
        let z : length (augmented T n).productions ≡ suc (length T.productions) = productions_long ∙ omega arith in
        let l = length-below (length T.productions) in
        ap (λ (j : ℕ). keep (owns (augmented T n) k) (below j)) z
        ∙ ap (keep (owns (augmented T n) k)) (below_last (length T.productions))
        ∙ keep_append (owns (augmented T n) k) (below (length T.productions)) (length T.productions ∷ [])
        ∙ ap (λ (xs : List ℕ). xs ++ keep (owns (augmented T n) k) (length T.productions ∷ []))
        (keep_agree (owns (augmented T n) k) (owns T k) (below (length T.productions)) 0
        (λ i h. let g = get_d_below (length T.productions) i 0 (omega arith) in rw g (old_owner k i (omega arith))))

    owned_old : (k : ℕ) → k < length T.nonterminals → owned_by (augmented T n) k ≡ owned_by T k
    owned_old k h =
        split k
        ∙ ap (λ (xs : List ℕ). owned_by T k ++ xs) (keep_no (owns (augmented T n) k) (length T.productions) [] (new_owner k ∙ ne_eqb (length T.nonterminals) k (λ z. omega arith)) ∙ keep-nil (owns (augmented T n) k))
        ∙ append-nil (owned_by T k)

    none_owned : owned_by T (length T.nonterminals) ≡ []
    unfolding owned_by owns
    none_owned =
        let l = length-below (length T.productions) in
        keep-none (owns T (length T.nonterminals)) (below (length T.productions)) 0
        (λ i h.
        let g = get_d_below (length T.productions) i 0 (omega arith) in
        let o = fits-owned T F i (omega arith) in
        rw g (ne_eqb (production_at T i).nonterminal (length T.nonterminals) (λ z. omega arith)))

    owned_new : owned_by (augmented T n) (length T.nonterminals) ≡ length T.productions ∷ []
    owned_new =
        split (length T.nonterminals)
        ∙ ap (λ (xs : List ℕ). xs ++ keep (owns (augmented T n) (length T.nonterminals)) (length T.productions ∷ [])) none_owned
        ∙ keep-yes (owns (augmented T n) (length T.nonterminals)) (length T.productions) [] (new_owner (length T.nonterminals) ∙ eq-eqb (length T.nonterminals) (length T.nonterminals) refl)
        ∙ ap (λ (xs : List ℕ). length T.productions ∷ xs) (keep-nil (owns (augmented T n) (length T.nonterminals)))

    pub ordered_more : Ordered T → Ordered (augmented T n)
    unfolding owned_by
    ordered_more O = record {
      lists = λ k h.
          let l = nonterminals_long in
          cases (ltb k (length T.nonterminals))
          (λ e. let b = ltb-true k (length T.nonterminals) e in list_old k b ∙ O.lists k b ∙ sym (owned_old k b))
          (λ e.
          let b = ltb-false k (length T.nonterminals) e in
          let z : length T.nonterminals ≡ k = omega arith in
          subst (λ j. get_or (augmented T n).nonterminals j [] ≡ owned_by (augmented T n) j) z (list_new ∙ sym owned_new));
    }

    -- the new nonterminal stands in no right side
    not-used : (xs : List Symbol) → All (SymbolFits T) xs → some? (is_same_symbol (nonterminal (length T.nonterminals))) xs ≡ false
    unfolding All
    not-used [] A = some?-nil (is_same_symbol (nonterminal (length T.nonterminals)))
    not-used (x ∷ xs) A = some?_no (is_same_symbol (nonterminal (length T.nonterminals))) x xs (different T x A.0) ∙ not-used xs A.1

    nowhere : (ps : List Production) → All (ProductionFits T) ps → some? (uses (length T.nonterminals)) ps ≡ false
    unfolding All uses
    nowhere [] A = some?-nil (uses (length T.nonterminals))
    nowhere (p ∷ ps) A = some?_no (uses (length T.nonterminals)) p ps (not-used p.symbols A.0.symbols) ∙ nowhere ps A.1

    start_alone : some? (uses (length T.nonterminals)) (start_production T n ∷ []) ≡ false
    unfolding All uses SymbolFits
    start_alone = some?_no (uses (length T.nonterminals)) (start_production T n) [] (not-used (nonterminal n ∷ []) (R.inside, tt)) ∙ some?-nil (uses (length T.nonterminals))

    unused_new : stands_in (augmented T n) (length T.nonterminals) ≡ false
    unfolding stands_in
    unused_new =
        ap (some? (uses (length T.nonterminals))) all-productions ∙ some?-append (uses (length T.nonterminals)) T.productions (start_production T n ∷ [])
        ∙ ap (λ (b : Bool). b || some? (uses (length T.nonterminals)) (start_production T n ∷ [])) (nowhere T.productions F.productions) ∙ start_alone

    pub start_new : StartOf (augmented T n) (length T.productions)
    start_new =
        let o = ap (λ (q : Production). q.nonterminal) production_new in
        record { inside = let m = productions_long in omega arith; only = rw o owned_new; unused = rw o unused_new }
