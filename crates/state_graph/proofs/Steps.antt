-- One step back and the walk: what the code's sets of states are of the walk of specs/Walk, and what is remembered of it (specs/Remembered).
use mathlib.Core.Path.{◌≡◌, refl, sym, ap, ◌∙◌, subst}
use mathlib.Core.Bool.{Bool, true, false, ◌&&◌}
use mathlib.Core.List.{List, [], ◌∷◌, ◌++◌, append-nil}
use Prim.Native.Nat.{ℕ, zero, suc, ◌+◌, ◌-◌, ◌*◌, ◌%◌, ◌≤◌, ◌<◌}
use native.Mathlib.Omega.{arith}
use lib.Dec.{eqb, ltb}
use native.Mathlib.Decide.{ℕ_discrete}
use lib.ListN.{length, get_or, set, replicate, get_or-replicate, length-replicate, length-set}
use lib.Seq.{get_or-set_same, get_or-set_other}
use Rattle.lr1_base.specs.repr.Lists.{up_from, below, keep}
use Rattle.lr1_base.specs.repr.Meaning.{Symbol, Table, TableFits}
use Rattle.lr1_base.specs.repr.Listed.{symbol_of_kind, symbol_is_fit, listed, list_is_fit}
use Rattle.lr1_base.proofs.repr.Listed.{symbol_range}
use Rattle.lr1_base.proofs.repr.FrontSymbol.{listed_short}
use Rattle.lr1_base.proofs.repr.Chunks.{back_fits, back_symbol, back_listed}
use Rattle.lr1_base.proofs.repr.Parts.{length-listed}
use Rattle.lr1_base.proofs.repr.Lists.{length-below, get_d_below, keep_append, keep-none, keep_agree, length-up_from, get_d_up_from}
use Rattle.std.specs.Prelude.{Option, Some, None}
use Rattle.state_graph.specs.Walk.{leads, predecessors, walked_back, traced_back}
use Rattle.state_graph.specs.States.{has_state, states_in}
use Rattle.state_graph.specs.declared.MadeStep.{MadeStep}
use Rattle.state_graph.specs.Remembered.{step_row, step_rows, step_places, MadeIn, Remembered}
use Rattle.state_graph.proofs.Exact.{leads-outside, walk-nil, walk-cons, walk-append}
use Rattle.state_graph.proofs.States.{states_one, range_two}

pub range_more : (t : ℕ → Bool) (n d : ℕ) → ((k : ℕ) → n ≤ k → t k ≡ false) → keep t (below (n + d)) ≡ keep t (below n)
unfolding below
range_more t n d f =
    ap (keep t) (range_two 0 n d) ∙ keep_append t (up_from 0 n) (up_from (0 + n) d)
    ∙ rw (keep-none t (up_from (0 + n) d) 0 (λ i j.
    let b : i < d = rw (length-up_from (0 + n) d) at j in
    rw (get_d_up_from (0 + n) d i 0 b) (f (0 + n + i) (omega arith)))) (append-nil (keep t (up_from 0 n)))

-- the states found are the predecessors
pub stepped : (T : Table) (x : Symbol) (ss : List ℕ) (l h : ℕ) → length T.states ≤ 128 → ((p : ℕ) → p < 128 → has_state l h p ≡ leads T x ss p) → states_in l h ≡ predecessors T x ss
unfolding states_in predecessors
stepped T x ss l h few f =
    let n = length T.states in
    let e : 128 ≡ n + (128 - n) = omega arith in
    keep_agree (has_state l h) (leads T x ss) (below 128) 0 (λ i j.
    let b : i < 128 = rw (length-below 128) at j in
    rw (get_d_below 128 i 0 b) (f i b))
    ∙ ap (λ (k : ℕ). keep (leads T x ss) (below k)) e
    ∙ range_more (leads T x ss) n (128 - n) (leads-outside T x ss)

-- the walk, from the last symbol on

-- the walk from what is found so far over what is left of the symbols is the whole walk
pub record Walking (T : Table) (ws : List ℕ) (l₀ h₀ l h : ℕ) (left : List ℕ) : Type 0 where
  pub fits : list_is_fit (length T.nonterminals) T.terminals left ≡ true
  pub same : walked_back T (states_in l h) (listed left) ≡ walked_back T (states_in l₀ h₀) (listed ws)

pub walking_start : (T : Table) (ws : List ℕ) → list_is_fit (length T.nonterminals) T.terminals ws ≡ true → (l h : ℕ) (odd left : List ℕ) → ws ≡ odd ++ left → length odd ≡ length ws % 2 → Walking T ws l h l h left
walking_start T ws f l h [] left e n = rw (← e) (record { fits = f; same = refl })
walking_start T ws f l h (x ∷ odd) left e n = let even = length-listed (length T.nonterminals) T.terminals ws f in absurd (omega arith)

module _ (T : Table) (ws : List ℕ) (l₀ h₀ l h : ℕ) (left : List ℕ) (W : Walking T ws l₀ h₀ l h left) where
  module _ (rest two : List ℕ) (e : left ≡ rest ++ two) (n : length two ≡ 2) (k x : ℕ) (ek : k ≡ get_or two 0 0) (ex : x ≡ get_or two 1 0) where
    pub walking_symbol : symbol_is_fit (length T.nonterminals) T.terminals k x ≡ true
    walking_symbol = rw (ek, ex) (back_symbol (length T.nonterminals) T.terminals left rest two W.fits e n)

    pub walking_more : (m j : ℕ) → states_in m j ≡ predecessors T (symbol_of_kind k x) (states_in l h) → Walking T ws l₀ h₀ m j rest
    walking_more m j found = record {
      fits = back_fits (length T.nonterminals) T.terminals left rest two W.fits e n;
      same =
          ap (λ (ss : List ℕ). walked_back T ss (listed rest)) (found ∙ rw (ek, ex) (one (symbol_of_kind (get_or two 0 0) (get_or two 1 0))))
          ∙ sym (walk-append T (states_in l h) (listed rest) (symbol_of_kind (get_or two 0 0) (get_or two 1 0) ∷ []))
          ∙ ap (walked_back T (states_in l h)) (sym (back_listed (length T.nonterminals) T.terminals left rest two W.fits e n))
          ∙ W.same;
    }
      where
        one : (s : Symbol) → predecessors T s (states_in l h) ≡ walked_back T (states_in l h) (s ∷ [])
        one s = ap (predecessors T s) (sym (walk-nil T (states_in l h))) ∙ sym (walk-cons T (states_in l h) s [])

  pub walking_done : length left < 2 → states_in l h ≡ walked_back T (states_in l₀ h₀) (listed ws)
  walking_done short = sym (walk-nil T (states_in l h)) ∙ ap (walked_back T (states_in l h)) (sym (listed_short left short)) ∙ W.same

-- back from one state: the set of it, and the walk
pub traced : (T : Table) → TableFits T → (s : ℕ) → s < length T.states → (a b l h : ℕ) (xs : List Symbol) → ((k : ℕ) → has_state a b k ≡ (ltb k 128 && eqb k s))
    → states_in l h ≡ walked_back T (states_in a b) xs → states_in l h ≡ traced_back T s xs
unfolding traced_back
traced T F s i a b l h xs f e =
    let few = F.few_states in
    e ∙ ap (λ (ss : List ℕ). walked_back T ss xs) (states_one a b s (omega arith) f)

-- rows of symbols
module _ (T : Table) (F : TableFits T) (k x : ℕ) (f : symbol_is_fit (length T.nonterminals) T.terminals k x ≡ true) where
  pub row_inside : step_row k x < step_rows
  row_inside = let r = symbol_range (length T.nonterminals) T.terminals k x f in let a = F.few_nonterminals in let b = F.few_terminals in go k r a b
    where
      go : (k : ℕ) → (k < 2) × ((k ≡ 0 → x < length T.nonterminals) × ((k ≡ 0 → ⊥) → x < T.terminals)) → length T.nonterminals ≤ 32 → T.terminals ≤ 63 → k * 32 + x < 95
      go zero r a b = let i = r.1.0 refl in omega arith
      go (suc zero) r a b = let i = r.1.1 (λ z. omega arith) in omega arith
      go (suc (suc j)) r a b = absurd (omega (arith, r.0))

-- what is remembered

-- what a place holds, if anything, was made
abbrev KeptIn : Table → Option MadeStep → Type 0
KeptIn T None = Unit {0}
KeptIn T (Some m) = MadeIn T m

kept_of : (T : Table) (o : Option MadeStep) → ((m : MadeStep) → o ≡ Some m → MadeIn T m) → KeptIn T o
kept_of T None f = tt
kept_of T (Some m) f = f m refl

pub none_remembered : (T : Table) → Remembered T (replicate step_places None)
none_remembered T = record { long = length-replicate {A = Option MadeStep} step_places None; exact = one }
  where
    one : (p : ℕ) (m : MadeStep) → p < step_places → get_or (replicate {A = Option MadeStep} step_places None) p None ≡ Some m → MadeIn T m
    one p m h e = subst (KeptIn T) (sym (get_or-replicate {A = Option MadeStep} step_places p None None h) ∙ e) tt

pub remembered : (T : Table) (ss : List (Option MadeStep)) → Remembered T ss → (p : ℕ) (m : MadeStep) → MadeIn T m → Remembered T (set ss p (Some m))
remembered T ss R p m k = record { long = length-set ss p (Some m) ∙ R.long; exact = one }
  where
    kept : (q : ℕ) → q < step_places → Dec (q ≡ p) → KeptIn T (get_or (set ss p (Some m)) q None)
    kept q h (yes e) = let n = R.long in rw (e, get_or-set_same ss p (Some m) None (omega arith)) k
    kept q h (no ne) = rw (get_or-set_other ss p q (Some m) None ne) (kept_of T (get_or ss q None) (λ o. R.exact q o h))

    one : (q : ℕ) (o : MadeStep) → q < step_places → get_or (set ss p (Some m)) q None ≡ Some o → MadeIn T o
    one q o h e = subst (KeptIn T) e (kept q h (ℕ_discrete q p))
