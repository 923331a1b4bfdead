-- The ways through the public entries, one law each.
use mathlib.Core.Path.{◌≡◌, refl, sym, ◌∙◌}
use mathlib.Core.Bool.{Bool, true, false, ◌&&◌}
use mathlib.Core.List.{List, [], ◌∷◌}
use Prim.Native.Nat.{ℕ, suc, ◌^◌, ◌≤◌, ◌<◌}
use native.Mathlib.Omega.{arith}
use lib.ListN.{length}
use lib.Dec.{ltb}
use borrow.Author.Tests.{lt-ltb, le-ltb}
use Rattle.lr1_base.specs.repr.Reply.{answered, refused}
use Rattle.lr1_base.specs.repr.Meaning.{Table, Production}
use Rattle.lr1_base.specs.repr.Listed.{listed, list_is_fit}
use Rattle.lr1_base.proofs.repr.Listed.{symbol_wider}
use Rattle.table.specs.Checked.{Checked, Accepted, Refused}
use Rattle.table.specs.Decoded.{meaning}
use Rattle.first.specs.First.{FIRST, first0, first1, sets_of_first}
use Rattle.first.specs.declared.Answer.{Answer}
use Rattle.state_graph.specs.Walk.{traced_back}
use Rattle.lr1.specs.Entries.{over_table, symbols_fit, tokens_fit, first0_answer, first1_answer, trace_back_answer}
use Rattle.lr1_base.proofs.laws.Bools.{and-true}

module _ {A : Type 0} (refuse : ℕ → ℕ → A) (answer : Table → A) (t : List ℕ) where
  pub over-refused : (n r : ℕ) (c : Checked) → c ≡ Refused n r → refuse n r ≡ over_table refuse answer t c
  unfolding over_table
  over-refused n r c e = rw e

  pub over_accepted : (c : Checked) → c ≡ Accepted → (a : A) → a ≡ answer (meaning t) → a ≡ over_table refuse answer t c
  unfolding over_table
  over_accepted c e a h = rw e h

-- ---- first0 and first1
pub sets-read : (e : ℕ) (ps qs : List Production) (t : ℕ) → t ≡ e → qs ≡ ps → (map : List ℕ) → map ≡ sets_of_first t qs → map ≡ sets_of_first e ps
sets-read e ps qs t et eq map h = h ∙ (λ j. sets_of_first (et j) (eq j))

module _ (ws : List ℕ) (T : Table) (n t : ℕ) (en : n ≡ length T.nonterminals) (et : t ≡ T.terminals) (b : Bool) (eb : b ≡ list_is_fit n t ws) where
  pub fits_by : b ≡ symbols_fit T ws
  unfolding symbols_fit
  fits_by = rw (← en, ← et) eb

  pub first0-yes : b ≡ true → (map : List ℕ) → map ≡ sets_of_first T.terminals T.productions → (a : Answer) → a ≡ first0 t map (listed ws) → answered a ≡ first0_answer ws T
  unfolding first0_answer FIRST
  first0-yes f map em a ea = rw (sym fits_by ∙ f, first0_answer, ea, em, et)

  pub first0_no : b ≡ false → refused 9 0 ≡ first0_answer ws T
  unfolding first0_answer
  first0_no f = rw (sym fits_by ∙ f, first0_answer)

  module _ (ahead : ℕ) where
    pub first1_list : b ≡ false → refused 9 0 ≡ first1_answer ws ahead T
    unfolding first1_answer
    first1_list f = rw (sym fits_by ∙ f, first1_answer)

    module _ (f : b ≡ true) (d : Bool) (ed : d ≡ ltb ahead (2 ^ suc t)) where
      set_is : d ≡ tokens_fit T ahead
      unfolding tokens_fit
      set_is = rw (← et) ed

      pub first1-set : d ≡ false → refused 9 0 ≡ first1_answer ws ahead T
      unfolding first1_answer
      first1-set h = rw (sym fits_by ∙ f, sym set_is ∙ h, first1_answer)

      pub first1-yes : d ≡ true → (map : List ℕ) → map ≡ sets_of_first T.terminals T.productions → (s : ℕ) → s ≡ first1 t map (listed ws) ahead → answered (record { 0 = s }) ≡ first1_answer ws ahead T
      unfolding first1_answer FIRST first1
      first1-yes h map em s es = rw (sym fits_by ∙ f, sym set_is ∙ h, first1_answer, es, em, et)

-- ---- the walk
module _ (s : ℕ) (ws : List ℕ) (T : Table) where
  pub walk-yes : s < length T.states → symbols_fit T ws ≡ true → (l : List ℕ) → l ≡ traced_back T s (listed ws) → answered l ≡ trace_back_answer s ws T
  unfolding trace_back_answer
  walk-yes h f l e = rw (lt-ltb s (length T.states) h, f, trace_back_answer, e)

  pub walk_list : s < length T.states → symbols_fit T ws ≡ false → refused 9 0 ≡ trace_back_answer s ws T
  unfolding trace_back_answer
  walk_list h f = rw (lt-ltb s (length T.states) h, f, trace_back_answer)

  pub walk_state : length T.states ≤ s → refused 9 0 ≡ trace_back_answer s ws T
  unfolding trace_back_answer
  walk_state h = rw (le-ltb s (length T.states) h, trace_back_answer)

pub list_wider : (n t n' t' : ℕ) (ws : List ℕ) → n ≤ n' → t ≤ t' → list_is_fit n t ws ≡ true → list_is_fit n' t' ws ≡ true
unfolding list_is_fit
list_wider n t n' t' [] hn ht e = refl
list_wider n t n' t' (k ∷ []) hn ht e = e
list_wider n t n' t' (k ∷ x ∷ ws) hn ht e =
    let h = and-true _ _ e in
    rw (symbol_wider n t n' t' k x hn ht h.0) (list_wider n t n' t' ws hn ht h.1)
