-- A list of symbols in words gone through two words at a time, as `chunks_exact` does it (specs/repr/Listed).
use Rattle.std.proofs.Common.{◌≡◌, refl, sym, ap, subst, ◌∙◌, ℕ, ◌+◌, ◌%◌, ◌<◌, Bool, true, false, ◌&&◌, List, [], ◌∷◌, ◌++◌, length, get_or, MatchOption, Option, None, Some, length-append, append-nil, arith}
use Rattle.std.specs.Iterator.{Yields}
use Rattle.std.specs.Slice.Iter.{chunks_exact_steps}
use Rattle.std.specs.List.{FoldsTo}
use Rattle.std.specs.Fn.{Called}
use Rattle.std.specs.declared.slice.ChunksExact.{ChunksExact}
use denote.Ref.{Bor}
use denote.Param.Members.{Mut}
use Rattle.lr1_base.specs.repr.Meaning.{Symbol}
use Rattle.lr1_base.specs.repr.Listed.{symbol_of_kind, listed, symbol_is_fit, list_is_fit}
use Rattle.lr1_base.proofs.repr.Parts.{length-listed}
use Rattle.lr1_base.proofs.repr.Joined.{listed-append, even_parts}
use Rattle.lr1_base.proofs.laws.Bools.{and_left}

-- two words and the rest

pub pair_listed : (ws two rest : List ℕ) → ws ≡ two ++ rest → length two ≡ 2 → listed ws ≡ symbol_of_kind (get_or two 0 0) (get_or two 1 0) ∷ listed rest
unfolding listed
pair_listed ws [] rest e l = absurd (omega arith)
pair_listed ws (k ∷ []) rest e l = absurd (omega arith)
pair_listed ws (k ∷ x ∷ []) rest e l = rw e
pair_listed ws (k ∷ x ∷ y ∷ zs) rest e l = absurd (omega arith)

pub pair_fits : (n t : ℕ) (ws two rest : List ℕ) → ws ≡ two ++ rest → length two ≡ 2 → list_is_fit n t ws ≡ (symbol_is_fit n t (get_or two 0 0) (get_or two 1 0) && list_is_fit n t rest)
unfolding list_is_fit
pair_fits n t ws [] rest e l = absurd (omega arith)
pair_fits n t ws (k ∷ []) rest e l = absurd (omega arith)
pair_fits n t ws (k ∷ x ∷ []) rest e l = rw e
pair_fits n t ws (k ∷ x ∷ y ∷ zs) rest e l = absurd (omega arith)

-- the same from the back
module _ (n t : ℕ) (ws rest two : List ℕ) (f : list_is_fit n t ws ≡ true) (e : ws ≡ rest ++ two) (l : length two ≡ 2) where
  back_even : length rest % 2 ≡ 0
  back_even = omega (arith, length-listed n t ws f, ap length e ∙ length-append rest two)

  back_parts : (list_is_fit n t rest ≡ true) × (list_is_fit n t two ≡ true)
  back_parts = even_parts n t rest two (rw e at f) back_even

  pub back_fits : list_is_fit n t rest ≡ true
  back_fits = back_parts.0

  pub back_symbol : symbol_is_fit n t (get_or two 0 0) (get_or two 1 0) ≡ true
  back_symbol = and_left _ _ (sym (pair_fits n t two two [] (sym (append-nil two)) l) ∙ back_parts.1)

  pub back_listed : listed ws ≡ listed rest ++ symbol_of_kind (get_or two 0 0) (get_or two 1 0) ∷ []
  unfolding listed
  back_listed = ap listed e ∙ listed-append rest two back_even ∙ ap (λ (xs : List Symbol). listed rest ++ xs) (pair_listed two two [] (sym (append-nil two)) l)

-- fewer are none
pub none_fits : (n t : ℕ) (ws : List ℕ) → length ws % 2 ≡ 0 → length ws < 2 → list_is_fit n t ws ≡ true
unfolding list_is_fit
none_fits n t [] o l = refl
none_fits n t (k ∷ []) o l = absurd (omega arith)
none_fits n t (k ∷ x ∷ ws) o l = absurd (omega arith)

-- `all` of a test that asks whether two words are a symbol in range
module _ {F : Type 0} (g : Mut F (Bor (List ℕ) × Unit {0}) Bool) (f : F) (n t : ℕ)
    (gives : (x : Bor (List ℕ)) (b : Bool) (q : F) → Called g f (x, tt) b q → (q ≡ f) × (b ≡ symbol_is_fit n t (get_or x.now 0 0) (get_or x.now 1 0))) where
  pub all_fit : (xs : List (Bor (List ℕ))) (s d u : ChunksExact ℕ) (o : Option (Bor (List ℕ))) (p q : F) (r : Bool) → p ≡ f → s.size ≡ 2 → length s.rest.now % 2 ≡ 0
      → Yields chunks_exact_steps s xs d → chunks_exact_steps d o u → FoldsTo (λ p x q. Called g p (x, tt) true q) p xs q
      → MatchOption o (r ≡ true) (λ x. (r ≡ false) × ((h : F) × Called g q (x, tt) false h)) → r ≡ list_is_fit n t s.rest.now
  all_fit [] s d u None p q r ef two even ys st fs m =
      let same : length s.rest.now ≡ length d.rest.now = ap (λ (z : ChunksExact ℕ). length z.rest.now) ys in
      let size : s.size ≡ d.size = ap (λ (z : ChunksExact ℕ). z.size) ys in
      m ∙ sym (none_fits n t s.rest.now even (omega (arith, st.1.0)))
  all_fit [] s d u (Some x) p q r ef two even ys st fs m =
      let front : s.rest.now ≡ x.now ++ u.rest.now = ap (λ (z : ChunksExact ℕ). z.rest.now) ys ∙ st.1.0 in
      let size : s.size ≡ d.size = ap (λ (z : ChunksExact ℕ). z.size) ys in
      let no = (gives x false m.1.0 (subst (λ (k : F). Called g k (x, tt) false m.1.0) (sym fs ∙ ef) m.1.1)).1 in
      m.0 ∙ sym (pair_fits n t s.rest.now x.now u.rest.now front (omega (arith, st.1.1)) ∙ rw (← no))
  all_fit (x ∷ xs) s d u o p q r ef two even ys st fs m =
      let yes = gives x true fs.0 (subst (λ (k : F). Called g k (x, tt) true fs.0) ef fs.1) in
      let front = ys.1.1.0 in
      let two_words : length x.now ≡ 2 = ys.1.1.1 ∙ two in
      let fewer : length s.rest.now ≡ length x.now + length ys.0.rest.now = ap length front ∙ length-append x.now ys.0.rest.now in
      all_fit xs ys.0 d u o fs.0 q r yes.0 (ys.1.0 ∙ two) (omega arith) ys.2 st fs.2 m
      ∙ sym (pair_fits n t s.rest.now x.now ys.0.rest.now front two_words ∙ rw (← yes.1))
