-- The ways through each step over a view's words (specs/graph_view/Steps).
use Prim.Native.Nat.{ℕ, zero, suc, ◌≤◌}
use native.Mathlib.Omega.{arith}
use mathlib.Core.Path.{◌≡◌, refl, ap, ◌∙◌}
use mathlib.Core.Bool.{true, false}
use mathlib.Core.List.{List, [], ◌∷◌}
use mathlib.Core.Option.{none, some}
use lib.ListN.{length, get_or}
use Rattle.lr1_base.specs.repr.Sizes.{nonterminal_limit}
use Rattle.lr1_base.specs.repr.Lists.{mem}
use Rattle.enumerator.specs.graph_view.Steps.{edge_in, joined_by, used_by, back_by, seek_by, onward_by, next_by}

-- the edge that a word links
pub edge_none : (w : ℕ) → w ≡ 0 → edge_in w ≡ none
unfolding edge_in
edge_none w z = rw z

pub edge_some : (w : ℕ) {f : ℕ} → w ≡ suc f → edge_in w ≡ some f
unfolding edge_in
edge_some w q = rw q

module _ (older : List ℕ) where
  pub back_end : back_by older [] ≡ none
  unfolding back_by
  back_end = refl

  pub back_some : (e f : ℕ) (st : List ℕ) → edge_in (get_or older e 0) ≡ some f → back_by older (e ∷ st) ≡ some (f ∷ st)
  unfolding back_by
  back_some e f st h = rw (h, back_by)

  pub back_none : (e : ℕ) (st : List ℕ) → edge_in (get_or older e 0) ≡ none → back_by older (e ∷ st) ≡ back_by older st
  unfolding back_by
  back_none e st h = rw (h, back_by)

  pub seek-some : (w f : ℕ) (st : List ℕ) → edge_in w ≡ some f → seek_by older w st ≡ some (f ∷ st)
  unfolding seek_by
  seek-some w f st h = rw (h, seek_by)

  pub seek-none : (w : ℕ) (st : List ℕ) → edge_in w ≡ none → seek_by older w st ≡ back_by older st
  unfolding seek_by
  seek-none w st h = rw (h, seek_by)

pub used-more : (sources : List ℕ) (e : ℕ) (st : List ℕ) → used_by sources (e ∷ st) ≡ joined_by (get_or sources e 0) (used_by sources st)
unfolding used_by
used-more sources e st = refl

pub used_few : (sources st : List ℕ) → length (used_by sources st) ≤ length st
unfolding used_by joined_by
used_few sources [] = omega arith
used_few sources (e ∷ st) = go (used_few sources st) (get_or sources e 0)
  where
    go : length (used_by sources st) ≤ length st → (w : ℕ) → length (joined_by w (used_by sources st)) ≤ suc (length st)
    go ih zero = omega arith
    go ih (suc n) = omega arith

module _ (sources older latest : List ℕ) where
  pub next-first : next_by sources older latest [] ≡ seek_by older (get_or latest nonterminal_limit 0) []
  unfolding next_by
  next-first = refl

  onward_by_lem : (w : ℕ) (e : ℕ) (st : List ℕ) → get_or sources e 0 ≡ w → next_by sources older latest (e ∷ st) ≡ onward_by sources older latest w e st
  unfolding next_by
  onward_by_lem w e st q = ap (λ (k : ℕ). onward_by sources older latest k e st) q

  -- from an item, or from a nonterminal that is on the walk already, back
  pub next_item_lem : (e : ℕ) (st : List ℕ) → get_or sources e 0 ≡ 0 → next_by sources older latest (e ∷ st) ≡ back_by older (e ∷ st)
  unfolding onward_by
  next_item_lem e st q = onward_by_lem 0 e st q

  onward_on : (n e : ℕ) (st : List ℕ) → mem n (used_by sources st) ≡ true → onward_by sources older latest (suc n) e st ≡ back_by older (e ∷ st)
  unfolding onward_by
  onward_on n e st m = rw (m, onward_by)

  onward_in : (n e : ℕ) (st : List ℕ) → mem n (used_by sources st) ≡ false → onward_by sources older latest (suc n) e st ≡ seek_by older (get_or latest n 0) (e ∷ st)
  unfolding onward_by
  onward_in n e st m = rw (m, onward_by)

  pub next_on : (e n : ℕ) (st : List ℕ) → get_or sources e 0 ≡ suc n → mem n (used_by sources st) ≡ true → next_by sources older latest (e ∷ st) ≡ back_by older (e ∷ st)
  next_on e n st q m = onward_by_lem (suc n) e st q ∙ onward_on n e st m

  -- else one edge more
  pub next_in : (e n : ℕ) (st : List ℕ) → get_or sources e 0 ≡ suc n → mem n (used_by sources st) ≡ false → next_by sources older latest (e ∷ st) ≡ seek_by older (get_or latest n 0) (e ∷ st)
  next_in e n st q m = onward_by_lem (suc n) e st q ∙ onward_in n e st m
