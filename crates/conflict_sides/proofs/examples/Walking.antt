-- A listing trial by trial (specs/examples/Listing) is the listing of conflict_sides/specs/conflict/Sides, and what the answers of a search say of it.
use Rattle.std.specs.Prelude.{◌≡◌, ℕ, zero, suc, ◌+◌, ◌<◌, ◌≤◌, Bool, true, false, ltb, List, [], ◌∷◌, map, length, take, drop}
use mathlib.Core.Path.{refl, sym, ap, ◌∙◌}
use native.Mathlib.Omega.{arith}
use borrow.Author.Tests.{lt-ltb, le-ltb, ltb-true, ltb-false}
use Rattle.lr1_base.specs.repr.Sizes.{example_limit}
use Rattle.lr1_base.specs.repr.Lists.{keep}
use Rattle.lr1_base.proofs.repr.Lists.{cases, keep-nil, keep-yes, keep_no}
use Rattle.enumerator.specs.example.Example.{Label}
use Rattle.enumerator.specs.trials.Trials.{Path}
use Rattle.enumerator.specs.trials.Lister.{hit, out, over, search}
use Rattle.enumerator.proofs.trials.Search.{search-hit, search_on}
use Rattle.enumerator.proofs.trials.After.{drop-tail}
use Rattle.conflict_sides.specs.conflict.Sides.{Side, gathered, stopped}
use Rattle.conflict_sides.specs.examples.Listing.{more, next_example, walk_side}

-- an example more, with room and without
pub next-room : (k : ℕ) (x : List Label) (s : Side) → k < example_limit → next_example k x s ≡ more x s
unfolding next_example
next-room k x s h = rw (lt-ltb k example_limit h, next_example)

pub next-none : (k : ℕ) (x : List Label) (s : Side) → example_limit ≤ k → next_example k x s ≡ stopped 14
unfolding next_example
next-none k x s h = rw (le-ltb k example_limit h, next_example)

-- by the two tests: 14, 13, all
unfoldable pub tested : Bool → Bool → Side → Side
tested true b s = stopped 14
tested false true s = stopped 13
tested false false s = s

more_tested : (x : List Label) (a b : Bool) (s : Side) → more x (tested a b s) ≡ tested a b (more x s)
unfolding more tested
more_tested x true b s = refl
more_tested x false true s = refl
more_tested x false false s = refl

more-gathered : (x : List Label) (xs : List (List Label)) (m : ℕ) → more x (gathered xs m) ≡ gathered (x ∷ xs) m
unfolding more
more-gathered x xs m = refl

tested_full : (b : Bool) (s : Side) → tested true b s ≡ stopped 14
unfolding tested
tested_full b s = refl

tested_over : (s : Side) → tested false true s ≡ stopped 13
unfolding tested
tested_over s = refl

tested_all : (s : Side) → tested false false s ≡ s
unfolding tested
tested_all s = refl

ltb-suc : (a b : ℕ) → ltb (suc a) (suc b) ≡ ltb a b
ltb-suc a b =
    cases (ltb a b)
    (λ e. let h = ltb-true a b e in lt-ltb (suc a) (suc b) (omega arith) ∙ sym e)
    (λ e. let h = ltb-false a b e in le-ltb (suc a) (suc b) (omega arith) ∙ sym e)

module _ (t : Path → Bool) (say : Path → List Label) where
  walk_end : (l c k : ℕ) → walk_side t say l c k [] ≡ gathered [] c
  unfolding walk_side
  walk_end zero c k = refl
  walk_end (suc l) c k = refl

  walk-over : (c k : ℕ) (p : Path) (ps : List Path) → walk_side t say 0 c k (p ∷ ps) ≡ stopped 13
  unfolding walk_side
  walk-over c k p ps = refl

  walk_on : (l c k : ℕ) (p : Path) (ps : List Path) → t p ≡ false → walk_side t say (suc l) c k (p ∷ ps) ≡ walk_side t say l (suc c) k ps
  unfolding walk_side
  walk_on l c k p ps e = rw (e, walk_side)

  walk-example : (l c k : ℕ) (p : Path) (ps : List Path) → t p ≡ true → walk_side t say (suc l) c k (p ∷ ps) ≡ next_example k (say p) (walk_side t say l (suc c) (suc k) ps)
  unfolding walk_side
  walk-example l c k p ps e = rw (e, walk_side)

  end_tested : (c k : ℕ) (b : Bool) → k ≤ example_limit → b ≡ false → gathered [] c ≡ tested (ltb example_limit (k + length (keep t []))) b (gathered (map say (keep t [])) (c + 0))
  end_tested c k b h e =
      let z : c + 0 ≡ c = omega arith in
      rw (keep-nil t, e, le-ltb example_limit (k + 0) (omega arith), z, tested_all (gathered [] c))

  -- over the whole list: example 193 among the trials allowed, a trial more, all
  pub walk_is : (l c k : ℕ) (ts : List Path) → k ≤ example_limit
      → walk_side t say l c k ts ≡ tested (ltb example_limit (k + length (keep t (take l ts)))) (ltb l (length ts)) (gathered (map say (keep t ts)) (c + length ts))
  walk_is zero c k [] h = walk_end 0 c k ∙ end_tested c k (ltb 0 0) h refl
  walk_is (suc l) c k [] h = walk_end (suc l) c k ∙ end_tested c k (ltb (suc l) 0) h (le-ltb (suc l) 0 (omega arith))
  walk_is zero c k (p ∷ ps) h =
      walk-over c k p ps ∙ sym (rw (keep-nil t, le-ltb example_limit (k + 0) (omega arith), lt-ltb 0 (suc (length ps)) (omega arith)) (tested_over (gathered (map say (keep t (p ∷ ps))) (c + suc (length ps)))))
  walk_is (suc l) c k (p ∷ ps) h =
      let on = walk_is l (suc c) k ps h in
      let z : c + suc (length ps) ≡ suc c + length ps = omega arith in
      cases (t p)
      (λ e. cases (ltb k example_limit)
      (λ r.
      let q = ltb-true k example_limit r in
      let y : k + suc (length (keep t (take l ps))) ≡ suc k + length (keep t (take l ps)) = omega arith in
      walk-example l c k p ps e ∙ next-room k (say p) (walk_side t say l (suc c) (suc k) ps) q
      ∙ ap (more (say p)) (walk_is l (suc c) (suc k) ps q)
      ∙ more_tested (say p) (ltb example_limit (suc k + length (keep t (take l ps)))) (ltb l (length ps)) (gathered (map say (keep t ps)) (suc c + length ps))
      ∙ rw (keep-yes t p (take l ps) e, keep-yes t p ps e, ltb-suc l (length ps), z, y, more-gathered (say p) (map say (keep t ps)) (suc c + length ps)))
      (λ r.
      let q = ltb-false k example_limit r in
      walk-example l c k p ps e ∙ next-none k (say p) (walk_side t say l (suc c) (suc k) ps) q
      ∙ sym (rw (keep-yes t p (take l ps) e, lt-ltb example_limit (k + suc (length (keep t (take l ps)))) (omega arith)) (tested_full (ltb (suc l) (suc (length ps))) (gathered (map say (keep t (p ∷ ps))) (c + suc (length ps)))))))
      (λ e. walk_on l c k p ps e ∙ on ∙ rw (keep_no t p (take l ps) e, keep_no t p ps e, ltb-suc l (length ps), z))

  -- what a search finds

  pub walk-out : (l c k n : ℕ) (ts : List Path) → search t l c ts ≡ out n → (walk_side t say l c k ts ≡ gathered [] n) × (n ≤ c + l)
  unfolding search
  walk-out l c k n [] e = let z : c ≡ n = cc in (walk_end l c k ∙ ap (gathered []) z, omega arith)
  walk-out zero c k n (p ∷ ps) e = let z : ◌≡◌ {A = ℕ} 0 1 = cc in absurd (omega arith)
  walk-out (suc l) c k n (p ∷ ps) e =
      let on = walk-out l (suc c) k n ps in
      cases (t p)
      (λ h. let f : hit (suc c) p ≡ out n = sym (search-hit t l c p ps h) ∙ e in let z : ◌≡◌ {A = ℕ} 0 1 = cc in absurd (omega arith))
      (λ h. let r = on (sym (search_on t l c p ps h) ∙ e) in let m = r.1 in (walk_on l c k p ps h ∙ r.0, omega arith))

  pub walk_past : (l c k : ℕ) (ts : List Path) → search t l c ts ≡ over → walk_side t say l c k ts ≡ stopped 13
  unfolding search
  walk_past l c k [] e = let z : ◌≡◌ {A = ℕ} 0 1 = cc in absurd (omega arith)
  walk_past zero c k (p ∷ ps) e = walk-over c k p ps
  walk_past (suc l) c k (p ∷ ps) e =
      let on = walk_past l (suc c) k ps in
      cases (t p)
      (λ h. let f : hit (suc c) p ≡ over = sym (search-hit t l c p ps h) ∙ e in let z : ◌≡◌ {A = ℕ} 0 1 = cc in absurd (omega arith))
      (λ h. walk_on l c k p ps h ∙ on (sym (search_on t l c p ps h) ∙ e))

  pub record Next (all : List Path) (l c k n : ℕ) (p : Path) (ts : List Path) : Type 0 where
    pub left : ℕ
    pub number : ℕ
    pub is_next : n ≡ suc number
    pub limit : n + left ≡ c + l
    pub here : drop number all ≡ p ∷ drop n all
    pub walk : walk_side t say l c k ts ≡ next_example k (say p) (walk_side t say left n (suc k) (drop n all))

  pub walk-hit : (all : List Path) (l c k n : ℕ) (p : Path) (ts : List Path) → drop c all ≡ ts → search t l c ts ≡ hit n p → Next all l c k n p ts
  unfolding search
  walk-hit all l c k n p [] d e = let z : ◌≡◌ {A = ℕ} 0 1 = cc in absurd (omega arith)
  walk-hit all zero c k n p (q ∷ ts) d e = let z : ◌≡◌ {A = ℕ} 0 1 = cc in absurd (omega arith)
  walk-hit all (suc l) c k n p (q ∷ ts) d e =
      let tail : drop (suc c) all ≡ ts = drop-tail c all q ts d in
      let on = walk-hit all l (suc c) k n p ts tail in
      cases (t q)
      (λ h.
      let f : hit (suc c) q ≡ hit n p = sym (search-hit t l c q ts h) ∙ e in
      let z : suc c ≡ n = cc in
      let y : q ≡ p = cc in
      let tl : ts ≡ drop n all = sym tail ∙ ap (λ (x : ℕ). drop x all) z in
      record {
        left = l;
        number = c;
        is_next = sym z;
        limit = omega arith;
        here = d ∙ (λ j. y j ∷ tl j);
        walk = walk-example l c k q ts h ∙ (λ j. next_example k (say (y j)) (walk_side t say l (z j) (suc k) (tl j)));
      })
      (λ h.
      let r = on (sym (search_on t l c q ts h) ∙ e) in
      let m = r.limit in
      record {
        left = r.left;
        number = r.number;
        is_next = r.is_next;
        limit = omega arith;
        here = r.here;
        walk = walk_on l c k q ts h ∙ r.walk;
      })
