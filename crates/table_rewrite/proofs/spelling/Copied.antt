-- Of an accepted table the spelling's areas lie where the table's do, and record 0, the nonterminals' heads and the productions' next indexes are the table's own words:
-- the code copies them and looks nothing up.
use mathlib.Core.Path.{◌≡◌, refl, sym, ap, ◌∙◌}
use mathlib.Core.Bool.{Bool, true, false}
use mathlib.Core.List.{List, [], ◌∷◌, ◌++◌, map, append_assoc}
use mathlib.Core.Option.{none, some}
use Prim.Native.Nat.{ℕ, zero, suc, ◌+◌, ◌-◌, ◌≤◌, ◌<◌}
use native.Mathlib.Omega.{arith}
use lib.ListN.{length}
use lib.Dec.{eqb}
use borrow.Author.Tests.{eqb-true, eqb-false}
use Rattle.lr1_base.specs.repr.Lists.{up_from, below, mem, keep, first?}
use Rattle.lr1_base.specs.repr.Meaning.{Production, production_at}
use Rattle.lr1_base.proofs.repr.Lists.{cases, keep-nil, keep-yes, keep_no}
use Rattle.lr1_base.proofs.repr.Tests.{first?-nil, first?-yes, first?_no}
use Rattle.table.specs.Checked.{Accepted}
use Rattle.table.specs.Words.{word_at, records, nonterminals, productions, state_area, production_area, loose, Area, production_records, against, chain}
use Rattle.table.specs.Decoded.{production_chain, owner_of, production_of, productions_of, meaning}
use Rattle.table.specs.Refusals.{check_of}
use Rattle.table.proofs.Chains.{named, good_of, chain_end, chain-step, chain_induct, production-whole}
use Rattle.table.proofs.Accepted.{accepts, areas_of, nonterminal-head, production-next, production_place_lem}
use Rattle.table.proofs.Decoding.{many_nonterminals, many_states, many_productions, nonterminal_at, production_at_lem, owner_holds}
use Rattle.table_rewrite.specs.spelling.Spelled.{states_at, productions_at, symbols_at, owns, record_or, next_owned_from, nonterminal_quad, production_quad, spell}
use Rattle.table_rewrite.proofs.spelling.Places.{begins, spell_next, nonterminal_at as nonterminal-quad, production_at_lem as production-quad}
use Rattle.table_rewrite.proofs.spelling.Rising.{meaning_ordered}

-- the first of the kept

module _ (g : ℕ → Bool) where
  keep-first-none : (xs : List ℕ) → keep g xs ≡ [] → first? g xs ≡ none
  keep-first-none [] e = first?-nil g
  keep-first-none (x ∷ xs) e =
      cases (g x)
      (λ q. let z : ◌≡◌ {A = ℕ} 0 1 = cc (keep-yes g x xs q) in absurd (omega arith))
      (λ q. first?_no g x xs q ∙ keep-first-none xs (sym (keep_no g x xs q) ∙ e))

  keep-first-some : (xs : List ℕ) (y : ℕ) (ys : List ℕ) → keep g xs ≡ y ∷ ys → first? g xs ≡ some y
  keep-first-some [] y ys e = let z : ◌≡◌ {A = ℕ} 0 1 = cc (keep-nil g) in absurd (omega arith)
  keep-first-some (x ∷ xs) y ys e =
      cases (g x)
      (λ q. let z : x ≡ y = cc (keep-yes g x xs q) in first?-yes g x xs q ∙ ap some z)
      (λ q. first?_no g x xs q ∙ keep-first-some xs y ys (sym (keep_no g x xs q) ∙ e))

  -- what is kept behind a kept number
  keep-after : (k lo : ℕ) (pre : List ℕ) (p : ℕ) (post : List ℕ) → keep g (up_from lo k) ≡ pre ++ p ∷ post → post ≡ keep g (up_from (suc p) (lo + k - suc p))
  unfolding up_from
  keep-after zero lo [] p post e = let z : ◌≡◌ {A = ℕ} 0 1 = cc (keep-nil g) in absurd (omega arith)
  keep-after zero lo (y ∷ pre) p post e = let z : ◌≡◌ {A = ℕ} 0 1 = cc (keep-nil g) in absurd (omega arith)
  keep-after (suc k) lo [] p post e =
      cases (g lo)
      (λ q.
      let z : lo ≡ p = cc (keep-yes g lo (up_from (suc lo) k) q) in
      let r : post ≡ keep g (up_from (suc lo) k) = cc (keep-yes g lo (up_from (suc lo) k) q) in
      let d : lo + suc k - suc lo ≡ k = omega arith in
      rw (← z, d) r)
      (λ q.
      let d : suc lo + k ≡ lo + suc k = omega arith in
      rw d at (keep-after k (suc lo) [] p post (sym (keep_no g lo (up_from (suc lo) k) q) ∙ e)))
  keep-after (suc k) lo (y ∷ pre) p post e =
      let d : suc lo + k ≡ lo + suc k = omega arith in
      cases (g lo)
      (λ q.
      let r : keep g (up_from (suc lo) k) ≡ pre ++ p ∷ post = cc (keep-yes g lo (up_from (suc lo) k) q) in
      rw d at (keep-after k (suc lo) pre p post r))
      (λ q. rw d at (keep-after k (suc lo) (y ∷ pre) p post (sym (keep_no g lo (up_from (suc lo) k) q) ∙ e)))

-- a chain before and after one of its members
module _ (t : List ℕ) (a : Area) (whole : a.past ≤ records t) where
  chain-split : (r x z : ℕ) → mem z (chain t a r x) ≡ true → (pre : List ℕ) × (chain t a r x ≡ pre ++ z ∷ chain t a z (word_at t z 0))
  chain-split r x z m =
      chain_induct t a {P = λ z. (pre : List ℕ) × (chain t a r x ≡ pre ++ z ∷ chain t a z (word_at t z 0))} r x
      (λ ne g. ([], chain-step t a whole r x ne g))
      (λ z i p ne g. (
        p.0 ++ z ∷ [],
        p.1 ∙ ap (λ (l : List ℕ). p.0 ++ z ∷ l) (chain-step t a whole z (word_at t z 0) ne g) ∙ sym (append_assoc p.0 (z ∷ []) (word_at t z 0 ∷ chain t a (word_at t z 0) (word_at t (word_at t z 0) 0))),
      ))
      z m

map-append : (f : ℕ → ℕ) (xs ys : List ℕ) → map f (xs ++ ys) ≡ map f xs ++ map f ys
map-append f [] ys = refl
map-append f (x ∷ xs) ys = ap (λ (l : List ℕ). f x ∷ l) (map-append f xs ys)

-- the areas lie where the table's do
module _ (t : List ℕ) where
  pub same_states : states_at (meaning t) ≡ state_area t
  same_states = let b = begins (meaning t) in let a = areas_of t in let n = many_nonterminals t in omega arith

  pub same_productions : productions_at (meaning t) ≡ production_area t
  same_productions = let b = begins (meaning t) in let a = areas_of t in let n = many_nonterminals t in let s = many_states t in omega arith

  pub same_loose : symbols_at (meaning t) ≡ loose t
  same_loose = let b = begins (meaning t) in let a = areas_of t in let n = many_nonterminals t in let s = many_states t in let p = many_productions t in omega arith

module _ (t : List ℕ) (e : check_of t ≡ Accepted) where
  -- an index is the record of the first of the productions that its chain holds
  head_copied : (r x n p k : ℕ) → against (production_records t) r x ≡ false → map (λ q. q - production_area t) (chain t (production_records t) r x) ≡ keep (owns (meaning t) n) (up_from p k)
      → x ≡ record_or (productions_at (meaning t)) (first? (owns (meaning t) n) (up_from p k))
  unfolding record_or production_records
  head_copied r x n p k g c =
      let w = production-whole t (accepts t e).areas in
      cases (eqb x 0)
      (λ q.
      let z = eqb-true x 0 q in
      let none_kept : keep (owns (meaning t) n) (up_from p k) ≡ [] =
      sym c ∙ ap (λ (y : ℕ). map (λ i. i - production_area t) (chain t (production_records t) r y)) z ∙ ap (map (λ i. i - production_area t)) (chain_end t (production_records t) r) in
      z ∙ ap (record_or (productions_at (meaning t))) (sym (keep-first-none (owns (meaning t) n) (up_from p k) none_kept)))
      (λ q.
      let ne = eqb-false x 0 q in
      let good = good_of (production_records t) r x g ne in
      let i = (named (production_records t) r x good).inside in
      let s = same_productions t in
      let kept : keep (owns (meaning t) n) (up_from p k) ≡ (x - production_area t) ∷ map (λ i. i - production_area t) (chain t (production_records t) x (word_at t x 0)) =
      sym c ∙ ap (map (λ i. i - production_area t)) (chain-step t (production_records t) w r x ne good) in
      let back : x ≡ productions_at (meaning t) + (x - production_area t) = omega arith in
      back ∙ ap (record_or (productions_at (meaning t))) (sym (keep-first-some (owns (meaning t) n) (up_from p k) (x - production_area t) _ kept)))

  pub nonterminal_copied : (n : ℕ) → n < nonterminals t → word_at t (1 + n) 0 ≡ next_owned_from (meaning t) n 0
  unfolding next_owned_from productions_of production_chain below
  nonterminal_copied n h =
      let h' : n < length (meaning t).nonterminals = rw (many_nonterminals t) h in
      let d : length (meaning t).productions - 0 ≡ length (meaning t).productions = omega arith in
      rw d (head_copied (1 + n) (word_at t (1 + n) 0) n 0 (length (meaning t).productions) (nonterminal-head t (accepts t e) n h)
      (sym (nonterminal_at t n h) ∙ (meaning_ordered t e).lists n h'))

  pub production_copied : (p : ℕ) → p < productions t → word_at t (production_area t + p) 0 ≡ next_owned_from (meaning t) (production_at (meaning t) p).nonterminal (suc p)
  unfolding next_owned_from productions_of production_chain production_of below
  production_copied p h =
      let A = accepts t e in
      let w = production-whole t A.areas in
      let o = owner_of t p in
      let is : (production_at (meaning t) p).nonterminal ≡ o = ap (λ (q : Production). q.nonterminal) (production_at_lem t p h) in
      let own = owner_holds t A p h in
      let o' : o < length (meaning t).nonterminals = rw (many_nonterminals t) own.0 in
      let s = chain-split t (production_records t) w (1 + o) (word_at t (1 + o) 0) (production_area t + p) own.1 in
      let d : production_area t + p - production_area t ≡ p = omega arith in
      let all : keep (owns (meaning t) o) (up_from 0 (length (meaning t).productions))
      ≡ map (λ q. q - production_area t) s.0 ++ p ∷ map (λ q. q - production_area t) (chain t (production_records t) (production_area t + p) (word_at t (production_area t + p) 0)) =
      sym ((meaning_ordered t e).lists o o') ∙ nonterminal_at t o own.0 ∙ ap (map (λ q. q - production_area t)) s.1
      ∙ map-append (λ q. q - production_area t) s.0 ((production_area t + p) ∷ chain t (production_records t) (production_area t + p) (word_at t (production_area t + p) 0))
      ∙ ap (λ (k : ℕ). map (λ q. q - production_area t) s.0 ++ k ∷ map (λ q. q - production_area t) (chain t (production_records t) (production_area t + p) (word_at t (production_area t + p) 0))) d in
      let after = keep-after (owns (meaning t) o) (length (meaning t).productions) 0 (map (λ q. q - production_area t) s.0) p (map (λ q. q - production_area t) (chain t (production_records t) (production_area t + p) (word_at t (production_area t + p) 0))) all in
      let l : 0 + length (meaning t).productions - suc p ≡ length (meaning t).productions - suc p = omega arith in
      rw is
      (head_copied (production_area t + p) (word_at t (production_area t + p) 0) o (suc p) (length (meaning t).productions - suc p)
      (production-next t A (production_area t + p) (production_place_lem t p h)) (rw l at after))

  -- so these words of the spelling are the table's
  pub same_nonterminal-word : (n : ℕ) → n < nonterminals t → word_at (spell (meaning t)) (1 + n) 0 ≡ word_at t (1 + n) 0
  unfolding nonterminal_quad
  same_nonterminal-word n h =
      spell_next (meaning t) (1 + n) (nonterminal_quad (meaning t) n) (nonterminal-quad (meaning t) n (rw (many_nonterminals t) h)) ∙ sym (nonterminal_copied n h)

  pub same_production-word : (p : ℕ) → p < productions t → word_at (spell (meaning t)) (production_area t + p) 0 ≡ word_at t (production_area t + p) 0
  unfolding production_quad
  same_production-word p h =
      ap (λ (k : ℕ). word_at (spell (meaning t)) (k + p) 0) (sym (same_productions t))
      ∙ spell_next (meaning t) (productions_at (meaning t) + p) (production_quad (meaning t) p) (production-quad (meaning t) p (rw (many_productions t) h))
      ∙ sym (production_copied p h)
