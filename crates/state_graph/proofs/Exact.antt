-- What the state walk of specs/Walk gives (docs/RULES.md, "Walking back"): exactly the states with a path, ascending; two lists of symbols joined;
-- two sets joined; a repeated edge.
use mathlib.Core.Path.{◌≡◌, refl, sym, ap, subst, ◌∙◌}
use mathlib.Core.Bool.{Bool, true, false, ◌&&◌, ◌||◌, true≢false, and-or_distrib_left}
use mathlib.Core.List.Memᴰ
use mathlib.Core.List.{List, [], ◌∷◌, ◌++◌, Memᴰ}
use mathlib.Core.Logic.{◌↔◌, ⊎_elim}
use Prim.Native.Nat.{ℕ, ◌≤◌, ◌<◌}
use native.Mathlib.Omega.{arith}
use lib.ListN.{length, get_or, get_or-eq_default}
use lib.Dec.{eqb, ltb}
use borrow.Author.Tests.{eqb-true, eqb-false, ltb-true, ltb-false}
use Rattle.lr1_base.specs.repr.Lists.{up_from, below, mem, keep, some?}
use Rattle.lr1_base.specs.repr.Meaning.{Symbol, is_same_symbol, Edge, State, Table, state_at, no_state}
use Rattle.lr1_base.proofs.repr.Lists.{cases, clash, mem-nil, mem-cons, mem-append, mem-cons_here, mem-keep, mem_below, keep_agree}
use Rattle.lr1_base.proofs.repr.Tests.{some?-nil, some?-yes, some?_no, some?-cons}
use Rattle.lr1_base.proofs.repr.SameSymbol.{same_equal, same_refl}
use Rattle.lr1_base.proofs.lookahead.Members.{kept_ascend}
use Rattle.state_graph.specs.Walk.{Path, stay, go, Ascending, leads, predecessors, walked_back, traced_back}
use Rattle.lr1_base.proofs.laws.Bools.{agree as both_ways, and-true}

-- some element passes: with the element, which is in the list
module _ {ℓ} {A : Type ℓ} where
  pub some?_member_intro : (t : A → Bool) (x : A) (xs : List A) → Memᴰ x xs → t x ≡ true → some? t xs ≡ true
  some?_member_intro t x (y ∷ ys) (Memᴰ.head q) e = some?-yes t y ys (ap t (sym q) ∙ e)
  some?_member_intro t x (y ∷ ys) (Memᴰ.tail m) e =
      let r = some?_member_intro t x ys m e in
      cases (t y) (some?-yes t y ys) (λ f. some?_no t y ys f ∙ r)
  some?_member_intro t x [] x3 e = elim x3 [ ]

  pub some?_member_elim : (t : A → Bool) (xs : List A) → some? t xs ≡ true → (x : A) × Memᴰ x xs × (t x ≡ true)
  some?_member_elim t [] e = clash (some? t []) e (some?-nil t)
  some?_member_elim t (y ∷ ys) e =
      cases (t y)
      (λ f. (y, Memᴰ.head refl, f))
      (λ f. let r = some?_member_elim t ys (sym (some?_no t y ys f) ∙ e) in (r.0, Memᴰ.tail r.1, r.2))

  -- two tests that agree, and two tests joined
  pub some?_agree : (t u : A → Bool) (xs : List A) → ((x : A) → t x ≡ u x) → some? t xs ≡ some? u xs
  some?_agree t u [] h = some?-nil t ∙ sym (some?-nil u)
  some?_agree t u (x ∷ xs) h =
      let rest = some?_agree t u xs h in
      some?-cons t x xs ∙ rw (h x, rest) (sym (some?-cons u x xs))

  pub some?-or : (t u : A → Bool) (xs : List A) → some? (λ x. t x || u x) xs ≡ (some? t xs || some? u xs)
  some?-or t u [] = some?-nil (λ x. t x || u x) ∙ rw (some?-nil t, some?-nil u)
  some?-or t u (x ∷ xs) =
      let rest = some?-or t u xs in
      some?-cons (λ y. t y || u y) x xs ∙ rw (rest, some?-cons t x xs, some?-cons u x xs) (shuffle (t x) (u x) (some? t xs) (some? u xs))
    where
      shuffle : (a b c d : Bool) → ((a || b) || (c || d)) ≡ ((a || c) || (b || d))
      shuffle true b c d = refl
      shuffle false true true d = refl
      shuffle false true false d = refl
      shuffle false false c d = refl

  -- lists with the same elements
  pub same_members : (t : A → Bool) (xs ys : List A) → ((x : A) → Memᴰ x xs ↔ Memᴰ x ys) → some? t xs ≡ some? t ys
  same_members t xs ys h =
      both_ways (some? t xs) (some? t ys)
      (λ e. let r = some?_member_elim t xs e in some?_member_intro t r.0 ys ((h r.0).0 r.1) r.2)
      (λ e. let r = some?_member_elim t ys e in some?_member_intro t r.0 xs ((h r.0).1 r.1) r.2)

-- the only member of a list of one
pub mem_one : (k s : ℕ) → mem k (s ∷ []) ≡ true → k ≡ s
mem_one k s e = cases (eqb k s) (eqb-true k s) (λ f. clash (mem k (s ∷ [])) e (mem-cons k s [] ∙ rw (f, mem-nil k)))

-- the kept of a range ascend
pub kept-ascending : (t : ℕ → Bool) (from n : ℕ) → Ascending (keep t (up_from from n))
kept-ascending t from n i j l h = kept_ascend t from n i j l h

module _ (T : Table) where
  -- a number that is no state's has no edges
  pub no_edges : (p : ℕ) → length T.states ≤ p → (state_at T p).edges ≡ []
  no_edges p h = ap (λ (s : State). s.edges) (get_or-eq_default T.states no_state h)

  pub leads-outside : (x : Symbol) (ss : List ℕ) (p : ℕ) → length T.states ≤ p → leads T x ss p ≡ false
  unfolding leads
  leads-outside x ss p h = rw (no_edges p h) (some?-nil (λ (e : Edge). is_same_symbol x e.symbol && mem e.target ss))

  pub mem-predecessors : (x : Symbol) (ss : List ℕ) (p : ℕ) → mem p (predecessors T x ss) ≡ leads T x ss p
  unfolding predecessors
  mem-predecessors x ss p =
      mem-keep (leads T x ss) p (below (length T.states)) ∙ rw (mem_below p (length T.states))
      (cases (ltb p (length T.states))
      (λ e. rw e)
      (λ e. rw e (sym (leads-outside x ss p (ltb-false p (length T.states) e)))))

  pub predecessors-inside : (x : Symbol) (ss : List ℕ) (p : ℕ) → mem p (predecessors T x ss) ≡ true → p < length T.states
  predecessors-inside x ss p e =
      cases (ltb p (length T.states))
      (ltb-true p (length T.states))
      (λ f. clash (mem p (predecessors T x ss)) e (mem-predecessors x ss p ∙ leads-outside x ss p (ltb-false p (length T.states) f)))

  -- by an edge
  pub leads_edge : (e : Edge) (ss : List ℕ) (p : ℕ) → Memᴰ e (state_at T p).edges → mem e.target ss ≡ true → leads T e.symbol ss p ≡ true
  unfolding leads
  leads_edge e ss p m h =
      some?_member_intro (λ (f : Edge). is_same_symbol e.symbol f.symbol && mem f.target ss) e (state_at T p).edges m (rw (same_refl e.symbol, h))

  pub edge_leads : (x : Symbol) (ss : List ℕ) (p : ℕ) → leads T x ss p ≡ true
      → (e : Edge) × Memᴰ e (state_at T p).edges × (x ≡ e.symbol) × (mem e.target ss ≡ true)
  unfolding leads
  edge_leads x ss p h =
      let r = some?_member_elim (λ (e : Edge). is_same_symbol x e.symbol && mem e.target ss) (state_at T p).edges h in
      let b = and-true (is_same_symbol x r.0.symbol) (mem r.0.target ss) r.2 in
      (r.0, r.1, same_equal x r.0.symbol b.0, b.1)

  pub walk-nil : (ss : List ℕ) → walked_back T ss [] ≡ ss
  unfolding walked_back
  walk-nil ss = refl

  pub walk-cons : (ss : List ℕ) (x : Symbol) (xs : List Symbol) → walked_back T ss (x ∷ xs) ≡ predecessors T x (walked_back T ss xs)
  unfolding walked_back
  walk-cons ss x xs = refl

  pub mem-walk-cons : (ss : List ℕ) (x : Symbol) (xs : List Symbol) (p : ℕ) → mem p (walked_back T ss (x ∷ xs)) ≡ leads T x (walked_back T ss xs) p
  mem-walk-cons ss x xs p = rw (walk-cons ss x xs) (mem-predecessors x (walked_back T ss xs) p)

  -- exactly the states from which a path spells the symbols

  path_walked : (ss : List ℕ) {p s : ℕ} {xs : List Symbol} → Path T p xs s → mem s ss ≡ true → mem p (walked_back T ss xs) ≡ true
  path_walked ss {s = s} stay h = rw (walk-nil ss) h
  path_walked ss {p = p} (go {xs = xs} e m q) h = mem-walk-cons ss e.symbol xs p ∙ leads_edge e (walked_back T ss xs) p m (path_walked ss q h)

  walked_path : (ss : List ℕ) (xs : List Symbol) (p : ℕ) → mem p (walked_back T ss xs) ≡ true → (s : ℕ) × (mem s ss ≡ true) × Path T p xs s
  walked_path ss [] p h = (p, rw (walk-nil ss) at h, stay)
  walked_path ss (x ∷ xs) p h =
      let r = edge_leads x (walked_back T ss xs) p (sym (mem-walk-cons ss x xs p) ∙ h) in
      let q = walked_path ss xs r.0.target r.3 in
      (q.0, q.1, subst (λ (y : Symbol). Path T p (y ∷ xs) q.0) (sym r.2) (go r.0 r.1 q.2))

  pub walk_exact : (ss : List ℕ) (xs : List Symbol) (p : ℕ) → (mem p (walked_back T ss xs) ≡ true) ↔ ((s : ℕ) × (mem s ss ≡ true) × Path T p xs s)
  walk_exact ss xs p = (walked_path ss xs p, λ r. path_walked ss r.2 r.1)

  -- of one state
  pub trace_exact : (s : ℕ) (xs : List Symbol) (p : ℕ) → (mem p (traced_back T s xs) ≡ true) ↔ Path T p xs s
  unfolding traced_back
  trace_exact s xs p = (back, λ q. path_walked (s ∷ []) q (mem-cons_here s []))
    where
      back : mem p (walked_back T (s ∷ []) xs) ≡ true → Path T p xs s
      back h =
          let r = walked_path (s ∷ []) xs p h in
          subst (λ (k : ℕ). Path T p xs k) (mem_one r.0 s r.1) r.2

  -- in range where the set is
  pub walk_inside : (ss : List ℕ) → ((s : ℕ) → mem s ss ≡ true → s < length T.states) → (xs : List Symbol) (p : ℕ) → mem p (walked_back T ss xs) ≡ true → p < length T.states
  walk_inside ss h [] p e = h p (rw (walk-nil ss) at e)
  walk_inside ss h (x ∷ xs) p e = predecessors-inside x (walked_back T ss xs) p (rw (walk-cons ss x xs) at e)

  -- ascending, so once each

  pub predecessors-ascending : (x : Symbol) (ss : List ℕ) → Ascending (predecessors T x ss)
  unfolding predecessors below
  predecessors-ascending x ss = kept-ascending (leads T x ss) 0 (length T.states)

  pub walk-ascending : (ss : List ℕ) → Ascending ss → (xs : List Symbol) → Ascending (walked_back T ss xs)
  walk-ascending ss h [] = rw (walk-nil ss) h
  walk-ascending ss h (x ∷ xs) = rw (walk-cons ss x xs) (predecessors-ascending x (walked_back T ss xs))

  pub trace_ascending : (s : ℕ) (xs : List Symbol) → Ascending (traced_back T s xs)
  unfolding traced_back
  trace_ascending s xs = walk-ascending (s ∷ []) (λ i j l h. absurd (omega arith)) xs

  -- back over two lists of symbols joined, the second first
  pub walk-append : (ss : List ℕ) (xs ys : List Symbol) → walked_back T ss (xs ++ ys) ≡ walked_back T (walked_back T ss ys) xs
  walk-append ss [] ys = sym (walk-nil (walked_back T ss ys))
  walk-append ss (x ∷ xs) ys =
      walk-cons ss x (xs ++ ys) ∙ ap (predecessors T x) (walk-append ss xs ys) ∙ sym (walk-cons (walked_back T ss ys) x xs)

  -- a walk goes by membership in the set
  pub leads_agree : (x : Symbol) (us vs : List ℕ) → ((q : ℕ) → mem q us ≡ mem q vs) → (p : ℕ) → leads T x us p ≡ leads T x vs p
  unfolding leads
  leads_agree x us vs h p =
      some?_agree
      (λ (e : Edge). is_same_symbol x e.symbol && mem e.target us)
      (λ (e : Edge). is_same_symbol x e.symbol && mem e.target vs)
      (state_at T p).edges
      (λ e. rw (h e.target))

  leads-or : (x : Symbol) (ws us vs : List ℕ) → ((q : ℕ) → mem q ws ≡ (mem q us || mem q vs)) → (p : ℕ) → leads T x ws p ≡ (leads T x us p || leads T x vs p)
  unfolding leads
  leads-or x ws us vs h p =
      some?_agree
      (λ (e : Edge). is_same_symbol x e.symbol && mem e.target ws)
      (λ (e : Edge). (is_same_symbol x e.symbol && mem e.target us) || (is_same_symbol x e.symbol && mem e.target vs))
      (state_at T p).edges
      (λ e. rw (h e.target) (and-or_distrib_left (is_same_symbol x e.symbol) (mem e.target us) (mem e.target vs)))
      ∙ some?-or
      (λ (e : Edge). is_same_symbol x e.symbol && mem e.target us)
      (λ (e : Edge). is_same_symbol x e.symbol && mem e.target vs)
      (state_at T p).edges

  -- back from two sets joined
  pub walk-union : (us vs : List ℕ) (xs : List Symbol) (p : ℕ) → mem p (walked_back T (us ++ vs) xs) ≡ (mem p (walked_back T us xs) || mem p (walked_back T vs xs))
  walk-union us vs [] p = rw (walk-nil (us ++ vs), walk-nil us, walk-nil vs) (mem-append p us vs)
  walk-union us vs (x ∷ xs) p =
      rw (mem-walk-cons (us ++ vs) x xs p, mem-walk-cons us x xs p, mem-walk-cons vs x xs p)
      (leads-or x (walked_back T (us ++ vs) xs) (walked_back T us xs) (walked_back T vs xs) (walk-union us vs xs) p)

-- a walk goes by the edges that a state has, and not by how often or in which order
module _ (T U : Table) (states : length T.states ≡ length U.states)
    (edges : (p : ℕ) (e : Edge) → Memᴰ e (state_at T p).edges ↔ Memᴰ e (state_at U p).edges) where
  leads_edges : (x : Symbol) (ss : List ℕ) (p : ℕ) → leads T x ss p ≡ leads U x ss p
  unfolding leads
  leads_edges x ss p =
      same_members (λ (e : Edge). is_same_symbol x e.symbol && mem e.target ss) (state_at T p).edges (state_at U p).edges (edges p)

  pub walk_edges : (ss : List ℕ) (xs : List Symbol) → walked_back T ss xs ≡ walked_back U ss xs
  unfolding walked_back predecessors
  walk_edges ss [] = refl
  walk_edges ss (x ∷ xs) =
      ap (λ (ks : List ℕ). keep (leads T x ks) (below (length T.states))) (walk_edges ss xs)
      ∙ rw states
      (keep_agree (leads T x (walked_back U ss xs)) (leads U x (walked_back U ss xs)) (below (length U.states)) 0
      (λ i l. leads_edges x (walked_back U ss xs) (get_or (below (length U.states)) i 0)))

-- so an edge repeated adds nothing
pub repeated : (e f : Edge) (es : List Edge) → Memᴰ e es → Memᴰ f (e ∷ es) ↔ Memᴰ f es
repeated e f es m = (λ n. ⊎_elim (λ q. Memᴰ.cast q m) (λ k. k) (Memᴰ.cases_cons n), Memᴰ.tail)

pub walk_repeated : (T U : Table) (q : ℕ) (e : Edge) → length U.states ≡ length T.states → Memᴰ e (state_at T q).edges
    → (state_at U q).edges ≡ e ∷ (state_at T q).edges → ((p : ℕ) → (p ≡ q → ⊥) → (state_at U p).edges ≡ (state_at T p).edges)
    → (ss : List ℕ) (xs : List Symbol) → walked_back U ss xs ≡ walked_back T ss xs
walk_repeated T U q e states m more others = walk_edges U T states (λ p f.
    cases (eqb p q)
    (λ b. let k = eqb-true p q b in rw (k, more) (repeated e f (state_at T q).edges m))
    (λ b. rw (others p (eqb-false p q b)) (λ d. d, λ d. d)))
