-- Rounds until one changes nothing: the 32 sets beside what is given are the list that specs/canonical/Aheads settles, and code that goes on until two lists
-- are the same comes to its end.
use Rattle.std.proofs.Common.{◌≡◌, ℕ, zero, suc, ◌+◌, ◌-◌, ◌*◌, ◌/◌, ◌%◌, ◌^◌, ◌<◌, ◌≤◌, Bool, true, false, not, eqb, ltb, List, [], ◌∷◌, ◌++◌, length, get_or, take, drop, set, replicate, sym, refl, ap, ◌∙◌, subst, add-one, arith, length-append, length-drop, length-set, length-take, get_or-drop, get_or-set_other, get_or-take, get_or-set_same, get_or-append-add, ext_get_or, ltb-false, ltb-true, eqb-true}
use mathlib.Core.List.{Memᴰ}
use lib.ListN.{get_or-append, get_or-eq_default}
use borrow.Author.Tests.{eqb-false}
use Rattle.lr1_base.specs.repr.Sizes.{index_limit, item_limit, production_room}
use Rattle.lr1_base.proofs.lookahead.Growing.{total}
use Rattle.lr1_base.proofs.words.Same.{same_words_eq, same_behind}
use Rattle.lr1_base.specs.words.Same.{same_words}
use Rattle.lr1_base.specs.repr.Lists.{up_from, below, joined}
use Rattle.lr1_base.specs.repr.Meaning.{Symbol, nonterminal, terminal, Production, Table, production_at, TableFits}
use Rattle.lr1_base.proofs.repr.Lists.{cases, clash, below_last, joined_nil, joined_cons}
use Rattle.lr1_base.specs.lookahead.Tokens.{union}
use Rattle.first.specs.Rust.{rust_first0}
use Rattle.lr1_states.specs.canonical.States.{places, from, Move, gives_of, grown, round, settle, closure}
use Rattle.lr1_states.specs.canonical.Aheads.{ahead_of, ahead_moves, aheads, spread}
use Rattle.lr1_states.proofs.canonical.Members.{mem_less}
use Rattle.lr1_states.proofs.canonical.Rounds.{Sized, round-append, round_sized, round_less, settle-stop, loop_more}
use Rattle.lr1_states.proofs.canonical.Aheads.{spread-first, spread-later, length-spread, aheads_fit, begin_sized, closure_by_aheads}
use Rattle.lr1_base.specs.repr.Packed.{production_in}
use Rattle.lr1_states.specs.closure.Grammar.{OfTable}
use Rattle.lr1_states.specs.closure.Fed.{Flat, feed, fed_by_items, fed_by_firsts, fed, spread_in}
use Rattle.lr1_states.proofs.closure.Grammar.{production_at_lem}

-- two lists, word by word

-- behind a front

set-behind : (S A : List ℕ) (n v : ℕ) → set (S ++ A) (length S + n) v ≡ S ++ set A n v
set-behind [] A n v = let e : 0 + n ≡ n = omega arith in rw e refl
set-behind (x ∷ S) A n v =
    let e : suc (length S) + n ≡ suc (length S + n) = omega arith in
    rw e (ap (λ (l : List ℕ). x ∷ l) (set-behind S A n v))

-- one round over both

module _ (T : Table) (S : List ℕ) (long : length S ≡ places T) where
  behind : (A : List ℕ) (n : ℕ) → get_or (S ++ A) (places T + n) 0 ≡ get_or A n 0
  behind A n = rw (← long) (get_or-append-add S A n 0)

  one : (A : List ℕ) (x : ℕ) (ys : List Symbol) → round T.terminals (S ++ A) (ahead_of T x ys) ≡ S ++ feed T A ys (get_or (S ++ A) x 0)
  unfolding round grown ahead_of feed
  one A x [] = refl
  one A x (terminal t ∷ β) = refl
  one A x (nonterminal n ∷ β) =
      rw (behind A n) (subst (λ (k : ℕ). set (S ++ A) (k + n) (union (get_or A n 0) (gives_of T.terminals (rust_first0 T β) (get_or (S ++ A) x 0))) ≡ S ++ set A n (union (get_or A n 0) (gives_of T.terminals (rust_first0 T β) (get_or (S ++ A) x 0)))) long
      (set-behind S A n (union (get_or A n 0) (gives_of T.terminals (rust_first0 T β) (get_or (S ++ A) x 0)))))

  items : (A xs : List ℕ) → ((y : ℕ) → Memᴰ y xs → y < places T) → round T.terminals (S ++ A) (joined (λ x. ahead_of T x (from T x)) xs) ≡ S ++ fed_by_items T S A xs
  unfolding fed_by_items round
  items A [] f = rw (joined_nil (λ x. ahead_of T x (from T x)))
  items A (x ∷ xs) f =
      let more = items (feed T A (from T x) (get_or S x 0)) xs (λ y m. f y (Memᴰ.tail m)) in
      let at : get_or (S ++ A) x 0 ≡ get_or S x 0 = get_or-append S A 0 x (rw long (f x (Memᴰ.head refl))) in
      rw (joined_cons (λ x. ahead_of T x (from T x)) x xs, round-append T.terminals (S ++ A) (ahead_of T x (from T x)) (joined (λ x. ahead_of T x (from T x)) xs), one A x (from T x), at) more

  abbrev by_production : ℕ → List Move
  by_production p = ahead_of T (places T + (production_at T p).nonterminal) (production_at T p).symbols

  firsts : (A ps : List ℕ) → round T.terminals (S ++ A) (joined by_production ps) ≡ S ++ fed_by_firsts T A ps
  unfolding fed_by_firsts round
  firsts A [] = rw (joined_nil by_production)
  firsts A (p ∷ ps) =
      let more = firsts (feed T A (production_at T p).symbols (get_or A (production_at T p).nonterminal 0)) ps in
      rw (joined_cons by_production p ps, round-append T.terminals (S ++ A) (by_production p) (joined by_production ps), one A (places T + (production_at T p).nonterminal) (production_at T p).symbols, behind A (production_at T p).nonterminal) more

  pub round-fed : (A : List ℕ) → round T.terminals (S ++ A) (ahead_moves T) ≡ S ++ fed T S A
  unfolding ahead_moves fed
  round-fed A =
      round-append T.terminals (S ++ A) (joined (λ x. ahead_of T x (from T x)) (below (places T))) (joined by_production (below (length T.productions)))
      ∙ rw (items A (below (places T)) (λ y m. mem_less (places T) y m)) (firsts (fed_by_items T S A (below (places T))) (below (length T.productions)))

-- what is given, as a front of the code's array

front_long : (K : List ℕ) (k : ℕ) → Flat K → k ≤ 128 → length (take (17 * k) K) ≡ 17 * k
front_long K k f h = length-take (index_limit * k) K ∙ omega (arith, f.long)

pub front_sized : (T : Table) (K : List ℕ) (k : ℕ) → Flat K → k ≤ 128 → k ≡ length T.productions → Sized (places T) (take (index_limit * k) K)
front_sized T K k f h e = record {
  long = front_long K k f h ∙ ap (λ (n : ℕ). index_limit * n) e;
  fits = λ x. cases (ltb x (index_limit * k))
      (λ t. rw (get_or-take (index_limit * k) K x 0 (ltb-true x (index_limit * k) t)) (f.fits x))
      (λ t.
      let o : length (take (index_limit * k) K) ≤ x = rw (front_long K k f h) (ltb-false x (index_limit * k) t) in
      rw (get_or-eq_default (take (index_limit * k) K) 0 o) (omega arith));
}

items_front : (T : Table) (K A xs : List ℕ) (n : ℕ) → ((y : ℕ) → Memᴰ y xs → y < n) → fed_by_items T (take n K) A xs ≡ fed_by_items T K A xs
unfolding fed_by_items
items_front T K A [] n f = refl
items_front T K A (x ∷ xs) n f =
    let more = items_front T K (feed T A (from T x) (get_or K x 0)) xs n (λ y m. f y (Memᴰ.tail m)) in
    rw (get_or-take n K x 0 (f x (Memᴰ.head refl))) more

-- spreading, in place

length-spread_in : (g A K ps : List ℕ) → length (spread_in g A K ps) ≡ length K
unfolding spread_in
length-spread_in g A K [] = refl
length-spread_in g A K (p ∷ ps) = length-spread_in g A (set K (p * index_limit) (union (get_or K (p * index_limit) 0) (get_or A (get_or g (p * production_room) 0) 0))) ps ∙ simp length-set

spread_in_snoc : (g A K ps : List ℕ) (p : ℕ) → spread_in g A K (ps ++ p ∷ []) ≡ set (spread_in g A K ps) (p * index_limit) (union (get_or (spread_in g A K ps) (p * index_limit) 0) (get_or A (get_or g (p * production_room) 0) 0))
unfolding spread_in
spread_in_snoc g A K [] p = refl
spread_in_snoc g A K (q ∷ ps) p = spread_in_snoc g A (set K (q * index_limit) (union (get_or K (q * index_limit) 0) (get_or A (get_or g (q * production_room) 0) 0))) ps p

pub spread_none : (g A K : List ℕ) → K ≡ spread_in g A K (below 0)
unfolding spread_in below up_from
spread_none g A K = refl

pub spread_long : (g A K R : List ℕ) (p : ℕ) → R ≡ spread_in g A K (below p) → length K ≡ item_limit → length R ≡ item_limit
spread_long g A K R p q l = ap length q ∙ length-spread_in g A K (below p) ∙ l

pub spread-more : (g A K R : List ℕ) (p n x u : ℕ) → R ≡ spread_in g A K (below p) → n ≡ get_or g (p * production_room) 0 → x ≡ p * index_limit + 0 → u ≡ union (get_or R x 0) (get_or A n 0) → set R x u ≡ spread_in g A K (below (p + 1))
spread-more g A K R p n x u q en ex eu = let z : x ≡ p * index_limit = omega arith in rw (add-one p, below_last p, spread_in_snoc g A K (below p) p, eu, en, z, q)

pub spread_end : (g A K R : List ℕ) (p k : ℕ) → p ≤ k → k ≤ p → R ≡ spread_in g A K (below p) → R ≡ spread_in g A K (below k)
spread_end g A K R p k h l q = let z : p ≡ k = omega arith in rw (← z) q

module _ (g A K : List ℕ) where
  spread-other : (m x : ℕ) → ((p : ℕ) → p < m → x ≡ p * index_limit → ⊥) → get_or (spread_in g A K (below m)) x 0 ≡ get_or K x 0
  spread-other zero x f = ap (λ (l : List ℕ). get_or l x 0) (sym (spread_none g A K))
  spread-other (suc m) x f =
      let more = spread-other m x (λ p h. f p (omega arith)) in
      rw (below_last m, spread_in_snoc g A K (below m) m, get_or-set_other (spread_in g A K (below m)) (m * index_limit) x (union (get_or (spread_in g A K (below m)) (m * index_limit) 0) (get_or A (get_or g (m * production_room) 0) 0)) 0 (f m (omega arith))) more

  spread_here : (m p : ℕ) → p < m → p * index_limit < length K → get_or (spread_in g A K (below m)) (p * index_limit) 0 ≡ union (get_or K (p * index_limit) 0) (get_or A (get_or g (p * production_room) 0) 0)
  spread_here zero p h l = absurd (omega arith)
  spread_here (suc m) p h l =
      let more = spread_here m p in
      rw (below_last m, spread_in_snoc g A K (below m) m) (cases (eqb p m)
      (λ t.
      let q : p ≡ m = eqb-true p m t in
      rw q (get_or-set_same (spread_in g A K (below m)) (m * index_limit) (union (get_or (spread_in g A K (below m)) (m * index_limit) 0) (get_or A (get_or g (m * production_room) 0) 0)) 0 (rw (length-spread_in g A K (below m)) (rw q at l))
      ∙ ap (λ (s : ℕ). union s (get_or A (get_or g (m * production_room) 0) 0)) (spread-other m (m * index_limit) (λ r u w. omega arith))))
      (λ t.
      let ne = eqb-false p m t in
      get_or-set_other (spread_in g A K (below m)) (m * index_limit) (p * index_limit) (union (get_or (spread_in g A K (below m)) (m * index_limit) 0) (get_or A (get_or g (m * production_room) 0) 0)) 0 (λ w. ne (omega arith))
      ∙ more (omega (arith, ne)) l))

module _ (T : Table) (g : List ℕ) (k e : ℕ) (sets : List ℕ) (G : OfTable T g k e sets) (K A : List ℕ) (f : Flat K) (q : aheads T (take (index_limit * k) K) ≡ take (index_limit * k) K ++ A) where
  many : index_limit * k ≡ places T
  many = ap (λ (n : ℕ). index_limit * n) G.many

  closed_is : closure T (take (index_limit * k) K) ≡ spread T (take (index_limit * k) K ++ A)
  closed_is = sym (closure_by_aheads T G.fits (take (index_limit * k) K) (front_sized T K k f G.packed.few G.many)) ∙ ap (spread T) q

  long : length (spread T (take (17 * k) K ++ A)) ≡ 17 * k
  long = length-spread T (take (index_limit * k) K ++ A) ∙ sym many

  front : (x : ℕ) → x < index_limit * k → get_or (take (index_limit * k) K ++ A) x 0 ≡ get_or K x 0
  front x h = get_or-append (take (index_limit * k) K) A 0 x (rw (front_long K k f G.packed.few) h) ∙ get_or-take (index_limit * k) K x 0 h

  ahead : (n : ℕ) → get_or (take (index_limit * k) K ++ A) (places T + n) 0 ≡ get_or A n 0
  ahead n = rw (← many) (ap (λ (m : ℕ). get_or (take (index_limit * k) K ++ A) (m + n) 0) (sym (front_long K k f G.packed.few)) ∙ get_or-append-add (take (index_limit * k) K) A n 0)

  owner : (p : ℕ) → p < k → (production_at T p).nonterminal ≡ get_or g (p * production_room) 0
  unfolding production_in
  owner p h = ap (λ (r : Production). r.nonterminal) (production_at_lem T g k e sets G p h)

  inside : (x : ℕ) → x < index_limit * k → get_or (spread_in g A K (below k)) x 0 ≡ get_or (spread T (take (index_limit * k) K ++ A)) x 0
  inside x h = cases (eqb (x % index_limit) 0)
      (λ t.
      let r : x % index_limit ≡ 0 = eqb-true (x % index_limit) 0 t in
      let y : x ≡ x / index_limit * index_limit = omega arith in
      ap (λ (z : ℕ). get_or (spread_in g A K (below k)) z 0) y
      ∙ spread_here g A K k (x / index_limit) (omega arith) (omega (arith, f.long, G.packed.few))
      ∙ sym (spread-first T (take (index_limit * k) K ++ A) x (rw (← many) h) r ∙ rw (front x h, ahead (production_at T (x / index_limit)).nonterminal, owner (x / index_limit) (omega arith), ← y)))
      (λ t.
      let n = eqb-false (x % index_limit) 0 t in
      spread-other g A K k x (λ p u w. n (omega arith)) ∙ sym (spread-later T (take (index_limit * k) K ++ A) x (rw (← many) h) n ∙ front x h))

  pub spread-closed : spread_in g A K (below k) ≡ closure T (take (index_limit * k) K) ++ drop (index_limit * k) K
  spread-closed =
      let few : k ≤ 128 = G.packed.few in
      let size : length (spread T (take (index_limit * k) K ++ A) ++ drop (index_limit * k) K) ≡ length K = length-append (spread T (take (index_limit * k) K ++ A)) (drop (index_limit * k) K) ∙ rw (long, length-drop (index_limit * k) K) (omega (arith, f.long)) in
      rw closed_is (ext_get_or 0 (spread_in g A K (below k)) (spread T (take (index_limit * k) K ++ A) ++ drop (index_limit * k) K) (length-spread_in g A K (below k) ∙ sym size) (λ x l.
      cases (ltb x (index_limit * k))
      (λ t. let h = ltb-true x (index_limit * k) t in inside x h ∙ sym (get_or-append (spread T (take (index_limit * k) K ++ A)) (drop (index_limit * k) K) 0 x (rw long h)))
      (λ t.
      let h = ltb-false x (index_limit * k) t in
      let y : index_limit * k + (x - index_limit * k) ≡ x = omega arith in
      spread-other g A K k x (λ p u w. omega arith)
      ∙ sym (ap (λ (z : ℕ). get_or (spread T (take (index_limit * k) K ++ A) ++ drop (index_limit * k) K) z 0) (sym y ∙ ap (λ (m : ℕ). m + (x - index_limit * k)) (sym long))
      ∙ get_or-append-add (spread T (take (index_limit * k) K ++ A)) (drop (index_limit * k) K) (x - index_limit * k) 0
      ∙ get_or-drop (index_limit * k) K (x - index_limit * k) 0 ∙ ap (λ (z : ℕ). get_or K z 0) y))))

-- round after round

unfoldable pub left : ℕ → Bool → List ℕ → ℕ
left N true L = suc (suc (N * 2 ^ 64) - total L)
left N false L = suc (N * 2 ^ 64) - total L

-- a turn begins with sets from which the rounds reach the answer; where the last round changed nothing they are the answer
pub record Turn (T : Table) (S A : List ℕ) (changed : Bool) : Type 0 where
  pub sized : Sized (places T + 32) (S ++ A)
  pub same : settle (suc ((places T + 32) * 2 ^ 64)) T.terminals (S ++ A) (ahead_moves T) ≡ aheads T S
  pub done : changed ≡ false → aheads T S ≡ S ++ A

pub turn_start : (T : Table) (F : TableFits T) (S : List ℕ) → Sized (places T) S → Turn T S (replicate 32 0) true
unfolding aheads
turn_start T F S z = record { sized = begin_sized T F S z; same = refl; done = λ q. clash true refl q }

module _ (T : Table) (g : List ℕ) (k e : ℕ) (sets : List ℕ) (G : OfTable T g k e sets) (K A A₁ A₂ : List ℕ) (f : Flat K) (c c' b : Bool)
    (turn : Turn T (take (index_limit * k) K) A c) (q₁ : A₁ ≡ fed_by_items T K A (below (index_limit * k))) (q₂ : A₂ ≡ fed_by_firsts T A₁ (below k)) (ec : c' ≡ not b) (eb : b ≡ same_words A₂ A) where
  S : List ℕ
  S = take (index_limit * k) K

  given : Sized (places T) S
  unfolding S
  given = front_sized T K k f G.packed.few G.many

  next : round T.terminals (S ++ A) (ahead_moves T) ≡ S ++ A₂
  unfolding S fed
  next =
      let n : index_limit * k ≡ places T = ap (λ (n : ℕ). index_limit * n) G.many in
      round-fed T (take (index_limit * k) K) given.long A ∙ ap (λ (l : List ℕ). take (index_limit * k) K ++ l) (sym (
      q₂ ∙ rw (q₁, ← G.many, ← items_front T K A (below (index_limit * k)) (index_limit * k) (λ y m. mem_less (index_limit * k) y m))))

  quiet : (v : Bool) → c' ≡ v → same_words (round T.terminals (S ++ A) (ahead_moves T)) (S ++ A) ≡ not v
  quiet v y = rw (next, same_behind S A₂ A) (sym eb ∙ by b (sym ec ∙ y))
    where
      by : (w : Bool) → not w ≡ v → w ≡ not v
      by true u = rw (← u) refl
      by false u = rw (← u) refl

  pub turn_again : Turn T (take (index_limit * k) K) A₂ c'
  unfolding S
  turn_again = cases c' (λ y. more y) (λ y. stop y)
    where
      sized' : Sized (places T + 32) (take (index_limit * k) K ++ A₂)
      sized' = subst (Sized (places T + 32)) next (round_sized T.terminals (places T + 32) (take (index_limit * k) K ++ A) (ahead_moves T) turn.sized (aheads_fit T G.fits))

      more : c' ≡ true → Turn T (take (index_limit * k) K) A₂ c'
      more y = record {
        sized = sized';
        same = rw (← next) (loop_more T.terminals (places T + 32) (ahead_moves T) (aheads_fit T G.fits) (take (index_limit * k) K ++ A) turn.sized (quiet true y) ∙ turn.same);
        done = λ z. clash c' y z;
      }

      stop : c' ≡ false → Turn T (take (index_limit * k) K) A₂ c'
      stop y =
          let s : take (index_limit * k) K ++ A₂ ≡ take (index_limit * k) K ++ A = sym next ∙ same_words_eq (round T.terminals (take (index_limit * k) K ++ A) (ahead_moves T)) (take (index_limit * k) K ++ A) (quiet false y) in
          record {
            sized = sized';
            same = rw s turn.same;
            done = λ z. sym turn.same ∙ settle-stop (suc ((places T + 32) * 2 ^ 64)) T.terminals (take (index_limit * k) K ++ A) (ahead_moves T) (quiet false y) ∙ sym s;
          }

  pub turn_less : c ≡ true → left (index_limit * k + 32) c' (take (index_limit * k) K ++ A₂) < left (index_limit * k + 32) c (take (index_limit * k) K ++ A)
  unfolding left S
  turn_less t =
      let n : index_limit * k + 32 ≡ places T + 32 = omega (arith, G.many) in
      rw (t, n, ← next) (cases c'
      (λ y. rw y (omega (arith, round_less T.terminals (places T + 32) (ahead_moves T) (aheads_fit T G.fits) (take (index_limit * k) K ++ A) turn.sized (quiet true y))))
      (λ y. rw (y, same_words_eq (round T.terminals (take (index_limit * k) K ++ A) (ahead_moves T)) (take (index_limit * k) K ++ A) (quiet false y)) (omega arith)))
