-- `canonical`: the states and edges of specs/canonical/States are the canonical LR(1) automaton of specs/canonical/Canonical.
use mathlib.Core.Path.{◌≡◌, refl, sym, ap, ◌∙◌, subst}
use mathlib.Core.Bool.{true, false}
use mathlib.Core.List.Memᴰ
use mathlib.Core.List.{List, [], ◌∷◌, map, Memᴰ}
use mathlib.Core.Logic.{◌↔◌}
use mathlib.Core.Option.{Option, none, some}
use Prim.Native.Nat.{ℕ, ◌+◌, ◌*◌, ◌<◌}
use native.Mathlib.Omega.{arith}
use lib.Dec.{ltb}
use lib.ListN.{length, get_or, get_or-eq_default}
use lib.Seq.{ext_get_or}
use borrow.Author.Tests.{ltb-true, ltb-false}
use Rattle.lr1_base.specs.repr.Sizes.{index_limit}
use Rattle.lr1_base.specs.repr.Lists.{below}
use Rattle.lr1_base.specs.repr.Meaning.{Symbol, nonterminal, terminal, Item, Edge, Table, SymbolFits, All, TableFits}
use Rattle.lr1_base.proofs.repr.Lists.{cases, clash}
use Rattle.lr1_base.specs.lookahead.Tokens.{has}
use Rattle.lr1_base.proofs.lookahead.Sets.{same_set}
use Rattle.lr1_states.specs.canonical.Canonical.{Set, rest, Closed, given, Moved, Goto, Start, Reached, Viable, Inhabited}
use Rattle.lr1_states.specs.canonical.States.{places, tokens, moved, nothing?, tried, built, build, target_of, walk}
use Rattle.lr1_states.proofs.canonical.Members.{below-mem, map-mem}
use Rattle.lr1_states.proofs.canonical.Rounds.{Sized}
use Rattle.lr1_states.proofs.canonical.Closure.{Describes, item, tokens_index, tokens_at, tokens-item, has-inside, behind_fit}
use Rattle.lr1_states.proofs.canonical.Goto.{moved_sized, moved_exact, goto_exact, start_exact, nothing-empty, nothing-some, closed-empty}
use Rattle.lr1_states.proofs.canonical.Collection.{Right, build_right}

-- every symbol in range is tried

map-below_in : {B : Type 0} (f : ℕ → B) (n i : ℕ) → i < n → Memᴰ (f i) (map f (below n))
map-below_in f n i h = map-mem f i (below n) (below-mem n i h)

tried_in : (T : Table) (X : Symbol) → SymbolFits T X → Memᴰ X (tried T)
unfolding SymbolFits tried
tried_in T (nonterminal n) h = Memᴰ.append_left (map terminal (below T.terminals)) (map-below_in nonterminal (length T.nonterminals) n h)
tried_in T (terminal t) h = Memᴰ.append_right (map nonterminal (below (length T.nonterminals))) (map-below_in terminal T.terminals t h)

-- two lists of sets that describe one set are equal

pub same_state : (N : ℕ) (S R : List ℕ) (K : Set) → Sized N S → Sized N R → Describes S K → Describes R K → S ≡ R
same_state N S R K z y d c = ext_get_or 0 S R (z.long ∙ sym y.long) (λ x h. same_set (get_or S x 0) (get_or R x 0) (λ a.
    cases (has (get_or S x 0) a)
    (λ t. t ∙ sym (over S R d c x a t))
    (λ t. cases (has (get_or R x 0) a) (λ u. clash (has (get_or S x 0) a) (over R S c d x a u) t) (λ u. t ∙ sym u))))
  where
    over : (P Q : List ℕ) → Describes P K → Describes Q K → (x a : ℕ) → has (get_or P x 0) a ≡ true → has (get_or Q x 0) a ≡ true
    over P Q f g x a h = rw (tokens-item Q x) at ((g (item x) a).0 ((f (item x) a).1 (rw (tokens-item P x) h)))

-- the empty set leads nowhere

reached-empty : (T : Table) (K : Set) (w : List Symbol) → ((i : Item) (a : ℕ) → K i a → ⊥) → (i : Item) (a : ℕ) → Reached T K w i a → ⊥
unfolding Reached
reached-empty T K [] n = n
reached-empty T K (X ∷ w) n = reached-empty T (Goto T X K) w (closed-empty T (Moved T X K) (λ j a m. n m.0 a m.5))

-- walking

walk_none : (es : List (List Edge)) (k : ℕ) (X : Symbol) (w : List Symbol) → target_of X (get_or es k []) ≡ none → walk es k (X ∷ w) ≡ none
unfolding walk
walk_none es k X w h = rw (h, walk)

walk-some : (es : List (List Edge)) (k : ℕ) (X : Symbol) (w : List Symbol) (j : ℕ) → target_of X (get_or es k []) ≡ some j → walk es k (X ∷ w) ≡ walk es j w
unfolding walk
walk-some es k X w j h = rw (h, walk)

walk-nil : (es : List (List Edge)) (k : ℕ) → walk es k [] ≡ some k
unfolding walk
walk-nil es k = refl

unfoldable Walked : List (List ℕ) → Set → Option ℕ → Type 0
Walked Rs K none = (i : Item) (a : ℕ) → K i a → ⊥
Walked Rs K (some k) = (k < length Rs) × Inhabited K × Describes (get_or Rs k []) K

module _ (T : Table) (F : TableFits T) (start : ℕ) (in_range : start < length T.productions) (Rs : List (List ℕ)) (es : List (List Edge)) (e : build T start ≡ built Rs es) where
  right : Right T start Rs es
  right = (build_right T F start in_range Rs es e).0

  all_taken : (k : ℕ) → k < length Rs → k < length es
  all_taken k h = omega (arith, (build_right T F start in_range Rs es e).1)

  -- a symbol over which something moves is in range, so tried
  moved_tried : (S : List ℕ) (K : Set) (X : Symbol) → Sized (places T) S → Describes S K → nothing? (moved T X S) ≡ false → Memᴰ X (tried T)
  unfolding All
  moved_tried S K X z d h =
      let w = nothing-some (moved T X S) (Moved T X K) (moved_sized T X S z).fits (moved_exact T F K X S z d) h in
      tried_in T X (behind_fit T F w.2.0 X w.2.1 w.2.4).0

  none-empty : (k : ℕ) → k < length Rs → (K : Set) → Describes (get_or Rs k []) K → (X : Symbol) → target_of X (get_or es k []) ≡ none → (i : Item) (a : ℕ) → Goto T X K i a → ⊥
  none-empty k h K d X n =
      let S : List ℕ = get_or Rs k [] in
      let z = (right.found.good k h).sized in
      let t : nothing? (moved T X S) ≡ true = cases (nothing? (moved T X S)) (λ t. t) (λ t. right.full k (all_taken k h) X (moved_tried S K X z d t) n) in
      closed-empty T (Moved T X K) (nothing-empty (moved T X S) (Moved T X K) (moved_exact T F K X S z d) t)

  walk_right : (w : List Symbol) (k : ℕ) (K : Set) → k < length Rs → Inhabited K → Describes (get_or Rs k []) K → Walked Rs (Reached T K w) (walk es k w)
  unfolding Reached Walked
  walk_right [] k K h n d = rw (walk-nil es k) (h, n, d)
  walk_right (X ∷ w) k K h n d = by (target_of X (get_or es k [])) refl (walk_right w)
    where
      by : (o : Option ℕ) → target_of X (get_or es k []) ≡ o
          → ((k : ℕ) (K : Set) → k < length Rs → Inhabited K → Describes (get_or Rs k []) K → Walked Rs (Reached T K w) (walk es k w))
          → Walked Rs (Reached T (Goto T X K) w) (walk es k (X ∷ w))
      by none q rest = rw (walk_none es k X w q) (reached-empty T (Goto T X K) w (none-empty k h K d X q))
      by (some j) q rest =
          let S : List ℕ = get_or Rs k [] in
          let z = (right.found.good k h).sized in
          let l = right.leads k (all_taken k h) X j q in
          let m = nothing-some (moved T X S) (Moved T X K) (moved_sized T X S z).fits (moved_exact T F K X S z d) l.0 in
          rw (walk-some es k X w j q)
          (rest j (Goto T X K) l.1 (m.0, m.1, given m.2) (rw l.2 (goto_exact T F K X S z d)))

  -- the first set has the start item
  from_start : (w : List Symbol) → Walked Rs (Viable T start w) (walk es 0 w)
  from_start w =
      walk_right w 0 (Closed T (Start T start)) right.found.some_state
      (record { production = start; index = 0 }, T.terminals, given (refl, refl, refl))
      (rw right.found.first (start_exact T F start in_range))

  -- walking the edges from state 0 by w ends in k exactly if the book's set of w is not empty and is that of state k
  pub canonical : (w : List Symbol) (k : ℕ) → (walk es 0 w ≡ some k) ↔ (Inhabited (Viable T start w) × Describes (get_or Rs k []) (Viable T start w))
  unfolding Walked
  canonical w k = (to, back)
    where
      to : walk es 0 w ≡ some k → Inhabited (Viable T start w) × Describes (get_or Rs k []) (Viable T start w)
      to q = let r : Walked Rs (Viable T start w) (some k) = subst (Walked Rs (Viable T start w)) q (from_start w) in (r.1, r.2)

      inside : Inhabited (Viable T start w) → Describes (get_or Rs k []) (Viable T start w) → k < length Rs
      inside n d =
          cases (ltb k (length Rs)) (ltb-true k (length Rs))
          (λ t.
          let h : has (tokens (get_or Rs k []) n.0) n.1 ≡ true = (d n.0 n.1).0 n.2 in
          let g : has (tokens [] n.0) n.1 ≡ true = rw (get_or-eq_default Rs [] (ltb-false k (length Rs) t)) at h in
          absurd (omega (arith, has-inside [] (index_limit * n.0.production + n.0.index) n.1 (rw (tokens_at [] n.0 (tokens_index [] n.0 n.1 g)) at g))))

      by : (o : Option ℕ) → walk es 0 w ≡ o → Inhabited (Viable T start w) → Describes (get_or Rs k []) (Viable T start w) → Walked Rs (Viable T start w) o → o ≡ some k
      by none q n d r = absurd (r n.0 n.1 n.2)
      by (some j) q n d r =
          let h = inside n d in
          ap some (right.found.distinct j k r.0 h (same_state (places T) (get_or Rs j []) (get_or Rs k []) (Viable T start w) (right.found.good j r.0).sized (right.found.good k h).sized r.2 d))

      back : Inhabited (Viable T start w) × Describes (get_or Rs k []) (Viable T start w) → walk es 0 w ≡ some k
      back p = by (walk es 0 w) refl p.0 p.1 (from_start w)

  -- and every state is reached
  pub reached : (k : ℕ) → k < length Rs → (w : List Symbol) × (walk es 0 w ≡ some k)
  reached k h = let g = right.found.good k h in (g.word, (canonical g.word k).1 (g.some_item, g.exact))

  -- two numbers, two sets
  pub states_differ : (j k : ℕ) (K : Set) → j < length Rs → k < length Rs → Describes (get_or Rs j []) K → Describes (get_or Rs k []) K → j ≡ k
  states_differ j k K h l d c =
      right.found.distinct j k h l (same_state (places T) (get_or Rs j []) (get_or Rs k []) K (right.found.good j h).sized (right.found.good k l).sized d c)
