-- The conflicts listed are the book's: `conflicts_exact`; the pairs written are those that occur: `written_exact`.
use mathlib.Core.Path.{◌≡◌, refl, sym, ap, ◌∙◌, subst}
use mathlib.Core.Bool.{true, false, ◌&&◌, not}
use mathlib.Core.List.Memᴰ
use mathlib.Core.List.{List, map, Memᴰ}
use mathlib.Core.Logic.{inl, inr, ⊎_elim, ◌↔◌}
use Prim.Native.Nat.{ℕ, suc, ◌+◌, ◌*◌, ◌^◌, ◌<◌}
use native.Mathlib.Omega.{arith}
use lib.Dec.{eqb, ltb}
use lib.ListN.{length, get_or}
use borrow.Author.Tests.{eqb-false, ne_eqb, ltb-true, lt-ltb, not-true}
use Rattle.lr1_base.specs.repr.Sizes.{index_limit}
use Rattle.lr1_base.specs.repr.Lists.{below, keep, joined}
use Rattle.lr1_base.specs.repr.Meaning.{terminal, Item, Table, production_at, SymbolFits, All, TableFits}
use Rattle.lr1_base.proofs.repr.Lists.{cases, clash}
use Rattle.lr1_base.specs.lookahead.Tokens.{has, meet, members}
use Rattle.lr1_base.proofs.lookahead.Laws.{has-none, has_meet, has-below, meet_lt}
use Rattle.lr1_states.specs.canonical.Canonical.{Set, Moved, Reduces, Shifts, Clash, Conflict}
use Rattle.lr1_states.specs.canonical.States.{places, tokens, moved, nothing?, reduces, shifts, clashes_of, clashes, written}
use Rattle.lr1_states.proofs.canonical.Rounds.{Sized}
use Rattle.lr1_states.proofs.canonical.Members.{keep_in, keep_out, below-mem, map-mem, map-out, joined_mem, joined_from}
use Rattle.lr1_states.proofs.canonical.Closure.{Describes, item, item_code_lem, tokens_at, tokens_index, tokens-item, has-inside, some-token, behind_fit}
use Rattle.lr1_states.proofs.canonical.Goto.{symbols_short, moved_sized, moved_exact, nothing-empty, nothing-some}
use Rattle.lr1_base.proofs.laws.Bools.{and-true}

members_in : (s a : ℕ) → s < 2 ^ 64 → has s a ≡ true → Memᴰ a (members s)
unfolding members
members_in s a l h = keep_in (has s) a (below 64) (below-mem 64 a (has-below s 64 a l h)) h

members-out : (s a : ℕ) → Memᴰ a (members s) → has s a ≡ true
unfolding members
members-out s a m = (keep_out (has s) a (below 64) m).1

module _ (T : Table) (F : TableFits T) (S : List ℕ) (K : Set) (z : Sized (places T) S) (d : Describes S K) where
  reduces-tokens : (p : ℕ) → reduces T S p ≡ tokens S (record { production = p; index = length (production_at T p).symbols })
  unfolding reduces
  reduces-tokens p = sym (tokens_at S (record { production = p; index = length (production_at T p).symbols }) (omega (arith, symbols_short T F p)))

  reduces_exact : (p a : ℕ) → Reduces T K p a ↔ (has (reduces T S p) a ≡ true)
  reduces_exact p a = rw (reduces-tokens p) (d (record { production = p; index = length (production_at T p).symbols }) a)

  reduces_lt : (p : ℕ) → reduces T S p < 2 ^ 64
  unfolding reduces
  reduces_lt p = z.fits (index_limit * p + length (production_at T p).symbols)

  reduces_range : (p a : ℕ) → has (reduces T S p) a ≡ true → p < length T.productions
  unfolding reduces
  reduces_range p a h =
      let l : index_limit * p + length (production_at T p).symbols < index_limit * length T.productions = rw z.long at (has-inside S (index_limit * p + length (production_at T p).symbols) a h) in
      omega arith

  shifts-out : (t : ℕ) → shifts T S t ≡ true → Shifts T K t
  unfolding shifts
  shifts-out t h =
      let w = nothing-some (moved T (terminal t) S) (Moved T (terminal t) K) (moved_sized T (terminal t) S z).fits (moved_exact T F K (terminal t) S z d) (not-true (nothing? (moved T (terminal t) S)) h) in
      (w.2.0, w.1, w.2.1, w.2.4, w.2.5)

  shifts_in : (t : ℕ) → Shifts T K t → shifts T S t ≡ true
  unfolding shifts
  shifts_in t w =
      cases (nothing? (moved T (terminal t) S))
      (λ n. absurd (nothing-empty (moved T (terminal t) S) (Moved T (terminal t) K) (moved_exact T F K (terminal t) S z d) n
      (record { production = w.0.production; index = suc w.0.index }) w.1 (w.0, w.2, refl, refl, w.3, w.4)))
      (λ n. rw n)

  shifts_range : (t : ℕ) → Shifts T K t → t < T.terminals
  unfolding SymbolFits All
  shifts_range t w = (behind_fit T F w.0 (terminal t) w.2 w.3).0

  abbrev shifting : ℕ → List Clash
  shifting p = map (λ t. record { production = p; action = 0; other = t; token = t }) (keep (λ t. has (reduces T S p) t && shifts T S t) (below T.terminals))

  abbrev reducing : ℕ → ℕ → List Clash
  reducing p q = map (λ a. record { production = p; action = 1; other = q; token = a }) (members (meet (reduces T S p) (reduces T S q)))

  shifting-out : (p : ℕ) (c : Clash) → Memᴰ c (shifting p) → Conflict T K c
  shifting-out p c m =
      let r = map-out (λ t. record { production = p; action = 0; other = t; token = t }) c (keep (λ t. has (reduces T S p) t && shifts T S t) (below T.terminals)) m in
      let k = keep_out (λ t. has (reduces T S p) t && shifts T S t) r.0 (below T.terminals) r.1 in
      let b = and-true (has (reduces T S p) r.0) (shifts T S r.0) k.1 in
      rw r.2 (inl (refl, refl, (reduces_exact p r.0).1 b.0, shifts-out r.0 b.1))

  reducing_out : (p q : ℕ) (c : Clash) → p < q → Memᴰ c (reducing p q) → Conflict T K c
  reducing_out p q c l m =
      let r = map-out (λ a. record { production = p; action = 1; other = q; token = a }) c (members (meet (reduces T S p) (reduces T S q))) m in
      let h = members-out (meet (reduces T S p) (reduces T S q)) r.0 r.1 in
      let b = and-true (has (reduces T S p) r.0) (has (reduces T S q) r.0) (sym (has_meet (reduces T S p) (reduces T S q) r.0) ∙ h) in
      rw r.2 (inr (refl, l, (reduces_exact p r.0).1 b.0, (reduces_exact q r.0).1 b.1))

  conflicts_out : (c : Clash) → Memᴰ c (clashes T S) → Conflict T K c
  unfolding clashes clashes_of
  conflicts_out c m =
      let r = joined_from (clashes_of T S) (below (length T.productions)) c m in
      ⊎_elim
      (shifting-out r.0 c)
      (λ i.
      let s = joined_from (reducing r.0) (keep (ltb r.0) (below (length T.productions))) c i in
      reducing_out r.0 s.0 c (ltb-true r.0 s.0 (keep_out (ltb r.0) s.0 (below (length T.productions)) s.1).1) s.2)
      (Memᴰ.append_cases (shifting r.0) r.2)

  conflicts_in : (c : Clash) → Conflict T K c → Memᴰ c (clashes T S)
  unfolding clashes clashes_of
  conflicts_in c (inl w) =
      let p : ℕ = c.production in
      let t : ℕ = c.token in
      let h = (reduces_exact p t).0 w.2 in
      let s = shifts_in t w.3 in
      let both' : (has (reduces T S p) t && shifts T S t) ≡ true = rw (h, s) in
      let q : c ≡ record { production = p; action = 0; other = t; token = t } = same_clash c 0 t w.0 w.1 in
      joined_mem (clashes_of T S) p (below (length T.productions)) c (below-mem (length T.productions) p (reduces_range p t h))
      (Memᴰ.append_left (joined (reducing p) (keep (ltb p) (below (length T.productions))))
      (subst (λ (x : Clash). Memᴰ x (shifting p)) (sym q)
      (map-mem (λ t. record { production = p; action = 0; other = t; token = t }) t (keep (λ t. has (reduces T S p) t && shifts T S t) (below T.terminals))
      (keep_in (λ t. has (reduces T S p) t && shifts T S t) t (below T.terminals) (below-mem T.terminals t (shifts_range t w.3)) both'))))
    where
      same_clash : (c : Clash) (x y : ℕ) → c.action ≡ x → c.other ≡ y → c ≡ record { production = c.production; action = x; other = y; token = c.token }
      same_clash c x y e f = rw (← e, ← f)
  conflicts_in c (inr w) =
      let p : ℕ = c.production in
      let q : ℕ = c.other in
      let a : ℕ = c.token in
      let h = (reduces_exact p a).0 w.2 in
      let g = (reduces_exact q a).0 w.3 in
      let m : has (meet (reduces T S p) (reduces T S q)) a ≡ true = has_meet (reduces T S p) (reduces T S q) a ∙ rw (h, g) in
      let e : c ≡ record { production = p; action = 1; other = q; token = a } = same_clash c 1 w.0 in
      joined_mem (clashes_of T S) p (below (length T.productions)) c (below-mem (length T.productions) p (reduces_range p a h))
      (Memᴰ.append_right (shifting p)
      (joined_mem (reducing p) q (keep (ltb p) (below (length T.productions))) c
      (keep_in (ltb p) q (below (length T.productions)) (below-mem (length T.productions) q (reduces_range q a g)) (lt-ltb p q w.1))
      (subst (λ (x : Clash). Memᴰ x (reducing p q)) (sym e)
      (map-mem (λ a. record { production = p; action = 1; other = q; token = a }) a (members (meet (reduces T S p) (reduces T S q)))
      (members_in (meet (reduces T S p) (reduces T S q)) a (meet_lt 64 (reduces T S p) (reduces T S q) (reduces_lt p)) m)))))
    where
      same_clash : (c : Clash) (x : ℕ) → c.action ≡ x → c ≡ record { production = c.production; action = x; other = c.other; token = c.token }
      same_clash c x e = rw (← e)

  pub conflicts_exact : (c : Clash) → Memᴰ c (clashes T S) ↔ Conflict T K c
  conflicts_exact c = (conflicts_out c, conflicts_in c)

  -- the pairs written
  written_out : (i : Item) → Memᴰ i (written S) → (a : ℕ) × K i a
  unfolding written
  written_out i m =
      let r = map-out item i (keep (λ x. not (eqb (get_or S x 0) 0)) (below (length S))) m in
      let k = keep_out (λ x. not (eqb (get_or S x 0) 0)) r.0 (below (length S)) r.1 in
      let v = some-token (get_or S r.0 0) (z.fits r.0) (eqb-false (get_or S r.0 0) 0 (not-true (eqb (get_or S r.0 0) 0) k.1)) in
      rw r.2 (v.0, (d (item r.0) v.0).1 (rw (tokens-item S r.0) v.1))

  written_in_lem : (i : Item) → (a : ℕ) × K i a → Memᴰ i (written S)
  unfolding written
  written_in_lem i w =
      let h = (d i w.0).0 w.1 in
      let u = tokens_index S i w.0 h in
      let x : ℕ = index_limit * i.production + i.index in
      let g : has (get_or S x 0) w.0 ≡ true = rw (tokens_at S i u) at h in
      let n : eqb (get_or S x 0) 0 ≡ false = ne_eqb (get_or S x 0) 0 (λ q. clash (has (get_or S x 0) w.0) g (ap (λ (s : ℕ). has s w.0) q ∙ has-none w.0)) in
      subst (λ (j : Item). Memᴰ j (map item (keep (λ x. not (eqb (get_or S x 0) 0)) (below (length S))))) (item_code_lem i u)
      (map-mem item x (keep (λ x. not (eqb (get_or S x 0) 0)) (below (length S)))
      (keep_in (λ x. not (eqb (get_or S x 0) 0)) x (below (length S)) (below-mem (length S) x (has-inside S x w.0 g)) (rw n)))

  pub written_exact : (i : Item) → Memᴰ i (written S) ↔ ((a : ℕ) × K i a)
  written_exact i = (written_out i, written_in_lem i)
