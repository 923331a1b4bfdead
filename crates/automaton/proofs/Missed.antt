-- A list of each state's clashes misses none of the grammar's conflicts.
use Rattle.std.proofs.Common.{◌≡◌, ℕ, ◌<◌, ◌⊎◌, inl, inr, Bool, true, false, cond, List, [], ◌∷◌, ◌++◌, refl, sym, subst, ◌∙◌, Some, arith, rules, tests}
use Rattle.std.specs.Prelude.{Contains, IsTrue, map, filter, nat_lt, if◌then◌else◌}
use Rattle.std.specs.List.{flat_map}
use Rattle.std.proofs.lemmas.List.Elements.{Contains-append_left, Contains-append_right, Contains-append_cases, Contains-push_cases}
use Rattle.grammar.specs.declared.symbol.Symbol.{Symbol}
use Rattle.grammar.specs.declared.symbol.Symbol.TheVariants.{Terminal}
use Rattle.grammar.specs.declared.grammar.Grammar.{Grammar}
use Rattle.automaton.specs.declared.automaton.Automaton.{Automaton}
use Rattle.automaton.specs.declared.conflict.Clash.{Clash}
use Rattle.automaton.specs.declared.conflict.Other.TheVariants.{Shift, Reduce}
use Rattle.automaton.specs.declared.conflict.Conflict.{Conflict}
use Rattle.automaton.specs.Items.{complete, advanced}
use Rattle.automaton.specs.Valid.{moved}
use Rattle.automaton.specs.States.{HasEachItem, walk}
use Rattle.automaton.specs.Clashes.{HasShift, HasBoth, ListsEach}
use Rattle.automaton.specs.Conflicts.{pair, pairs_of, conflicts_of, conflicts_in, Names, MissesNone}
use Rattle.automaton.proofs.Walks.{walk_last}

-- ---- elements of lists that are made of others

contains_head : {X : Type 0} (x : X) (xs : List X) → Contains (x ∷ xs) x
contains_head x xs = (0, omega arith, refl)

contains_tail : {X : Type 0} (y : X) (xs : List X) (x : X) → Contains xs x → Contains (y ∷ xs) x
contains_tail y xs x h = Contains-append_right (y ∷ []) xs x h

contains_cases : {X : Type 0} (y : X) (xs : List X) (x : X) → Contains (y ∷ xs) x → (y ≡ x) ⊎ Contains xs x
contains_cases y xs x h = elim (Contains-append_cases (y ∷ []) xs x h) [
  | inl k ↦ elim (Contains-push_cases [] y x k) [ inl none ↦ absurd (omega (arith, none.1)) | inr e ↦ inl e ]
  | inr k ↦ inr k
]

flat_map_contains : {X Y : Type 0} (f : X → List Y) (xs : List X) (x : X) (y : Y) → Contains xs x → Contains (f x) y → Contains (flat_map f xs) y
flat_map_contains {X} f [] x y h k = absurd (omega (arith, h.1))
flat_map_contains {X} f (z ∷ zs) x y h k = elim (contains_cases z zs x h) [
  | inl e ↦ subst (λ (v : X). Contains (f v ++ flat_map f zs) y) (sym e) (Contains-append_left (f x) (flat_map f zs) y k)
  | inr m ↦ Contains-append_right (f z) (flat_map f zs) y (flat_map_contains f zs x y m k)
]

map_contains : {X Y : Type 0} (f : X → Y) (xs : List X) (x : X) → Contains xs x → Contains (map f xs) (f x)
map_contains {X} f [] x h = absurd (omega (arith, h.1))
map_contains {X} f (z ∷ zs) x h = elim (contains_cases z zs x h) [
  | inl e ↦ subst (λ (y : X). Contains (f y ∷ map f zs) (f x)) (sym e) (contains_head (f x) (map f zs))
  | inr m ↦ contains_tail (f z) (map f zs) (f x) (map_contains f zs x m)
]

filter_contains : {X : Type 0} (p : X → Bool) (xs : List X) (x : X) → p x ≡ true → Contains xs x → Contains (filter p xs) x
filter_contains p [] x passes h = absurd (omega (arith, h.1))
filter_contains p (z ∷ zs) x passes h = elim (contains_cases z zs x h) [
  | inl e ↦ rw (e, passes) (contains_head x (filter p zs))
  | inr m ↦ behind (p z) (filter_contains p zs x passes m)
]
  where
    behind : (b : Bool) → Contains (filter p zs) x → Contains (cond b (z ∷ filter p zs) (filter p zs)) x
    behind true k = contains_tail z (filter p zs) x k
    behind false k = k

shift_listed : (c : Clash) (p : ℕ) → IsTrue c.shifts → Contains (pairs_of c p) (pair c p Shift)
shift_listed c p on =
    Contains-append_left (if c.shifts then pair c p Shift ∷ [] else []) (map (λ q. pair c p (Reduce q)) (filter (λ q. nat_lt p q) c.reductions.items)) (pair c p Shift)
    (rw on (contains_head (pair c p Shift) []))

both_listed : (c : Clash) (p q : ℕ) → p < q → Contains c.reductions.items q → Contains (pairs_of c p) (pair c p (Reduce q))
both_listed c p q less h =
    Contains-append_right (if c.shifts then pair c p Shift ∷ [] else []) (map (λ r. pair c p (Reduce r)) (filter (λ r. nat_lt p r) c.reductions.items)) (pair c p (Reduce q))
    (map_contains (λ r. pair c p (Reduce r)) (filter (λ r. nat_lt p r) c.reductions.items) q
    (filter_contains (λ r. nat_lt p r) c.reductions.items q (search (rules, tests)) h))

listed_in : (list : List Clash) (c : Clash) (p : ℕ) (x : Conflict) → Contains list c → Contains c.reductions.items p → Contains (pairs_of c p) x → Contains (conflicts_in list) x
listed_in list c p x h k m =
    flat_map_contains conflicts_of list c x h (flat_map_contains (pairs_of c) c.reductions.items p x k m)

shift_named : (a : Automaton) (list : List Clash) (γ : List Symbol) (s t p : ℕ) → walk a γ 0 ≡ Some s → HasShift list s t p → Names a (conflicts_in list) γ t p Shift
shift_named a list γ s t p way h = record {
  conflict = pair h.clash p Shift;
  listed = listed_in list h.clash p (pair h.clash p Shift) h.listed h.reduction (shift_listed h.clash p h.shifts);
  state = rw h.state way;
  token = h.token;
  production = refl;
  other = refl;
}

both_named : (a : Automaton) (list : List Clash) (γ : List Symbol) (s t p q : ℕ) → p < q → walk a γ 0 ≡ Some s → HasBoth list s t p q → Names a (conflicts_in list) γ t p (Reduce q)
both_named a list γ s t p q less way h = record {
  conflict = pair h.clash p (Reduce q);
  listed = listed_in list h.clash p (pair h.clash p (Reduce q)) h.listed h.first (both_listed h.clash p q less h.second);
  state = rw h.state way;
  token = h.token;
  production = refl;
  other = refl;
}

pub nothing_missed : (g : Grammar) (a : Automaton) (list : List Clash) → HasEachItem g a → ListsEach g a list → MissesNone g a (conflicts_in list)
nothing_missed g a list each lists = record {
  shift_reduce = λ γ t p h.
      let l = each γ (complete g p) t h.reduces in
      let n = each (γ ++ Terminal t ∷ []) (advanced h.item) h.token (moved (Terminal t) h.behind h.valid h.shifts) in
      shift_named a list γ l.state t p l.way ((lists l.state).shift_reduce t p n.state l.item (walk_last a γ (Terminal t) l.state n.state 0 l.way n.way));
  reduce_reduce = λ γ t p q h.
      let l = each γ (complete g p) t h.first in
      let m = each γ (complete g q) t h.second in
      let joined : Some l.state ≡ Some m.state = sym l.way ∙ m.way in
      let same : m.state ≡ l.state = cc in
      both_named a list γ l.state t p q h.order l.way ((lists l.state).reduce_reduce t p q h.order l.item (rw same at m.item));
}
