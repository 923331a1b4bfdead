-- One more element of a list that is gone over.
use Rattle.std.proofs.Common.{◌≡◌, ℕ, ◌+◌, ◌<◌, ◌⊎◌, inl, inr, List, [], ◌∷◌, ◌++◌, length, get_or, take, refl, ◌∙◌, ap, All}
use Rattle.std.specs.Prelude.{Contains, Result, OnOk, Ok, Err}
use Rattle.std.proofs.lemmas.List.{take_more}
use Rattle.std.proofs.lemmas.List.Elements.{Contains-push_cases, Contains-push, Contains-append_left}
use Rattle.std.proofs.lemmas.List.Sorted.{Contains-permutation, All-permutation}
use Rattle.std.specs.List.Sorted.{IsPermutation}
use Rattle.bit_table.specs.declared.table.BitTable.{BitTable}
use Rattle.bit_table.specs.Table.{Has}
use Rattle.automaton.specs.declared.item.Item.{Item}
use Rattle.automaton.specs.declared.automaton.Entry.{Entry}
use Rattle.grammar.specs.declared.grammar.Grammar.{Grammar}
use Rattle.automaton.specs.Items.{fresh, complete, right_of}
use Rattle.automaton.specs.States.{IsListed}

pub on_ok_map : {X E : Type 0} (r : Result X E) {P Q : Type 0} → (P → Q) → OnOk r P → OnOk r Q
on_ok_map (Ok x) f h = f h
on_ok_map (Err e) f h = tt

pub contains_cases : {X : Type 0} (xs : List X) (i : ℕ) (d x : X) → i < length xs → Contains (take (i + 1) xs) x → Contains (take i xs) x ⊎ (get_or xs i d ≡ x)
contains_cases xs i d x l h = Contains-push_cases (take i xs) (get_or xs i d) x (rw (take_more xs i d l) at h)

pub earlier : {X : Type 0} (xs : List X) (i : ℕ) (d x : X) → i < length xs → Contains (take i xs) x → Contains (take (i + 1) xs) x
earlier xs i d x l h = rw (take_more xs i d l) (Contains-append_left (take i xs) (get_or xs i d ∷ []) x h)

pub here : {X : Type 0} (xs : List X) (i : ℕ) (d : X) → i < length xs → Contains (take (i + 1) xs) (get_or xs i d)
here xs i d l = rw (take_more xs i d l) (Contains-push (take i xs) (get_or xs i d))

pub rules_push : (entries : List Entry) (qs : List ℕ) (i left : ℕ) → i < length qs
    → ((q : ℕ) → Contains (take i qs) q → Contains entries (record { item = fresh q; tokens = left }))
    → (q : ℕ) → Contains (take (i + 1) qs) q → Contains (entries ++ record { item = fresh (get_or qs i 0); tokens = left } ∷ []) (record { item = fresh q; tokens = left })
rules_push entries qs i left l before q h = elim (contains_cases qs i 0 q l h) [
  | inl k ↦ Contains-append_left entries _ _ (before q k)
  | inr e ↦ rw (← e) (Contains-push entries (record { item = fresh (get_or qs i 0); tokens = left }))
]

pub listed_cases : (table : BitTable) (xs : List Entry) (i : ℕ) (d : Entry) (j : Item) (t : ℕ) → i < length xs → IsListed table (take (i + 1) xs) j t
    → IsListed table (take i xs) j t ⊎ (((get_or xs i d).item ≡ j) × Has table (get_or xs i d).tokens t)
listed_cases table xs i d j t l h = elim (contains_cases xs i d h.entry l h.listed) [
  | inl k ↦ inl (record { entry = h.entry; listed = k; item = h.item; has = h.has })
  | inr e ↦ inr (ap (λ (y : Entry). y.item) e ∙ h.item, rw e h.has)
]

-- an entry that is kept, and one that is left out
pub listed_push : (table : BitTable) (xs found : List Entry) (i : ℕ) (d : Entry) (j : Item) (t : ℕ) → i < length xs → (IsListed table (take i xs) j t → IsListed table found j t)
    → IsListed table (take (i + 1) xs) j t → IsListed table (found ++ get_or xs i d ∷ []) j t
listed_push table xs found i d j t l before h = elim (listed_cases table xs i d j t l h) [
  | inl k ↦
      let b = before k in
      record { entry = b.entry; listed = Contains-append_left found (get_or xs i d ∷ []) b.entry b.listed; item = b.item; has = b.has }
  | inr k ↦ record { entry = get_or xs i d; listed = Contains-push found (get_or xs i d); item = k.0; has = k.1 }
]

pub listed_skip : (table : BitTable) (xs found : List Entry) (i : ℕ) (d : Entry) (j : Item) (t : ℕ) → i < length xs → (IsListed table (take i xs) j t → IsListed table found j t)
    → ((get_or xs i d).item ≡ j → ⊥) → IsListed table (take (i + 1) xs) j t → IsListed table found j t
listed_skip table xs found i d j t l before other h = elim (listed_cases table xs i d j t l h) [ inl k ↦ before k | inr k ↦ absurd (other k.0) ]

pub produced_push : (table : BitTable) (xs : List Entry) (found : List ℕ) (i : ℕ) (d : Entry) (t : ℕ) → i < length xs
    → ((j : Item) → IsListed table (take i xs) j t → Contains found j.production)
    → (j : Item) → IsListed table (take (i + 1) xs) j t → Contains (found ++ (get_or xs i d).item.production ∷ []) j.production
produced_push table xs found i d t l before j h = elim (listed_cases table xs i d j t l h) [
  | inl k ↦ Contains-append_left found _ j.production (before j k)
  | inr k ↦ rw (← k.0) (Contains-push found (get_or xs i d).item.production)
]

pub produced_skip : (table : BitTable) (xs : List Entry) (found : List ℕ) (i : ℕ) (d : Entry) (t : ℕ) → i < length xs
    → ((j : Item) → IsListed table (take i xs) j t → Contains found j.production) → (Has table (get_or xs i d).tokens t → ⊥)
    → (j : Item) → IsListed table (take (i + 1) xs) j t → Contains found j.production
produced_skip table xs found i d t l before other j h = elim (listed_cases table xs i d j t l h) [ inl k ↦ before j k | inr k ↦ absurd (other k.1) ]

pub complete_is : (g : Grammar) (p : ℕ) (i : Item) → i ≡ complete g p → i.dot ≡ length (right_of g i.production)
complete_is g p i e = rw e refl

pub all_permuted : {X : Type 0} (P : X → Type 0) (xs ys : List X) → IsPermutation xs ys → All P xs → All P ys
all_permuted P xs ys same all = All-permutation P xs ys same all

pub listed_permuted : (table : BitTable) (xs ys : List Entry) (i : Item) (t : ℕ) → IsPermutation xs ys → IsListed table xs i t → IsListed table ys i t
listed_permuted table xs ys i t same h =
    record { entry = h.entry; listed = Contains-permutation xs ys h.entry same h.listed; item = h.item; has = h.has }
