-- The items of a kernel and of the nonterminals that are reached are those of its closure.
use Rattle.std.proofs.Common.{◌≡◌, ℕ, ◌+◌, ◌<◌, ◌↔◌, inl, inr, List, [], ◌∷◌, ◌++◌, length, get_or, take, refl, sym, arith, Some}
use Rattle.std.specs.Prelude.{Contains}
use Rattle.std.proofs.lemmas.List.Elements.{Contains-push, Contains-push_cases, Contains-append_left}
use Rattle.grammar.specs.declared.symbol.Symbol.{Symbol}
use Rattle.grammar.specs.declared.symbol.Symbol.TheVariants.{Terminal, Nonterminal}
use Rattle.grammar.specs.declared.grammar.Grammar.{Grammar}
use Rattle.automaton.specs.declared.item.Item.{Item}
use Rattle.automaton.specs.declared.automaton.Entry.{Entry}
use Rattle.automaton.specs.declared.alternatives.Alternatives.{Alternatives}
use Rattle.automaton.specs.Items.{rest_of, fresh}
use Rattle.automaton.specs.Alternatives.{alternatives_of, AreAlternatives}
use Rattle.automaton.specs.Reach.{IsReached, start, led, leading_of}
use Rattle.automaton.specs.Reading.{IsItem, given, added, Reads, ReadsFrom, HasToo}
use Rattle.automaton.specs.Spreading.{IsBehindDot}
use Rattle.automaton.proofs.Listed.{contains_cases, earlier, here}

-- an item of the entries that reads the token
pub record ReadsEntry (g : Grammar) (t : ℕ) (entries : List Entry) (i : Item) : Type 0 where
  pub entry : Entry
  pub listed : Contains entries entry
  pub item : entry.item ≡ i
  pub reads : Reads g i t

-- a production of one of the nonterminals that begins with the token
pub record ReadsOf (g : Grammar) (s : Alternatives) (t : ℕ) (reached : List ℕ) (i : Item) : Type 0 where
  pub nonterminal : ℕ
  pub listed : Contains reached nonterminal
  pub from : ReadsFrom g t (alternatives_of s nonterminal) i

pub none_read : (g : Grammar) (t : ℕ) (found : List Item) → HasToo found found (ReadsFrom g t [])
none_read g t found = record { keeps = λ i h. h; adds = λ i r. absurd (omega (arith, r.listed.1)); only = λ i h. inl h }

pub none_of : (g : Grammar) (s : Alternatives) (t : ℕ) (found : List Item) → HasToo found found (ReadsOf g s t [])
none_of g s t found = record { keeps = λ i h. h; adds = λ i r. absurd (omega (arith, r.listed.1)); only = λ i h. inl h }

pub none_entry : (g : Grammar) (t : ℕ) (found : List Item) → HasToo found found (ReadsEntry g t [])
none_entry g t found = record { keeps = λ i h. h; adds = λ i r. absurd (omega (arith, r.listed.1)); only = λ i h. inl h }

pub from_push : (g : Grammar) (t : ℕ) (qs : List ℕ) (k : ℕ) {old found : List Item} → k < length qs → Reads g (fresh (get_or qs k 0)) t → HasToo old found (ReadsFrom g t (take k qs))
    → HasToo old (found ++ fresh (get_or qs k 0) ∷ []) (ReadsFrom g t (take (k + 1) qs))
from_push g t qs k {found} l reads was = record {
  keeps = λ i h. Contains-append_left found _ i (was.keeps i h);
  adds = λ i r. elim (contains_cases qs k 0 r.production l r.listed) [
    | inl m ↦ Contains-append_left found _ i (was.adds i (record { production = r.production; listed = m; item = r.item; reads = r.reads }))
    | inr e ↦ rw (r.item, ← e) (Contains-push found (fresh (get_or qs k 0)))
  ];
  only = λ i h. elim (Contains-push_cases found (fresh (get_or qs k 0)) i h) [
    | inl m ↦ elim (was.only i m) [
      | inl first ↦ inl first
      | inr r ↦ inr (record { production = r.production; listed = earlier qs k 0 r.production l r.listed; item = r.item; reads = r.reads })
    ]
    | inr e ↦ inr (record { production = get_or qs k 0; listed = here qs k 0 l; item = sym e; reads = rw e at reads })
  ];
}

pub from_skip : (g : Grammar) (t : ℕ) (qs : List ℕ) (k : ℕ) {old found : List Item} → k < length qs → (Reads g (fresh (get_or qs k 0)) t → ⊥) → HasToo old found (ReadsFrom g t (take k qs))
    → HasToo old found (ReadsFrom g t (take (k + 1) qs))
from_skip g t qs k l other was = record {
  keeps = was.keeps;
  adds = λ i r. elim (contains_cases qs k 0 r.production l r.listed) [
    | inl m ↦ was.adds i (record { production = r.production; listed = m; item = r.item; reads = r.reads })
    | inr e ↦ absurd (other (rw e (rw r.item at r.reads)))
  ];
  only = λ i h. elim (was.only i h) [
    | inl first ↦ inl first
    | inr r ↦ inr (record { production = r.production; listed = earlier qs k 0 r.production l r.listed; item = r.item; reads = r.reads })
  ];
}

pub entry_push : (g : Grammar) (t : ℕ) (entries : List Entry) (k : ℕ) (d : Entry) {found : List Item} → k < length entries → Reads g (get_or entries k d).item t
    → HasToo [] found (ReadsEntry g t (take k entries)) → HasToo [] (found ++ (get_or entries k d).item ∷ []) (ReadsEntry g t (take (k + 1) entries))
entry_push g t entries k d {found} l reads was = record {
  keeps = λ i h. Contains-append_left found _ i (was.keeps i h);
  adds = λ i r. elim (contains_cases entries k d r.entry l r.listed) [
    | inl m ↦ Contains-append_left found _ i (was.adds i (record { entry = r.entry; listed = m; item = r.item; reads = r.reads }))
    | inr e ↦ rw (← r.item, ← e) (Contains-push found (get_or entries k d).item)
  ];
  only = λ i h. elim (Contains-push_cases found (get_or entries k d).item i h) [
    | inl m ↦ elim (was.only i m) [
      | inl first ↦ inl first
      | inr r ↦ inr (record { entry = r.entry; listed = earlier entries k d r.entry l r.listed; item = r.item; reads = r.reads })
    ]
    | inr e ↦ inr (record { entry = get_or entries k d; listed = here entries k d l; item = e; reads = rw e at reads })
  ];
}

pub entry_skip : (g : Grammar) (t : ℕ) (entries : List Entry) (k : ℕ) (d : Entry) {found : List Item} → k < length entries → (Reads g (get_or entries k d).item t → ⊥)
    → HasToo [] found (ReadsEntry g t (take k entries)) → HasToo [] found (ReadsEntry g t (take (k + 1) entries))
entry_skip g t entries k d l other was = record {
  keeps = was.keeps;
  adds = λ i r. elim (contains_cases entries k d r.entry l r.listed) [
    | inl m ↦ was.adds i (record { entry = r.entry; listed = m; item = r.item; reads = r.reads })
    | inr e ↦ absurd (other (rw e (rw r.item r.reads)))
  ];
  only = λ i h. elim (was.only i h) [
    | inl first ↦ inl first
    | inr r ↦ inr (record { entry = r.entry; listed = earlier entries k d r.entry l r.listed; item = r.item; reads = r.reads })
  ];
}

pub of_more : (g : Grammar) (s : Alternatives) (t : ℕ) (reached : List ℕ) (k : ℕ) {old found new : List Item} → k < length reached
    → HasToo found new (ReadsFrom g t (alternatives_of s (get_or reached k 0))) → HasToo old found (ReadsOf g s t (take k reached)) → HasToo old new (ReadsOf g s t (take (k + 1) reached))
of_more g s t reached k l more was = record {
  keeps = λ i h. more.keeps i (was.keeps i h);
  adds = λ i r. elim (contains_cases reached k 0 r.nonterminal l r.listed) [
    | inl m ↦ more.keeps i (was.adds i (record { nonterminal = r.nonterminal; listed = m; from = r.from }))
    | inr e ↦ more.adds i (rw e r.from)
  ];
  only = λ i h. elim (more.only i h) [
    | inl m ↦ elim (was.only i m) [
      | inl first ↦ inl first
      | inr r ↦ inr (record { nonterminal = r.nonterminal; listed = earlier reached k 0 r.nonterminal l r.listed; from = r.from })
    ]
    | inr r ↦ inr (record { nonterminal = get_or reached k 0; listed = here reached k 0 l; from = r })
  ];
}

module _ (g : Grammar) (s : Alternatives) (kernel : List Entry) (starts reached : List ℕ) (exact : AreAlternatives g s)
    (behind : (n : ℕ) → Contains starts n ↔ IsBehindDot g kernel n) (met : (n : ℕ) → Contains reached n ↔ IsReached g starts n) where
  leads_to : (xs : List Symbol) (n : ℕ) → leading_of xs ≡ Some n → (β : List Symbol) × (xs ≡ Nonterminal n ∷ β)
  leads_to [] n e = cc
  leads_to (Terminal t ∷ xs) n e = cc
  leads_to (Nonterminal m ∷ xs) n e = let same : m ≡ n = cc in (xs, rw same refl)

  -- an item of the closure stands before each nonterminal that is reached
  before : {n : ℕ} → IsReached g starts n → (i : Item) × IsItem g kernel i × (β : List Symbol) × (rest_of g i ≡ Nonterminal n ∷ β)
  before {n} (start h) =
      let b = (behind n).0 h in
      let r = leads_to (rest_of g b.entry.item) n b.leads in
      (b.entry.item, given b.listed, r.0, r.1)
  before {n} (led q d rule lead) =
      let b = before d in
      let r = leads_to (rest_of g (fresh q)) n lead in
      (fresh q, added _ q b.2 b.1 b.3 rule, r.0, r.1)

  reached_at : {i : Item} → IsItem g kernel i → (n : ℕ) (β : List Symbol) → rest_of g i ≡ Nonterminal n ∷ β → Contains reached n
  reached_at (given {e} h) n β r = (met n).1 (start ((behind n).1 (record { entry = e; listed = h; leads = rw r refl })))
  reached_at (added m q γ d k rule) n β r = (met n).1 (led q ((met m).0 (reached_at d m γ k)) rule (rw r refl))

  item_of : (t : ℕ) (i : Item) → ReadsOf g s t reached i → IsItem g kernel i × Reads g i t
  item_of t i r =
      let n = r.nonterminal in
      let b = before ((met n).0 r.listed) in
      let rule = (exact.exact n r.from.production).0 r.from.listed in
      (rw r.from.item (added n r.from.production b.2 b.1 b.3 rule), r.from.reads)

  module _ (t : ℕ) (first found : List Item) (by_kernel : HasToo [] first (ReadsEntry g t kernel)) (by_rules : HasToo first found (ReadsOf g s t reached)) where
    reading_to : (i : Item) → Contains found i → IsItem g kernel i × Reads g i t
    reading_to i h = elim (by_rules.only i h) [
      | inl k ↦ elim (by_kernel.only i k) [
        | inl none ↦ absurd (omega (arith, none.1))
        | inr r ↦ (rw (← r.item) (given r.listed), r.reads)
      ]
      | inr r ↦ item_of t i r
    ]

    reading_back : {i : Item} → IsItem g kernel i → Reads g i t → Contains found i
    reading_back (given {e} h) reads = by_rules.keeps _ (by_kernel.adds _ (record { entry = e; listed = h; item = refl; reads = reads }))
    reading_back (added n q β d e rule) reads =
        by_rules.adds _ (record {
          nonterminal = n;
          listed = reached_at d n β e;
          from = record { production = q; listed = (exact.exact n q).1 rule; item = refl; reads = reads };
        })

    pub reading : (i : Item) → Contains found i ↔ (IsItem g kernel i × Reads g i t)
    reading i = (reading_to i, λ h. reading_back h.0 h.1)
