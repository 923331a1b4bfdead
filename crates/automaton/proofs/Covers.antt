-- Tables that cover a closure.
use Rattle.std.proofs.Common.{◌≡◌, ℕ, ◌+◌, ◌*◌, ◌/◌, ◌%◌, ◌<◌, ◌≤◌, ◌⊎◌, inl, inr, List, [], ◌∷◌, ◌++◌, length, get_or, refl, sym, ◌∙◌, ap, arith, take, All, ◌↔◌}
use Rattle.std.specs.Prelude.{Contains}
use Rattle.std.proofs.Math.Nat.{mul-le-mul_right}
use Rattle.std.proofs.lemmas.Nat.Bits.{bit_at-zero}
use Rattle.std.proofs.lemmas.List.{take_more, get_or_past}
use Rattle.std.proofs.lemmas.List.Elements.{All-contains, Contains-push_cases, Contains-push, Contains-append_left}
use Rattle.bit_table.specs.declared.table.BitTable.{BitTable}
use Rattle.bit_table.specs.Table.{Has, KeepsBits}
use Rattle.grammar.specs.declared.symbol.Symbol.{Symbol}
use Rattle.grammar.specs.declared.symbol.Symbol.TheVariants.{Nonterminal}
use Rattle.grammar.specs.declared.grammar.Grammar.{Grammar}
use Rattle.first_sets.specs.declared.sets.FirstSets.{FirstSets}
use Rattle.first_sets.proofs.Textbook.{null_exact, first_exact}
use Rattle.automaton.specs.declared.item.Item.{Item}
use Rattle.automaton.specs.declared.automaton.Entry.{Entry}
use Rattle.automaton.specs.declared.alternatives.Alternatives.{Alternatives}
use Rattle.automaton.specs.Items.{rest_of, fresh, IsRule}
use Rattle.automaton.specs.Alternatives.{alternatives_of, AreAlternatives}
use Rattle.automaton.specs.Reach.{IsReached, start, led}
use Rattle.automaton.specs.Valid.{BeginsBefore}
use Rattle.automaton.specs.States.{IsListed, InClosure, given, added}
use Rattle.automaton.specs.Spreading.{IsFirstOf, IsSpread, IsSpreadAt, AreSpread, IsBehindDot}

-- no bits past the last row
pub no_row : (t : BitTable) (r c : ℕ) → t.rows ≤ r → Has t r c → ⊥
no_row t r c past h =
    let far : t.rows * t.width ≤ r * t.width = mul-le-mul_right t.width past in
    let none : get_or t.words.items (r * t.width + c / 64) 0 ≡ 0 = get_or_past t.words.items (r * t.width + c / 64) 0 (omega arith) in
    omega (arith, rw none at h.set, bit_at-zero (c % 64))

-- one more entry of a kernel
pub load_more : (tokens old new : BitTable) (kernel xs : List Entry) (i row : ℕ) (d : Entry) → i < length kernel → KeepsBits old new
    → ((t : ℕ) → Has tokens (get_or kernel i d).tokens t → Has new row t)
    → ((j : Item) (t : ℕ) → IsListed tokens (take i kernel) j t → IsListed old xs j t)
    → (j : Item) (t : ℕ) → IsListed tokens (take (i + 1) kernel) j t → IsListed new (xs ++ record { item = (get_or kernel i d).item; tokens = row } ∷ []) j t
load_more tokens old new kernel xs i row d within keeps adds lists j t h =
    let e = get_or kernel i d in
    let x : Entry = record { item = e.item; tokens = row } in
    elim (Contains-push_cases (take i kernel) e h.entry (rw (take_more kernel i d within) at h.listed)) [
      | inl before ↦
          let k = lists j t (record { entry = h.entry; listed = before; item = h.item; has = h.has }) in
          record { entry = k.entry; listed = Contains-append_left xs (x ∷ []) k.entry k.listed; item = k.item; has = keeps k.entry.tokens t k.has }
      | inr same ↦
          record {
            entry = x;
            listed = Contains-push xs x;
            item = ap (λ (y : Entry). y.item) same ∙ h.item;
            has = adds t (rw same h.has);
          }
    ]

-- a fresh item of a nonterminal that is reached, by its nonterminal's row
pub record IsOfRule (g : Grammar) (t : BitTable) (reached : List ℕ) (i : Item) (a : ℕ) : Type 0 where
  pub left : ℕ
  pub rule : ℕ
  pub is_rule : IsRule g rule left
  pub item : i ≡ fresh rule
  pub met : Contains reached left
  pub has : Has t left a

module _ (g : Grammar) (f : FirstSets) (s : Alternatives) (t : BitTable) (own : List Entry) (starts reached : List ℕ) where
  Covered : Item → ℕ → Type 0
  Covered i a = IsListed t own i a ⊎ IsOfRule g t reached i a

  module _ (exact : IsFirstOf g f) (listed : AreAlternatives g s) (by_own : All (IsSpreadAt g f t) own) (by_rules : All (AreSpread g f s t) reached) where
    given_at : (row n a b : ℕ) (β xs : List Symbol) → IsSpread f t row xs → xs ≡ Nonterminal n ∷ β → Has t row a → BeginsBefore g β a b → Has t n b
    given_at row n a b β xs spread e has begins =
        let gives = spread n β e in
        elim begins [
          | inl h ↦ gives.begun b ((first_exact g.productions.items f exact.exact β b).1 h)
          | inr h ↦ rw h.1 (gives.passed ((null_exact g.productions.items f exact.exact β).1 h.0) a has)
        ]

    of_rule : (n q : ℕ) → Contains reached n → IsRule g q n → IsSpread f t n (rest_of g (fresh q))
    of_rule n q met rule =
        ((All-contains (AreSpread g f s t) reached n by_rules met).spread q ((listed.exact n q).1 rule)).spread

    has_at : (i : Item) (n a b : ℕ) (β : List Symbol) → Covered i a → rest_of g i ≡ Nonterminal n ∷ β → BeginsBefore g β a b → Has t n b
    unfolding Covered
    has_at i n a b β (inl h) e begins =
        given_at h.entry.tokens n a b β (rest_of g i) (rw h.item at ((All-contains (IsSpreadAt g f t) own h.entry by_own h.listed).spread)) e h.has begins
    has_at i n a b β (inr h) e begins =
        given_at h.left n a b β (rest_of g i) (rw h.item (of_rule h.left h.rule h.met h.is_rule)) e h.has begins

    module _ (tokens : BitTable) (kernel : List Entry) (lists : (i : Item) (a : ℕ) → IsListed tokens kernel i a → IsListed t own i a)
        (behind : (n : ℕ) → Contains starts n ↔ IsBehindDot g kernel n) (met : (n : ℕ) → Contains reached n ↔ IsReached g starts n) where
      reached_of : {i : Item} {a : ℕ} → InClosure g tokens kernel i a → (n : ℕ) (β : List Symbol) → rest_of g i ≡ Nonterminal n ∷ β → Contains reached n
      reached_of (given h) n β e =
          (met n).1 (start ((behind n).1 (record { entry = h.entry; listed = h.listed; leads = rw h.item (rw e refl) })))
      reached_of (added m q γ d k rule begins) n β e = (met n).1 (led q ((met m).0 (reached_of d m γ k)) rule (rw e refl))

      covered : {i : Item} {a : ℕ} → InClosure g tokens kernel i a → Covered i a
      unfolding Covered
      covered (given h) = inl (lists _ _ h)
      covered (added n q β d e rule begins) =
          inr (record {
            left = n;
            rule = q;
            is_rule = rule;
            item = refl;
            met = reached_of d n β e;
            has = has_at _ n _ _ β (covered d) e begins;
          })

      pub covers : (entries : List Entry) → ((e : Entry) → Contains own e → Contains entries e)
          → ((n q : ℕ) → Contains reached n → Contains (alternatives_of s n) q → Contains entries (record { item = fresh q; tokens = n }))
          → (i : Item) (a : ℕ) → InClosure g tokens kernel i a → IsListed t entries i a
      unfolding Covered
      covers entries keeps rules i a d = elim (covered d) [
        | inl h ↦ record { entry = h.entry; listed = keeps h.entry h.listed; item = h.item; has = h.has }
        | inr h ↦ record {
          entry = record { item = fresh h.rule; tokens = h.left };
          listed = rules h.left h.rule h.met ((listed.exact h.left h.rule).1 h.is_rule);
          item = sym h.item;
          has = h.has;
        }
      ]
