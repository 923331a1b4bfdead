-- Lists of productions by nonterminals, one production more.
use Rattle.std.proofs.Common.{◌≡◌, ℕ, ◌+◌, ◌<◌, inl, inr, List, [], ◌∷◌, ◌++◌, length, get_or, sym, ◌∙◌, ap, arith, All, vec_len, below_more, get_or-set_same, get_or-set_other}
use Rattle.std.specs.Prelude.{Contains, map, slice_set}
use Rattle.std.specs.declared.vec.Vec.{Vec}
use Rattle.std.specs.declared.alloc.Global.{Global}
use Rattle.std.proofs.lemmas.Bool.{cases_eq, cases_lt}
use Rattle.std.proofs.lemmas.List.{get_or-map, map-set, get_or_past}
use Rattle.std.proofs.lemmas.List.Elements.{Contains-push, Contains-push_cases, Contains-append_left}
use Rattle.grammar.specs.declared.symbol.Production.{Production}
use Rattle.grammar.specs.declared.grammar.Grammar.{Grammar}
use Rattle.automaton.specs.Items.{left_of, IsRule}
use Rattle.automaton.specs.Alternatives.{alternatives_in}

pub added : (lists : List (Vec ℕ Global)) (n q : ℕ) (old new : Vec ℕ Global) → n < length lists → old ≡ get_or lists n old → new.items ≡ old.items ++ q ∷ []
    → map (λ (v : Vec ℕ Global). v.items) (slice_set lists n new) ≡ slice_set (map (λ (v : Vec ℕ Global). v.items) lists) n (get_or (map (λ (v : Vec ℕ Global). v.items) lists) n [] ++ q ∷ [])
added lists n q old new l at e =
    let items : Vec ℕ Global → List ℕ = λ v. v.items in
    map-set items lists n new ∙ ap (λ (xs : List ℕ). slice_set (map items lists) n xs) (e ∙ ap (λ (xs : List ℕ). xs ++ q ∷ []) (ap items at ∙ sym (get_or-map items lists n old [] l)))

pub left_at : (g : Grammar) (q : ℕ) (p : Production) → q < length g.productions.items → p ≡ get_or g.productions.items q p → left_of g q ≡ p.left
left_at g q p within at = get_or-map (λ (x : Production). x.left) g.productions.items q p 0 within ∙ sym (ap (λ (x : Production). x.left) at)

pub left_fits : (g : Grammar) (q : ℕ) (p : Production) → q < length g.productions.items → p ≡ get_or g.productions.items q p → p.left < vec_len g.nonterminals
left_fits g q p within at = rw at ((g.in_range q p within).left)

-- a production of its nonterminal stands in the list, and those before it
pub has_more : (g : Grammar) (lists : List (List ℕ)) (i left : ℕ) → left < length lists → left_of g i ≡ left
    → ((q : ℕ) → q < i → Contains (alternatives_in lists (left_of g q)) q)
    → (q : ℕ) → q < i + 1 → Contains (alternatives_in (slice_set lists left (alternatives_in lists left ++ i ∷ [])) (left_of g q)) q
has_more g lists i left l e before =
    below_more (λ (q : ℕ). Contains (alternatives_in (slice_set lists left (alternatives_in lists left ++ i ∷ [])) (left_of g q)) q) i
    (λ q less. elim (cases_eq (left_of g q) left) [
      | inl same ↦ rw (same, get_or-set_same) (Contains-append_left (alternatives_in lists left) (i ∷ []) q (rw same at (before q less)))
      | inr other ↦ rw get_or-set_other (before q less)
    ])
    (rw (e, get_or-set_same) (Contains-push (alternatives_in lists left) i))

pub only_more : (g : Grammar) (lists : List (List ℕ)) (i left : ℕ) → left < length lists → i < length g.productions.items → left_of g i ≡ left
    → ((n q : ℕ) → Contains (alternatives_in lists n) q → IsRule g q n)
    → (n q : ℕ) → Contains (alternatives_in (slice_set lists left (alternatives_in lists left ++ i ∷ [])) n) q → IsRule g q n
only_more g lists i left l within e before n q h = elim (cases_eq n left) [
  | inl same ↦
      elim (Contains-push_cases (alternatives_in lists left) i q (rw (same, get_or-set_same) at h)) [
        | inl k ↦ rw same (before left q k)
        | inr last ↦ rw (← last) (record { within = within; left = e ∙ sym same })
      ]
  | inr other ↦ before n q (rw get_or-set_other at h)
]

-- empty lists have none
pub none_listed : (lists : List (List ℕ)) → All (λ (list : List ℕ). list ≡ []) lists → (n q : ℕ) → Contains (alternatives_in lists n) q → ⊥
none_listed lists empty n q h = let e : alternatives_in lists n ≡ [] = at lists empty n in let k = rw e at h in omega (arith, k.1)
  where
    at : (lists : List (List ℕ)) → All (λ (list : List ℕ). list ≡ []) lists → (n : ℕ) → get_or lists n [] ≡ []
    at lists empty n = elim (cases_lt n (length lists)) [
      | inl l ↦ empty n [] l
      | inr past ↦ get_or_past lists n [] past
    ]
