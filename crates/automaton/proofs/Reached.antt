-- What is reached, step by step.
use Rattle.std.proofs.Common.{◌≡◌, ℕ, ◌+◌, ◌<◌, ◌⊎◌, ◌↔◌, inl, inr, Bool, true, List, [], ◌∷◌, ◌++◌, length, get_or, take, refl, ◌∙◌, sym, arith, All, Some, get_or-set_same, get_or-set_other}
use Rattle.std.specs.Prelude.{Contains, slice_set}
use Rattle.std.proofs.lemmas.Bool.{cases_eq}
use Rattle.std.proofs.lemmas.List.Elements.{All-head, Contains-push, Contains-push_cases, Contains-append_left}
use Rattle.grammar.specs.declared.symbol.Symbol.{Symbol}
use Rattle.grammar.specs.declared.symbol.Symbol.TheVariants.{Terminal, Nonterminal}
use Rattle.grammar.specs.declared.grammar.Grammar.{Grammar}
use Rattle.grammar.specs.Symbols.{SymbolFits}
use Rattle.automaton.specs.declared.automaton.Entry.{Entry}
use Rattle.automaton.specs.Items.{rest_of, IsRule}
use Rattle.automaton.specs.Reach.{IsMarked, Leads, IsReached, start, led, leading_of}
use Rattle.automaton.specs.Spreading.{IsBehindDot}
use Rattle.automaton.proofs.Listed.{contains_cases, earlier, here}

-- one more flag
pub marked_set : (seen : List Bool) (n : ℕ) → n < length seen → IsMarked (slice_set seen n true) n
marked_set seen n l = rw get_or-set_same refl

pub marked_keeps : (seen : List Bool) (n : ℕ) → n < length seen → (m : ℕ) → IsMarked seen m → IsMarked (slice_set seen n true) m
marked_keeps seen n l m h = elim (cases_eq m n) [
  | inl e ↦ rw (e, get_or-set_same) refl
  | inr other ↦ rw get_or-set_other h
]

pub marked_cases : (seen : List Bool) (n : ℕ) → n < length seen → (m : ℕ) → IsMarked (slice_set seen n true) m → IsMarked seen m ⊎ (m ≡ n)
marked_cases seen n l m h = elim (cases_eq m n) [
  | inl e ↦ inr e
  | inr other ↦ inl (rw get_or-set_other at h)
]

-- the nonterminal that symbols in range begin with is in range
pub leading_fits : (terminals nonterminals : ℕ) (xs : List Symbol) (n : ℕ) → All (SymbolFits terminals nonterminals) xs → leading_of xs ≡ Some n → n < nonterminals
leading_fits terminals nonterminals [] n all e = cc
leading_fits terminals nonterminals (Terminal t ∷ xs) n all e = cc
leading_fits terminals nonterminals (Nonterminal m ∷ xs) n all e =
    let same : m ≡ n = cc in rw same at (All-head (SymbolFits terminals nonterminals) (Nonterminal m) xs all)

-- ---- one more entry of a kernel

pub behind_push : (g : Grammar) (kernel : List Entry) (starts : List ℕ) (i m : ℕ) (d : Entry) → i < length kernel → leading_of (rest_of g (get_or kernel i d).item) ≡ Some m
    → ((n : ℕ) → Contains starts n ↔ IsBehindDot g (take i kernel) n) → (n : ℕ) → Contains (starts ++ m ∷ []) n ↔ IsBehindDot g (take (i + 1) kernel) n
behind_push g kernel starts i m d l leads before n = (
  λ h. elim (Contains-push_cases starts m n h) [
    | inl k ↦ let b = (before n).0 k in record { entry = b.entry; listed = earlier kernel i d b.entry l b.listed; leads = b.leads }
    | inr e ↦ record { entry = get_or kernel i d; listed = here kernel i d l; leads = rw (← e) leads }
  ],
  λ b. elim (contains_cases kernel i d b.entry l b.listed) [
    | inl k ↦ Contains-append_left starts (m ∷ []) n ((before n).1 (record { entry = b.entry; listed = k; leads = b.leads }))
    | inr e ↦ let both : Some m ≡ Some n = sym leads ∙ (rw (← e) at b.leads) in let same : m ≡ n = cc in rw same (Contains-push starts n)
  ],
)

pub behind_skip : (g : Grammar) (kernel : List Entry) (starts : List ℕ) (i : ℕ) (d : Entry) → i < length kernel → ((n : ℕ) → leading_of (rest_of g (get_or kernel i d).item) ≡ Some n → ⊥)
    → ((n : ℕ) → Contains starts n ↔ IsBehindDot g (take i kernel) n) → (n : ℕ) → Contains starts n ↔ IsBehindDot g (take (i + 1) kernel) n
behind_skip g kernel starts i d l none before n = (
  λ h. let b = (before n).0 h in record { entry = b.entry; listed = earlier kernel i d b.entry l b.listed; leads = b.leads },
  λ b. elim (contains_cases kernel i d b.entry l b.listed) [
    | inl k ↦ (before n).1 (record { entry = b.entry; listed = k; leads = b.leads })
    | inr e ↦ absurd (none n (rw (← e) at b.leads))
  ],
)

-- ---- what productions begin with is met

-- the first symbols of productions are met, and what is met anew waits
pub record Meeting (g : Grammar) (productions : List ℕ) (old new : List Bool) (before waiting : List ℕ) : Type 0 where
  pub marked : (q m : ℕ) → Contains productions q → Leads g q m → IsMarked new m
  pub keeps : (m : ℕ) → IsMarked old m → IsMarked new m
  pub waits : (m : ℕ) → IsMarked new m → IsMarked old m ⊎ Contains waiting m
  pub stays : (m : ℕ) → Contains before m → Contains waiting m
  pub only : (m : ℕ) → Contains waiting m → Contains before m ⊎ ((q : ℕ) × Contains productions q × Leads g q m)

pub meeting_more : (g : Grammar) (qs : List ℕ) (i n : ℕ) {old mid new : List Bool} {before between waiting : List ℕ} → i < length qs → Leads g (get_or qs i 0) n
    → IsMarked new n → ((m : ℕ) → IsMarked mid m → IsMarked new m) → ((m : ℕ) → IsMarked new m → IsMarked mid m ⊎ Contains waiting m)
    → ((m : ℕ) → Contains between m → Contains waiting m) → ((m : ℕ) → Contains waiting m → Contains between m ⊎ (m ≡ n))
    → Meeting g (take i qs) old mid before between → Meeting g (take (i + 1) qs) old new before waiting
meeting_more g qs i n l leads here_marked keeps waits stays only was = record {
  marked = λ q m h lead. elim (contains_cases qs i 0 q l h) [
    | inl k ↦ keeps m (was.marked q m k lead)
    | inr e ↦
        let both : Some n ≡ Some m = sym leads ∙ (rw (← e) at lead) in
        let same : n ≡ m = cc in
        rw same at here_marked
  ];
  keeps = λ m h. keeps m (was.keeps m h);
  waits = λ m h. elim (waits m h) [
    | inl k ↦ elim (was.waits m k) [ inl first ↦ inl first | inr w ↦ inr (stays m w) ]
    | inr w ↦ inr w
  ];
  stays = λ m h. stays m (was.stays m h);
  only = λ m h. elim (only m h) [
    | inl k ↦ elim (was.only m k) [ inl first ↦ inl first | inr w ↦ inr (w.0, earlier qs i 0 w.0 l w.1, w.2) ]
    | inr e ↦ inr (get_or qs i 0, here qs i 0 l, rw e leads)
  ];
}

pub meeting_none : (g : Grammar) (qs : List ℕ) (i : ℕ) {old new : List Bool} {before waiting : List ℕ} → i < length qs → ((m : ℕ) → Leads g (get_or qs i 0) m → ⊥)
    → Meeting g (take i qs) old new before waiting → Meeting g (take (i + 1) qs) old new before waiting
meeting_none g qs i l none was = record {
  marked = λ q m h lead. elim (contains_cases qs i 0 q l h) [
    | inl k ↦ was.marked q m k lead
    | inr e ↦ absurd (none m (rw (← e) at lead))
  ];
  keeps = was.keeps;
  waits = was.waits;
  stays = was.stays;
  only = λ m h. elim (was.only m h) [ inl first ↦ inl first | inr w ↦ inr (w.0, earlier qs i 0 w.0 l w.1, w.2) ];
}

-- ---- the nonterminals that are reached

-- what is met waits or is reached, and what is reached has met what its productions begin with
pub record Exploring (g : Grammar) (starts : List ℕ) (met : List Bool) (waiting reached : List ℕ) : Type 0 where
  pub marked : (n : ℕ) → Contains starts n → IsMarked met n
  pub waits : (m : ℕ) → IsMarked met m → Contains waiting m ⊎ Contains reached m
  pub follows : (n q m : ℕ) → Contains reached n → IsRule g q n → Leads g q m → IsMarked met m
  pub sound_waiting : (m : ℕ) → Contains waiting m → IsReached g starts m
  pub sound_reached : (m : ℕ) → Contains reached m → IsReached g starts m

none_in : (x : ℕ) → Contains [] x → ⊥
none_in x h = omega (arith, h.1)

pub exploring_none : (g : Grammar) (met : List Bool) → ((m : ℕ) → IsMarked met m → ⊥) → Exploring g [] met [] []
exploring_none g met none = record {
  marked = λ n h. absurd (none_in n h);
  waits = λ m h. absurd (none m h);
  follows = λ n q m h rule lead. absurd (none_in n h);
  sound_waiting = λ m h. absurd (none_in m h);
  sound_reached = λ m h. absurd (none_in m h);
}

reached_wider : (g : Grammar) (xs ys : List ℕ) → ((n : ℕ) → Contains xs n → Contains ys n) → {m : ℕ} → IsReached g xs m → IsReached g ys m
reached_wider g xs ys wider (start h) = start (wider _ h)
reached_wider g xs ys wider (led q d rule lead) = led q (reached_wider g xs ys wider d) rule lead

pub exploring_start : (g : Grammar) (starts : List ℕ) (i n : ℕ) {old new : List Bool} {before waiting : List ℕ} → i < length starts → n ≡ get_or starts i 0
    → IsMarked new n → ((m : ℕ) → IsMarked old m → IsMarked new m) → ((m : ℕ) → IsMarked new m → IsMarked old m ⊎ Contains waiting m)
    → ((m : ℕ) → Contains before m → Contains waiting m) → ((m : ℕ) → Contains waiting m → Contains before m ⊎ (m ≡ n))
    → Exploring g (take i starts) old before [] → Exploring g (take (i + 1) starts) new waiting []
exploring_start g starts i n l at marked keeps waits stays only was = record {
  marked = λ k h. elim (contains_cases starts i 0 k l h) [
    | inl a ↦ keeps k (was.marked k a)
    | inr e ↦ rw (at ∙ e) at marked
  ];
  waits = λ m h. elim (waits m h) [
    | inl k ↦ elim (was.waits m k) [ inl w ↦ inl (stays m w) | inr none ↦ absurd (none_in m none) ]
    | inr w ↦ inl w
  ];
  follows = λ k q m h rule lead. absurd (none_in k h);
  sound_waiting = λ m h. elim (only m h) [
    | inl k ↦ reached_wider g (take i starts) (take (i + 1) starts) (λ x a. earlier starts i 0 x l a) (was.sound_waiting m k)
    | inr e ↦ start (rw (e ∙ at) (here starts i 0 l))
  ];
  sound_reached = λ m h. absurd (none_in m h);
}

pub exploring_more : (g : Grammar) (starts productions : List ℕ) (n : ℕ) (before : List ℕ) {old new : List Bool} {all waiting reached : List ℕ} → all ≡ before ++ n ∷ []
    → ((q : ℕ) → Contains productions q ↔ IsRule g q n) → ((q m : ℕ) → Contains productions q → Leads g q m → IsMarked new m)
    → ((m : ℕ) → IsMarked old m → IsMarked new m) → ((m : ℕ) → IsMarked new m → IsMarked old m ⊎ Contains waiting m)
    → ((m : ℕ) → Contains before m → Contains waiting m)
    → ((m : ℕ) → Contains waiting m → Contains before m ⊎ ((q : ℕ) × Contains productions q × Leads g q m))
    → Exploring g starts old all reached → Exploring g starts new waiting (reached ++ n ∷ [])
exploring_more g starts productions n before {reached = reached} popped exact marked keeps waits stays only was =
    let here_reached : IsReached g starts n = was.sound_waiting n (rw popped (Contains-push before n)) in
    record {
      marked = λ k h. keeps k (was.marked k h);
      waits = λ m h. elim (waits m h) [
        | inl k ↦ elim (was.waits m k) [
          | inl w ↦ elim (Contains-push_cases before n m (rw popped at w)) [
            | inl b ↦ inl (stays m b)
            | inr e ↦ inr (rw (← e) (Contains-push reached n))
          ]
          | inr r ↦ inr (Contains-append_left reached (n ∷ []) m r)
        ]
        | inr w ↦ inl w
      ];
      follows = λ k q m h rule lead. elim (Contains-push_cases reached n k h) [
        | inl r ↦ keeps m (was.follows k q m r rule lead)
        | inr e ↦ marked q m ((exact q).1 (rw e rule)) lead
      ];
      sound_waiting = λ m h. elim (only m h) [
        | inl b ↦ was.sound_waiting m (rw popped (Contains-append_left before (n ∷ []) m b))
        | inr w ↦ led w.0 here_reached ((exact w.0).0 w.1) w.2
      ];
      sound_reached = λ m h. elim (Contains-push_cases reached n m h) [
        | inl r ↦ was.sound_reached m r
        | inr e ↦ rw (← e) here_reached
      ];
    }

-- where none waits, just what is reached was reached
pub explored : (g : Grammar) (starts : List ℕ) (met : List Bool) (waiting reached : List ℕ) → ((m : ℕ) → Contains waiting m → ⊥) → Exploring g starts met waiting reached
    → (n : ℕ) → Contains reached n ↔ IsReached g starts n
explored g starts met waiting reached none was n = (was.sound_reached n, back)
  where
    from : {m : ℕ} → IsMarked met m → Contains reached m
    from {m} h = elim (was.waits m h) [ inl w ↦ absurd (none m w) | inr r ↦ r ]

    back : {m : ℕ} → IsReached g starts m → Contains reached m
    back (start h) = from (was.marked _ h)
    back (led q d rule lead) = from (was.follows _ q _ (back d) rule lead)
