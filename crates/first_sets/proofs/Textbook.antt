-- Sets that come with derivations, and to which no production adds, are the textbook's.
use Rattle.std.proofs.Common.{ℕ, zero, suc, ◌<◌, ◌⊎◌, inl, inr, List, [], ◌∷◌, ◌++◌, length, get_or, refl, arith, append-nil, ◌↔◌, All}
use Rattle.std.proofs.lemmas.List.Elements.{All-contains}
use Rattle.grammar.specs.declared.symbol.Symbol.{Symbol}
use Rattle.grammar.specs.declared.symbol.Symbol.TheVariants.{Terminal, Nonterminal}
use Rattle.grammar.specs.declared.symbol.Production.{Production}
use Rattle.grammar.specs.Derives.{HasRule, Derives, done, step, Begins, Vanishes}
use Rattle.grammar.proofs.Derivations.{derives_trans, derives_before, derives_rule}
use Rattle.first_sets.specs.declared.sets.FirstSets.{FirstSets}
use Rattle.first_sets.specs.Sets.{AreFirstSets, IsSound, IsClosedFor, SymbolNull, AllNull, SymbolFirst, InFirst}

-- no production adds anything
abbrev pub IsClosed : List Production → FirstSets → Type 0
IsClosed ps s = (left : ℕ) (right : List Symbol) → HasRule ps left right → IsClosedFor s left right

module _ (s : FirstSets) where
  -- ---- joined lists

  null-append : (xs ys : List Symbol) → AllNull s xs → AllNull s ys → AllNull s (xs ++ ys)
  null-append [] ys a b = b
  null-append (x ∷ xs) ys a b = (a.0, null-append xs ys a.1 b)

  null-append_left : (xs ys : List Symbol) → AllNull s (xs ++ ys) → AllNull s xs
  null-append_left [] ys a = tt
  null-append_left (x ∷ xs) ys a = (a.0, null-append_left xs ys a.1)

  null-append_right : (xs ys : List Symbol) → AllNull s (xs ++ ys) → AllNull s ys
  null-append_right [] ys a = a
  null-append_right (x ∷ xs) ys a = null-append_right xs ys a.1

  first-append_cases : (xs ys : List Symbol) (t : ℕ) → InFirst s (xs ++ ys) t → InFirst s xs t ⊎ (AllNull s xs × InFirst s ys t)
  first-append_cases [] ys t h = inr (tt, h)
  first-append_cases (x ∷ xs) ys t (inl h) = inl (inl h)
  first-append_cases (x ∷ xs) ys t (inr h) =
      elim (first-append_cases xs ys t h.1) [ inl k ↦ inl (inr (h.0, k)) | inr k ↦ inr ((h.0, k.0), k.1) ]

  first-append_left : (xs ys : List Symbol) (t : ℕ) → InFirst s xs t → InFirst s (xs ++ ys) t
  first-append_left [] ys t h = absurd h
  first-append_left (x ∷ xs) ys t (inl h) = inl h
  first-append_left (x ∷ xs) ys t (inr h) = inr (h.0, first-append_left xs ys t h.1)

  first-append_right : (xs ys : List Symbol) (t : ℕ) → AllNull s xs → InFirst s ys t → InFirst s (xs ++ ys) t
  first-append_right [] ys t a h = h
  first-append_right (x ∷ xs) ys t a h = inr (a.0, first-append_right xs ys t a.1 h)

  -- ---- complete: what a list derives says nothing that the list's own symbols do not

  module _ (ps : List Production) (closed : IsClosed ps s) where
    derived_null : {xs ys : List Symbol} → Derives ps xs ys → AllNull s ys → AllNull s xs
    derived_null done a = a
    derived_null (step us vs l r h e d) a =
        let m = derived_null d a in
        let rest = null-append_right us (r ++ vs) m in
        rw e (null-append us (Nonterminal l ∷ vs) (null-append_left us (r ++ vs) m) ((closed l r h).null (null-append_left r vs rest), null-append_right r vs rest))

    derived_first : {xs ys : List Symbol} → Derives ps xs ys → (t : ℕ) → InFirst s ys t → InFirst s xs t
    derived_first done t f = f
    derived_first (step us vs l r h e d) t f =
        rw e (elim (first-append_cases us (r ++ vs) t (derived_first d t f)) [
          | inl k ↦ first-append_left us (Nonterminal l ∷ vs) t k
          | inr k ↦
              first-append_right us (Nonterminal l ∷ vs) t k.0
              (elim (first-append_cases r vs t k.1) [ inl i ↦ inl ((closed l r h).first t i) | inr i ↦ inr ((closed l r h).null i.0, i.1) ])
        ])

  -- ---- sound: what the sets say of a list is derived

  module _ (ps : List Production) (sound : IsSound ps s) where
    pub null_sound : (xs ys : List Symbol) → AllNull s xs → Derives ps (xs ++ ys) ys
    null_sound [] ys a = done
    null_sound (Terminal t ∷ xs) ys a = absurd a.0
    null_sound (Nonterminal n ∷ xs) ys a = derives_trans (derives_before (xs ++ ys) (sound.null n a.0)) (null_sound xs ys a.1)

    pub first_sound : (xs : List Symbol) (t : ℕ) → InFirst s xs t → Begins ps xs t
    first_sound [] t h = absurd h
    first_sound (Terminal u ∷ xs) t (inl e) = (xs, rw e done)
    first_sound (Terminal u ∷ xs) t (inr h) = absurd h.0
    first_sound (Nonterminal n ∷ xs) t (inl h) = let b = sound.first n t h in (b.0 ++ xs, derives_before xs b.1)
    first_sound (Nonterminal n ∷ xs) t (inr h) = let b = first_sound xs t h.1 in (b.0, derives_trans (derives_before xs (sound.null n h.0)) b.1)

  -- ---- by places

  pub all_null : (xs : List Symbol) → ((j : ℕ) → j < length xs → SymbolNull s (get_or xs j (Terminal 0))) → AllNull s xs
  all_null [] h = tt
  all_null (x ∷ xs) h = (h 0 (omega arith), all_null xs (λ j l. h (suc j) (omega arith)))

  pub null_place : (xs : List Symbol) → AllNull s xs → (j : ℕ) → j < length xs → SymbolNull s (get_or xs j (Terminal 0))
  null_place [] a j l = absurd (omega arith)
  null_place (x ∷ xs) a zero l = a.0
  null_place (x ∷ xs) a (suc j) l = null_place xs a.1 j (omega arith)

  pub first_at : (xs : List Symbol) (t i : ℕ) → i < length xs → ((j : ℕ) → j < i → SymbolNull s (get_or xs j (Terminal 0))) → SymbolFirst s (get_or xs i (Terminal 0)) t
      → InFirst s xs t
  first_at [] t i l h f = absurd (omega arith)
  first_at (x ∷ xs) t zero l h f = inl f
  first_at (x ∷ xs) t (suc i) l h f = inr (h 0 (omega arith), first_at xs t i (omega arith) (λ j k. h (suc j) (omega arith)) f)

  -- where a terminal of a list's set comes from
  pub record Place (xs : List Symbol) (t : ℕ) : Type 0 where
    pub index : ℕ
    pub within : index < length xs
    pub first : SymbolFirst s (get_or xs index (Terminal 0)) t
    pub before : (j : ℕ) → j < index → SymbolNull s (get_or xs j (Terminal 0))

  pub place_of : (xs : List Symbol) (t : ℕ) → InFirst s xs t → Place xs t
  place_of [] t h = absurd h
  place_of (x ∷ xs) t (inl h) = record { index = 0; within = omega arith; first = h; before = λ j l. absurd (omega arith) }
  place_of (x ∷ xs) t (inr h) =
      let p = place_of xs t h.1 in
      record { index = suc p.index; within = omega arith; first = p.first; before = behind p }
    where
      behind : (p : Place xs t) → (j : ℕ) → j < suc p.index → SymbolNull s (get_or (x ∷ xs) j (Terminal 0))
      behind p zero l = h.0
      behind p (suc j) l = p.before j (omega arith)

-- ---- the textbook's, both ways

pub textbook : (ps : List Production) (s : FirstSets) → IsSound ps s → IsClosed ps s → AreFirstSets ps s
textbook ps s sound closed = record {
  null = λ n. (sound.null n, λ d. (derived_null s ps closed d tt).0);
  first = λ n t. (sound.first n t, λ b. elim (derived_first s ps closed b.1 t (inl refl)) [ inl h ↦ h | inr h ↦ absurd h.1 ]);
}

sound_of : (ps : List Production) (s : FirstSets) → AreFirstSets ps s → IsSound ps s
sound_of ps s are = record { null = λ n. (are.null n).0; first = λ n t. (are.first n t).0 }

closed_of : (ps : List Production) (s : FirstSets) → AreFirstSets ps s → IsClosed ps s
closed_of ps s are l r h = record {
  null = λ a. (are.null l).1 (derives_trans (rule h) (ends (null_sound s ps (sound_of ps s are) r [] a)));
  first = λ t f. let b = first_sound s ps (sound_of ps s are) r t f in (are.first l t).1 (b.0, derives_trans (rule h) b.1);
}
  where
    rule : HasRule ps l r → Derives ps (Nonterminal l ∷ []) r
    rule h = rw append-nil at (derives_rule l r [] h)

    ends : Derives ps (r ++ []) [] → Derives ps r []
    ends d = rw append-nil at d

pub null_exact : (ps : List Production) (s : FirstSets) → AreFirstSets ps s → (xs : List Symbol) → AllNull s xs ↔ Vanishes ps xs
null_exact ps s are xs =
    (λ a. rw append-nil at (null_sound s ps (sound_of ps s are) xs [] a), λ d. derived_null s ps (closed_of ps s are) d tt)

pub first_exact : (ps : List Production) (s : FirstSets) → AreFirstSets ps s → (xs : List Symbol) (t : ℕ) → InFirst s xs t ↔ Begins ps xs t
first_exact ps s are xs t = (first_sound s ps (sound_of ps s are) xs t, λ b. derived_first s ps (closed_of ps s are) b.1 t (inl refl))

pub closed_listed : (ps : List Production) (s : FirstSets) → All (λ (p : Production). IsClosedFor s p.left p.right.items) ps → IsClosed ps s
closed_listed ps s all l r h = rw (← h.left_side, ← h.right_side) (All-contains (λ (p : Production). IsClosedFor s p.left p.right.items) ps h.production all h.listed)
