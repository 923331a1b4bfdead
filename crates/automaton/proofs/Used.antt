-- Marks of the terminals by which precedence settles conflicts.
use Rattle.std.proofs.Common.{◌≡◌, ℕ, ◌+◌, ◌<◌, ◌⊎◌, ◌↔◌, inl, inr, Bool, true, false, List, length, get_or, take, sym, ◌∙◌, Some, None}
use Rattle.std.specs.Prelude.{slice_set}
use Rattle.grammar.specs.declared.grammar.Grammar.{Grammar}
use Rattle.automaton.specs.declared.resolution.Resolved.{Resolved}
use Rattle.automaton.specs.Precedence.{production_terminal}
use Rattle.automaton.specs.Reach.{IsMarked}
use Rattle.automaton.specs.Resolutions.{is_by_precedence, Uses, IsUsed}
use Rattle.automaton.proofs.Listed.{contains_cases, earlier, here}
use Rattle.automaton.proofs.Reached.{marked_set, marked_keeps, marked_cases}

pub mark_exact : (marks : List Bool) (n : ℕ) → n < length marks → (t : ℕ) → IsMarked (slice_set marks n true) t ↔ (IsMarked marks t ⊎ (t ≡ n))
mark_exact marks n l t =
    (marked_cases marks n l t, λ h. elim h [ inl k ↦ marked_keeps marks n l t k | inr e ↦ rw e (marked_set marks n l) ])

-- both terminals, or the token alone
pub uses_both : (g : Grammar) (r : Resolved) (u : ℕ) (old mid new : List Bool) (t : ℕ) → is_by_precedence r.resolution ≡ true → production_terminal g r.conflict.production ≡ Some u
    → IsMarked mid t ↔ (IsMarked old t ⊎ (t ≡ r.conflict.token)) → IsMarked new t ↔ (IsMarked mid t ⊎ (t ≡ u)) → IsMarked new t ↔ (IsMarked old t ⊎ Uses g t r)
uses_both g r u old mid new t on has first second = (
  λ h. elim (second.0 h) [
    | inl m ↦ elim (first.0 m) [ inl k ↦ inl k | inr e ↦ inr (record { settled = on; terminal = inl (sym e) }) ]
    | inr e ↦ inr (record { settled = on; terminal = inr (rw e has) })
  ],
  λ h. elim h [
    | inl k ↦ second.1 (inl (first.1 (inl k)))
    | inr u' ↦ elim u'.terminal [
      | inl e ↦ second.1 (inl (first.1 (inr (sym e))))
      | inr e ↦ let both : Some u ≡ Some t = sym has ∙ e in let same : t ≡ u = cc in second.1 (inr same)
    ]
  ],
)

pub uses_token : (g : Grammar) (r : Resolved) (old new : List Bool) (t : ℕ) → is_by_precedence r.resolution ≡ true → production_terminal g r.conflict.production ≡ None
    → IsMarked new t ↔ (IsMarked old t ⊎ (t ≡ r.conflict.token)) → IsMarked new t ↔ (IsMarked old t ⊎ Uses g t r)
uses_token g r old new t on none first = (
  λ h. elim (first.0 h) [ inl k ↦ inl k | inr e ↦ inr (record { settled = on; terminal = inl (sym e) }) ],
  λ h. elim h [
    | inl k ↦ first.1 (inl k)
    | inr u ↦ elim u.terminal [
      | inl e ↦ first.1 (inr (sym e))
      | inr e ↦ let bad : None ≡ Some t = sym none ∙ e in cc
    ]
  ],
)

pub uses_none : (g : Grammar) (r : Resolved) (marks : List Bool) (t : ℕ) → is_by_precedence r.resolution ≡ false → IsMarked marks t ↔ (IsMarked marks t ⊎ Uses g t r)
uses_none g r marks t off = (λ h. inl h, λ h. elim h [ inl k ↦ k | inr u ↦ let bad : false ≡ true = sym off ∙ u.settled in cc ])

pub used_more : (g : Grammar) (list : List Resolved) (i : ℕ) (d : Resolved) (old new : List Bool) (t : ℕ) → i < length list
    → IsMarked new t ↔ (IsMarked old t ⊎ Uses g t (get_or list i d)) → IsMarked old t ↔ IsUsed g (take i list) t → IsMarked new t ↔ IsUsed g (take (i + 1) list) t
used_more g list i d old new t l more was = (
  λ h. elim (more.0 h) [
    | inl k ↦ let b = was.0 k in record { resolved = b.resolved; listed = earlier list i d b.resolved l b.listed; uses = b.uses }
    | inr u ↦ record { resolved = get_or list i d; listed = here list i d l; uses = u }
  ],
  λ b. elim (contains_cases list i d b.resolved l b.listed) [
    | inl k ↦ more.1 (inl (was.1 (record { resolved = b.resolved; listed = k; uses = b.uses })))
    | inr e ↦ more.1 (inr (rw e b.uses))
  ],
)
