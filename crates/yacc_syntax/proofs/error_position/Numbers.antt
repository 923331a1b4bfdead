-- The automaton's steps in code.
use Prim.Native.Nat.{ℕ, ◌+◌, ◌<◌}
use mathlib.Core.Bool.{false}
use mathlib.Core.Path.{◌≡◌, refl, sym, ap, ◌∙◌}
use mathlib.Core.List.{List}
use lib.ListN.{length, get_or, take}
use lib.Seq.{take-length}
use native.Mathlib.Numerals.{add-one}
use Rattle.yacc_syntax.specs.text.Grammar.{Kind, kind_of}
use Rattle.yacc_syntax.specs.text.Forward.{Mode}
use Rattle.yacc_syntax.specs.recognizer.Accepted.{mode_of}
use Rattle.yacc_syntax.specs.declared.recognizer.Mode.{Mode as Mode'}
use Rattle.yacc_syntax.specs.declared.recognizer.Mode.TheVariants.{Top, Wanted, Listed, Starting, Ruled, Sided, Bodied, Done, Dead}
use Rattle.yacc_syntax.specs.error_position.Automaton.{State, at, step_kind, step_signed, step, fed, initial}
use Rattle.yacc_syntax.specs.error_position.Stray.{IsStray}
use Rattle.yacc_syntax.specs.error_position.Numbers.{part_of, state_of, Stands}
use Rattle.yacc_syntax.specs.declared.error_position.Stage.{Stage}
use Rattle.yacc_syntax.proofs.error_position.Live.{is_dead, fed-more, stray_dies, stray-ends}

-- a mode that is not dead is live
pub live_mode : (m : Mode') → (m ≡ Dead → ⊥) → is_dead (mode_of m) ≡ false
unfolding is_dead
live_mode (Top s) n = refl
live_mode (Wanted s) n = refl
live_mode (Listed s) n = refl
live_mode Starting n = refl
live_mode Ruled n = refl
live_mode Sided n = refl
live_mode Bodied n = refl
live_mode Done n = refl
live_mode Dead n = absurd (n refl)

-- the first byte of a piece, by its kind
pub by_kind : (r : Stage) (b : ℕ) (m : Mode) (κ : Kind) → kind_of b ≡ κ → Stands r (step_kind κ m) → Stands r (step_kind (kind_of b) m)
by_kind r b m κ e S = rw e S

-- the byte behind a `%`
pub by_sign : (r : Stage) (b k : ℕ) (m : Mode) → b ≡ k → Stands r (step_signed m k) → Stands r (step_signed m b)
by_sign r b k m e S = rw e S

-- a turn of the loop
state_is : (r : Stage) (s : State) → Stands r s → state_of r ≡ s
state_is r s S = ap (λ (m : Mode). at m (part_of r.part)) S.mode_is ∙ ap (at s.mode) S.part_is

module _ (t : List ℕ) (i : ℕ) (s : Stage) (h : i < length t) (inv : state_of s ≡ fed initial (take i t)) (r : Stage) (S : Stands r (step (state_of s) (get_or t i 0))) where
  pub turn : state_of r ≡ fed initial (take (i + 1) t)
  turn = state_is r (step (state_of s) (get_or t i 0)) S ∙ ap (λ (q : State). step q (get_or t i 0)) inv ∙ sym (fed-more t i h) ∙ ap (λ (k : ℕ). fed initial (take k t)) (sym (add-one i))

  pub turn_dies : is_dead (mode_of s.mode) ≡ false → r.mode ≡ Dead → IsStray t i
  turn_dies l e =
      stray_dies t i h
      (ap (λ (q : State). is_dead q.mode) (sym inv) ∙ l)
      (ap (λ (k : ℕ). (fed initial (take k t)).mode) (sym (add-one i)) ∙ ap (λ (q : State). q.mode) (sym turn) ∙ ap mode_of e)

pub turn_ends : (t : List ℕ) (i : ℕ) (s : Stage) → i ≡ length t → is_dead (mode_of s.mode) ≡ false → state_of s ≡ fed initial (take i t) → IsStray t (length t)
turn_ends t i s e l inv =
    let f : fed initial (take i t) ≡ fed initial t = ap (λ (k : ℕ). fed initial (take k t)) e ∙ ap (fed initial) (take-length t) in
    stray-ends t (ap (λ (q : State). is_dead q.mode) (sym (inv ∙ f)) ∙ l)
