-- What is written stands in the bytes that were lent.
use mathlib.Core.Path.{◌≡◌, refl, sym, ap, ◌∙◌, subst}
use mathlib.Core.List.{List}
use Prim.Native.Nat.{ℕ, ◌≤◌}
use lib.Dec.{leb}
use lib.ListN.{length}
use borrow.Author.Tests.{leb-true}
use Rattle.lr1_base.specs.repr.Reply.{Reply, answered, refused}
use Rattle.lr1_base.specs.repr.Meaning.{Table}
use Rattle.lr1_base.proofs.repr.Lists.{cases}
use Rattle.table.specs.Checked.{Checked, Accepted, Refused as NotAccepted}
use Rattle.table.specs.Decoded.{meaning}
use Rattle.table.specs.Refusals.{check_of}
use Rattle.yacc_writer.specs.text.Text.{ascending, text_of}
use Rattle.yacc_writer.specs.text.Outcome.{Outcome, written_of, write_of}

unfoldable Fits : ℕ → Reply ℕ → Type 0
Fits room (answered n) = n ≤ room
Fits room (refused n r) = Unit {0}

module _ (text : List ℕ) where
  abbrev FitsIn : Outcome → Type 0
  FitsIn o = Fits (length text) o.answer

  written : (T : Table) → FitsIn (written_of T text)
  unfolding Fits written_of
  written T = cases (ascending 0 T.nonterminals)
      (λ a. cases (leb (length (text_of T)) (length text)) (λ l. rw (a, l, written_of) (leb-true _ _ l)) (λ l. rw (a, l, written_of) tt))
      (λ a. rw (a, written_of) tt)

  wrote : (t : List ℕ) (c : Checked) → check_of t ≡ c → FitsIn (write_of t text)
  unfolding Fits write_of
  wrote t Accepted e = rw (e, write_of) (written (meaning t))
  wrote t (NotAccepted n r) e = rw (e, write_of) tt

  pub bytes_fit : (t new : List ℕ) (r : Reply ℕ) (n : ℕ) → record { answer = r; text = new } ≡ write_of t text → r ≡ answered n → n ≤ length text
  unfolding Fits
  bytes_fit t new r n e h = subst (Fits (length text)) (ap (λ (o : Outcome). o.answer) (sym e) ∙ h) (wrote t (check_of t) refl)
