-- What is read and what is written of it stands in the words that were lent; what is read can be given a start production.
use mathlib.Core.Path.{◌≡◌, sym, ap, ◌∙◌, subst}
use mathlib.Core.List.{List}
use Prim.Native.Nat.{ℕ, ◌*◌, ◌/◌, ◌≤◌}
use native.Mathlib.Omega.{arith}
use lib.Dec.{leb}
use lib.ListN.{length, take}
use borrow.Author.Tests.{leb-true}
use Rattle.lr1_base.specs.repr.Reply.{Reply, answered, refused}
use Rattle.lr1_base.specs.repr.Meaning.{Table}
use Rattle.lr1_base.proofs.repr.Lists.{cases}
use Rattle.table.specs.Checked.{Accepted}
use Rattle.table.specs.Decoded.{meaning}
use Rattle.table.specs.Refusals.{check_of}
use Rattle.table_rewrite.specs.spelling.Spelled.{records_of}
use Rattle.table_rewrite.specs.start_production.Started.{Outcome as Started, Startable, is_start_needed, full, started_in, started_of}
use Rattle.table_rewrite.specs.declared.start_production.Started.{Started as Start}
use Rattle.yacc_reader.specs.parsed_file.Outcome.{read_as, read_of}
use Rattle.yacc_reader.specs.declared.parsed_file.Reading.{Reading}
use Rattle.yacc_reader.proofs.parsed_file.Read.{front_accepted}
use Rattle.yacc_reader.proofs.Startable.{read_startable, read_fits}

unfoldable Few : ℕ → Reply Start → Type 0
Few room (answered s) = s.records ≤ room
Few room (refused n r) = Unit {0}

module _ (out : List ℕ) where
  abbrev FewIn : Started → Type 0
  FewIn o = Few (length out / 4) o.answer

  in_room : (U : Table) (p : ℕ) → FewIn (started_in U p out)
  unfolding Few started_in
  in_room U p = cases (leb (records_of U) (length out / 4)) (λ l. rw (l, started_in) (leb-true _ _ l)) (λ l. rw (l, started_in) tt)

  few : (T : Table) (n : ℕ) → FewIn (started_of T n out)
  unfolding Few started_of
  few T n = cases (is_start_needed T n)
      (λ s. cases (full T) (λ f. rw (s, f, started_of) tt) (λ f. rw (s, f, started_of) (in_room _ _)))
      (λ s. rw (s, started_of) (in_room _ _))

  pub few_started : (T : Table) (n : ℕ) (ws : List ℕ) (a : Reply Start) (s : Start) → record { answer = a; out = ws } ≡ started_of T n out → a ≡ answered s → s.records * 4 ≤ length out
  unfolding Few
  few_started T n ws a s e h = let f = subst (Few (length out / 4)) (ap (λ (o : Started). o.answer) (sym e) ∙ h) (few T n) in omega (arith, f)

-- a text that was read
module _ (text table places ws vs : List ℕ) (a : Reply Reading) (r : Reading) (e : record { answer = a; table = ws; places = vs } ≡ read_of text table places) (h : a ≡ answered r) where
  was : read_of text table places ≡ record { answer = read_as r.records r.places r.start; table = ws; places = vs }
  was = sym e ∙ ap (λ (b : Reply Reading). record { answer = b; table = ws; places = vs }) h

  pub few_read : r.records * 4 ≤ length table
  few_read = read_fits text table places ws vs r.records r.places r.start was

  pub accepted : check_of (take (r.records * 4) ws) ≡ Accepted
  accepted = front_accepted text table places ws vs r.records r.places r.start was

  pub startable : Startable (meaning (take (r.records * 4) ws)) r.start.0
  startable = read_startable text table places ws vs r.records r.places r.start was
