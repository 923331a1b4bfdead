-- What is written has no more records than a table may, and conflicts for which there is room.
use mathlib.Core.Path.{◌≡◌, refl, sym, ap, ◌∙◌, subst}
use mathlib.Core.Bool.{true}
use mathlib.Core.List.{List}
use Prim.Native.Nat.{ℕ, ◌*◌, ◌/◌, ◌≤◌, min}
use native.Mathlib.Omega.{arith}
use lib.Dec.{ltb}
use lib.ListN.{length}
use borrow.Author.Tests.{ltb-true}
use Rattle.lr1_base.specs.repr.Sizes.{record_limit}
use Rattle.lr1_base.specs.repr.Meaning.{Table}
use Rattle.lr1_base.specs.repr.Reply.{Reply, answered, refused}
use Rattle.lr1_base.proofs.repr.Lists.{cases}
use Rattle.table.specs.Checked.{Checked, Accepted, Refused as NotAccepted}
use Rattle.table.specs.Decoded.{meaning}
use Rattle.table.specs.Refusals.{check_of}
use Rattle.lr1_states.specs.canonical.Outcome.{Outcome, refused as stopped, full, outcome}
use Rattle.lr1_states.proofs.canonical.Refusals.{outcome-full}
use Rattle.lr1_tables.specs.Outcome.{Left, build_scratch, start_is_fit, conflict_count, built_of, built_in, build_of}
use Rattle.lr1_tables.specs.declared.Built.{Built}
use Rattle.lr1_tables.proofs.Written.{build-room}
use Rattle.lr1_base.proofs.laws.Bools.{and-true}

unfoldable Few : ℕ → ℕ → Reply Built → Type 0
Few room words (answered b) = (b.records ≤ min room record_limit) × (5 * b.conflicts ≤ words)
Few room words (refused n r) = Unit {0}

module _ (t : List ℕ) (start : ℕ) (scratch out conflicts : List ℕ) where
  abbrev T : Table
  T = meaning t

  abbrev FewOf : Left → Type 0
  FewOf l = Few (length out / 4) (length conflicts) l.answer

  in_room : check_of t ≡ Accepted → start_is_fit T start ≡ true → (o : Outcome) → outcome T start (length out / 4) (length conflicts) ≡ o → FewOf (built_of T scratch out conflicts o)
  unfolding Few built_of conflict_count start_is_fit
  in_room a s (stopped n) e = tt
  in_room a s (full Rs es) e =
      (build-room t a start (length out / 4) (length conflicts) (ltb-true start (length T.productions) (and-true _ _ s).0) Rs es e, (outcome-full T start (length out / 4) (length conflicts) Rs es e).2)

  found : check_of t ≡ Accepted → FewOf (built_in T start scratch out conflicts)
  unfolding Few built_of built_in
  found a = cases (ltb (length scratch) build_scratch)
      (λ l. rw (l, built_in) tt)
      (λ l. cases (start_is_fit T start) (λ s. rw (l, s, built_in) (in_room a s (outcome T start (length out / 4) (length conflicts)) refl)) (λ s. rw (l, s, built_in) tt))

  few : (c : Checked) → check_of t ≡ c → FewOf (build_of t start scratch out conflicts)
  unfolding Few build_of
  few Accepted e = rw (e, build_of) (found e)
  few (NotAccepted n r) e = rw (e, build_of) tt

  pub room-kept : (r : Reply Built) (ss os cs : List ℕ) (b : Built) → record { answer = r; scratch = ss; out = os; conflicts = cs } ≡ build_of t start scratch out conflicts → r ≡ answered b
      → (b.records ≤ record_limit) × (b.records * 4 ≤ length out) × (b.conflicts * 5 ≤ length conflicts)
  unfolding Few
  room-kept r ss os cs b e h =
      let f = subst (Few (length out / 4) (length conflicts)) (ap (λ (l : Left). l.answer) (sym e) ∙ h) (few (check_of t) refl) in
      (omega (arith, f.0), omega (arith, f.0), omega (arith, f.1))
