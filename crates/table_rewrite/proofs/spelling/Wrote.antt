-- What `respell_of` of specs/spelling/Outcome promises: when it writes, that what it writes is accepted and written again as it is, equal words for equal meaning only.
use mathlib.Core.Path.{◌≡◌, refl, sym, ap, ◌∙◌}
use mathlib.Core.Bool.{true, false}
use mathlib.Core.List.{List, ◌++◌}
use mathlib.Core.Logic.{◌↔◌}
use Prim.Native.Nat.{ℕ, ◌*◌, ◌/◌, ◌≤◌}
use native.Mathlib.Omega.{arith}
use lib.ListN.{length, take, drop}
use lib.Seq.{take_at}
use borrow.Author.Tests.{leb-true, le-leb}
use Rattle.lr1_base.specs.repr.Reply.{answered, refused}
use Rattle.lr1_base.specs.repr.Sizes.{record_limit}
use Rattle.lr1_base.specs.words.Lent.{in_front}
use Rattle.lr1_base.specs.repr.Meaning.{Table}
use Rattle.lr1_base.proofs.repr.Lists.{cases}
use Rattle.table.specs.Checked.{Checked, Accepted, Refused}
use Rattle.table.specs.Decoded.{meaning}
use Rattle.table.specs.Refusals.{check_of}
use Rattle.table_rewrite.specs.spelling.Spelled.{records_of, spell, SameTable}
use Rattle.table_rewrite.specs.spelling.Outcome.{Outcome, room_for, written_of, respell_of}
use Rattle.table_rewrite.proofs.spelling.Places.{spell-length}
use Rattle.table_rewrite.proofs.spelling.Same.{equal_words, meaning_again, accepted_again}
use Rattle.lr1_base.proofs.laws.Bools.{and-true, both}

pub room_is : (T : Table) (out : List ℕ) → room_for T out ≡ true → (records_of T ≤ record_limit) × (records_of T ≤ length out / 4)
unfolding room_for
room_is T out e = let p = and-true _ _ e in (leb-true (records_of T) record_limit p.0, leb-true (records_of T) (length out / 4) p.1)

pub room_for_lem : (T : Table) (out : List ℕ) → records_of T ≤ record_limit → records_of T ≤ length out / 4 → room_for T out ≡ true
unfolding room_for
room_for_lem T out a b = both _ _ (le-leb (records_of T) record_limit a) (le-leb (records_of T) (length out / 4) b)

-- the words behind the records stay
pub front_is : (T : Table) (out : List ℕ) → in_front (spell T) out ≡ spell T ++ drop (4 * records_of T) out
unfolding in_front
front_is T out = ap (λ (n : ℕ). spell T ++ drop n out) (spell-length T)

-- the three ways

module _ (t out : List ℕ) where
  pub respell-refused : (n r : ℕ) → check_of t ≡ Refused n r → respell_of t out ≡ record { answer = refused n r; out = out }
  unfolding respell_of
  respell-refused n r e = rw (e, respell_of)

  pub respell_accepted : check_of t ≡ Accepted → respell_of t out ≡ written_of (meaning t) out
  unfolding respell_of
  respell_accepted e = rw (e, respell_of)

  pub respell-full : check_of t ≡ Accepted → room_for (meaning t) out ≡ false → respell_of t out ≡ record { answer = refused 17 0; out = out }
  unfolding respell_of written_of
  respell-full e f = rw (e, respell_of, f, written_of)

  pub respell-written : check_of t ≡ Accepted → room_for (meaning t) out ≡ true
      → respell_of t out ≡ record { answer = answered (records_of (meaning t)); out = spell (meaning t) ++ drop (4 * records_of (meaning t)) out }
  unfolding respell_of written_of
  respell-written e f = rw (e, respell_of, f, written_of) (ap (λ (ws : List ℕ). record { answer = answered (records_of (meaning t)); out = ws }) (front_is (meaning t) out))

-- a table that is written is accepted, has room, and its words are its spelling

pub record Wrote (t out ws : List ℕ) (n : ℕ) : Type 0 where
  pub accepted : check_of t ≡ Accepted
  pub count : n ≡ records_of (meaning t)
  pub few : n ≤ record_limit
  pub room : n ≤ length out / 4
  pub words : take (4 * n) ws ≡ spell (meaning t)
  pub all : ws ≡ spell (meaning t) ++ drop (4 * n) out

apart-answer : (n m r : ℕ) → answered n ≡ refused m r → ⊥
apart-answer n m r e = let z : ◌≡◌ {A = ℕ} 0 1 = cc in omega arith

same_answer : (n m : ℕ) → answered n ≡ answered m → n ≡ m
same_answer n m e = cc

pub wrote : (t out ws : List ℕ) (n : ℕ) → respell_of t out ≡ record { answer = answered n; out = ws } → Wrote t out ws n
wrote t out ws n e = go (check_of t) refl
  where
    done : check_of t ≡ Accepted → room_for (meaning t) out ≡ true → Wrote t out ws n
    done a f =
        let q = sym e ∙ respell-written t out a f in
        let en : n ≡ records_of (meaning t) = same_answer n (records_of (meaning t)) (ap (λ (o : Outcome). o.answer) q) in
        let ew : ws ≡ spell (meaning t) ++ drop (4 * records_of (meaning t)) out = ap (λ (o : Outcome). o.out) q in
        let m = room_is (meaning t) out f in
        let l = spell-length (meaning t) in
        record {
          accepted = a;
          count = en;
          few = omega (arith, m.0);
          room = omega (arith, m.1);
          words = ap (take (4 * n)) ew ∙ take_at (spell (meaning t)) (drop (4 * records_of (meaning t)) out) (4 * n) (omega arith);
          all = ew ∙ ap (λ (k : ℕ). spell (meaning t) ++ drop (4 * k) out) (sym en);
        }

    go : (c : Checked) → check_of t ≡ c → Wrote t out ws n
    go Accepted a =
        cases (room_for (meaning t) out)
        (λ f. done a f)
        (λ f. absurd (apart-answer n 17 0 (ap (λ (o : Outcome). o.answer) (sym e ∙ respell-full t out a f))))
    go (Refused m r) a = absurd (apart-answer n m r (ap (λ (o : Outcome). o.answer) (sym e ∙ respell-refused t out m r a)))

-- what is written is accepted and means the same
module _ (t out ws : List ℕ) (n : ℕ) (e : respell_of t out ≡ record { answer = answered n; out = ws }) where
  pub written_accepted : check_of (take (4 * n) ws) ≡ Accepted
  written_accepted = let w = wrote t out ws n e in rw w.words (accepted_again t w.accepted (omega (arith, w.few, w.count)))

  pub written-meaning : meaning (take (4 * n) ws) ≡ meaning t
  written-meaning = let w = wrote t out ws n e in rw w.words (meaning_again t w.accepted)

  -- writing twice changes nothing
  pub written_again : (out' : List ℕ) → n ≤ length out' / 4 → respell_of (take (4 * n) ws) out' ≡ record { answer = answered n; out = take (4 * n) ws ++ drop (4 * n) out' }
  written_again out' h =
      let w = wrote t out ws n e in
      let c : records_of (meaning (take (4 * n) ws)) ≡ n = ap records_of written-meaning ∙ sym w.count in
      respell-written (take (4 * n) ws) out' written_accepted
      (room_for_lem (meaning (take (4 * n) ws)) out' (omega (arith, w.few)) (omega arith))
      ∙ rw (c, written-meaning, ← w.words)

-- two tables that are written give equal words exactly if they have the same counts, productions, spans, items and edges
pub written_equal : (t u out₁ out₂ ws vs : List ℕ) (n m : ℕ) → respell_of t out₁ ≡ record { answer = answered n; out = ws } → respell_of u out₂ ≡ record { answer = answered m; out = vs }
    → (take (4 * n) ws ≡ take (4 * m) vs) ↔ SameTable (meaning t) (meaning u)
written_equal t u out₁ out₂ ws vs n m a b =
    let v = wrote t out₁ ws n a in
    let w = wrote u out₂ vs m b in
    let q = equal_words t u v.accepted w.accepted in
    (λ e. q.0 (sym v.words ∙ e ∙ w.words), λ S. v.words ∙ q.1 S ∙ sym w.words)
