-- The theorems over what the call answers and leaves (specs/compaction/Outcome).
use mathlib.Core.Path.{◌≡◌, refl, sym, ap, ◌∙◌}
use mathlib.Core.List.{List}
use Prim.Native.Nat.{ℕ, ◌*◌}
use native.Mathlib.Omega.{arith}
use lib.ListN.{length, take}
use Rattle.lr1_base.specs.repr.Reply.{answered, refused}
use Rattle.table.specs.Checked.{Checked, Accepted, Refused}
use Rattle.table.specs.Words.{records}
use Rattle.table.specs.Decoded.{meaning}
use Rattle.table.specs.Refusals.{check_of}
use Rattle.table.proofs.Accepted.{accepts}
use Rattle.table_rewrite.specs.compaction.Compaction.{count_of, compacted}
use Rattle.table_rewrite.specs.compaction.Outcome.{Outcome, compact_of}
use Rattle.table_rewrite.proofs.compaction.Placed.{to_length}
use Rattle.table_rewrite.proofs.compaction.Theorems.{compacted_accepted, compacted-meaning, compacted-front_accepted, compacted-front-meaning}
use Rattle.table_rewrite.proofs.compaction.Again.{compacted_again, count_again, compacted-front_again, count_front_again}

pub accepted_outcome : (t : List ℕ) → check_of t ≡ Accepted → compact_of t ≡ record { answer = answered (count_of t); table = compacted t }
unfolding compact_of
accepted_outcome t e = rw (e, compact_of)

-- a refused table is left as it was
pub refused-outcome : (t : List ℕ) (n r : ℕ) → check_of t ≡ Refused n r → compact_of t ≡ record { answer = refused n r; table = t }
unfolding compact_of
refused-outcome t n r e = rw (e, compact_of)

-- what an answered count says of the words left
pub record Left (t : List ℕ) (n : ℕ) (ws : List ℕ) : Type 0 where
  pub accepted : check_of t ≡ Accepted
  pub count : n ≡ count_of t
  pub words : ws ≡ compacted t

pub left : (t : List ℕ) (n : ℕ) (ws : List ℕ) → compact_of t ≡ record { answer = answered n; table = ws } → Left t n ws
left t n ws e = go (check_of t) refl
  where
    go : (c : Checked) → check_of t ≡ c → Left t n ws
    go Accepted q =
        let o = sym (accepted_outcome t q) ∙ e in
        let a : answered (count_of t) ≡ answered n = ap (λ (z : Outcome). z.answer) o in
        record { accepted = q; count = sym (same a); words = sym (ap (λ (z : Outcome). z.table) o) }
      where
        same : {m k : ℕ} → answered m ≡ answered k → m ≡ k
        same a = cc
    go (Refused m r) q =
        let o = sym (refused-outcome t m r q) ∙ e in
        let a : refused m r ≡ answered n = ap (λ (z : Outcome). z.answer) o in
        absurd (apart a)
      where
        apart : {m r n : ℕ} → refused m r ≡ answered n → ⊥
        apart a = let z : ◌≡◌ {A = ℕ} 0 1 = cc in omega arith

module _ (t : List ℕ) (n : ℕ) (ws : List ℕ) (e : compact_of t ≡ record { answer = answered n; table = ws }) where
  -- the slice keeps its length
  pub left-length : length ws ≡ length t
  unfolding compacted
  left-length =
      let L = left t n ws e in
      let a = (accepts t L.accepted).words in
      let l = to_length t (records t) in
      ap length L.words ∙ l ∙ sym a

  pub left_accepted : check_of ws ≡ Accepted
  left_accepted = let L = left t n ws e in ap check_of L.words ∙ compacted_accepted t L.accepted

  pub left-meaning : meaning ws ≡ meaning t
  left-meaning = let L = left t n ws e in ap meaning L.words ∙ compacted-meaning t L.accepted

  front_is : take (4 * n) ws ≡ take (4 * count_of t) (compacted t)
  front_is = let L = left t n ws e in rw (L.count, L.words)

  pub front_accepted : check_of (take (4 * n) ws) ≡ Accepted
  front_accepted = let L = left t n ws e in ap check_of front_is ∙ compacted-front_accepted t L.accepted

  pub front-meaning : meaning (take (4 * n) ws) ≡ meaning t
  front-meaning = let L = left t n ws e in ap meaning front_is ∙ compacted-front-meaning t L.accepted

  made : (m k : ℕ) (vs us : List ℕ) → m ≡ k → vs ≡ us → ◌≡◌ {A = Outcome} (record { answer = answered m; table = vs }) (record { answer = answered k; table = us })
  made m k vs us p q = rw (p, q)

  -- done again, nothing more moves
  pub left_again : compact_of ws ≡ record { answer = answered n; table = ws }
  left_again =
      let L = left t n ws e in
      accepted_outcome ws left_accepted
      ∙ made (count_of ws) n (compacted ws) ws
      (ap count_of L.words ∙ count_again t L.accepted ∙ sym L.count)
      (ap compacted L.words ∙ compacted_again t L.accepted ∙ sym L.words)

  pub front_again : compact_of (take (4 * n) ws) ≡ record { answer = answered n; table = take (4 * n) ws }
  front_again =
      let L = left t n ws e in
      accepted_outcome (take (4 * n) ws) front_accepted
      ∙ made (count_of (take (4 * n) ws)) n (compacted (take (4 * n) ws)) (take (4 * n) ws)
      (ap count_of front_is ∙ count_front_again t L.accepted ∙ sym L.count)
      (ap compacted front_is ∙ compacted-front_again t L.accepted ∙ sym front_is)
