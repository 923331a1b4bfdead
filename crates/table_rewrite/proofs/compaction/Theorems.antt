-- What taking back unused records keeps (docs/RULES.md, "Unused records"): the whole slice, and its front of the records that are left, are accepted and mean the same.
use mathlib.Core.Path.{◌≡◌, ap, ◌∙◌}
use mathlib.Core.List.{List}
use Prim.Native.Nat.{ℕ, ◌*◌, ◌≤◌}
use native.Mathlib.Omega.{arith}
use Rattle.lr1_base.proofs.repr.Lists.{cases}
use Rattle.table.specs.Checked.{Accepted}
use Rattle.table.specs.Words.{records, loose}
use Rattle.table.specs.Decoded.{meaning}
use Rattle.table.specs.Refusals.{check_of}
use Rattle.table.proofs.Accepted.{accepts, areas_of}
use Rattle.table_rewrite.specs.compaction.Compaction.{reached, rank, count_of, compacted_to, compacted}
use Rattle.table_rewrite.proofs.compaction.Ranks.{rank_bound}
use Rattle.table_rewrite.proofs.compaction.Moves.{MovedTo, reached-place}
use Rattle.table_rewrite.proofs.compaction.Meaning.{moved-meaning}
use Rattle.table_rewrite.proofs.compaction.Accepted.{moved_accepted}
use lib.ListN.{take}
use Rattle.table_rewrite.proofs.compaction.Placed.{moved_to, take_to_lem}

-- no more records than there were
pub count_most : (t : List ℕ) → check_of t ≡ Accepted → count_of t ≤ records t
unfolding count_of rank
count_most t e =
    let a = (accepts t e).areas in
    let b = rank_bound (reached t) (loose t) (records t) (λ x h. cases (reached t x) (λ k. let p = reached-place t x k in absurd (omega (arith, p.0))) (λ k. k)) a in
    omega arith

module _ (t : List ℕ) (e : check_of t ≡ Accepted) where
  -- any front that has all that is left
  pub front-moved : (n : ℕ) → count_of t ≤ n → n ≤ records t → MovedTo t (compacted_to n t)
  front-moved n a b = let l = areas_of t in moved_to t n a b (omega arith)

  pub front_accepted : (n : ℕ) → count_of t ≤ n → n ≤ records t → check_of (compacted_to n t) ≡ Accepted
  front_accepted n a b = moved_accepted t (compacted_to n t) (accepts t e) (front-moved n a b)

  pub front-meaning : (n : ℕ) → count_of t ≤ n → n ≤ records t → meaning (compacted_to n t) ≡ meaning t
  front-meaning n a b = moved-meaning t (compacted_to n t) (accepts t e) (front-moved n a b)

  -- the whole slice
  pub compacted_accepted : check_of (compacted t) ≡ Accepted
  unfolding compacted
  compacted_accepted = front_accepted (records t) (count_most t e) (omega arith)

  pub compacted-meaning : meaning (compacted t) ≡ meaning t
  unfolding compacted
  compacted-meaning = front-meaning (records t) (count_most t e) (omega arith)

  -- its front of the records that are left
  pub compacted-front : take (4 * count_of t) (compacted t) ≡ compacted_to (count_of t) t
  unfolding compacted
  compacted-front = take_to_lem t (count_of t) (records t) (count_most t e)

  pub compacted-front_accepted : check_of (take (4 * count_of t) (compacted t)) ≡ Accepted
  compacted-front_accepted = ap check_of compacted-front ∙ front_accepted (count_of t) (omega arith) (count_most t e)

  pub compacted-front-meaning : meaning (take (4 * count_of t) (compacted t)) ≡ meaning t
  compacted-front-meaning = ap meaning compacted-front ∙ front-meaning (count_of t) (omega arith) (count_most t e)
