-- Laws of the counting of chains up to a limit.
use mathlib.Core.Path.{◌≡◌, sym, ap, ◌∙◌}
use mathlib.Core.List.{List, [], ◌∷◌}
use Prim.Native.Nat.{ℕ, ◌+◌, ◌-◌, ◌≤◌, ◌<◌, min}
use native.Mathlib.Omega.{arith}
use native.Mathlib.Decide.{ℕ_discrete}
use Rattle.std.proofs.Common.{None, Some}
use Rattle.std.specs.Iterator.{Yields}
use Rattle.std.specs.Iterator.Adapters.{take_steps, take_source, take_count}
use Rattle.std.specs.declared.iter.Take.{Take}
use lib.ListN.{length}
use Rattle.table.specs.Words.{word_at}
use Rattle.table_rewrite.specs.spelling.Spelled.{size_of}
use Rattle.table_rewrite.specs.spelling.Grown.{records_from, LooseIndex, chains_of, Heads}
use Rattle.table_rewrite.specs.spelling.Steps.{RecordStep}
use Rattle.table_rewrite.specs.declared.spelling.chain.LooseRecord.{LooseRecord}
use Rattle.table_rewrite.specs.declared.spelling.chain.RecordIter.{RecordIter}
use Rattle.table_rewrite.proofs.spelling.Reading.{records_end, records-more, chains_end, chains_more, heads_more}

-- what is left of a chain, and the first n records of it counted
abbrev left : RecordIter → List ℕ
left s = records_from s.table.words.now s.at

left-more : (s j : RecordIter) (x : LooseRecord) → RecordStep s (Some x) j → length (left s) ≡ length (left j) + 1
left-more s j x h =
    let m = records-more s.table.words.now s.table.accepted s.at h.1.0 s.on x.next h.1.2 in
    let l = ap length m in
    let e : left j ≡ records_from s.table.words.now x.next = λ i. records_from (h.0 i) (h.1.1 i) in
    let k = ap length e in
    omega (arith, l, k)

pub taken : (xs : List LooseRecord) (s t u : Take RecordIter) → Yields (take_steps RecordStep) s xs t → take_steps RecordStep t None u → length xs ≡ min (take_count s) (length (left (take_source s)))
taken [] s t u y e = go (ℕ_discrete (take_count t) 0)
  where
    go : Dec (take_count t ≡ 0) → 0 ≡ min (take_count s) (length (left (take_source s)))
    go (yes z) = let w = ap take_count y in omega (arith, w, z)
    go (no ne) =
        let z = ap length (records_end (take_source t).table.words.now (take_source t).at (e (omega (arith, ne))).1) in
        let v = ap (λ (r : Take RecordIter). length (left (take_source r))) y in
        omega (arith, v, z)
taken (x ∷ xs) s t u y e =
    let w = taken xs y.0 t u y.2 e in
    let l = left-more (take_source s) (take_source y.0) x y.1.0 in
    omega (arith, w, l, y.1.1)

-- the chains of the holders before `holder` are counted
pub record Totalling (t : List ℕ) (all most past k holder total : ℕ) : Type 0 where
  pub heads : Heads t holder past k
  pub few : total ≤ most
  pub left : min (total + size_of (chains_of t holder past k)) most ≡ min all most

module _ (t : List ℕ) where
  pub totalling_start : (first past k most : ℕ) → Heads t first past k → Totalling t (size_of (chains_of t first past k)) most past k first 0
  totalling_start first past k most H = record { heads = H; few = omega arith; left = ap (λ (n : ℕ). min n most) (omega arith) }

  pub totalling_head : (all most past k holder total head : ℕ) → holder < past → head ≡ word_at t holder k → Totalling t all most past k holder total → LooseIndex t head
  totalling_head all most past k holder total head h eh W = rw eh (W.heads.heads holder (omega arith) h)

  pub totalling_step : (all most past k holder total head more : ℕ) → holder < past → head ≡ word_at t holder k → more ≡ min (length (records_from t head)) (most - total)
      → Totalling t all most past k holder total → Totalling t all most past k (holder + 1) (total + more)
  unfolding size_of
  totalling_step all most past k holder total head more h eh em W =
      let l : size_of (chains_of t holder past k) ≡ length (records_from t head) + size_of (chains_of t (holder + 1) past k) = ap size_of (chains_more t holder past k h) ∙ rw (← eh) in
      record {
        heads = heads_more t holder past k W.heads h;
        few = omega (arith, W.few);
        left = (omega (arith, W.few)) ∙ ap (λ (n : ℕ). min (total + n) most) (sym l) ∙ W.left;
      }

  pub totalling_end : (all most past k holder total : ℕ) → past ≤ holder → Totalling t all most past k holder total → total ≡ min all most
  unfolding size_of
  totalling_end all most past k holder total h W =
      let l : size_of (chains_of t holder past k) ≡ 0 = ap size_of (chains_end t holder past k h) in
      omega (arith, W.left, W.few)
