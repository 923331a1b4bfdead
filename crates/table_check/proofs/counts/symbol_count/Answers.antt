use Rattle.std.proofs.Common.{◌≡◌, refl, ap, ◌∙◌, ℕ, List, [], ◌∷◌, None, arith, length, min}
use native.Mathlib.Decide.{ℕ_discrete}
use Rattle.std.specs.Iterator.{Yields, YieldsFirst}
use Rattle.std.specs.Iterator.Adapters.{take_steps, take_source, take_count}
use Rattle.std.specs.declared.iter.Take.{Take}
use Rattle.table.specs.Words.{chain}
use Rattle.table_check.specs.Known.{area}
use Rattle.table_check.specs.declared.chain.ChainIter.{ChainIter}
use Rattle.table_check.proofs.Steps.{symbols_begin}
use Rattle.table_check.proofs.counts.symbol_count.Goals as goal

pub overflow_add-s : goal.overflow_add-s
overflow_add-s c = let A = c.args.s.of in omega (arith, c.requires.p_bound)

pub chain-requires : goal.chain-requires
chain-requires c = let A = c.args.s.of in record {
  word = (omega (arith, c.requires.p_bound), omega arith);
  inside = omega (arith, c.loose.ensures.within);
}

-- what is left of a chain, and the first n of it counted
abbrev left : ChainIter → List ℕ
left s = chain s.surveyed.words.now (area s.area.from s.area.past) s.last s.at

taken : (xs : List ℕ) (s t u : Take ChainIter) → Yields (take_steps (YieldsFirst left)) s xs t → take_steps (YieldsFirst left) t None u → length xs ≡ min (take_count s) (length (left (take_source s)))
taken [] s t u y e = go (ℕ_discrete (take_count t) 0)
  where
    go : Dec (take_count t ≡ 0) → 0 ≡ min (take_count s) (length (left (take_source s)))
    go (yes z) = let w = ap take_count y in omega (arith, w, z)
    go (no ne) = let w = ap length (e (omega (arith, ne))).0 in let v = ap (λ (r : Take ChainIter). length (left (take_source r))) y in omega (arith, w, v)
taken (x ∷ xs) s t u y e =
    let w = taken xs y.0 t u y.2 e in
    let l = ap length y.1.0 in
    omega (arith, w, l, y.1.1)

pub returns : goal.returns
returns c =
    let r = c.count.ensures.ran in
    let n = taken r.0 c.take.result r.1.1.0 r.1.0 r.1.1.1 r.1.1.2 in
    let l = ap (λ (i : ChainIter). length (left i)) c.take.ensures.source in
    let s = ap length (c.chain.ensures ∙ symbols_begin _ _ c.args.s.of _ c.loose.ensures.records _ _ _ refl refl) in
    omega (arith, r.2, n, l, s, c.take.ensures.count)
