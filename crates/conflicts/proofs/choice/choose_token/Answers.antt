use native.Mathlib.Omega.{arith}
use mathlib.Core.Path.{refl}
use Rattle.std.proofs.lemmas.Result.{err_from_is_err_and}
use Prim.Native.Nat.{ℕ}
use lib.ListN.{length-replicate}
use Rattle.lr1_base.specs.repr.Sizes.{example_room}
use Rattle.conflicts.proofs.choice.Tokens.{token-fits, token-refused, token_naive, token-better}
use Rattle.conflicts.proofs.choice.choose_token.Goals as goal

pub invariant_of-case : goal.invariant_of-case
invariant_of-case c = record { fits = token-fits _ c.args.choice.conflict _ _ c.args.choice.fits c.requires.member }

pub classify-requires : goal.classify-requires
classify-requires c = (rw (length-replicate {A = ℕ} example_room 0) (omega arith), rw (length-replicate {A = ℕ} example_room 0) (omega arith))

pub returns-in_err-found : goal.returns-in_err-found
returns-in_err-found c =
    let p = err_from_is_err_and c.from_residual.result c.from_residual.ensures.1 in
    let whole = token-refused _ c.args.choice.conflict _ c.args.better.now c.args.naive.now c.args.better.now c.args.naive.now _ _ _ _ _ c.classify.ensures _ c.in_err-found.was in
    rw (p.1, p.2) (record { added = whole.0; counts = whole.1 })

pub returns-then-is_naive : goal.returns-then-is_naive
returns-then-is_naive c =
    let whole = token_naive _ c.args.choice.conflict _ c.args.better.now c.args.naive.now c.args.better.now c.push.new.self _ _ _ _ _ c.classify.ensures _ c.in_ok-found.was _ c.is_naive.ensures c.if-is_naive.true refl c.push.ensures.count c.push.ensures.entries in
    record { added = whole.0; counts = whole.1 }

pub returns-else-is_naive : goal.returns-else-is_naive
returns-else-is_naive c =
    let whole = token-better _ c.args.choice.conflict _ c.args.better.now c.args.naive.now c.push-else-is_naive.new.self c.args.naive.now _ _ _ _ _ c.classify.ensures _ c.in_ok-found.was _ c.is_naive.ensures c.if-is_naive.false refl c.push-else-is_naive.ensures.count c.push-else-is_naive.ensures.entries in
    record { added = whole.0; counts = whole.1 }
