use Rattle.std.proofs.Common.{◌∙◌, refl, arith}
use Rattle.trace_graph.proofs.Buckets.{mix_end, mix-more}
use Rattle.trace_graph.proofs.mix.Goals as goal

pub loop-symbol-init : goal.loop-symbol-init
loop-symbol-init c =
    let all = c.chunks_exact-symbol-items.ensures in
    rw (c.into_iter-symbol-iterator.ensures.into_iter_gives, all.rest, all.size) (record { two = refl; mixing = record { small = c.requires.0; fits = c.requires.1; same = refl } })

pub loop-symbol-preserved : goal.loop-symbol-preserved
loop-symbol-preserved c =
    let s = c.in-Some.ensures.steps in
    let I = c.loop-symbol.invariant in
    record { two = s.0 ∙ I.two; mixing = mix-more I.mixing _ _ s.1.0 (s.1.1 ∙ I.two) c.word.ensures.0 c.word-in-loop-symbol.ensures.0 }

pub returns : goal.returns
returns c =
    let s = c.in-None.ensures.steps in
    let I = c.loop-symbol.invariant in
    (mix_end I.mixing (omega (arith, s.1.0, I.two)), I.mixing.small)
