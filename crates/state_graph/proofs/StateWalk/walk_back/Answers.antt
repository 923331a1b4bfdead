use mathlib.Core.Path.{refl, ◌∙◌}
use Rattle.table.specs.Decoded.{meaning}
use Rattle.state_graph.proofs.Steps.{walking_start, walking_symbol, walking_more, walking_done}
use native.Mathlib.Omega.{arith}
use Rattle.state_graph.proofs.StateWalk.walk_back.Goals as goal

pub loop-symbol-init : goal.loop-symbol-init
loop-symbol-init c =
    let all = c.rchunks_exact-symbol-items.ensures in
    rw (c.into_iter-symbol-iterator.ensures.into_iter_gives, all.size) (record { two = refl; table = refl; walking = walking_start (meaning c.args.self.now.table.words.now) c.args.symbols.now c.requires c.args.set.low c.args.set.high _ _ all.parts all.remainder_len })

pub step_back-found-requires : goal.step_back-found-requires
step_back-found-requires c =
    let s = c.in-Some.ensures.steps in
    let I = c.loop-symbol.invariant in
    rw I.table (walking_symbol (meaning c.args.self.now.table.words.now) _ _ _ _ _ _ I.walking _ _ s.2.0 (s.2.1 ∙ I.two) _ _ c.word.ensures.0 c.word-in-loop-symbol.ensures.0)

pub loop-symbol-preserved : goal.loop-symbol-preserved
loop-symbol-preserved c =
    let s = c.in-Some.ensures.steps in
    let I = c.loop-symbol.invariant in
    record { two = s.0 ∙ I.two; table = c.step_back-found.ensures.table ∙ I.table; walking = walking_more (meaning c.args.self.now.table.words.now) _ _ _ _ _ _ I.walking _ _ s.2.0 (s.2.1 ∙ I.two) _ _ c.word.ensures.0 c.word-in-loop-symbol.ensures.0 _ _ (rw I.table at c.step_back-found.ensures.found) }

pub returns : goal.returns
returns c =
    let s = c.in-None.ensures.steps in
    let I = c.loop-symbol.invariant in
    record { found = walking_done (meaning c.args.self.now.table.words.now) _ _ _ _ _ _ I.walking (omega (arith, s.2.0, I.two)); table = I.table }
