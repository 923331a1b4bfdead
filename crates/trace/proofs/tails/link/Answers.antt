use Rattle.std.proofs.Common.{◌≡◌, ◌-◌, get_or, sym, ◌∙◌, arith, length-set}
use Rattle.trace.proofs.Linking.{linked_start, linked_skip, linked_put}
use Rattle.trace.proofs.Passing.{packed_few}
use Rattle.trace.proofs.tails.link.Goals as goal

pub unlink-requires : goal.unlink-requires
unlink-requires c = c.requires.2

pub loop-k-init : goal.loop-k-init
loop-k-init c = (linked_start _ _ _ _ c.requires.0.1 _ _ _ (c.unlink.auto.links ∙ c.requires.2) c.unlink.ensures, omega arith, c.requires.1.1.least)

pub word-requires : goal.word-requires
word-requires c = let C = c.requires.1.1 in omega (arith, C.long, C.few, c.loop-k.invariant.1, c.loop-k-test.true)

pub item-read-requires : goal.item-read-requires
item-read-requires c = let C = c.requires.1.1 in
    let o = C.on (c.loop-k.k - 1) (omega (arith, c.loop-k-test.true)) (omega (arith, c.loop-k.invariant.1, c.loop-k-test.true)) in record { some = rw c.word.ensures.0 o.1; on = rw c.word.ensures.0 o.0 }

pub nonterminal_at-requires : goal.nonterminal_at-requires
nonterminal_at-requires c = packed_few _ _ _ _ c.requires.0.1 _ _ c.item-read.ensures.read.fits

pub bounds-links-nonterminal : goal.bounds-links-nonterminal
bounds-links-nonterminal c = omega (arith, c.loop-k.invariant.0.long, c.in-Some.ensures.0)

pub bounds-links-k : goal.bounds-links-k
bounds-links-k c = let C = c.requires.1.1 in omega (arith, C.few, c.loop-k.invariant.0.long, c.loop-k.invariant.1, c.loop-k-test.true)

pub overflow_cast-links : goal.overflow_cast-links
overflow_cast-links c = let C = c.requires.1.1 in omega (arith, C.few, c.loop-k.invariant.1)

pub bounds-links-nonterminal-in-Some : goal.bounds-links-nonterminal-in-Some
bounds-links-nonterminal-in-Some c = let l = length-set c.loop-k.links (c.loop-k.k - 1) (get_or c.loop-k.links c.in-Some.nonterminal 0) ∙ c.loop-k.invariant.0.long in omega (arith, c.in-Some.ensures.0)

pub loop-k-preserved-in-Some : goal.loop-k-preserved-in-Some
loop-k-preserved-in-Some c =
    let less = c.loop-k-test.true in
    let few = c.loop-k.invariant.1 in (
      linked_put _ _ (c.loop-k.k - 1) _ _ _ _ c.word.ensures.0 c.item-read.ensures.read _ _ _ c.requires.0.1 _ _ _ c.loop-k.invariant.0 (omega arith) (omega arith) (omega arith) _ c.in-Some.ensures.1 c.in-Some.ensures.0 c.requires.1.1.few,
      omega arith,
      omega arith,
    )

pub loop-k-preserved : goal.loop-k-preserved
loop-k-preserved c =
    let less = c.loop-k-test.true in
    let few = c.loop-k.invariant.1 in (
      linked_skip _ _ (c.loop-k.k - 1) _ _ _ _ c.word.ensures.0 c.item-read.ensures.read _ _ _ c.requires.0.1 _ _ _ c.loop-k.invariant.0 (omega arith) (omega arith) (omega arith) c.in_default.ensures,
      omega arith,
      omega arith,
    )

pub shape_of-links : goal.shape_of-links
shape_of-links c = c.loop-k.invariant.0.long ∙ sym c.requires.2

pub returns : goal.returns
returns c = let e : c.loop-k.k ≡ 32 = omega (arith, c.loop-k-test.false, c.loop-k.invariant.2) in rw e at c.loop-k.invariant.0
