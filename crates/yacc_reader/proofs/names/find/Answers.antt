use Rattle.yacc_reader.proofs.names.Laws.{find_first, find_end, find_low, find_less, find-found, find_again}
use borrow.Author.Rules.{rules}
use mathlib.Core.Path.{ap, ◌∙◌}
use mathlib.Core.List.{List}
use Prim.Native.Nat.{ℕ}
use lib.Seq.{slice}
use Rattle.lr1_base.specs.words.Same.{same_words}
use Rattle.lr1_base.proofs.words.Same.{same_pointwise}
use native.Mathlib.Omega.{arith}
use Rattle.yacc_reader.proofs.names.find.Goals as goal

pub bucket_of-requires : goal.bucket_of-requires
bucket_of-requires c = c.requires.from_le_past

pub word-next-requires : goal.word-next-requires
word-next-requires c = omega (arith, c.requires.entered.long, c.bucket_of.ensures.1)

pub loop-next-init : goal.loop-next-init
loop-next-init c = find_first _ _ _ _ _ c.args.from c.args.past c.requires.entered _ _ c.bucket_of.ensures c.word-next.ensures.0

pub word-start-requires : goal.word-start-requires
word-start-requires c = let l = find_low _ _ _ _ _ c.args.from c.args.past c.requires.entered _ c.loop-next.invariant c.loop-next-test.true in omega (arith, l, c.requires.entered.begun)

pub word-end-requires : goal.word-end-requires
word-end-requires c = let l = find_low _ _ _ _ _ c.args.from c.args.past c.requires.entered _ c.loop-next.invariant c.loop-next-test.true in omega (arith, l, c.requires.entered.ended)

pub bytes-name-requires : goal.bytes-name-requires
bytes-name-requires c = c.requires.from_le_past.1

pub bytes-requires : goal.bytes-requires
bytes-requires c = let l = find_low _ _ _ _ _ c.args.from c.args.past c.requires.entered _ c.loop-next.invariant c.loop-next-test.true in let i = c.requires.entered.inside _ l in omega (arith, i, c.word-end.ensures.0)

pub returns-then-eq : goal.returns-then-eq
returns-then-eq c = find-found _ _ _ _ _ c.args.from c.args.past c.requires.entered _ c.loop-next.invariant c.loop-next-test.true _ _ _ c.word-start.ensures.0 c.word-end.ensures.0 (c.eq.ensures ∙ same_pointwise _ _ ∙ ap (λ (xs : List ℕ). same_words xs c.bytes.result.now) c.bytes-name.ensures ∙ ap (same_words (slice c.args.from c.args.past c.args.text.now)) c.bytes.ensures) c.if-eq.true

pub overflow_add-next : goal.overflow_add-next
overflow_add-next c = let l = find_low _ _ _ _ _ c.args.from c.args.past c.requires.entered _ c.loop-next.invariant c.loop-next-test.true in search rules

pub word-next-requires-in-loop-next : goal.word-next-requires-in-loop-next
word-next-requires-in-loop-next c = let l = find_low _ _ _ _ _ c.args.from c.args.past c.requires.entered _ c.loop-next.invariant c.loop-next-test.true in omega (arith, l, c.requires.entered.long)

pub loop-next-smaller : goal.loop-next-smaller
loop-next-smaller c = find_less _ _ _ _ _ c.args.from c.args.past c.requires.entered _ c.loop-next.invariant c.loop-next-test.true _ c.word-next-in-loop-next.ensures.0

pub loop-next-preserved : goal.loop-next-preserved
loop-next-preserved c = find_again _ _ _ _ _ c.args.from c.args.past c.requires.entered _ c.loop-next.invariant c.loop-next-test.true _ _ _ c.word-start.ensures.0 c.word-end.ensures.0 (c.eq.ensures ∙ same_pointwise _ _ ∙ ap (λ (xs : List ℕ). same_words xs c.bytes.result.now) c.bytes-name.ensures ∙ ap (same_words (slice c.args.from c.args.past c.args.text.now)) c.bytes.ensures) c.if-eq.false _ c.word-next-in-loop-next.ensures.0

pub returns : goal.returns
returns c = find_end _ _ _ _ _ c.args.from c.args.past c.requires.entered _ c.loop-next.invariant c.loop-next-test.false
