use Rattle.std.proofs.Common.{ℕ, set, refl, sym, ap, ◌∙◌, arith}
use Rattle.lr1_base.specs.bits.Bits.{bit_at, bit_put}
use Rattle.table.proofs.Decoding.{fits}
use Rattle.trace.proofs.edge_codes.Keys.{label_small}
use Rattle.trace.proofs.Turns.{work_many}
use Rattle.trace.proofs.Collecting.{no_nonterminal, shifts_none, collecting_start, collecting_again, collecting_skip, collecting_put, collecting_done}
use Rattle.trace.proofs.tails.collect.Goals as goal

pub loop-read-init : goal.loop-read-init
loop-read-init c = rw c.into_iter-read-iterator.ensures.into_iter_gives (refl, collecting_start _ _ _ c.requires.1 c.requires.2)

pub nonterminal_at-requires : goal.nonterminal_at-requires
nonterminal_at-requires c = let n = work_many _ _ _ _ c.requires.0.1 in omega (arith, (rw c.loop-read.invariant.0 at c.in-Some.ensures.steps.1.2).fits.production)

pub loop-read-preserved-then-is_none : goal.loop-read-preserved-then-is_none
loop-read-preserved-then-is_none c = (c.in-Some.ensures.steps.0 ∙ c.loop-read.invariant.0, collecting_skip _ _ _ _ _ _ c.loop-read.invariant.1 _ _ _ (rw c.loop-read.invariant.0 at c.in-Some.ensures.steps.1.2) (shifts_none _ _ _ _ c.requires.0.1 _ _ (rw c.loop-read.invariant.0 at c.in-Some.ensures.steps.1.2).fits (no_nonterminal _ _ _ c.nonterminal_at.ensures _ c.is_none.ensures c.if-is_none.true)))

pub place-place-requires : goal.place-place-requires
place-place-requires c = let s = label_small _ (fits _ c.requires.0.1.accepted) _ (rw c.loop-read.invariant.0 at c.in-Some.ensures.steps.1.2).fits in (s.0, s.1)

pub slice_bounds-is_set-end : goal.slice_bounds-is_set-end
slice_bounds-is_set-end c = sym c.loop-read.invariant.1.flags

pub is_set-requires : goal.is_set-requires
is_set-requires c = omega (arith, c.place-place.ensures.within, c.loop-read.invariant.1.flags)

pub loop-read-preserved-then-is_set : goal.loop-read-preserved-then-is_set
loop-read-preserved-then-is_set c = (c.in-Some.ensures.steps.0 ∙ c.loop-read.invariant.0, collecting_again _ _ _ _ _ _ c.loop-read.invariant.1 _ _ _ (rw c.loop-read.invariant.0 at c.in-Some.ensures.steps.1.2) (label_small _ (fits _ c.requires.0.1.accepted) _ (rw c.loop-read.invariant.0 at c.in-Some.ensures.steps.1.2).fits).1 (sym (ap (λ (k : ℕ). bit_at c.loop-read.met k) c.place-place.ensures.is) ∙ sym c.is_set.ensures ∙ c.if-is_set.true))

pub shape_of-records-then-count-ge-LIST_WORDS : goal.shape_of-records-then-count-ge-LIST_WORDS
shape_of-records-then-count-ge-LIST_WORDS c = c.loop-read.invariant.1.long ∙ sym c.requires.2

pub slice_bounds-put-end : goal.slice_bounds-put-end
slice_bounds-put-end c = sym c.loop-read.invariant.1.flags

pub put-requires : goal.put-requires
put-requires c = omega (arith, c.place-place.ensures.within, c.loop-read.invariant.1.flags)

pub overflow_cast-records : goal.overflow_cast-records
overflow_cast-records c = omega (arith, c.loop-read.invariant.1.here.below, c.in-Some.ensures.steps.1.1)

pub offset_bounds-records-count : goal.offset_bounds-records-count
offset_bounds-records-count c = omega (arith, c.loop-read.invariant.1.few)

pub bounds-records-count : goal.bounds-records-count
bounds-records-count c = omega (arith, c.loop-read.invariant.1.long, c.if-count-ge-LIST_WORDS.false)

pub overflow_add-count : goal.overflow_add-count
overflow_add-count c = omega (arith, c.loop-read.invariant.1.few)

pub loop-read-preserved : goal.loop-read-preserved
loop-read-preserved c =
    let s = label_small _ (fits _ c.requires.0.1.accepted) _ (rw c.loop-read.invariant.0 at c.in-Some.ensures.steps.1.2).fits in
    (c.in-Some.ensures.steps.0 ∙ c.loop-read.invariant.0, collecting_put _ _ _ _ _ _ c.loop-read.invariant.1 _ _ _ (rw c.loop-read.invariant.0 at c.in-Some.ensures.steps.1.2) s.1 (omega (arith, s.0, s.1)) (omega (arith, c.if-count-ge-LIST_WORDS.false)) c.in-Some.ensures.steps.1.0 _ (ap (λ (k : ℕ). set c.loop-read.records c.loop-read.count k) c.in-Some.ensures.steps.1.1) _ (c.put.ensures ∙ ap (λ (k : ℕ). bit_put c.loop-read.met k) c.place-place.ensures.is) _ (omega arith))

pub shape_of-records : goal.shape_of-records
shape_of-records c = c.loop-read.invariant.1.long ∙ sym c.requires.2

pub returns : goal.returns
returns c = collecting_done _ _ _ _ _ _ c.loop-read.invariant.1 c.in-None.ensures.steps.1
