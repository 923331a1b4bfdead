use mathlib.Core.Path.{refl, ◌∙◌}
use native.Mathlib.Omega.{arith}
use Rattle.conflict_sides.proofs.examples.Walks.{walk_first, walk_searching, hits, hit-tried, walk_on, out-rest, over-rest}
use Rattle.conflict_sides.proofs.examples.Seeking.{seek-first, seek_there, seek_on, seek-out, seek-over}
use Rattle.conflict_sides.proofs.examples.find_example.Goals as goal

pub loop-number-init : goal.loop-number-init
loop-number-init c = (refl, λ es start L. (walk_first _ _ _ _ _ _ _ _ c.requires.by_index.1, seek-first _ _ _ _ _ _ _))

pub search-requires : goal.search-requires
search-requires c = let L = c.requires.listable.1.1 in record { searching = (c.requires.listable.0, (c.requires.listable.1.0, walk_searching _ _ _ _ _ _ _ _ _ _ _ L _ _ (c.loop-number.invariant.1 c.requires.listable.0 c.requires.listable.1.0 L).0)) }

pub shape_of-words-then-left-eq0 : goal.shape_of-words-then-left-eq0
shape_of-words-then-left-eq0 c = c.search.auto.words ∙ c.loop-number.invariant.0

pub returns-then-left-eq0 : goal.returns-then-left-eq0
returns-then-left-eq0 c = λ es start L.
    let U = c.loop-number.invariant.1 es start L in
    let A = c.search.ensures es start (walk_searching _ _ _ _ _ _ _ _ _ _ _ L _ _ U.0) in
    let H = hits _ _ _ _ _ _ _ _ _ _ _ L _ _ U.0 _ _ A _ c.in-Hit.is in
    seek_there _ _ _ _ _ _ _ _ _ _ U.1 _ H.next c.if-left-eq0.true _ _ H.words _ _ (hit-tried _ _ _ _ _ _ _ _ _ _ _ L _ _ U.0 _ _ A _ c.in-Hit.is)

pub overflow_sub-left : goal.overflow_sub-left
overflow_sub-left c = omega (arith, c.if-left-eq0.false)

pub loop-number-smaller : goal.loop-number-smaller
loop-number-smaller c = omega (arith, c.if-left-eq0.false)

pub loop-number-preserved : goal.loop-number-preserved
loop-number-preserved c = (
  c.search.auto.words ∙ c.loop-number.invariant.0,
  λ es start L.
      let U = c.loop-number.invariant.1 es start L in
      let A = c.search.ensures es start (walk_searching _ _ _ _ _ _ _ _ _ _ _ L _ _ U.0) in
      let H = hits _ _ _ _ _ _ _ _ _ _ _ L _ _ U.0 _ _ A _ c.in-Hit.is in
      (walk_on _ _ _ _ _ _ _ _ _ _ _ L _ _ U.0 _ _ A _ c.in-Hit.is, seek_on _ _ _ _ _ _ _ _ _ _ U.1 _ H.next c.if-left-eq0.false),
)

pub shape_of-words-in-Out : goal.shape_of-words-in-Out
shape_of-words-in-Out c = c.search.auto.words ∙ c.loop-number.invariant.0

pub returns-in-Out : goal.returns-in-Out
returns-in-Out c = λ es start L.
    let U = c.loop-number.invariant.1 es start L in
    let A = c.search.ensures es start (walk_searching _ _ _ _ _ _ _ _ _ _ _ L _ _ U.0) in
    seek-out _ _ _ _ _ _ _ _ _ U.1 _ _ _ _ (out-rest _ _ _ _ _ _ _ _ _ _ _ L _ _ U.0 _ _ A _ c.in-Out.is)

pub shape_of-words-in-Over : goal.shape_of-words-in-Over
shape_of-words-in-Over c = c.search.auto.words ∙ c.loop-number.invariant.0

pub returns-in-Over : goal.returns-in-Over
returns-in-Over c = λ es start L.
    let U = c.loop-number.invariant.1 es start L in
    let A = c.search.ensures es start (walk_searching _ _ _ _ _ _ _ _ _ _ _ L _ _ U.0) in
    seek-over _ _ _ _ _ _ _ _ _ U.1 _ _ _ (over-rest _ _ _ _ _ _ _ _ _ _ _ L _ _ U.0 _ _ A c.in-Over.is)
