use mathlib.Core.Path.{refl, sym}
use Rattle.enumerator.proofs.trials.Counting.{counted_in, counted-out, counted-more}
use Rattle.enumerator.proofs.graph_view.Stepping.{next-none, next-at_item, next-used, new_room, next_new}
use Rattle.enumerator.proofs.graph_view.Counting.{top-counted, join-none, join-nonterminal, join-top}
use Rattle.enumerator.proofs.graph_view.View.next.Goals as goal
use Rattle.enumerator.proofs.graph_view.View.next.Goals.{in_default-source-via-in-Some-source+else-counts-nonterminal-eq0, in_default-source-via-in_default-source}

pub seek-requires-clause-counted_edges : goal.seek-requires-clause-counted_edges
seek-requires-clause-counted_edges c = join-none c.args.self.sources.bytes.now c.requires.held.0 refl c.in_default.ensures c.requires.counted_walk

pub returns-in_default-clause-by_index : goal.returns-in_default-clause-by_index
returns-in_default-clause-by_index c = let A = c.args.self in next-none A.sources.bytes.now A.older.now A.latest.now c.requires.held.0 refl c.in_default.ensures c.word-first.ensures.0 c.seek.ensures.by_index

pub seek-requires-in-Some-source-clause-held : goal.seek-requires-in-Some-source-clause-held
seek-requires-in-Some-source-clause-held c = let A = c.args.self in
    let L = c.in-Some.ensures in
    let N = c.in-Some-source.ensures in (
      c.requires.held.0,
      new_room A.sources.bytes.now A.older.now A.latest.now c.requires.held.0 refl L.0 L.1 N.0
          (counted-out N.1 refl (top-counted A.sources.bytes.now c.requires.held.0 refl L.0 L.1 c.requires.counted_walk) c.if-counts-nonterminal-eq0.true)
          c.word-link.ensures.0 c.requires.held.1,
    )

pub seek-requires-in-Some-source-clause-counted_edges : goal.seek-requires-in-Some-source-clause-counted_edges
seek-requires-in-Some-source-clause-counted_edges c = let B = c.args.self.sources.bytes.now in
    let L = c.in-Some.ensures in
    let N = c.in-Some-source.ensures in
    join-top B c.requires.held.0 refl L.0 L.1 c.requires.counted_walk (λ us C. join-nonterminal B c.in-Some.edge us N.0 (counted-more N.1 (sym c.if-counts-nonterminal-eq0.true) C))

pub returns-in-Some-source-clause-by_index : goal.returns-in-Some-source-clause-by_index
returns-in-Some-source-clause-by_index c = let A = c.args.self in
    let L = c.in-Some.ensures in
    let N = c.in-Some-source.ensures in
    next_new A.sources.bytes.now A.older.now A.latest.now c.requires.held.0 refl L.0 L.1 N.0
    (counted-out N.1 refl (top-counted A.sources.bytes.now c.requires.held.0 refl L.0 L.1 c.requires.counted_walk) c.if-counts-nonterminal-eq0.true)
    c.word-link.ensures.0 c.seek-in-Some-source.ensures.by_index

pub returns-in_default-source-clause-by_index : goal.returns-in_default-source-clause-by_index
returns-in_default-source-clause-by_index c = let A = c.args.self in
    let S = c.requires.held.0 in
    let L = c.in-Some.ensures in
    elim c.in_default-source.branch [
      | in_default-source-via-in-Some-source+else-counts-nonterminal-eq0 w ↦
          next-used A.sources.bytes.now A.older.now A.latest.now S refl L.0 L.1 w.in-Some-source.ensures.0
          (counted_in w.in-Some-source.ensures.1 refl (top-counted A.sources.bytes.now S refl L.0 L.1 c.requires.counted_walk) w.if-counts-nonterminal-eq0.false)
          c.back.ensures.by_index
      | in_default-source-via-in_default-source w ↦ next-at_item A.sources.bytes.now A.older.now A.latest.now S refl L.0 L.1 w.in_default-source.ensures c.back.ensures.by_index
    ]
