use Rattle.std.proofs.Common.{◌≡◌, ◌+◌, ◌*◌, ◌/◌, ◌<◌, ◌≤◌, length, refl, ap, ◌∙◌, length-drop}
use Rattle.std.specs.Iterator.Adapters.{enumerate_count}
use Rattle.table_rewrite.proofs.spelling.Writing.{follower_small}
use Rattle.table_rewrite.proofs.grammar_records.Symbols.{chunk_inside, chunk_word, chunk_rest, chain-start, written_start, chain-step, chain-next, chain_past, chain_room, written-room, written_step, chain_end}
use native.Mathlib.Omega.{arith}
use Rattle.table_rewrite.proofs.grammar_records.write_chain.Goals as goal

pub loop-i-init : goal.loop-i-init
loop-i-init c =
    let z : c.args.begin + 0 ≡ c.args.begin = omega arith in
    rw (c.into_iter-i-iterator.ensures.into_iter_gives, c.enumerate-i-items.ensures.count, c.enumerate-i-items.ensures.source, c.chunks_exact.ensures.size, c.chunks_exact.ensures.rest) record {
      size = refl;
      few = omega arith;
      rest = refl;
      chain = rw z (chain-start _ _ c.requires.symbols_value);
      written = λ U S R. rw z (written_start _ _ U _ S R);
    }

pub overflow_add-begin : goal.overflow_add-begin
overflow_add-begin c = let Q = c.requires.stands in
    let s = c.in-Some.ensures.steps in
    let I = c.loop-i.invariant in
    let n = chunk_inside c.args.symbols.now _ _ (enumerate_count c.loop-i.i-iterator) (I.rest ∙ s.0.1.0) (s.0.1.1 ∙ I.size) in
    omega (arith, s.1, (written-room _ _ _ _ (omega (arith, n)) I.chain _ _ _ (I.written Q.0 Q.1.0 Q.1.1)).0)

pub next_of-next-requires : goal.next_of-next-requires
next_of-next-requires c = let Q = c.requires.stands in
    let s = c.in-Some.ensures.steps in
    let I = c.loop-i.invariant in
    let n = chunk_inside c.args.symbols.now _ _ (enumerate_count c.loop-i.i-iterator) (I.rest ∙ s.0.1.0) (s.0.1.1 ∙ I.size) in
    rw s.1 (written-room _ _ _ _ (omega (arith, n)) I.chain _ _ _ (I.written Q.0 Q.1.0 Q.1.1)).0

pub overflow_add-begin-in-loop-i : goal.overflow_add-begin-in-loop-i
overflow_add-begin-in-loop-i c = let Q = c.requires.stands in
    let s = c.in-Some.ensures.steps in
    let I = c.loop-i.invariant in
    let n = chunk_inside c.args.symbols.now _ _ (enumerate_count c.loop-i.i-iterator) (I.rest ∙ s.0.1.0) (s.0.1.1 ∙ I.size) in
    omega (arith, s.1, (written-room _ _ _ _ (omega (arith, n)) I.chain _ _ _ (I.written Q.0 Q.1.0 Q.1.1)).0)

pub put-requires : goal.put-requires
put-requires c = let Q = c.requires.stands in
    let s = c.in-Some.ensures.steps in
    let I = c.loop-i.invariant in
    let n = chunk_inside c.args.symbols.now _ _ (enumerate_count c.loop-i.i-iterator) (I.rest ∙ s.0.1.0) (s.0.1.1 ∙ I.size) in
    let r = written-room _ _ _ _ (omega (arith, n)) I.chain _ _ _ (I.written Q.0 Q.1.0 Q.1.1) in
    record { r_lt_record_limit = rw s.1 r; a_bound = (follower_small _ _ _ (rw s.1 r.0) c.next_of-next.ensures, (c.word.ensures.1, (c.word-in-loop-i.ensures.1, omega arith))) }

pub loop-i-preserved : goal.loop-i-preserved
loop-i-preserved c =
    let s = c.in-Some.ensures.steps in
    let I = c.loop-i.invariant in
    let k = enumerate_count c.loop-i.i-iterator in
    let e = I.rest ∙ s.0.1.0 in
    let two = s.0.1.1 ∙ I.size in
    let n = chunk_inside c.args.symbols.now _ _ k e two in
    let h : 2 * k < length c.args.symbols.now = omega (arith, n) in
    let a : c.args.begin + (k + 1) ≡ c.args.begin + k + 1 = omega arith in
    let b : 2 * (k + 1) ≡ 2 * k + 2 = omega arith in
    let z : 2 * k + 0 ≡ 2 * k = omega arith in
    rw s.2 record {
      size = s.0.0 ∙ I.size;
      few = omega (arith, n);
      rest = chunk_rest c.args.symbols.now _ _ k e two;
      chain = rw (a, b) (chain-step _ _ _ _ h I.chain);
      written = λ U S R. rw (a, b) (written_step _ _ _ _ h I.chain U _ _ (I.written U S R) _ _ _ _ (chain-next _ _ _ _ h I.chain k _ refl (rw s.1 at c.next_of-next.ensures)) (c.word.ensures.0 ∙ rw z at (chunk_word c.args.symbols.now _ _ k e two 0 (omega arith))) (c.word-in-loop-i.ensures.0 ∙ chunk_word c.args.symbols.now _ _ k e two 1 (omega arith)) (rw s.1 at c.put.ensures));
    }

pub shape_of-out : goal.shape_of-out
shape_of-out c = let Q = c.requires.stands in (c.loop-i.invariant.written Q.0 Q.1.0 Q.1.1).grown.long

pub overflow_add-result : goal.overflow_add-result
overflow_add-result c = let Q = c.requires.stands in
    let s = c.in-None.ensures.steps in
    let I = c.loop-i.invariant in
    let k = enumerate_count c.loop-i.i-iterator in
    let l = length-drop (2 * k) c.args.symbols.now in
    let t : length c.args.symbols.now / 2 ≤ k = omega (arith, l, ap length I.rest, s.0.1.0, I.size) in
    let e = chain_end _ _ _ _ (chain_past _ _ _ k t I.chain) I.chain in
    omega (arith, t, e, I.few, chain_room _ _ Q.0 _ Q.1.0 Q.1.1)

pub returns : goal.returns
returns c =
    let s = c.in-None.ensures.steps in
    let I = c.loop-i.invariant in
    let k = enumerate_count c.loop-i.i-iterator in
    let l = length-drop (2 * k) c.args.symbols.now in
    let t : length c.args.symbols.now / 2 ≤ k = omega (arith, l, ap length I.rest, s.0.1.0, I.size) in
    let z : k ≡ length c.args.symbols.now / 2 = omega (arith, t, I.few) in
    (rw (← z) (chain_end _ _ _ _ (chain_past _ _ _ k t I.chain) I.chain), λ U S R. rw (← z) (I.written U S R).grown)
