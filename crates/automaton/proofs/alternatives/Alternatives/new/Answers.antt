use Rattle.std.proofs.Common.{◌<◌, arith, length, ◌∙◌}
use Rattle.std.proofs.lemmas.List.{length-map}
use Rattle.automaton.specs.Alternatives.{lists_of}
use Rattle.automaton.proofs.Ruled.{left_at, left_fits, has_more, only_more, none_listed}
use Rattle.automaton.proofs.alternatives.Alternatives.new.Goals as goal

pub add-requires : goal.add-requires
add-requires c =
    let g = c.args.grammar.now in
    let l = left_fits g c.loop-q.q c.production-item.result (omega arith) (rw c.deref-production-items.ensures.value at c.production-item.is) in
    omega (arith, l, c.loop-q.invariant.len)

pub loop-q-init : goal.loop-q-init
loop-q-init c = record {
  len = omega (arith, c.loop.invariant.0);
  has = λ q l. absurd (omega arith);
  only = λ n q h. absurd (none_listed (lists_of c.loop.lists) c.loop.invariant.1 n q h);
}

pub loop-q-preserved : goal.loop-q-preserved
loop-q-preserved c =
    let g = c.args.grammar.now in
    let inv = c.loop-q.invariant in
    let p = c.production-item.result in
    let within : c.loop-q.q < length g.productions.items = omega arith in
    let at = rw c.deref-production-items.ensures.value at c.production-item.is in
    let left = left_at g c.loop-q.q p within at in
    let fits = left_fits g c.loop-q.q p within at in
    let room : p.left < length (lists_of c.loop-q.lists) = simp length-map (omega (arith, fits, inv.len)) in
    record {
      len = c.in_ok-add.ensures.len ∙ inv.len;
      has = rw c.in_ok-add.ensures.ok (has_more g (lists_of c.loop-q.lists) c.loop-q.q p.left room left inv.has);
      only = rw c.in_ok-add.ensures.ok (only_more g (lists_of c.loop-q.lists) c.loop-q.q p.left room within left inv.only);
    }

pub returns : goal.returns
returns c = record { exact = λ n q. (λ h. c.loop-q.invariant.only n q h, λ rule. rw rule.left at (c.loop-q.invariant.has q (omega (arith, rule.within)))) }
