use Rattle.std.proofs.Common.{◌≡◌, sym, ◌∙◌, vec_len, All}
use Rattle.certificate.specs.Sets.{FitsIn}
use Rattle.certificate.proofs.Growth.{reachable_exact, closed_of, fits_all}
use Rattle.certificate.proofs.useful.reachable_of.Goals as goal

pub loop-productions-init : goal.loop-productions-init
loop-productions-init c =
    let list = c.as_slice-productions.ensures.value in
    record {
      len = c.start.ensures.len ∙ c.in_ok-set.ensures.len ∙ c.len.ensures;
      started = λ p first. c.start.ensures.added p (rw list first);
      sound = (rw list at c.start.ensures.sound) (λ n h. absurd (c.in_ok-set.ensures.empty n h));
    }

pub reach_all-requires : goal.reach_all-requires
reach_all-requires c =
    let g = c.args.grammar.now in
    rw (c.as_slice-productions.ensures.value, c.loop-productions.invariant.len) (fits_all (vec_len g.terminals) (vec_len g.nonterminals) g.productions.items g.in_range)

pub loop-productions-preserved : goal.loop-productions-preserved
loop-productions-preserved c =
    let list = c.as_slice-productions.ensures.value in
    let inv = c.loop-productions.invariant in
    record {
      len = c.reach_all.ensures.len ∙ inv.len;
      started = λ p first. c.reach_all.ensures.keeps p.left (inv.started p first);
      sound = (rw list at c.reach_all.ensures.sound) (λ n. (c.requires n).0) inv.sound;
    }

pub returns : goal.returns
returns c n =
    let list = c.as_slice-productions.ensures.value in
    let ps = c.args.grammar.now.productions.items in
    let inv = c.loop-productions.invariant in
    reachable_exact ps c.args.productive.now c.reach_all.new.set (closed_of ps c.args.productive.now c.requires) (rw list at c.loop-productions-test.ensures.closed)
    (λ p first. c.reach_all.ensures.keeps p.left (inv.started p first)) ((rw list at c.reach_all.ensures.sound) (λ k. (c.requires k).0) inv.sound) n
