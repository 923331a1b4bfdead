use Rattle.std.proofs.Common.{sym, ◌∙◌}
use Rattle.std.proofs.lemmas.List.Elements.{All-weaker}
use Rattle.certificate.specs.Sentences.{DerivesSentence}
use Rattle.certificate.specs.Sets.{SymbolIn}
use Rattle.certificate.proofs.Growth.{symbol_exact}
use Rattle.certificate.proofs.judging.is_shown.Goals as goal

pub returns : goal.returns
returns c =
    let ps = c.args.grammar.now.productions.items in
    let k = c.args.certificate.now in
    let set = c.args.useful.now.productive in
    let exact = symbol_exact ps set c.requires.productive in
    let derive = All-weaker (SymbolIn set) (DerivesSentence ps) (λ x. (exact x).0) in
    let member = All-weaker (DerivesSentence ps) (SymbolIn set) (λ x. (exact x).1) in (
      λ e.
          let u = c.is_of_use.ensures.0 e in
          record {
            one = rw (c.as_slice-first.ensures.value, c.as_slice-2.ensures.value, c.in_ok-form.ensures, c.as_slice-front.ensures.value, c.as_slice.ensures.value) at
                (c.in_ok-is_reading.ensures.0 c.if-not-branch.false);
            two = rw (c.as_slice-second.ensures.value, c.as_slice-4.ensures.value, c.in_ok-other_form.ensures, c.as_slice-front.ensures.value, c.as_slice-3.ensures.value) at
                (c.in_ok-is_reading-2.ensures.0 c.if-not-branch-2.false);
            part = rw (c.as_slice-first.ensures.value, c.as_slice-second.ensures.value, c.as_slice-front.ensures.value) at (c.part_at.ensures.0 c.if-not-part_at.false);
            reach = (c.requires.reachable k.root).0 u.0;
            front = derive k.front.items u.1;
            tail = derive k.tail.items u.2;
            other_tail = derive k.other_tail.items u.3;
          },
      λ s. c.is_of_use.ensures.1 ((c.requires.reachable k.root).1 s.reach, member k.front.items s.front, member k.tail.items s.tail, member k.other_tail.items s.other_tail),
    )
