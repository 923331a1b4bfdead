use Rattle.std.proofs.Common.{sym, refl, ◌∙◌, arith}
use Rattle.trace.proofs.edge_codes.Coding.{coded_there, coded_full, coded_new}
use Rattle.trace.proofs.edge_codes.EdgeCodes.insert_code.Goals as goal

pub returns-then-has : goal.returns-then-has
returns-then-has c = record { coded = λ T fits es e C t ec ek. coded_there T fits _ _ es e C t c.args.code c.args.key ec ek c.requires.1 (sym c.has.ensures ∙ c.if-has.true); full = tt; same = (refl, refl) }

pub returns-then-count-ge-EDGES : goal.returns-then-count-ge-EDGES
returns-then-count-ge-EDGES c = record { coded = tt; full = λ T fits es e C t ec ek. coded_full T fits _ _ es e C t c.args.code c.args.key ec ek c.requires.1 (sym c.has.ensures ∙ c.if-has.false) (omega (arith, c.count-count.ensures, c.if-count-ge-EDGES.true)); same = (refl, refl) }

pub returns : goal.returns
returns c = record {
  coded = λ T fits es e C t ec ek.
      let b = sym c.has.ensures ∙ c.if-has.false in
      let w = c.count-count.ensures in
      let made = coded_new T fits _ _ es e C t c.args.code c.args.key ec ek c.requires.1 b (omega (arith, w, c.if-count-ge-EDGES.false)) in
      rw (c.put.ensures, w) made;
  full = tt;
  same = (refl, refl);
}
