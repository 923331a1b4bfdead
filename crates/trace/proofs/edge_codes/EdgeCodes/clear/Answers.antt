use Rattle.std.proofs.Common.{ℕ, replicate, refl, ap, ◌∙◌, arith, get_or-set_same, length-set}
use Rattle.trace.proofs.edge_codes.Coding.{coded_none}
use Rattle.trace.proofs.edge_codes.EdgeCodes.clear.Goals as goal

pub returns : goal.returns
returns c =
    let long = c.args.self.now.room in record {
      none = λ T. rw (c.new-empty.ensures, c.fill.ensures.after (λ y e. e) ∙ ap (λ (n : ℕ). replicate n 0) long.1) (coded_none T _ (length-set c.args.self.now.words.now 0 0 ∙ long.0) (get_or-set_same c.args.self.now.words.now 0 0 0 (omega (arith, long.0))));
      same = (refl, refl);
    }
