use Rattle.std.proofs.Common.{◌≡◌, ◌∙◌, ℕ, ◌<◌, ◌≤◌, List, All, rules, arith, refl}
use Rattle.std.proofs.lemmas.List.Elements.{All-push}
use Rattle.indexmap.specs.IndexSet.{index_set_len}
use Rattle.yacc_file.specs.Syntax.{AlternativeFits, RuleFits}
use Rattle.yacc_file.proofs.parser.Parser.alternatives.Goals as goal

pub loop-bar-preserved : goal.loop-bar-preserved
loop-bar-preserved c = let names = index_set_len c.args.self.now.file.names in
    let same : c.next_bar.new.self.file ≡ c.args.self.now.file = c.in-Some.ensures.file ∙ c.loop-bar.invariant.file in
    let fits : AlternativeFits names c.in_ok-alternative-2.field-0 = rw same at c.in_ok-alternative-2.ensures.fits in record {
      left = omega arith;
      file = c.in_ok-alternative-2.ensures.file ∙ same;
      alternatives = rw c.in_ok-push-2.ensures.items (All-push (AlternativeFits names) c.loop-bar.alternatives.items c.in_ok-alternative-2.field-0 c.loop-bar.invariant.alternatives fits);
    }

pub add_rule-requires : goal.add_rule-requires
add_rule-requires c =
    let same : c.end_rule.new.self.file ≡ c.args.self.now.file = c.end_rule.ensures.file ∙ (c.in_default.ensures.file ∙ c.loop-bar.invariant.file) in
    record { left = rw same c.requires; alternatives = rw same c.loop-bar.invariant.alternatives }
