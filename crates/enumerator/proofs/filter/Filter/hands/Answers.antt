use mathlib.Core.Path.{◌∙◌}
use Rattle.lr1_base.specs.repr.Packed.{productions_in}
use Rattle.enumerator.specs.trials.Advance.{set_of}
use Rattle.enumerator.proofs.filter.Handing.{tried-held, tried-inside, hands-example, hands-other}
use Rattle.enumerator.proofs.filter.Filter.hands.Goals as goal

pub is_example-requires : goal.is_example-requires
is_example-requires c = let P = c.requires.tried in record { held = tried-held P.1.0 }

pub returns-then-is_example : goal.returns-then-is_example
returns-then-is_example c = λ es T D p rest w.
    hands-example c.args.self.sets.now.terminals c.args.self.sets.now.map (productions_in c.args.self.grammar.words.now c.args.self.grammar.productions) es (set_of c.args.self.lookahead) c.is_example.result c.args.words.now c.args.view.sources.bytes.now D (tried-inside T) c.is_example.ensures p rest w
    c.if-is_example.true c.passes.result (c.passes.ensures es T p rest w)

pub returns-else-is_example : goal.returns-else-is_example
returns-else-is_example c = λ es T D p rest w.
    c.if-is_example.false ∙ hands-other c.args.self.sets.now.terminals c.args.self.sets.now.map (productions_in c.args.self.grammar.words.now c.args.self.grammar.productions) es (set_of c.args.self.lookahead) c.is_example.result c.args.words.now c.args.view.sources.bytes.now D (tried-inside T) c.is_example.ensures p rest w
    c.if-is_example.false
