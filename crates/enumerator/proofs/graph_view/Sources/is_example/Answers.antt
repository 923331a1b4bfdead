use mathlib.Core.Path.{◌≡◌, refl, sym, ◌∙◌}
use mathlib.Core.Bool.{true, false}
use Rattle.enumerator.proofs.graph_view.Stepping.{source_none, example-none, example-top}
use Rattle.enumerator.proofs.graph_view.Sources.is_example.Goals as goal

pub returns-in-Some : goal.returns-in-Some
returns-in-Some c = let b : true ≡ c.is_none.result = cc in λ st rest w.
    b ∙ source_none _ _ (sym c.is_none.ensures) c.source.ensures ∙ example-top c.args.self.bytes.now c.requires.held refl c.in-Some.ensures.0 c.in-Some.ensures.1 st rest w

pub returns-in_default : goal.returns-in_default
returns-in_default c = let b : false ≡ c.is_none.result = cc in λ st rest w.
    b ∙ source_none _ _ (sym c.is_none.ensures) c.source.ensures ∙ example-top c.args.self.bytes.now c.requires.held refl c.in-Some.ensures.0 c.in-Some.ensures.1 st rest w

pub returns-in_default-2 : goal.returns-in_default-2
returns-in_default-2 c = example-none c.args.self.bytes.now c.requires.held refl c.in_default.ensures
