use Rattle.std.proofs.Common.{◌∙◌, sym}
use Rattle.yacc_grammar.proofs.resolution.grammar_of.Goals as goal
use Rattle.yacc_grammar.proofs.resolution.grammar_of.Goals.{in-Found+in_ok-made-in-Found, in-Unknown, in_default}

pub returns-clause-grammar : goal.returns-clause-grammar
returns-clause-grammar c x e =
    elim c.match-found.branch [
      | in-Found+in_ok-made-in-Found w ↦ w.in_ok-made-in-Found.ensures.grammar x (sym w.made-is ∙ e)
      | in-Unknown w ↦ let none = sym w.made-is ∙ e in absurd (cc)
      | in_default w ↦ let none = sym w.made-is ∙ e in absurd (cc)
    ]
