-- No two proofs that labels are in range differ, so that a struct may hold one.
use Rattle.std.specs.Prelude.{ℕ, List, [], ◌∷◌}
use Rattle.std.proofs.Props.{props}
use Rattle.lr1_base.specs.repr.Meaning.{Production, All}
use Rattle.enumerator.specs.example.Example.{Label}
use Rattle.enumerator.specs.example.Labels.{LabelFits, LabelsFit}

pub Each-prop : (ps : List Production) (ls : List Label) → IsProp (All (LabelFits ps) ls)
unfolding All
Each-prop ps [] = hlevel props
Each-prop ps (l ∷ ls) = hlevel (props, Each-prop ps ls)

pub LabelsFit-prop : (ps : List Production) (ws : List ℕ) → IsProp (LabelsFit ps ws)
LabelsFit-prop ps ws = hlevel (props, Each-prop)
