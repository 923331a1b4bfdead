-- Tokens with their names.
use Rattle.std.specs.Prelude.{◌≡◌, ℕ, ◌<◌, ◌≤◌, List, [], ◌∷◌, ◌++◌}
use Rattle.source.specs.declared.span.Span.{Span}
use Rattle.yacc_file.specs.declared.word.Name.{Name}
use Rattle.yacc_file.specs.declared.word.Word.{Word}

abbrev pub NameFits : ℕ → Name → Type 0
NameFits names name = name.id < names

abbrev pub WordFits : ℕ → Word → Type 0
WordFits names word = word.name.id < names

-- the tokens lie between the two places, one behind the other, and none is empty
abbrev pub AreInOrder : ℕ → ℕ → List Word → Type 0
AreInOrder low high [] = low ≤ high
AreInOrder low high (w ∷ ws) = (low ≤ w.name.span.start) × (w.name.span.start < w.name.span.end) × AreInOrder w.name.span.end high ws

-- one more token, at this place
abbrev pub IsAt : Span → List Word → List Word → Type 0
IsAt span old new = (w : Word) × (w.name.span ≡ span) × (new ≡ old ++ w ∷ [])
