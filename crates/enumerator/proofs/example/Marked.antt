-- The marked list of what the filter asks (docs/RULES.md, "Listing"), computed from the definitions: how many labels the filter asks.
use Rattle.std.proofs.Common.{◌≡◌, ℕ, List, [], ◌∷◌, map, refl}
use Rattle.lr1_base.specs.words.Same.{same_words}
use Rattle.lr1_base.specs.repr.Meaning.{Symbol, nonterminal, terminal, Production}
use Rattle.lr1_base.specs.lookahead.Tokens.{has, single, union, without}
use Rattle.lr1_base.specs.item.Items.{first, symbol_sets}
use Rattle.first.specs.First.{join, first_of, marked_at_end, unmarked, first0, grown, round, settle, sets_of_first}
use Rattle.enumerator.specs.example.Example.{Label, sets_of, cursor_of, asked_parts, asked_in, asked_of}

abbrev production : ℕ → List Symbol → Production
production n xs = record { nonterminal = n; symbols = xs; start = 0; end = 0 }

-- S → S O O, S → O a, O → nothing; the terminal is a
abbrev grammar : List Production
grammar =
    production 0 (nonterminal 0 ∷ nonterminal 1 ∷ nonterminal 1 ∷ [])
    ∷ production 0 (nonterminal 1 ∷ terminal 0 ∷ [])
    ∷ production 1 []
    ∷ []

abbrev label : ℕ → ℕ → Label
label p i = record { nonterminal = 0; production = p; index = i }

-- S → S (*) O O: what follows O is nullable; S → (*) O a: O is nullable, what follows it is not; S → O (*) a shifts; S → O a (*) reduces
abbrev goes : Label
goes = label 0 1

abbrev stops : Label
stops = label 1 0

abbrev shifts : Label
shifts = label 1 1

abbrev reduces : Label
reduces = label 1 2

-- stopping at the first (by its suffix), in the middle, at the last, never, and a shift's first label
abbrev lists : List (List Label)
lists =
    (stops ∷ goes ∷ goes ∷ [])
    ∷ (reduces ∷ goes ∷ stops ∷ goes ∷ [])
    ∷ (reduces ∷ goes ∷ goes ∷ stops ∷ [])
    ∷ (reduces ∷ goes ∷ goes ∷ goes ∷ goes ∷ [])
    ∷ (shifts ∷ goes ∷ goes ∷ [])
    ∷ []

pub marked-asked : map (asked_of 1 (sets_of_first 1 grammar) grammar) lists ≡ 1 ∷ 3 ∷ 4 ∷ 5 ∷ 1 ∷ []
unfolding asked_of asked_in asked_parts cursor_of sets_of first symbol_sets first0 unmarked marked_at_end first_of sets_of_first settle same_words round grown join has single union without
marked-asked = refl
