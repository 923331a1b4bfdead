-- A side's examples as they are kept: four words each, its number of places, the nonterminal of its first reduction, the label that the inline test reads, and which of its
-- listing's examples it is; beside them its print; and behind them the labels of the side's first examples. Assumes nothing: these are definitions.
use Rattle.std.specs.Prelude.{◌≡◌, ℕ, ◌+◌, ◌*◌, ◌<◌, ◌≤◌, Bool, List, [], ◌∷◌, length, get_or, take, drop, slice_index, slice_index_or}
use Rattle.std.proofs.lemmas.List.Edits.{sets}
use Rattle.lr1_base.specs.repr.Sizes.{labels_room, example_limit}
use Rattle.lr1_base.specs.repr.Meaning.{Production}
use Rattle.enumerator.specs.example.Labels.{labels_in, LabelsFit}
use Rattle.conflict_sides.specs.conflict.Judge.{Example}
use Rattle.conflict_sides.specs.declared.outline.Outline.{Outline}
use Rattle.conflict_sides.specs.outline.Outline.{outline_from}

abbrev pub outline_words : ℕ
outline_words = 4

abbrev pub outline_place : ℕ → ℕ
outline_place k = k * outline_words

abbrev pub outlines_room : ℕ
outlines_room = outline_place example_limit

unfoldable pub nth : List Example → ℕ → Example
nth xs k = slice_index_or xs k []

-- example k of a side
unfoldable pub outline_in : List ℕ → List ℕ → ℕ → Outline
outline_in kept prints k = record {
  places = slice_index kept (outline_place k);
  print = slice_index prints k;
  first = slice_index kept (outline_place k + 1);
  label = slice_index kept (outline_place k + 2);
}

-- which of its listing's it is
unfoldable pub turn_in : List ℕ → ℕ → ℕ
turn_in kept k = slice_index kept (outline_place k + 3)

-- the words with an example's at k
unfoldable pub kept_with : List ℕ → ℕ → Outline → ℕ → List ℕ
kept_with kept k o turn = sets kept (outline_place k) (o.places ∷ o.first ∷ o.label ∷ turn ∷ [])

-- the labels of the first examples: a length and their words, one example behind the other
abbrev pub labelled_limit : ℕ
labelled_limit = 8

abbrev pub labelled_words : ℕ
labelled_words = 1 + labels_room

abbrev pub labelled_place : ℕ → ℕ
labelled_place k = outlines_room + k * labelled_words

abbrev pub kept_room : ℕ
kept_room = labelled_place labelled_limit

-- the words of example k's labels
unfoldable pub label_words_in : List ℕ → ℕ → List ℕ
label_words_in kept k = take (slice_index kept (labelled_place k)) (drop (labelled_place k + 1) kept)

-- they are the labels of x
pub record KeptLabels (ps : List Production) (kept : List ℕ) (k : ℕ) (x : Example) : Type 0 where
  pub few : get_or kept (labelled_place k) 0 ≤ labels_room
  pub fit : LabelsFit ps (label_words_in kept k)
  pub same : labels_in (label_words_in kept k) ≡ x

-- the words of labels put as example k's, no word but theirs changed
pub record LabelsPut (ls : List ℕ) (k : ℕ) (kept kept' : List ℕ) : Type 0 where
  pub long : length kept' ≡ length kept
  pub size : get_or kept' (labelled_place k) 0 ≡ length ls
  pub here : (i : ℕ) → i < length ls → slice_index kept' (labelled_place k + 1 + i) ≡ slice_index ls i
  pub before : (j : ℕ) → j < labelled_place k → slice_index kept' j ≡ slice_index kept j
  pub after : (j : ℕ) → labelled_place k + 1 + length ls ≤ j → slice_index kept' j ≡ slice_index kept j

-- room for a side's examples
pub record Room (kept prints : List ℕ) : Type 0 where
  pub by_words : kept_room ≤ length kept
  pub by_print_lem : example_limit ≤ length prints

-- of each example its outline
pub record Outlined (ps : List Production) (shift : Bool) (xs : List Example) (kept prints : List ℕ) : Type 0 where
  pub few : length xs ≤ example_limit
  pub room : Room kept prints
  pub each : (k : ℕ) → k < length xs → outline_in kept prints k ≡ outline_from ps shift (nth xs k)
