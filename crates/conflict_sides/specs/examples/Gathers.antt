-- What the functions that list a side answer, and what is kept of its examples.
use Rattle.std.specs.Prelude.{◌≡◌, ℕ, zero, suc, ◌+◌, ◌<◌, ◌≤◌, Bool, true, false, List, length, ◌==◌, ◌≢◌, Option as OptionOf, Result, Ok, Err}
use Rattle.std.proofs.Math.Option.{none}
use Rattle.lr1_base.specs.repr.Sizes.{reduction_limit, example_limit}
use Rattle.lr1_base.specs.declared.repr.refusals.Refusal.{Refusal}
use Rattle.lr1_base.specs.repr.Reply.{number_of, place_of}
use Rattle.lr1_base.specs.repr.Meaning.{Production, Table, All}
use Rattle.lr1_base.specs.declared.lookahead.TokenSet.{TokenSet}
use Rattle.trace.specs.Shift.{shift_edges}
use Rattle.enumerator.specs.example.Labels.{LabelFits}
use Rattle.enumerator.specs.trials.Advance.{set_of}
use Rattle.conflict_sides.specs.declared.conflict.Conflict.{Conflict}
use Rattle.conflict_sides.specs.conflict.Judge.{Example}
use Rattle.conflict_sides.specs.conflict.Sides.{Side, gathered, stopped, listing_side, reduce_side}
use Rattle.conflict_sides.specs.outline.Outline.{outline_from}
use Rattle.conflict_sides.specs.outline.Kept.{nth, outline_in, turn_in, labelled_limit, KeptLabels, Outlined}
use Rattle.conflict_sides.specs.outline.Inline.{Shifts}
use Rattle.trace.specs.Built.{edges_by}
use Rattle.trace.specs.declared.TracedItem.{TracedItem}
use Rattle.trace.specs.declared.Action.{Action}
use Rattle.trace.specs.declared.Action.TheVariants.{Shift, Reduce}
use Rattle.conflict_sides.specs.declared.examples.Gathered.{Gathered}
use Rattle.conflict_sides.specs.examples.Again.{Listed}
use Rattle.lr1_base.specs.item.Places.{item_at_place}

-- example x put as number k of its side, number `turn` of its listing: its outline, and its labels where they are kept; nothing changes of the others
pub record PutBehind (ps : List Production) (shift : Bool) (x : Example) (turn k : ℕ) (kept prints kept' prints' : List ℕ) : Type 0 where
  pub outline : outline_in kept' prints' k ≡ outline_from ps shift x
  pub number : turn_in kept' k ≡ turn
  pub labels : k < labelled_limit → KeptLabels ps kept' k x
  pub other_outlines : (j : ℕ) → (j ≢ k) → j < example_limit → outline_in kept' prints' j ≡ outline_in kept prints j
  pub other-numbers : (j : ℕ) → (j ≢ k) → j < example_limit → turn_in kept' j ≡ turn_in kept j
  pub other_labels : (j : ℕ) → (j ≢ k) → j < labelled_limit → (y : Example) → KeptLabels ps kept j y → KeptLabels ps kept' j y

-- a listing's examples ys kept behind the first `count`: n in all, each with its number in the listing
pub record Behind (ps : List Production) (shift : Bool) (count n : ℕ) (ys : List Example) (kept prints kept' prints' : List ℕ) : Type 0 where
  pub many : n ≡ count + length ys
  pub few : n ≤ example_limit
  pub same : (k : ℕ) → k < count → outline_in kept' prints' k ≡ outline_in kept prints k
  pub same_turn : (k : ℕ) → k < count → turn_in kept' k ≡ turn_in kept k
  pub same_labels : (k : ℕ) → k < count → k < labelled_limit → (x : Example) → KeptLabels ps kept k x → KeptLabels ps kept' k x
  pub new : (j : ℕ) → j < length ys → outline_in kept' prints' (count + j) ≡ outline_from ps shift (nth ys j)
  pub new_turn : (j : ℕ) → j < length ys → turn_in kept' (count + j) ≡ j
  pub new_labels : (j : ℕ) → j < length ys → count + j < labelled_limit → KeptLabels ps kept' (count + j) (nth ys j)

-- n examples are kept after the listing, m trials were made
pub record ListedBehind (ps : List Production) (shift : Bool) (count n m : ℕ) (kept prints kept' prints' : List ℕ) (listing : Side) : Type 0 where
  pub examples : List Example
  pub is : listing ≡ gathered examples m
  pub behind : Behind ps shift count n examples kept prints kept' prints'

-- what a side refuses, 12 to 14, has no place
abbrev pub Stops : Refusal → Side → Type 0
Stops x side = (side ≡ stopped (number_of x)) × (place_of x ≡ 0)

unfoldable pub ListedOn : List Production → Bool → Result Gathered Refusal → ℕ → List ℕ → List ℕ → List ℕ → List ℕ → Side → Type 0
ListedOn ps shift (Ok g) count kept prints kept' prints' listing = ListedBehind ps shift count g.examples g.trials kept prints kept' prints' listing
ListedOn ps shift (Err x) count kept prints kept' prints' listing = Stops x listing

-- a listing makes at most 100,000 trials
unfoldable pub TrialsIn : ℕ → Result Gathered Refusal → Type 0
TrialsIn l (Ok g) = g.trials ≤ l
TrialsIn l (Err x) = Unit {0}

-- which of the two traces an example with such a label is of
abbrev pub shifts : Action → Bool
shifts Shift = true
shifts Reduce = false

-- what a traced item lists, k examples being on the side
abbrev pub traced_side : Table → TracedItem → OptionOf TokenSet → ℕ → Side
traced_side T i ahead k = listing_side T (edges_by i.action T i.state (record { production = i.item.production; index = i.item.index })) (record { production = i.item.production; index = i.item.index }) (set_of ahead) k

-- how an example with a kept label is made again: it is number k of the listing of its item, which began after some examples
pub record Made (listing : ℕ → Side) (k : ℕ) (x : Example) : Type 0 where
  pub before : ℕ
  pub few : before ≤ example_limit
  pub listed : Listed (listing before) k x

-- of a shift the label is the item; of a reduce the item is the production at its end
unfoldable pub shift_made : Table → ℕ → ℕ → ℕ → Example → Type 0
shift_made T s label k x = Made (λ n. listing_side T (shift_edges T s (item_at_place label)) (item_at_place label) none n) k x

unfoldable pub reduce_made : Table → ℕ → ℕ → ℕ → ℕ → ℕ → Example → Type 0
reduce_made T s p token label k x = Listed (reduce_side T s p token) k x

unfoldable pub made_by : Table → ℕ → ℕ → ℕ → ℕ → ℕ → ℕ → Example → Type 0
made_by T s zero operand token = shift_made T s
made_by T s (suc a) operand token = reduce_made T s operand token

unfoldable pub action_made : Table → Conflict → ℕ → ℕ → Example → Type 0
action_made T c = made_by T c.state.0 c.action c.operand c.token

-- the conflict's reduce as the action of one, whose side is then the other side
abbrev pub reduced : Conflict → Conflict
reduced c = record { state = c.state; production = c.production; action = 1; operand = c.production.0; token = c.token }

unfoldable pub is_shift : Conflict → Bool
is_shift c = c.action == 0

-- an example has one label at least, at most 33, in range
pub record ExampleFits (ps : List Production) (x : Example) : Type 0 where
  pub some_label : 1 ≤ length x
  pub few : length x ≤ reduction_limit
  pub each : All (LabelFits ps) x

-- what is kept of a side's examples xs: of each its outline, and how it is made again; of the first their labels; of a shift's each shifts
pub record SideKept (T : Table) (shift : Bool) (made : ℕ → ℕ → Example → Type 0) (xs : List Example) (kept prints : List ℕ) : Type 0 where
  pub outlined : Outlined T.productions shift xs kept prints
  pub again : (k : ℕ) → k < length xs → made (outline_in kept prints k).label (turn_in kept k) (nth xs k)
  pub labels : (k : ℕ) → k < length xs → k < labelled_limit → KeptLabels T.productions kept k (nth xs k)
  pub fits : (k : ℕ) → k < length xs → ExampleFits T.productions (nth xs k)
  pub shifts : shift ≡ true → (k : ℕ) → k < length xs → Shifts T.productions (nth xs k)

-- n examples from m trials
pub record Gathers (T : Table) (shift : Bool) (made : ℕ → ℕ → Example → Type 0) (n m : ℕ) (kept prints : List ℕ) (side : Side) : Type 0 where
  pub examples : List Example
  pub is : side ≡ gathered examples m
  pub many : length examples ≡ n
  pub held : SideKept T shift made examples kept prints

-- the answer is the side's
unfoldable pub Sided : Table → Bool → (ℕ → ℕ → Example → Type 0) → Result Gathered Refusal → List ℕ → List ℕ → Side → Type 0
Sided T shift made (Ok g) kept prints side = Gathers T shift made g.examples g.trials kept prints side
Sided T shift made (Err x) kept prints side = Stops x side
