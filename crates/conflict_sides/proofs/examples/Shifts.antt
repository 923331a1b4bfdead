-- The ways through a turn of `shift_examples`: the items in their order, each one's listing behind those before it (conflict_sides/specs/conflict/Sides).
use Rattle.std.specs.Prelude.{None, Result, Ok, Err, ◌≡◌, ℕ, suc, ◌+◌, ◌*◌, ◌<◌, ◌≤◌, Bool, true, List, [], ◌∷◌, ◌++◌, map, length, get_or, drop}
use native.Mathlib.Omega.{arith}
use mathlib.Core.Path.{refl, sym, ap, ◌∙◌}
use mathlib.Core.Option.{none}
use lib.ListN.{length-append}
use Rattle.lr1_base.specs.repr.Sizes.{production_limit, symbol_limit, index_limit, trial_limit, example_limit}
use Rattle.lr1_base.specs.repr.Lists.{keep, some?, below}
use Rattle.trace.proofs.Distinct.{code-item, code_small}
use Rattle.lr1_base.specs.repr.Meaning.{All, Item, Table, no_state, state_at, production_at, TableFits, StateFits, ItemFits}
use Rattle.lr1_base.proofs.repr.Lists.{cases, keep-nil, keep-yes, keep_no, length-keep, length_mapped, length-below}
use Rattle.lr1_base.proofs.repr.Tests.{some?_elim, All_at}
use Rattle.trace_graph.specs.Graph.{same_item}
use Rattle.trace_graph.specs.Fits.{item_is_fit}
use Rattle.lr1_base.proofs.laws.Bools.{and_left, and_right}
use Rattle.trace.specs.Shift.{shift_edges}
use Rattle.trace.proofs.Traced.{item_fits}
use Rattle.trace.specs.declared.Action.TheVariants.{Shift}
use Rattle.trace.specs.Built.{edges_by}
use Rattle.enumerator.specs.trials.Advance.{set_of}
use Rattle.std.specs.Prelude.{None}
use Rattle.conflict_sides.specs.conflict.Items.{shifts_token, shift_items}
use Rattle.conflict_sides.specs.conflict.Judge.{Example}
use Rattle.conflict_sides.proofs.conflict.Items.{shifts-inside}
use Rattle.conflict_sides.specs.conflict.Sides.{Side, gathered, stopped, listing_side, with_more, examples_in, shift_side_from, shift_side}
use Rattle.conflict_sides.specs.shift_items.Left.{Marked, is_shift_item, place_item, items_left}
use Rattle.conflict_sides.proofs.shift_items.Left.{left_all_lem}
use Rattle.conflict_sides.specs.outline.Kept.{Room}
use Rattle.conflict_sides.specs.declared.examples.Gathered.{Gathered}
use Rattle.lr1_base.specs.declared.repr.refusals.Refusal.{Refusal}
use Rattle.lr1_base.specs.repr.Reply.{number_of}
use Rattle.conflict_sides.specs.examples.Gathers.{Stops, ListedBehind, ListedOn, TrialsIn, shift_made, SideKept, Sided}
use Rattle.conflict_sides.proofs.examples.Sides.{none_kept, shift_kept}
use Rattle.trace_graph.proofs.Labels.{item_equal}
use Rattle.lr1_base.specs.item.Places.{item_at_place}

-- the items that are left of a state's
pub record Turn (T : Table) (s token : ℕ) (kept prints : List ℕ) (total trials : ℕ) (left : List Item) : Type 0 where
  pub examples : List Example
  pub many : length examples ≡ total
  pub held : SideKept T true (shift_made T s) examples kept prints
  pub few_trials : trials + length left * trial_limit ≤ production_limit * symbol_limit * trial_limit
  pub inside : All (λ i. is_shift_item T s token i ≡ true) left
  pub same : shift_side_from T s (gathered examples trials) left ≡ shift_side T s token

-- sides

with_gathered : (xs ys : List Example) (m n : ℕ) → with_more (gathered xs m) (gathered ys n) ≡ gathered (xs ++ ys) (m + n)
unfolding with_more
with_gathered xs ys m n = refl

with_stopped : (xs : List Example) (m x : ℕ) → with_more (gathered xs m) (stopped x) ≡ stopped x
unfolding with_more
with_stopped xs m x = refl

stays_stopped : (x : ℕ) (L : Side) → with_more (stopped x) L ≡ stopped x
unfolding with_more
stays_stopped x L = refl

examples_gathered : (xs : List Example) (m : ℕ) → examples_in (gathered xs m) ≡ length xs
unfolding examples_in
examples_gathered xs m = refl

from-none : (T : Table) (s : ℕ) (so : Side) → shift_side_from T s so [] ≡ so
unfolding shift_side_from
from-none T s so = refl

from_next : (T : Table) (s : ℕ) (so : Side) (i : Item) (is : List Item) → shift_side_from T s so (i ∷ is) ≡ shift_side_from T s (with_more so (listing_side T (shift_edges T s i) i none (examples_in so))) is
unfolding shift_side_from
from_next T s so i is = refl

from-stopped : (T : Table) (s x : ℕ) (is : List Item) → shift_side_from T s (stopped x) is ≡ stopped x
from-stopped T s x [] = from-none T s (stopped x)
from-stopped T s x (i ∷ is) =
    from_next T s (stopped x) i is ∙ ap (λ (l : Side). shift_side_from T s l is) (stays_stopped x (listing_side T (shift_edges T s i) i none (examples_in (stopped x)))) ∙ from-stopped T s x is

-- the items of a state that shift a token

few_items : {order : List ℕ} {g marks : List ℕ} {n : ℕ} (T : Table) (s token : ℕ) → Marked T s g n order marks → length (shift_items T s token) ≤ production_limit * symbol_limit
unfolding items_left
few_items {order} {g} {marks} {n} T s token M =
    let a = length-keep (is_shift_item T s token) (map (place_item order) (drop 0 (below (n * symbol_limit)))) in
    let b = length_mapped (place_item order) (drop 0 (below (n * symbol_limit))) in
    let c : length (drop 0 (below (n * symbol_limit))) ≡ n * symbol_limit = length-below (n * symbol_limit) in
    let few = M.grammar.packed.few in
    rw (← left_all_lem M token) (omega arith)

kept-all : (t : Item → Bool) (xs : List Item) → All (λ i. t i ≡ true) (keep t xs)
unfolding All
kept-all t [] = rw (keep-nil t) tt
kept-all t (x ∷ xs) = let rest = kept-all t xs in cases (t x) (λ e. rw (keep-yes t x xs e) (e, rest)) (λ e. rw (keep_no t x xs e) rest)

all_shift : {order g marks : List ℕ} {n : ℕ} (T : Table) (s token : ℕ) → Marked T s g n order marks → All (λ i. is_shift_item T s token i ≡ true) (shift_items T s token)
unfolding items_left
all_shift {order} {g} {marks} {n} T s token M = rw (← left_all_lem M token) (kept-all (is_shift_item T s token) (map (place_item order) (drop 0 (below (n * symbol_limit)))))

pub turn_first : {order g marks : List ℕ} {n : ℕ} (T : Table) (s token : ℕ) (kept prints : List ℕ) → Marked T s g n order marks → Room kept prints → (left : List Item) → left ≡ shift_items T s token → Turn T s token kept prints 0 0 left
unfolding shift_side
turn_first T s token kept prints M R left e =
    let l = few_items T s token M in
    rw e (record {
      examples = [];
      many = refl;
      held = none_kept T true (shift_made T s) kept prints R;
      few_trials = omega arith;
      inside = all_shift T s token M;
      same = refl;
    })

pub turn_room : (T : Table) (s token : ℕ) (kept prints : List ℕ) (total trials : ℕ) (left : List Item) → Turn T s token kept prints total trials left → total ≤ example_limit
turn_room T s token kept prints total trials left U = let a = U.many in let b = U.held.outlined.few in omega arith

pub trials_few : (r : Result Gathered Refusal) (g : Gathered) → r ≡ Ok g → TrialsIn trial_limit r → g.trials ≤ trial_limit
unfolding TrialsIn
trials_few r g e h = rw e at h

-- the first of them, i: an item of the state, with a cursor

module _ (T : Table) (F : TableFits T) (s token : ℕ) (hs : s < length T.states) (kept prints : List ℕ) (total trials : ℕ) (left : List Item) (U : Turn T s token kept prints total trials left)
    (p x : ℕ) (rest : List Item) (el : left ≡ record { production = p; index = x } ∷ rest) where
  abbrev i : Item
  i = record { production = p; index = x }

  inside : All (λ i. is_shift_item T s token i ≡ true) (i ∷ rest)
  inside = rw el at U.inside

  tested : is_shift_item T s token i ≡ true
  unfolding All
  tested = inside.0

  of_state : ItemFits T i
  unfolding is_shift_item
  of_state =
      let z = and_right (shifts_token T.productions token i) (some? (same_item i) (state_at T s).items) tested in
      let w = some?_elim (same_item i) (state_at T s).items i z in
      let S = All_at (StateFits T) T.states s no_state F.states hs in
      rw (item_equal i (get_or (state_at T s).items w.0 i) w.2) (All_at (ItemFits T) (state_at T s).items w.0 i S.items w.1)

  has_cursor : i.index < length (production_at T i.production).symbols
  unfolding is_shift_item
  has_cursor = shifts-inside T.productions token i (and_left (shifts_token T.productions token i) (some? (same_item i) (state_at T s).items) tested)

  pub item_in_lem : item_is_fit T.productions p x ≡ true
  item_in_lem = item_fits T i of_state

  fewer : length left ≡ suc (length rest)
  fewer = ap (λ (l : List Item). length l) el

  pub turn_trials : (m : ℕ) → m ≤ trial_limit → trials + m ≤ production_limit * symbol_limit * trial_limit
  turn_trials m h = let z = fewer in let f = U.few_trials in omega arith

  -- the listing that was made, r its answer
  module _ (r : Result Gathered Refusal) (kept' prints' : List ℕ) (a : ListedOn T.productions true r total kept prints kept' prints' (listing_side T (edges_by Shift T s i) i (set_of None) total)) where
    abbrev listing : Side
    listing = listing_side T (edges_by Shift T s i) i none total

    answer : ListedOn T.productions true r total kept prints kept' prints' listing
    unfolding set_of
    answer = a

    step : (so : Side) → with_more (gathered U.examples trials) listing ≡ so → shift_side_from T s so rest ≡ shift_side T s token
    step so e =
        ap (λ (l : Side). shift_side_from T s l rest) (sym e ∙ ap (λ (q : ℕ). with_more (gathered U.examples trials) (listing_side T (shift_edges T s i) i none q)) (sym (examples_gathered U.examples trials ∙ U.many)))
        ∙ sym (from_next T s (gathered U.examples trials) i rest)
        ∙ ap (shift_side_from T s (gathered U.examples trials)) (sym el)
        ∙ U.same

    behind : (g : Gathered) → r ≡ Ok g → ListedBehind T.productions true total g.examples g.trials kept prints kept' prints' listing
    unfolding ListedOn
    behind g er = rw er at answer

    code_is : item_at_place (p * index_limit + x) ≡ i
    code_is = code-item i (code_small T F i of_state).0

    pub turn_more : (g : Gathered) → r ≡ Ok g → TrialsIn trial_limit r → Room kept' prints' → Turn T s token kept' prints' g.examples (trials + g.trials) rest
    unfolding All
    turn_more g er K R =
        let G = behind g er in
        let B = G.behind in
        let b = trials_few r g er K in
        let d = U.few_trials in
        let z = fewer in
        let y = B.many in
        let m = U.many in
        let w = length-append U.examples G.examples in
        record {
          examples = U.examples ++ G.examples;
          many = omega arith;
          held = shift_kept T F s (p * index_limit + x) (rw code_is (item_fits T i of_state)) (rw code_is has_cursor) U.examples G.examples total g.examples g.trials U.many kept prints kept' prints' U.held R B (rw code_is G.is);
          few_trials = omega arith;
          inside = inside.1;
          same = step (gathered (U.examples ++ G.examples) (trials + g.trials)) (ap (with_more (gathered U.examples trials)) G.is ∙ with_gathered U.examples G.examples trials g.trials);
        }

    stopped_at : (e : Refusal) → r ≡ Err e → Stops e listing
    unfolding ListedOn
    stopped_at e er = rw er at answer

    pub turn_stop : (e : Refusal) → r ≡ Err e → Sided T true (shift_made T s) (Err e) kept' prints' (shift_side T s token)
    unfolding Sided
    turn_stop e er =
        let h = stopped_at e er in
        (sym (step (stopped (number_of e)) (ap (with_more (gathered U.examples trials)) h.0 ∙ with_stopped U.examples trials (number_of e))) ∙ from-stopped T s (number_of e) rest, h.1)

pub turn_end : (T : Table) (s token : ℕ) (kept prints : List ℕ) (g : Gathered) (left : List Item) → Turn T s token kept prints g.examples g.trials left → left ≡ [] → Sided T true (shift_made T s) (Ok g) kept prints (shift_side T s token)
unfolding Sided
turn_end T s token kept prints g left U e =
    let so = gathered U.examples g.trials in
    record {
      examples = U.examples;
      is = sym U.same ∙ ap (shift_side_from T s so) e ∙ from-none T s so;
      many = U.many;
      held = U.held;
    }
