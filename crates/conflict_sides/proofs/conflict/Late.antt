-- What gathering refuses is 12 to 14, and so is what the classes of a set of tokens refuse.
use Rattle.std.proofs.Common.{ℕ, zero, suc, ◌+◌, ◌≤◌, Bool, true, false, ltb, List, [], ◌∷◌, map, length, take, arith}
use mathlib.Core.Option.{Option, none, some}
use Prim.{Unit, tt}
use Rattle.lr1_base.specs.repr.Sizes.{edge_limit, trial_limit, example_limit}
use Rattle.lr1_base.specs.repr.Lists.{keep}
use Rattle.lr1_base.specs.repr.Meaning.{Item, Table}
use Rattle.lr1_base.specs.lookahead.Tokens.{single}
use Rattle.trace_graph.specs.Graph.{TraceEdge, at_item}
use Rattle.trace.specs.Shift.{shift_edges}
use Rattle.trace.specs.Reduce.{reduce_edges}
use Rattle.enumerator.specs.example.Example.{Label}
use Rattle.enumerator.specs.trials.Trials.{ends_of, trials}
use Rattle.enumerator.specs.trials.Lister.{hands, labels_of}
use Rattle.conflict_sides.specs.declared.conflict.Conflict.{Conflict}
use Rattle.conflict_sides.specs.conflict.Items.{shift_items}
use Rattle.conflict_sides.specs.conflict.Sides.{Side, gathered, stopped, listing_side, with_more, examples_in, shift_side_from, shift_side, item_of_reduce, reduce_side, action_side_of, Gathered, sides, halted, both_sides, gather}
use Rattle.conflict_sides.specs.conflict.Choose.{Entries, entries, halts, then, classes_of, at_token}

abbrev pub Late : ℕ → Type 0
Late n = (12 ≤ n) × (n ≤ 14)

abbrev LateSide : Side → Type 0
LateSide (stopped n) = Late n
LateSide (gathered xs m) = Unit {0}

abbrev pub LateHalt : Gathered → Type 0
LateHalt (halted n) = Late n
LateHalt (sides xs m ys n) = Unit {0}

abbrev pub LateHalts : Entries → Type 0
LateHalts (halts n) = Late n
LateHalts (entries es) = Unit {0}

listing_by_lem : (a b d : Bool) (g : List (List Label)) (n : ℕ)
    → LateSide (elim a [ true ↦ stopped 12 | false ↦ elim b [ true ↦ stopped 14 | false ↦ elim d [ true ↦ stopped 13 | false ↦ gathered g n ] ] ])
listing_by_lem true b d g n = omega arith
listing_by_lem false true d g n = omega arith
listing_by_lem false false true g n = omega arith
listing_by_lem false false false g n = tt

listing : (T : Table) (es : List TraceEdge) (i : Item) (ahead : Option ℕ) (k : ℕ) → LateSide (listing_side T es i ahead k)
unfolding listing_side
listing T es i ahead k =
    let ts = trials (ends_of es) (at_item i) in
    listing_by_lem (ltb edge_limit (length es)) (ltb example_limit (k + length (keep (hands T es ahead) (take trial_limit ts)))) (ltb trial_limit (length ts)) (map (labels_of T.productions es) (keep (hands T es ahead) ts)) (length ts)

more : (s t : Side) → LateSide s → LateSide t → LateSide (with_more s t)
unfolding with_more
more (stopped n) t h k = h
more (gathered xs m) (stopped n) h k = k
more (gathered xs m) (gathered ys n) h k = tt

shift_from : (T : Table) (s : ℕ) (so : Side) (is : List Item) → LateSide so → LateSide (shift_side_from T s so is)
unfolding shift_side_from
shift_from T s so [] h = h
shift_from T s so (i ∷ is) h = shift_from T s (with_more so (listing_side T (shift_edges T s i) i none (examples_in so))) is (more so (listing_side T (shift_edges T s i) i none (examples_in so)) h (listing T (shift_edges T s i) i none (examples_in so)))

reduce : (T : Table) (s p k : ℕ) → LateSide (reduce_side T s p k)
unfolding reduce_side
reduce T s p k = listing T (reduce_edges T s (item_of_reduce T p)) (item_of_reduce T p) (some (single k)) 0

action : (T : Table) (s a o k : ℕ) → LateSide (action_side_of T s a o k)
unfolding action_side_of shift_side
action T s zero o k = shift_from T s (gathered [] 0) (shift_items T s k) tt
action T s (suc a) o k = reduce T s o k

both : (s t : Side) → LateSide s → LateSide t → LateHalt (both_sides s t)
unfolding both_sides
both (stopped n) t h k = h
both (gathered xs m) (stopped n) h k = k
both (gathered xs m) (gathered ys n) h k = tt

pub gather_late : (T : Table) (c : Conflict) → LateHalt (gather T c)
unfolding gather
gather_late T c =
    both (action_side_of T c.state.0 c.action c.operand c.token) (reduce_side T c.state.0 c.production.0 c.token) (action T c.state.0 c.action c.operand c.token)
    (reduce T c.state.0 c.production.0 c.token)

then_late : (T : Table) (c : Conflict) (k : ℕ) (G : Gathered) (R : Entries) → LateHalt G → LateHalts R → LateHalts (then T c k G R)
unfolding then
then_late T c k (halted n) R h j = h
then_late T c k (sides xs m ys n) (halts x) h j = j
then_late T c k (sides xs m ys n) (entries es) h j = tt

pub classes_late : (T : Table) (c : Conflict) (ks : List ℕ) → LateHalts (classes_of T c ks)
unfolding classes_of
classes_late T c [] = tt
classes_late T c (k ∷ ks) = then_late T c k (gather T (at_token c k)) (classes_of T c ks) (gather_late T (at_token c k)) (classes_late T c ks)
