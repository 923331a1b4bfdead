-- The states that a walk found, traced in turn or passed over.
use Rattle.std.proofs.Common.{◌≡◌, ℕ, zero, suc, ◌+◌, ◌*◌, ◌<◌, ◌≤◌, true, false, eqb, List, [], ◌∷◌, length, replicate, sym, refl, ap, ◌∙◌, arith, eqb-true}
use Rattle.std.specs.Prelude.{Option, Some, None, IfSome}
use Rattle.lr1_base.specs.repr.Sizes.{state_limit}
use borrow.Author.Tests.{eqb-false}
use Rattle.lr1_base.specs.repr.Lists.{below, mem}
use Rattle.lr1_base.specs.repr.Meaning.{Item, Table, TableFits, state_at}
use Rattle.lr1_base.proofs.repr.Lists.{cases, mem-cons_here, mem-cons_there, mem_index}
use Rattle.table.specs.Decoded.{meaning, items_from}
use Rattle.trace_graph.specs.Graph.{at_nonterminal, at_item, TraceEdge, add}
use Rattle.trace.specs.edge_codes.Coded.{Coded}
use Rattle.state_graph.specs.declared.StateSet.{StateSet}
use Rattle.state_graph.specs.States.{has_state, states_in}
use Rattle.state_graph.specs.Walk.{Ascending}
use Rattle.state_graph.proofs.Exact.{kept-ascending}
use Rattle.trace.specs.Traced.{Trace, in_turn, pairs, owner_of, add_to}
use Rattle.trace.specs.Shift.{epsilon}
use Rattle.trace.proofs.Grows.{grows_length, turn_nil, turn_cons, turn_grows, epsilon_grows}
use Rattle.trace.proofs.Steps.{state_step}
use Rattle.trace.proofs.Passed.{left_out}
use Rattle.lr1_base.specs.bits.Bits.{bit_at}
use Rattle.trace.specs.Held.{Held, Steps, Exceeds, open_bits, unset}
use Rattle.trace.specs.Clear.{Clear}
use Rattle.trace.specs.declared.shift.Known.{Known}
use Rattle.trace.proofs.Begin.{held_start}
use Rattle.trace.proofs.Turns.{open_zero, open_set, open_unset}
use Rattle.trace.proofs.Passing.{clear_none, Further, clear_further}

-- the number of pairs is fuel enough
pub open_few : (n : ℕ) (vs : List ℕ) → open_bits n vs ≤ n
open_few zero vs = let e = open_zero vs in omega arith
open_few (suc k) vs =
    let r = open_few k vs in
    cases (bit_at vs k)
    (λ b. let e = open_set k vs b in omega arith)
    (λ b. let e = open_unset k vs b in omega arith)

pub enough : (vs : List ℕ) → unset vs ≤ pairs
enough vs = let h = open_few 4096 vs in omega arith

-- a state that comes next is none of those after it

states_ascend : (l h : ℕ) → Ascending (states_in l h)
unfolding states_in below
states_ascend l h = kept-ascending (has_state l h) 0 128

next-apart : (l h s : ℕ) (r : StateSet) → states_in l h ≡ s ∷ states_in r.low r.high → mem s (states_in r.low r.high) ≡ false
next-apart l h s r e =
    let up : Ascending (s ∷ states_in r.low r.high) = rw e at (states_ascend l h) in
    cases (mem s (states_in r.low r.high))
    (λ q.
    let w = mem_index s (states_in r.low r.high) 0 q in
    let i = w.1 in
    absurd (omega (arith, up 0 (suc w.0) (omega arith) (omega arith), w.2)))
    (λ q. q)

-- the loop's invariant: the states that are left, from a trace that the words hold, give the edges that all give from the edges es
pub record Round (t : List ℕ) (m l₀ h₀ : ℕ) (es : List TraceEdge) (l h : ℕ) (ws fs v : List ℕ) : Type 0 where
  pub trace : Trace
  pub held : Held (meaning t) ws fs v trace
  pub edges : (in_turn (state_step (meaning t) m) (states_in l h) trace).edges ≡ (in_turn (state_step (meaning t) m) (states_in l₀ h₀) (record { edges = es; seen = [] })).edges

-- from the known state the items from both records on are passed
pub record Passed (t fs v : List ℕ) (known : Known) : Type 0 where
  pub state : known.state < state_limit
  pub last : Clear t fs v known.state (items_from t known.last)
  pub earlier : Clear t fs v known.state (items_from t known.earlier)

pub record Rounds (t : List ℕ) (m l₀ h₀ : ℕ) (ws₀ fs₀ : List ℕ) (l h : ℕ) (ws fs v : List ℕ) (known : Option Known) : Type 0 where
  pub inside : (s : ℕ) → mem s (states_in l h) ≡ true → s < length (meaning t).states
  pub same : (es : List TraceEdge) → Coded (meaning t) ws₀ fs₀ es → Round t m l₀ h₀ es l h ws fs v
  pub passed : IfSome known (Passed t fs v)

module _ (t : List ℕ) (m : ℕ) where
  pub rounds-start : (l h : ℕ) (ws fs v : List ℕ) → ((s : ℕ) → mem s (states_in l h) ≡ true → s < length (meaning t).states) → v ≡ replicate 64 0
      → Rounds t m l h ws fs l h ws fs v None
  rounds-start l h ws fs v inside e = record {
    inside = inside;
    same = λ es C. record { trace = record { edges = es; seen = [] }; held = held_start (meaning t) ws fs v es C e; edges = refl };
    passed = tt;
  }

  module _ (l₀ h₀ : ℕ) (ws₀ fs₀ : List ℕ) (l h : ℕ) (ws fs v : List ℕ) (known : Option Known) (U : Rounds t m l₀ h₀ ws₀ fs₀ l h ws fs v known) where
    pub rounds-done : states_in l h ≡ [] → (es : List TraceEdge) → Coded (meaning t) ws₀ fs₀ es → Coded (meaning t) ws fs (in_turn (state_step (meaning t) m) (states_in l₀ h₀) (record { edges = es; seen = [] })).edges
    rounds-done e es C =
        let r = U.same es C in
        rw (← r.edges, e, turn_nil (state_step (meaning t) m) r.trace) r.held.edges

    module _ (s : ℕ) (r : StateSet) (e : states_in l h ≡ s ∷ states_in r.low r.high) where
      pub rounds-inside : s < length (meaning t).states
      rounds-inside = U.inside s (rw e (mem-cons_here s (states_in r.low r.high)))

      others_inside : (k : ℕ) → mem k (states_in r.low r.high) ≡ true → k < length (meaning t).states
      others_inside k hk = U.inside k (rw e (mem-cons_there k s (states_in r.low r.high) hk))

      opened : (es : List TraceEdge) (C : Coded (meaning t) ws₀ fs₀ es)
          → (in_turn (state_step (meaning t) m) (states_in r.low r.high) (epsilon (meaning t) pairs s m (U.same es C).trace)).edges ≡ (in_turn (state_step (meaning t) m) (states_in l₀ h₀) (record { edges = es; seen = [] })).edges
      opened es C =
          let q = U.same es C in
          ap (λ (u : Trace). u.edges) (sym (turn_cons (state_step (meaning t) m) s (states_in r.low r.high) q.trace) ∙ ap (λ (ss : List ℕ). in_turn (state_step (meaning t) m) ss q.trace) (sym e))
          ∙ q.edges

      -- traced

      pub rounds-more : TableFits (meaning t) → (ws' fs' v' : List ℕ) → ((f : ℕ) → unset v ≤ f → Steps (meaning t) (epsilon (meaning t) f s m) ws fs v ws' fs' v')
          → Rounds t m l₀ h₀ ws₀ fs₀ r.low r.high ws' fs' v' (Some (record { state = s; last = 0; earlier = 0 }))
      rounds-more F ws' fs' v' call = record {
        inside = others_inside;
        same = λ es C. let q = U.same es C in record {
          trace = epsilon (meaning t) pairs s m q.trace;
          held = call pairs (enough v) q.trace q.held;
          edges = opened es C;
        };
        passed = record {
          state = let i = rounds-inside in let few = F.few_states in omega arith;
          last = clear_none t fs' v' s;
          earlier = clear_none t fs' v' s;
        };
      }

      pub rounds-full : ((f : ℕ) → unset v ≤ f → Exceeds (meaning t) (epsilon (meaning t) f s m) ws fs v)
          → (es : List TraceEdge) → Coded (meaning t) ws₀ fs₀ es → 1024 < length (in_turn (state_step (meaning t) m) (states_in l₀ h₀) (record { edges = es; seen = [] })).edges
      rounds-full call es C =
          let q = U.same es C in
          let many = call pairs (enough v) q.trace q.held in
          let grown = grows_length (turn_grows (state_step (meaning t) m) (λ p. epsilon_grows (meaning t) pairs p m) (states_in r.low r.high) (epsilon (meaning t) pairs s m q.trace)) in
          rw (← (opened es C)) (omega arith)

      -- passed over, head the first record of its chain

      pub rounds-passed : TableFits (meaning t) → m < length (meaning t).nonterminals → (last : Known) → known ≡ Some last → bit_at v (last.state * 32 + m) ≡ true → Clear t fs v last.state (state_at (meaning t) s).items
          → (head : ℕ) → items_from t head ≡ (state_at (meaning t) s).items → (k : ℕ) → Further t head k
          → (both : Known) → (both.state ≡ last.state) × (both.last ≡ k) × ((both.earlier ≡ last.last → ⊥) → both.earlier ≡ last.earlier) → Rounds t m l₀ h₀ ws₀ fs₀ r.low r.high ws fs v (Some both)
      rounds-passed F few last ek has call head eh k w both are =
          let P : Passed t fs v last = rw ek at U.passed in
          record {
            inside = others_inside;
            same = λ es C. let q = U.same es C in record {
              trace = q.trace;
              held = q.held;
              edges = left_out (meaning t) F s m few (states_in r.low r.high) (next-apart l h s r e) q.trace (record { from = λ n. bit_at v (last.state * 32 + n); has = has; items = call ws q.trace.edges q.held.edges })
                  ∙ opened es C;
            };
            passed = record {
              state = rw are.0 P.state;
              last = rw (are.0, are.1) (clear_further t s fs v last.state head k eh call w);
              earlier = rw are.0
                  (cases (eqb both.earlier last.last)
                  (λ z. rw (eqb-true both.earlier last.last z) P.last)
                  (λ z. rw (are.2 (eqb-false both.earlier last.last z)) P.earlier));
            };
          }

-- the first edge, and then the states

module _ (T : Table) (i : Item) (ss : List ℕ) (ws fs : List ℕ) where
  abbrev whole : List TraceEdge → List TraceEdge
  whole = λ es. (in_turn (λ p u. epsilon T pairs p (owner_of T i) u) ss (add_to T (at_nonterminal (owner_of T i)) (at_item i) i (record { edges = es; seen = [] }))).edges

  pub first-full : ((es : List TraceEdge) → Coded T ws fs es → 1024 < length (add T.productions (record { source = at_nonterminal (owner_of T i); target = at_item i; label = i }) es))
      → (es : List TraceEdge) → Coded T ws fs es → 1024 < length (whole es)
  unfolding add_to
  first-full a es C =
      let many = a es C in
      let grown = grows_length (turn_grows (state_step T (owner_of T i)) (λ p. epsilon_grows T pairs p (owner_of T i)) ss (add_to T (at_nonterminal (owner_of T i)) (at_item i) i (record { edges = es; seen = [] }))) in
      omega arith

  module _ (ws' fs' : List ℕ) (a : (es : List TraceEdge) → Coded T ws fs es → Coded T ws' fs' (add T.productions (record { source = at_nonterminal (owner_of T i); target = at_item i; label = i }) es)) (o : ℕ) (eo : o ≡ owner_of T i) where
    pub first_then : (P : List TraceEdge → Type 0) → ((es : List TraceEdge) → Coded T ws' fs' es → P (in_turn (λ p u. epsilon T pairs p o u) ss (record { edges = es; seen = [] })).edges)
        → (es : List TraceEdge) → Coded T ws fs es → P (whole es)
    unfolding add_to
    first_then P call es C = rw eo at (call _ (a es C))
