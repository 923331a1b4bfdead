-- The ways through opening and through a call (specs/trials/Advance), a law for each.
use Prim.Native.Nat.{ℕ, ◌-◌, ◌≤◌, ◌<◌}
use mathlib.Core.Path.{◌≡◌, sym, ◌∙◌}
use mathlib.Core.Bool.{Bool, true, false, and-false}
use mathlib.Core.List.{List}
use lib.ListN.{length}
use lib.Dec.{leb}
use borrow.Author.Tests.{le-leb, lt-leb}
use Rattle.lr1_base.specs.repr.Reply.{Reply, answered, refused}
use Rattle.lr1_base.specs.repr.Sizes.{graph_room, scratch_words, trial_limit, example_room}
use Rattle.lr1_base.specs.repr.Meaning.{Production, Table}
use Rattle.table.specs.Index.{CountsOf}
use Rattle.trace_graph.specs.Graph.{at_item, is_node_of}
use Rattle.trace_graph.specs.Words.{edges_in}
use Rattle.enumerator.specs.trials.Trials.{ends_of, trials}
use Rattle.enumerator.specs.trials.Lister.{enough, hands, search}
use Rattle.enumerator.specs.trials.Stacks.{Roomy, Started, Ranged}
use Rattle.enumerator.specs.trials.Advance.{Outcome, outcome, set_of, start_of, asked, found_outcome, rest_of, lost, advance_in, open_in}
use Rattle.enumerator.specs.trials.Lookahead.{Lookahead}
use Rattle.enumerator.specs.declared.trials.Listing.{Listing}
use Rattle.enumerator.specs.declared.trials.Advanced.TheVariants.{End}
use Rattle.enumerator.proofs.trials.Outcomes.{advance_short, advance_ended, advance_open}
use Rattle.enumerator.specs.advance.Context.{Read, Listable}

-- what is read of an accepted table
module _ {T : Table} {n e s p : ℕ} (C : CountsOf T n e s p) where
  pub few_nonterminals : n ≤ 32
  few_nonterminals = rw C.nonterminals C.fits.few_nonterminals

  pub few_terminals : e ≤ 63
  few_terminals = rw C.terminals C.fits.few_terminals

  pub read_of : {ps : List Production} → ps ≡ T.productions → Read T n e ps
  read_of q = record { nonterminals = C.nonterminals; terminals = C.terminals; productions = q }

pub roomy_of : {ps : List Production} {g : List ℕ} → Ranged ps g → Roomy g
roomy_of R = (R.long, R.few_edges)

pub started : {ps : List Production} {g : List ℕ} {p i : ℕ} {owners codes sources older latest : List ℕ} → Listable ps g p i owners codes sources older latest → Started g p i
started {ps} L = record { ground = record { productions = ps; ranged = L.ranged }; fits = L.fits }

-- opening
module _ (T : Table) (p i : ℕ) (a : Lookahead) (g : List ℕ) where
  abbrev opens : Reply Listing
  opens = open_in (record { production = p; index = i }) a g T

  abbrev is_asked : Bool
  is_asked = asked T (record { production = p; index = i }) (set_of a) g

  pub open_refused : is_asked ≡ false → refused 9 0 ≡ opens
  unfolding open_in
  open_refused f = rw (f, open_in)

  module _ (t : is_asked ≡ true) where
    pub open_short : length g < graph_room → refused 11 0 ≡ opens
    unfolding open_in
    open_short h = rw (t, lt-leb graph_room (length g) h, open_in)

    module _ (h : graph_room ≤ length g) (c : Bool) (ec : c ≡ is_node_of (at_item (record { production = p; index = i })) (edges_in g)) where
      pub open_stray : c ≡ false → refused 15 0 ≡ opens
      unfolding open_in
      open_stray f = rw (t, le-leb graph_room (length g) h, sym ec ∙ f, open_in)

      pub open_fresh : c ≡ true → (o : Bool) → o ≡ true → answered (record { production = record { 0 = p }; index = i; lookahead = a; count = 0; is_open = o }) ≡ opens
      unfolding open_in
      open_fresh u o eo = rw (t, le-leb graph_room (length g) h, sym ec ∙ u, open_in, eo)

-- a call
enough_graph : (m s b : ℕ) → m < graph_room → enough (record { graph = m; scratch = s; buffer = b }) ≡ false
unfolding enough
enough_graph m s b h = rw (lt-leb graph_room m h)

enough_scratch : (m s b : ℕ) → s < scratch_words → enough (record { graph = m; scratch = s; buffer = b }) ≡ false
unfolding enough
enough_scratch m s b h = rw (lt-leb scratch_words s h) (and-false (leb graph_room m))

enough_buffer : (m s b : ℕ) → b < example_room → enough (record { graph = m; scratch = s; buffer = b }) ≡ false
unfolding enough
enough_buffer m s b h = rw (lt-leb example_room b h, and-false (leb scratch_words s)) (and-false (leb graph_room m))

enough-all : (m s b : ℕ) → graph_room ≤ m → scratch_words ≤ s → example_room ≤ b → enough (record { graph = m; scratch = s; buffer = b }) ≡ true
unfolding enough
enough-all m s b h k j = rw (le-leb graph_room m h, le-leb scratch_words s k, le-leb example_room b j)

module _ (g : List ℕ) (l : Listing) (scratch buffer : List ℕ) (T : Table) where
  abbrev answer : Outcome
  answer = advance_in g l scratch buffer T

  pub step-refused : asked T (start_of l) (set_of l.lookahead) g ≡ false → outcome (refused 9 0) l scratch buffer ≡ answer
  unfolding advance_in
  step-refused e = rw (e, advance_in)

  -- past 9
  module _ (q : asked T (start_of l) (set_of l.lookahead) g ≡ true) where
    pub step_graph : length g < graph_room → outcome (refused 11 0) l scratch buffer ≡ answer
    step_graph h = sym (advance_short g l scratch buffer T q (enough_graph (length g) (length scratch) (length buffer) h))

    pub step_scratch : length scratch < scratch_words → outcome (refused 11 0) l scratch buffer ≡ answer
    step_scratch h = sym (advance_short g l scratch buffer T q (enough_scratch (length g) (length scratch) (length buffer) h))

    pub step_buffer : length buffer < example_room → outcome (refused 11 0) l scratch buffer ≡ answer
    step_buffer h = sym (advance_short g l scratch buffer T q (enough_buffer (length g) (length scratch) (length buffer) h))

    -- past 11
    module _ (lg : graph_room ≤ length g) (ls : scratch_words ≤ length scratch) (lb : example_room ≤ length buffer) where
      all : enough (record { graph = length g; scratch = length scratch; buffer = length buffer }) ≡ true
      all = enough-all (length g) (length scratch) (length buffer) lg ls lb

      pub go_lost : lost (edges_in g) l scratch ≡ true → outcome (refused 9 0) l scratch buffer ≡ answer
      unfolding advance_in
      go_lost e = rw (q, all, e, advance_in)

      module _ (f : lost (edges_in g) l scratch ≡ false) where
        pub go_stray : is_node_of (at_item (start_of l)) (edges_in g) ≡ false → outcome (refused 15 0) l scratch buffer ≡ answer
        unfolding advance_in
        go_stray n = rw (q, all, f, n, advance_in)

        module _ (m : is_node_of (at_item (start_of l)) (edges_in g) ≡ true) where
          pub go_ended : l.is_open ≡ false → outcome (answered End) l scratch buffer ≡ answer
          go_ended o = sym (advance_ended g l scratch buffer T q all f m o)

          pub go_found : l.is_open ≡ true → (o : Outcome)
              → o
              ≡ found_outcome T (edges_in g) l scratch buffer
              (search (hands T (edges_in g) (set_of l.lookahead)) (trial_limit - l.count) l.count (rest_of l.count scratch (trials (ends_of (edges_in g)) (at_item (start_of l)))))
              → o ≡ answer
          go_found u o e = e ∙ sym (advance_open g l scratch buffer T q all f m u)
