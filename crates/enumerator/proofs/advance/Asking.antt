-- What is asked before the words are: the start item, the lookahead and the graph, refusal 9, a law for each way.
use Prim.Native.Nat.{ℕ, zero, suc, ◌≤◌, ◌<◌}
use mathlib.Core.Path.{◌≡◌, refl, sym, ap, ◌∙◌}
use mathlib.Core.Bool.{Bool, true, false, ◌&&◌}
use mathlib.Core.List.{List, [], ◌++◌}
use mathlib.Core.Option.{Option, none, some}
use Rattle.std.proofs.Math.Bool.{and_assoc}
use lib.ListN.{length, drop, replicate}
use borrow.Author.Tests.{le-leb, lt-leb}
use Rattle.lr1_base.specs.repr.Sizes.{graph_room, scratch_words}
use Rattle.lr1_base.specs.repr.Meaning.{Production, Table}
use Rattle.lr1_base.specs.declared.lookahead.TokenSet.{TokenSet}
use Rattle.first.specs.First.{sets_of_first}
use Rattle.trace_graph.specs.Fits.{item_is_fit, graph_fits}
use Rattle.enumerator.specs.trials.Words.{words_of}
use Rattle.enumerator.specs.trials.Advance.{set_of, ahead_fits, lent_graph_fits, asked}
use Rattle.enumerator.specs.trials.Lookahead.{Lookahead}
use Rattle.std.specs.Prelude.{None, Some}
use Rattle.enumerator.specs.advance.Context.{Read, ahead_by, sets_for, begun}

-- by the lookahead
module _ (a : Lookahead) (t : ℕ) where
  pub sets-any : a ≡ None → (ps : List Production) → replicate 32 0 ≡ sets_for (set_of a) t ps
  unfolding set_of sets_for
  sets-any e ps = rw e

  pub sets-set : (s : TokenSet) → a ≡ Some s → (ps : List Production) (m : List ℕ) → m ≡ sets_of_first t ps → m ≡ sets_for (set_of a) t ps
  unfolding set_of sets_for
  sets-set s e ps m h = rw e h

-- the words that a search starts from
pub begun_fresh : (c : ℕ) (ws ws' : List ℕ) → c ≡ 0 → ws' ≡ words_of [] ++ drop scratch_words ws → ws' ≡ begun c ws
unfolding begun
begun_fresh c ws ws' z e = rw z e

pub begun_on : (c : ℕ) (ws : List ℕ) → (c ≡ 0 → ⊥) → ws ≡ begun c ws
unfolding begun
begun_on zero ws n = absurd (n refl)
begun_on (suc c) ws n = refl

-- the item, then the lookahead, then the graph
module _ {n e : ℕ} {ps : List Production} (p i : ℕ) (a : Option ℕ) (g : List ℕ) (T : Table) (R : Read T n e ps) where
  abbrev whole : Bool
  whole = asked T (record { production = p; index = i }) a g

  item_is : item_is_fit T.productions p i ≡ item_is_fit ps p i
  item_is = ap (λ (l : List Production). item_is_fit l p i) (sym R.productions)

  ahead_is : (b : Option ℕ) → ahead_fits T b ≡ ahead_by e b
  unfolding ahead_fits ahead_by
  ahead_is none = refl
  ahead_is (some s) = rw R.terminals

  graph_short : length g < graph_room → lent_graph_fits T g ≡ true
  unfolding lent_graph_fits
  graph_short h = rw (lt-leb graph_room (length g) h, lent_graph_fits)

  graph_long : graph_room ≤ length g → lent_graph_fits T g ≡ graph_fits n ps g
  unfolding lent_graph_fits
  graph_long h = rw (le-leb graph_room (length g) h, lent_graph_fits, R.nonterminals, R.productions)

  -- by whether the item and the lookahead are in range
  module _ (b : Bool) (eb : b ≡ (item_is_fit ps p i && ahead_by e a)) where
    asked_is : whole ≡ (b && lent_graph_fits T g)
    unfolding asked
    asked_is = rw (item_is, ahead_is a, eb) (sym (and_assoc (item_is_fit ps p i) (ahead_by e a) (lent_graph_fits T g)))

    pub asked-none : b ≡ false → whole ≡ false
    asked-none f = asked_is ∙ ap (λ (x : Bool). x && lent_graph_fits T g) f

    module _ (t : b ≡ true) where
      pub asked_short : length g < graph_room → whole ≡ true
      asked_short h = asked_is ∙ ap (λ (x : Bool). x && lent_graph_fits T g) t ∙ graph_short h

      pub asked_long : graph_room ≤ length g → (r : Bool) → r ≡ graph_fits n ps g → whole ≡ r
      asked_long h r er = asked_is ∙ ap (λ (x : Bool). x && lent_graph_fits T g) t ∙ graph_long h ∙ sym er
