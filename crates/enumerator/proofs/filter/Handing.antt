-- The ways through the filter (`meets`, `passes`, `hands`), by specs/filter/Filter, and the example that `write_trial` writes.
use Rattle.std.specs.Prelude.{◌≡◌, ℕ, Bool, true, false, ◌&&◌, List, ◌++◌, reverse, length}
use mathlib.Core.Path.{sym, ap, subst, ◌∙◌}
use mathlib.Core.List.{reverse-reverse}
use mathlib.Core.Option.{Option, some}
use Rattle.lr1_base.specs.repr.Meaning.{Production}
use Rattle.lr1_base.specs.declared.lookahead.TokenSet.{TokenSet}
use Rattle.first.specs.First.{first0, meets_ahead}
use Rattle.first.specs.declared.Answer.{Answer}
use Rattle.trace_graph.specs.Graph.{TraceEdge}
use Rattle.enumerator.specs.example.Example.{Label, ahead, meets}
use Rattle.enumerator.specs.trials.Trials.{Path, ends_of, is_example_in}
use Rattle.enumerator.specs.trials.Lister.{labels_of}
use Rattle.enumerator.specs.trials.Advance.{set_of}
use Rattle.enumerator.specs.trials.Stacks.{Within}
use Rattle.enumerator.specs.trials.Lookahead.{Lookahead}
use Rattle.std.specs.Prelude.{None, Some}
use Rattle.enumerator.proofs.trials.Holding.{within-reverse}
use Rattle.enumerator.specs.graph_view.View.{Sourced}
use Rattle.enumerator.specs.graph_view.Trial.{trial_words, Held}
use Rattle.enumerator.specs.graph_view.Steps.{example_by}
use Rattle.enumerator.proofs.graph_view.Trial.{words-once, held_path}
use Rattle.enumerator.proofs.graph_view.Viewing.{example_by_lem}
use Rattle.enumerator.specs.filter.Filter.{passes_by, hands_by}
use Rattle.enumerator.specs.filter.Given.{Tried}

-- the words are such as the machine asks
pub tried-held : {ps : List Production} {es : List TraceEdge} {owners codes ws : List ℕ} → Tried ps es owners codes ws → Held ws
tried-held T = held_path T.path T.rest T.words T.few T.labelled.few T.edges

-- its edges are the graph's
pub tried-inside : {ps : List Production} {es : List TraceEdge} {owners codes ws : List ℕ} → Tried ps es owners codes ws → (p rest : List ℕ) → ws ≡ trial_words p ++ rest → Within (length es) p
tried-inside {es = es} T p rest w =
    let o = (words-once T.path p T.rest rest (sym T.words ∙ w)).0 in
    subst (Within (length es)) o T.edges

module _ (e : ℕ) (sets : List ℕ) (ps : List Production) (es : List TraceEdge) where
  -- `meets`
  pub meets_is : (set : ℕ) (x : Answer) (r : Bool) (ls : List Label) (p : Path) → x ≡ first0 e sets (ahead ps ls) → r ≡ meets_ahead e x set → ls ≡ labels_of ps es p
      → r ≡ passes_by e sets ps es (some set) p
  unfolding passes_by meets
  meets_is set x r ls p ex er el =
      er ∙ ap (λ (y : Answer). meets_ahead e y set) ex ∙ ap (λ (l : List Label). meets_ahead e (first0 e sets (ahead ps l)) set) el

  -- `passes`
  pub passes-any : (l : Lookahead) → l ≡ None → (p : Path) → true ≡ passes_by e sets ps es (set_of l) p
  unfolding passes_by set_of
  passes-any l q p = sym (ap (λ (y : Lookahead). passes_by e sets ps es (set_of y) p) q)

  pub passes-set : (l : Lookahead) (s : TokenSet) → l ≡ Some s → (r : Bool) (p : Path) → r ≡ passes_by e sets ps es (some s.0) p → r ≡ passes_by e sets ps es (set_of l) p
  unfolding set_of
  passes-set l s q r p h = h ∙ sym (ap (λ (y : Lookahead). passes_by e sets ps es (set_of y) p) q)

  -- `hands`
  module _ (o : Option ℕ) (b : Bool) (ws sources : List ℕ) (S : Sourced es sources) (inside : (p rest : List ℕ) → ws ≡ trial_words p ++ rest → Within (length es) p)
      (f : (st rest : List ℕ) → ws ≡ trial_words (reverse st) ++ rest → b ≡ example_by sources st) (p rest : List ℕ) (w : ws ≡ trial_words p ++ rest) where
    example_is : b ≡ is_example_in (ends_of es) p
    example_is =
        f (reverse p) rest (w ∙ ap (λ (l : List ℕ). trial_words l ++ rest) (sym (reverse-reverse p)))
        ∙ example_by_lem S (reverse p) (within-reverse (length es) p (inside p rest w)) ∙ ap (λ (l : List ℕ). is_example_in (ends_of es) l) (reverse-reverse p)

    pub hands-example : b ≡ true → (r : Bool) → r ≡ passes_by e sets ps es o p → r ≡ hands_by e sets ps es o p
    unfolding hands_by
    hands-example h r q = q ∙ sym (ap (λ (x : Bool). x && passes_by e sets ps es o p) (sym example_is ∙ h))

    pub hands-other : b ≡ false → false ≡ hands_by e sets ps es o p
    unfolding hands_by
    hands-other h = sym (ap (λ (x : Bool). x && passes_by e sets ps es o p) (sym example_is ∙ h))
