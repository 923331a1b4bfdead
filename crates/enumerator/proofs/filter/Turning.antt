-- The ways through a turn of `search`: the machine's walk over the trials that are left finds what the search over all finds.
use Rattle.std.specs.Prelude.{◌≡◌, ℕ, suc, ◌+◌, ◌-◌, ◌<◌, ◌≤◌, Bool, true, false, List, [], ◌∷◌, ◌++◌, map, reverse, length, drop}
use native.Mathlib.Omega.{arith}
use mathlib.Core.Path.{refl, sym, ap, ◌∙◌}
use mathlib.Core.List.{reverse-reverse, Memᴰ}
use mathlib.Core.Option.{Option, some}
use lib.ListN.{length-reverse}
use lib.Seq.{drop_at}
use Rattle.lr1_base.specs.repr.Sizes.{trial_limit, reduction_limit}
use Rattle.lr1_base.specs.repr.Meaning.{Production, Item}
use Rattle.trace_graph.specs.Graph.{Node, at_item, TraceEdge}
use Rattle.enumerator.specs.trials.Trials.{Path, Ends, ends_of, trials, Small}
use Rattle.enumerator.specs.trials.Lister.{hit, out, over, search}
use Rattle.enumerator.specs.trials.Machine.{next, Run, walk}
use Rattle.enumerator.specs.trials.Stacks.{stepped}
use Rattle.enumerator.proofs.trials.Run.{next_runs}
use Rattle.enumerator.proofs.trials.After.{next-after}
use Rattle.enumerator.proofs.trials.Short.{short_trial}
use Rattle.enumerator.proofs.trials.Following.{first_trial, next_trial}
use Rattle.enumerator.proofs.trials.Walk.{walk_end, walk-over, walk-hit, walk_on, walk-search}
use Rattle.enumerator.specs.graph_view.Trial.{trial_room, trial_words, Held, Fitting, step_words}
use Rattle.enumerator.specs.graph_view.Steps.{next_by}
use Rattle.enumerator.proofs.graph_view.Trial.{trial_long, words-all, words-once}
use Rattle.enumerator.proofs.graph_view.Viewing.{Entering, next_view, held_view, fitting_view, entering_trial, step-ends, step-goes}
use Rattle.enumerator.specs.declared.filter.Searched.{Searched}
use Rattle.enumerator.specs.declared.filter.Searched.TheVariants.{Hit, Out, Over}
use Rattle.enumerator.specs.filter.Given.{Begun, Searching, Tried}
use Rattle.enumerator.specs.filter.Found.{searched, searched_of, later_than}
use Rattle.enumerator.proofs.filter.Calling.{begun_trial, tried_trial}

-- from no edge or a trial

module _ (G : Ends) (start : Node) (small : Small G) where
  begun_runs : (p : Path) → Begun G start p → Run G start (next G start (reverse p)) (map reverse (later_than p (trials G start)))
  unfolding Begun later_than
  begun_runs [] b = next_runs G start small
  begun_runs (e ∷ p) b = next-after G start small (e ∷ p) b

  begun-next : (p : Path) (s : List ℕ) → Begun G start p → next G start (reverse p) ≡ some s → Memᴰ (reverse s) (trials G start)
  unfolding Begun
  begun-next [] s b e = first_trial G start small s e
  begun-next (x ∷ p) s b e = next_trial G start small (x ∷ p) s b e

begun_short : (G : Ends) (start : Node) (p : Path) → Begun G start p → length p ≤ reduction_limit
unfolding Begun
begun_short G start [] b = omega arith
begun_short G start (e ∷ p) b = short_trial G start (e ∷ p) b

begun_entering : (G : Ends) (start : Item) → Small G → (p : Path) → Begun G (at_item start) p → Entering G start (reverse p)
unfolding Begun
begun_entering G start small [] b = tt
begun_entering G start small (e ∷ p) b = entering_trial G start small (e ∷ p) b

-- the answers

found-hit : (rest ws : List ℕ) (n k : ℕ) (p : Path) → n ≡ k → ws ≡ trial_words p ++ rest → searched (Hit n) ws ≡ searched_of rest (hit k p)
unfolding searched_of
found-hit rest ws n k p e w = ap (λ (x : ℕ). searched (Hit x) ws) e ∙ ap (searched (Hit k)) w

found_out_lem : (rest ws : List ℕ) (n k : ℕ) → n ≡ k → ws ≡ trial_words [] ++ rest → searched (Out n) ws ≡ searched_of rest (out k)
unfolding searched_of
found_out_lem rest ws n k e w = ap (λ (x : ℕ). searched (Out x) ws) e ∙ ap (searched (Out k)) w

found-over : (rest ws : List ℕ) → ws ≡ trial_words [] ++ rest → searched Over ws ≡ searched_of rest over
unfolding searched_of
found-over rest ws w = ap (searched Over) w

module _ {ps : List Production} {es : List TraceEdge} {owners codes sources older latest ws : List ℕ} {start : Item} (S : Searching ps es owners codes sources older latest ws start) where
  abbrev G : Ends
  G = ends_of es

  entering : Entering G start (reverse S.path)
  entering = begun_entering G start S.view.small S.path S.begun

  stack_words : ws ≡ trial_words (reverse (reverse S.path)) ++ S.rest
  stack_words = S.words ∙ ap (λ (l : List ℕ). trial_words l ++ S.rest) (sym (reverse-reverse S.path))

  -- what the machine asks of the words
  pub searching_held : Held ws
  searching_held = held_view S.view (reverse S.path) S.rest entering (omega (arith, length-reverse S.path, begun_short G (at_item start) S.path S.begun)) stack_words

  pub searching_fitting : Fitting (next_by sources older latest) ws
  searching_fitting =
      fitting_view S.view (reverse S.path) S.rest entering
      (λ s q. omega (arith, length-reverse s, short_trial G (at_item start) (reverse s) (begun-next G (at_item start) S.view.small S.path s S.begun q))) stack_words

-- where the search stands
pub record Turn (t : Path → Bool) (ps : List Production) (es : List TraceEdge) (owners codes sources older latest ws₀ : List ℕ) (start : Item) (count : ℕ) (ws : List ℕ) (made : ℕ) : Type 0 where
  pub held : Searching ps es owners codes sources older latest ws start
  pub size : length ws ≡ length ws₀
  pub same : (p rest : List ℕ) → ws₀ ≡ trial_words p ++ rest
      → searched_of held.rest (walk (ends_of es) (at_item start) t (trial_limit - made) made (next (ends_of es) (at_item start) (reverse held.path)))
      ≡ searched_of rest (search t (trial_limit - count) count (later_than p (trials (ends_of es) (at_item start))))

pub turn_first : {t : Path → Bool} {ps : List Production} {es : List TraceEdge} {owners codes sources older latest ws : List ℕ} {start : Item} {count made : ℕ} → Searching ps es owners codes sources older latest ws start
    → made ≡ count → Turn t ps es owners codes sources older latest ws start count ws made
turn_first {t} {es = es} {start = start} {count = count} S e = record {
  held = S;
  size = refl;
  same = λ p rest w.
      let A = at_item start in
      let E = ends_of es in
      let o = words-once S.path p S.rest rest (sym S.words ∙ w) in
      ap (λ (k : ℕ). searched_of S.rest (walk E A t (trial_limit - k) k (next E A (reverse S.path)))) e
      ∙ ap (searched_of S.rest) (walk-search E A t (trial_limit - count) count (next E A (reverse S.path)) (later_than S.path (trials E A)) (begun_runs E A S.view.small S.path S.begun))
      ∙ ap (λ (x : List ℕ). searched_of x (search t (trial_limit - count) count (later_than S.path (trials E A)))) o.1
      ∙ ap (λ (x : Path). searched_of rest (search t (trial_limit - count) count (later_than x (trials E A)))) o.0;
}

module _ {t : Path → Bool} {ps : List Production} {es : List TraceEdge} {owners codes sources older latest ws₀ : List ℕ} {start : Item} {count : ℕ} {ws : List ℕ} {made : ℕ} (T : Turn t ps es owners codes sources older latest ws₀ start count ws made)
    {r : Bool} {ws' : List ℕ} (f : (st rest : List ℕ) → ws ≡ trial_words (reverse st) ++ rest → stepped r ws' ≡ step_words (next_by sources older latest st) rest) where
  abbrev S : Searching ps es owners codes sources older latest ws start
  S = T.held

  abbrev A : Node
  A = at_item start

  abbrev E : Ends
  E = ends_of es

  stepped_on : stepped r ws' ≡ step_words (next E A (reverse S.path)) S.rest
  stepped_on = f (reverse S.path) S.rest (stack_words S) ∙ ap (λ (o : Option (List ℕ)). step_words o S.rest) (next_view S.view (reverse S.path) (entering S))

  -- no trial more
  pub turn_end : r ≡ false → {k : ℕ} → k ≡ made → (p rest : List ℕ) → ws₀ ≡ trial_words p ++ rest → searched (Out k) ws' ≡ searched_of rest (search t (trial_limit - count) count (later_than p (trials E A)))
  turn_end q {k} ek p rest w =
      let e = step-ends (next E A (reverse S.path)) S.rest ws' (ap (λ (b : Bool). stepped b ws') (sym q) ∙ stepped_on) in
      found_out_lem S.rest ws' k made ek e.1
      ∙ ap (searched_of S.rest) (sym (ap (walk E A t (trial_limit - made) made) e.0 ∙ walk_end E A t (trial_limit - made) made))
      ∙ T.same p rest w

  module _ (q : r ≡ true) where
    went : (s : List ℕ) × (next E A (reverse S.path) ≡ some s) × (ws' ≡ trial_words (reverse s) ++ S.rest)
    went = step-goes (next E A (reverse S.path)) S.rest ws' (ap (λ (b : Bool). stepped b ws') (sym q) ∙ stepped_on)

    abbrev trial : Path
    trial = reverse went.0

    is_trial : Memᴰ trial (trials E A)
    is_trial = begun-next E A S.view.small S.path went.0 S.begun went.1

    pub turn_tried : Tried ps es owners codes ws'
    turn_tried = tried_trial S.labelled A trial S.rest ws' is_trial went.2

    pub turn_long : trial_room ≤ length ws'
    turn_long = let s = short_trial E A trial is_trial in omega (arith, ap length went.2, words-all trial S.rest (omega arith))

    walked : (l : ℕ) → trial_limit - made ≡ l → walk E A t (trial_limit - made) made (next E A (reverse S.path)) ≡ walk E A t l made (some went.0)
    walked l e = ap (λ (k : ℕ). walk E A t k made (next E A (reverse S.path))) e ∙ ap (walk E A t l made) went.1

    -- trial 100,001
    pub turn_over : trial_limit ≤ made → {o : Searched} {ws'' : List ℕ} → searched o ws'' ≡ searched Over (trial_words [] ++ drop trial_room ws')
        → (p rest : List ℕ) → ws₀ ≡ trial_words p ++ rest → searched o ws'' ≡ searched_of rest (search t (trial_limit - count) count (later_than p (trials E A)))
    turn_over h c p rest w =
        let s = short_trial E A trial is_trial in
        let d : drop trial_room ws' ≡ S.rest = ap (drop trial_room) went.2 ∙ drop_at (trial_words trial) S.rest trial_room (trial_long trial (omega arith)) in
        c ∙ found-over S.rest (trial_words [] ++ drop trial_room ws') (ap (λ (l : List ℕ). trial_words [] ++ l) d)
        ∙ ap (searched_of S.rest) (sym (walked 0 (omega arith) ∙ walk-over E A t made went.0))
        ∙ T.same p rest w

    module _ (low : made < trial_limit) {h : Bool} (asks : (p rest : List ℕ) → ws' ≡ trial_words p ++ rest → h ≡ t p) {k : ℕ} (ek : k ≡ made + 1) where
      left : trial_limit - made ≡ suc (trial_limit - (made + 1))
      left = omega arith

      -- handed out
      pub turn_hit : h ≡ true → (p rest : List ℕ) → ws₀ ≡ trial_words p ++ rest → searched (Hit k) ws' ≡ searched_of rest (search t (trial_limit - count) count (later_than p (trials E A)))
      turn_hit y p rest w =
          let u : t trial ≡ true = sym (asks trial S.rest went.2) ∙ y in
          found-hit S.rest ws' k (suc made) trial (omega arith) went.2
          ∙ ap (searched_of S.rest) (sym (walked (suc (trial_limit - (made + 1))) left ∙ walk-hit E A t (trial_limit - (made + 1)) made went.0 u))
          ∙ T.same p rest w

      -- passed over
      pub turn_again : h ≡ false → length ws' ≡ length ws → Turn t ps es owners codes sources older latest ws₀ start count ws' k
      turn_again y l =
          let u : t trial ≡ false = sym (asks trial S.rest went.2) ∙ y in
          let e : suc made ≡ made + 1 = omega arith in
          record {
            held = record {
              labelled = S.labelled;
              view = S.view;
              path = trial;
              rest = S.rest;
              words = went.2;
              begun = begun_trial E A trial is_trial;
            };
            size = l ∙ T.size;
            same = λ p rest w.
                ap (searched_of S.rest)
                (ap (λ (l : List ℕ). walk E A t (trial_limit - k) k (next E A l)) (reverse-reverse went.0)
                ∙ ap (λ (j : ℕ). walk E A t (trial_limit - j) j (next E A went.0)) ek
                ∙ ap (λ (j : ℕ). walk E A t (trial_limit - (made + 1)) j (next E A went.0)) (sym e)
                ∙ sym (walked (suc (trial_limit - (made + 1))) left ∙ walk_on E A t (trial_limit - (made + 1)) made went.0 u))
                ∙ T.same p rest w;
          }
