-- The ways through the code of the machine (src/machine.rt), over the words of a trial.
use Prim.Native.Nat.{ℕ, suc, ◌-◌, ◌≤◌, ◌<◌}
use native.Mathlib.Omega.{arith}
use mathlib.Core.Path.{◌≡◌, sym, ap, ◌∙◌}
use mathlib.Core.Bool.{Bool, true, false}
use mathlib.Core.List.{List, [], ◌∷◌, ◌++◌, reverse, reverse-cons}
use mathlib.Core.Option.{Option, none, some}
use lib.ListN.{length, get_or, length-reverse}
use lib.Dec.{eqb}
use borrow.Author.Tests.{not-true, not-false, ne_eqb}
use Rattle.std.specs.Prelude.{Option as Maybe, not, is_some, MatchOption, None, Some}
use Rattle.lr1_base.specs.repr.Sizes.{nonterminal_limit, edge_limit, reduction_limit}
use Rattle.lr1_base.specs.repr.Lists.{mem}
use Rattle.enumerator.specs.trials.Stacks.{stepped}
use Rattle.enumerator.specs.graph_view.Trial.{trial_room, trial_words, Held, Fitting, step_words}
use Rattle.enumerator.specs.graph_view.Steps.{edge_in, used_by, back_by, seek_by, next_by, example_by}
use Rattle.enumerator.proofs.graph_view.Trial.{words-head, stack_once, stack_depth, stack_long, empty, top-words, top_depth, top_short, under_within, upper, upper_below, upper_stack, upper_is}
use Rattle.enumerator.proofs.graph_view.Steps.{edge_none, edge_some, back_end, back_some, back_none, seek-some, seek-none, next-first, next_item_lem, next_on, next_in}

-- a step that ends, and one that finds a stack
step-none : (o : Option (List ℕ)) (rest : List ℕ) → o ≡ none → stepped false (trial_words [] ++ rest) ≡ step_words o rest
unfolding step_words
step-none o rest e = rw e

step-some : (o : Option (List ℕ)) (e : ℕ) (st rest ws : List ℕ) → o ≡ some (e ∷ st) → ws ≡ trial_words (reverse st ++ e ∷ []) ++ rest → stepped true ws ≡ step_words o rest
unfolding step_words
step-some o e st rest ws q w = rw q (ap (stepped true) (w ∙ ap (λ (l : List ℕ). trial_words l ++ rest) (sym (reverse-cons e st))))

-- what a step is to meet, by its definition
abbrev pub Meets : List ℕ → (List ℕ → Option (List ℕ)) → Bool → List ℕ → Type 0
Meets ws step r ws' = (st rest : List ℕ) → ws ≡ trial_words (reverse st) ++ rest → stepped r ws' ≡ step_words (step st) rest

-- `back`: the stack that is left gives what the whole gives
pub record Turn (older ws₀ ws : List ℕ) (d : ℕ) : Type 0 where
  pub held : Held ws
  pub deep : d ≡ get_or ws 0 0
  pub same : (st rest : List ℕ) → ws₀ ≡ trial_words (reverse st) ++ rest → step_words (back_by older held.stack) held.rest ≡ step_words (back_by older st) rest

pub back-first : {older ws : List ℕ} {w : ℕ} → Held ws → w ≡ get_or ws 0 0 → Turn older ws ws w
back-first {older} S e = record {
  held = S;
  deep = e;
  same = λ st rest q.
      let o = stack_once S.stack st S.rest rest (sym S.words ∙ q) in
      ap (λ (x : List ℕ). step_words (back_by older x) S.rest) o.0 ∙ ap (step_words (back_by older st)) o.1;
}

module _ {older ws₀ ws : List ℕ} {d : ℕ} (T : Turn older ws₀ ws d) where
  pub back-over : d ≡ 0 → Meets ws₀ (back_by older) false ws
  back-over z st rest q =
      let S = T.held in
      let m = empty S d T.deep z in
      ap (stepped false) (S.words ∙ ap (λ (l : List ℕ). trial_words (reverse l) ++ S.rest) m)
      ∙ step-none (back_by older S.stack) S.rest (ap (back_by older) m ∙ back_end older)
      ∙ T.same st rest q

  pub back_deep : (d ≡ get_or ws 0 0) × ((trial_room ≤ length ws) × (get_or ws 0 0 ≤ reduction_limit))
  back_deep = (T.deep, (stack_long T.held, omega (arith, stack_depth T.held, T.held.short)))

  module _ (ne : d ≡ 0 → ⊥) {x : ℕ} (ex : x ≡ get_or ws d 0) where
    abbrev under : List ℕ
    under = (upper T.held T.deep ne ex).under

    pub back_edge : x < edge_limit
    back_edge = upper_below T.held T.deep ne ex

    stack_is : T.held.stack ≡ x ∷ under
    stack_is = upper_stack T.held T.deep ne ex

    module _ {o : ℕ} (eo : o ≡ get_or older x 0) where
      pub back_found : {l : ℕ} → o ≡ suc l → {ws' : List ℕ} → ((p : List ℕ) (e : ℕ) (rest : List ℕ) → ws ≡ trial_words (p ++ e ∷ []) ++ rest → ws' ≡ trial_words (p ++ l ∷ []) ++ rest)
          → Meets ws₀ (back_by older) true ws'
      back_found {l} m {ws'} f st rest q =
          let S = T.held in
          let U = upper S T.deep ne ex in
          let w = f (reverse under) U.edge S.rest (top-words S U) in
          step-some (back_by older S.stack) l under S.rest ws' (ap (back_by older) stack_is ∙ back_some older x l under (ap edge_in (sym eo) ∙ edge_some o m)) w
          ∙ T.same st rest q

      pub back_again : o ≡ 0 → {ws' : List ℕ} → ((p : List ℕ) (e : ℕ) (rest : List ℕ) → ws ≡ trial_words (p ++ e ∷ []) ++ rest → ws' ≡ trial_words p ++ rest) → Turn older ws₀ ws' (d - 1)
      back_again m {ws'} f =
          let S = T.held in
          let U = upper S T.deep ne ex in
          let w = f (reverse under) U.edge S.rest (top-words S U) in
          let n = ap (λ (l : List ℕ). get_or l 0 0) w ∙ words-head (reverse under) S.rest ∙ length-reverse under in
          record {
            held = record { stack = under; rest = S.rest; words = w; short = omega (arith, top_short S U); edges = under_within S U };
            deep = omega (arith, T.deep, top_depth S U);
            same = λ st rest q.
                ap (λ (l : Option (List ℕ)). step_words l S.rest) (sym (ap (back_by older) stack_is ∙ back_none older x under (ap edge_in (sym eo) ∙ edge_none o m))) ∙ T.same st rest q;
          }

-- a step's answer by another name of its stack
renamed : {r : Bool} {ws : List ℕ} (a b : Option (List ℕ)) (rest : List ℕ) → b ≡ a → stepped r ws ≡ step_words a rest → stepped r ws ≡ step_words b rest
renamed a b rest e s = s ∙ ap (λ (o : Option (List ℕ)). step_words o rest) (sym e)

-- `seek`
module _ (older : List ℕ) (w : ℕ) {ws ws' : List ℕ} where
  pub seek-back : w ≡ 0 → {r : Bool} → Meets ws (back_by older) r ws' → Meets ws (seek_by older w) r ws'
  seek-back z f st rest q = renamed (back_by older st) (seek_by older w st) rest (seek-none older w st (edge_none w z)) (f st rest q)

  pub seek_push : {l : ℕ} → w ≡ suc l → ((p rest : List ℕ) → ws ≡ trial_words p ++ rest → ws' ≡ trial_words (p ++ l ∷ []) ++ rest) → Meets ws (seek_by older w) true ws'
  seek_push {l} m f st rest q = step-some (seek_by older w st) l st rest ws' (seek-some older w l st (edge_some w m)) (f (reverse st) rest q)

-- `next`
module _ (sources older latest : List ℕ) {ws : List ℕ} (S : Held ws) {d : ℕ} (ed : d ≡ get_or ws 0 0) where
  -- the room for one edge more
  seek-room : Fitting (next_by sources older latest) ws → (w : ℕ) → next_by sources older latest S.stack ≡ seek_by older w S.stack → (w ≡ 0 → ⊥) → get_or ws 0 0 < reduction_limit
  seek-room F w e m =
      let n : w ≡ suc (w - 1) = omega (arith, m) in
      let l = F.room S.stack S.rest S.words ((w - 1) ∷ S.stack) (e ∙ seek-some older w (w - 1) S.stack (edge_some w n)) in
      omega (arith, stack_depth S)

  module _ (z : d ≡ 0) where
    none-next : next_by sources older latest S.stack ≡ seek_by older (get_or latest nonterminal_limit 0) S.stack
    none-next =
        let e = empty S d ed z in
        ap (next_by sources older latest) e ∙ next-first sources older latest ∙ ap (seek_by older (get_or latest nonterminal_limit 0)) (sym e)

    pub next-none : {w : ℕ} → w ≡ get_or latest nonterminal_limit 0 → {r : Bool} {ws' : List ℕ} → Meets ws (seek_by older w) r ws' → Meets ws (next_by sources older latest) r ws'
    next-none {w} ew f st rest q =
        let s : st ≡ S.stack = (stack_once st S.stack rest S.rest (sym q ∙ S.words)).0 in
        renamed (seek_by older w st) (next_by sources older latest st) rest
        (ap (next_by sources older latest) s ∙ none-next ∙ ap (λ (k : ℕ). seek_by older k S.stack) (sym ew) ∙ ap (seek_by older w) (sym s)) (f st rest q)

  module _ (ne : d ≡ 0 → ⊥) {x : ℕ} (ex : x ≡ get_or ws d 0) where
    pub next-at_item : get_or sources x 0 ≡ 0 → {r : Bool} {ws' : List ℕ} → Meets ws (back_by older) r ws' → Meets ws (next_by sources older latest) r ws'
    next-at_item z f st rest w =
        let e = upper_is S ed ne ex st rest w in
        renamed (back_by older st) (next_by sources older latest st) rest
        (ap (next_by sources older latest) e ∙ next_item_lem sources older latest x (upper S ed ne ex).under z ∙ ap (back_by older) (sym e)) (f st rest w)

    module _ {n : ℕ} (is : get_or sources x 0 ≡ suc n) where
      pub next-used : mem n (used_by sources (upper S ed ne ex).under) ≡ true → {r : Bool} {ws' : List ℕ} → Meets ws (back_by older) r ws' → Meets ws (next_by sources older latest) r ws'
      next-used t f st rest w =
          let e = upper_is S ed ne ex st rest w in
          renamed (back_by older st) (next_by sources older latest st) rest
          (ap (next_by sources older latest) e ∙ next_on sources older latest x n (upper S ed ne ex).under is t ∙ ap (back_by older) (sym e)) (f st rest w)

      module _ (t : mem n (used_by sources (upper S ed ne ex).under) ≡ false) {l : ℕ} (el : l ≡ get_or latest n 0) where
        new_next : next_by sources older latest (x ∷ (upper S ed ne ex).under) ≡ seek_by older l (x ∷ (upper S ed ne ex).under)
        new_next =
            next_in sources older latest x n (upper S ed ne ex).under is t
            ∙ ap (λ (k : ℕ). seek_by older k (x ∷ (upper S ed ne ex).under)) (sym el)

        pub new_room : Fitting (next_by sources older latest) ws → (l ≡ 0 → ⊥) → get_or ws 0 0 < reduction_limit
        new_room F =
            let e = upper_stack S ed ne ex in
            seek-room F l (ap (next_by sources older latest) e ∙ new_next ∙ ap (seek_by older l) (sym e))

        pub next_new : {r : Bool} {ws' : List ℕ} → Meets ws (seek_by older l) r ws' → Meets ws (next_by sources older latest) r ws'
        next_new f st rest w =
            let e = upper_is S ed ne ex st rest w in
            renamed (seek_by older l st) (next_by sources older latest st) rest (ap (next_by sources older latest) e ∙ new_next ∙ ap (seek_by older l) (sym e)) (f st rest w)

-- `is_example`
pub source_none : (o : Maybe ℕ) (v : ℕ) {r : Bool} → not r ≡ is_some o → MatchOption o (v ≡ 0) (λ n. (v ≡ suc n) × (n < nonterminal_limit)) → r ≡ eqb v 0
source_none None v {r} e z = rw z (not-false r e)
source_none (Some n) v {r} e q = let s = q.0 in not-true r e ∙ sym (ne_eqb v 0 (λ z. omega arith))

module _ (sources : List ℕ) {ws : List ℕ} (S : Held ws) {d : ℕ} (ed : d ≡ get_or ws 0 0) where
  pub example-none : d ≡ 0 → (st rest : List ℕ) → ws ≡ trial_words (reverse st) ++ rest → false ≡ example_by sources st
  unfolding example_by
  example-none z st rest q =
      let e : st ≡ [] = (stack_once st S.stack rest S.rest (sym q ∙ S.words)).0 ∙ empty S d ed z in
      sym (ap (example_by sources) e)

  pub example-top : (ne : d ≡ 0 → ⊥) {x : ℕ} → x ≡ get_or ws d 0 → (st rest : List ℕ) → ws ≡ trial_words (reverse st) ++ rest → eqb (get_or sources x 0) 0 ≡ example_by sources st
  unfolding example_by
  example-top ne {x} ex st rest w = sym (ap (example_by sources) (upper_is S ed ne ex st rest w))
