-- Where a reading reduces or shifts, the items that say so are valid for what is on the stack.
use Rattle.std.proofs.Common.{◌≡◌, ◌≢◌, ℕ, zero, suc, ◌+◌, ◌<◌, ◌⊎◌, inl, inr, List, [], ◌∷◌, ◌++◌, length, get_or, take, drop, map, refl, sym, ◌∙◌, ap, subst, append_assoc, append-nil, add-one, arith, length-append}
use Rattle.std.proofs.lemmas.List.{append_cancel_right, append_cancel_left, same_from_push, get_or-map, map-append, length-map, take_at, drop_at}
use Rattle.std.proofs.lemmas.Option.{slice_get_within, get_or_from_slice_get}
use Rattle.std.specs.Prelude.{slice_get, Some}
use Rattle.grammar.specs.declared.symbol.Symbol.{Symbol}
use Rattle.grammar.specs.declared.symbol.Symbol.TheVariants.{Terminal, Nonterminal}
use Rattle.grammar.specs.declared.symbol.Production.{Production}
use Rattle.grammar.specs.declared.grammar.Grammar.{Grammar}
use Rattle.grammar.specs.Derives.{Derives, done, step, HasRule, Begins, Vanishes}
use Rattle.grammar.proofs.Derivations.{derives_trans, derives_before, derives_rule}
use Rattle.automaton.specs.declared.item.Item.{Item}
use Rattle.automaton.specs.Items.{rest_of, fresh, complete, advanced, right_of, left_of, IsRule}
use Rattle.automaton.specs.Valid.{Valid, start, closed, moved, BeginsBefore, end_of, IsShiftReduce}
use Rattle.certificate.specs.declared.reading.Action.{Action}
use Rattle.certificate.specs.declared.reading.Action.TheVariants.{Shift, Reduce}
use Rattle.certificate.specs.declared.judging.Fork.{Fork}
use Rattle.certificate.specs.Readings.{Reads, Parses, shifts_of}
use Rattle.certificate.specs.Shown.{ArePartedParses, HasTwoParses, HasTwoInputs}
use Rattle.certificate.specs.declared.judging.Verdict.{Verdict}
use Rattle.certificate.specs.declared.judging.Verdict.TheVariants.{Ambiguous, TwoInputs, Refused}
use Rattle.std.specs.declared.alloc.AllocError.{AllocError}
use Rattle.std.proofs.Common.{Result, Ok, Err, IfOk}
use Rattle.certificate.proofs.Runs.{cut, shifts-reads}
use Rattle.conflict_judge.specs.Real.{IsAugmented, IsReal}

-- ---- lists

snoc : (xs : List Symbol) → (xs ≡ []) ⊎ ((r : List Symbol) × (y : Symbol) × (xs ≡ r ++ y ∷ []))
snoc [] = inl refl
snoc (x ∷ xs) = elim (snoc xs) [ inl e ↦ inr ([], x, ap (λ (l : List Symbol). x ∷ l) e) | inr h ↦ inr (x ∷ h.0, h.1, ap (λ (l : List Symbol). x ∷ l) h.2) ]

some_at : (ps : List Production) (i : ℕ) → i < length ps → (p : Production) × (slice_get ps i ≡ Some p)
some_at [] i l = absurd (omega arith)
some_at (p ∷ ps) zero l = (p, refl)
some_at (p ∷ ps) (suc i) l = some_at ps i (omega arith)

drop_next : (xs : List Symbol) (n : ℕ) (x : Symbol) (ys : List Symbol) → drop n xs ≡ x ∷ ys → drop (n + 1) xs ≡ ys
drop_next xs n x ys e = rw add-one (go xs n e)
  where
    go : (xs : List Symbol) (n : ℕ) → drop n xs ≡ x ∷ ys → drop (suc n) xs ≡ ys
    go [] zero e = let bad : [] ≡ x ∷ ys = e in cc
    go [] (suc n) e = let bad : [] ≡ x ∷ ys = e in cc
    go (z ∷ zs) zero e = let both : z ∷ zs ≡ x ∷ ys = e in cc
    go (z ∷ zs) (suc n) e = go zs n e

item_is : (j : Item) (p d : ℕ) → j.production ≡ p → j.dot ≡ d → j ≡ record { production = p; dot = d }
item_is j p d e f = ap (λ (n : ℕ). let i : Item = record { production = n; dot = j.dot } in i) e ∙ ap (λ (n : ℕ). let i : Item = record { production = p; dot = n } in i) f

module _ (g : Grammar) where
  right_is : (k : ℕ) (p : Production) → slice_get g.productions.items k ≡ Some p → right_of g k ≡ p.right.items
  right_is k p at =
      get_or-map (λ (x : Production). x.right.items) g.productions.items k p [] (slice_get_within g.productions.items k p at)
      ∙ ap (λ (x : Production). x.right.items) (get_or_from_slice_get g.productions.items k p p at)

  left_is : (k : ℕ) (p : Production) → slice_get g.productions.items k ≡ Some p → left_of g k ≡ p.left
  left_is k p at =
      get_or-map (λ (x : Production). x.left) g.productions.items k p 0 (slice_get_within g.productions.items k p at)
      ∙ ap (λ (x : Production). x.left) (get_or_from_slice_get g.productions.items k p p at)

  rule_is : (k : ℕ) (p : Production) → slice_get g.productions.items k ≡ Some p → IsRule g k p.left
  rule_is k p at = record { within = slice_get_within g.productions.items k p at; left = left_is k p at }

  -- ---- the dot moves over what is on the stack

  pub record Moved (δ : List Symbol) (i : Item) (a : ℕ) (xs ρ : List Symbol) : Type 0 where
    pub item : Item
    pub valid : Valid g (δ ++ xs) item a
    pub rest : rest_of g item ≡ ρ
    pub production : item.production ≡ i.production
    pub dot : item.dot ≡ i.dot + length xs

  pub move_over : (δ : List Symbol) (i : Item) (a : ℕ) (xs ρ : List Symbol) → Valid g δ i a → rest_of g i ≡ xs ++ ρ → Moved δ i a xs ρ
  move_over δ i a [] ρ v e = record { item = i; valid = rw append-nil v; rest = e; production = refl; dot = omega arith }
  move_over δ i a (x ∷ xs) ρ v e =
      let next : rest_of g (advanced i) ≡ xs ++ ρ = drop_next (right_of g i.production) i.dot x (xs ++ ρ) e in
      let m = move_over (δ ++ x ∷ []) (advanced i) a xs ρ (moved x (xs ++ ρ) v e) next in
      let dot = m.dot in
      record { item = m.item; valid = rw append_assoc at m.valid; rest = m.rest; production = m.production; dot = omega arith }

  -- ---- what an item's kernel item says

  pub record From (below : List Symbol) (x : Symbol) (j : Item) (b : ℕ) : Type 0 where
    pub item : Item
    pub token : ℕ
    pub rest : List Symbol
    pub valid : Valid g below item token
    pub at : rest_of g item ≡ x ∷ rest
    pub gives : (t : ℕ) → BeginsBefore g (rest_of g j) b t → BeginsBefore g rest token t

  has_rule : (n q : ℕ) → IsRule g q n → HasRule g.productions.items n (right_of g q)
  has_rule n q rule =
      let found = some_at g.productions.items q rule.within in
      record {
        production = found.0;
        listed = (q, rule.within, get_or_from_slice_get g.productions.items q found.0 found.0 found.1);
        left_side = sym (left_is q found.0 found.1) ∙ rule.left;
        right_side = sym (right_is q found.0 found.1);
      }

  -- what begins a production before b begins the item that opens it
  opened : (a b n q : ℕ) (β : List Symbol) → IsRule g q n → BeginsBefore g β a b → (t : ℕ) → BeginsBefore g (right_of g q) b t → BeginsBefore g (Nonterminal n ∷ β) a t
  opened a b n q β rule begins t (inl k) = inl (k.0 ++ β, derives_trans (derives_rule n (right_of g q) β (has_rule n q rule)) (derives_before β k.1))
  opened a b n q β rule (inl l) t (inr k) =
      inl (l.0, rw k.1 (derives_trans (derives_rule n (right_of g q) β (has_rule n q rule)) (derives_trans (derives_before β k.0) l.1)))
  opened a b n q β rule (inr l) t (inr k) =
      inr (derives_trans (derives_rule n (right_of g q) β (has_rule n q rule)) (derives_trans (derives_before β k.0) l.0), k.1 ∙ l.1)

  kernel : {γ : List Symbol} {j : Item} {b : ℕ} → Valid g γ j b → (below : List Symbol) (x : Symbol) → γ ≡ below ++ x ∷ [] → From below x j b
  kernel start [] x e = let bad : [] ≡ x ∷ [] = e in cc
  kernel start (y ∷ below) x e = let bad : [] ≡ y ∷ (below ++ x ∷ []) = e in cc
  kernel (closed {γ} {i} {a} {b} n q β v at rule begins) below x e =
      let k = kernel v below x e in
      record {
        item = k.item;
        token = k.token;
        rest = k.rest;
        valid = k.valid;
        at = k.at;
        gives = λ t h. k.gives t (rw at (opened a b n q β rule begins t h));
      }
  kernel (moved {γ} {i} {a} y β v at) below x e =
      let parts = same_from_push γ below y x e in
      let next : rest_of g (advanced i) ≡ β = drop_next (right_of g i.production) i.dot y β at in
      record {
        item = i;
        token = a;
        rest = β;
        valid = rw parts.0 at v;
        at = at ∙ ap (λ (z : Symbol). z ∷ β) parts.1;
        gives = λ t h. rw next at h;
      }

  -- ---- what the rest of a reading says of the top of the stack

  abbrev next : List ℕ → ℕ
  next [] = end_of g
  next (t ∷ tokens) = t

  record Ahead (below : List Symbol) (x : Symbol) (t : ℕ) : Type 0 where
    item : Item
    token : ℕ
    rest : List Symbol
    valid : Valid g below item token
    at : rest_of g item ≡ x ∷ rest
    begins : BeginsBefore g rest token t

  module _ (s : Production) (first : slice_get g.productions.items 0 ≡ Some s) (augmented : IsAugmented g.productions.items) where
    -- nothing is left to do
    record AtEnd (below : List Symbol) (x : Symbol) (tokens : List ℕ) : Type 0 where
      below_none : below ≡ []
      symbol : x ≡ Nonterminal s.left
      tokens_none : tokens ≡ []

    no_tokens : (tokens : List ℕ) → map Terminal tokens ≡ [] → tokens ≡ []
    no_tokens [] e = refl
    no_tokens (t ∷ tokens) e = let bad : Terminal t ∷ map Terminal tokens ≡ [] = e in cc

    -- the production that is reduced is open before its right side
    fresh_at : (q : ℕ) (p : Production) (under : List Symbol) (tokens : List ℕ) → slice_get g.productions.items q ≡ Some p
        → AtEnd under (Nonterminal p.left) tokens ⊎ Ahead under (Nonterminal p.left) (next tokens) → Valid g under (fresh q) (next tokens)
    fresh_at q p under tokens listed (inl d) =
        let both : Nonterminal p.left ≡ Nonterminal s.left = d.symbol in
        let same : p.left ≡ s.left = cc in
        let zero_is : q ≡ 0 = augmented q p s first listed same in
        rw (zero_is, d.below_none, d.tokens_none) start
    fresh_at q p under tokens listed (inr k) = closed p.left q k.rest k.valid k.at (rule_is q p listed) k.begins

    before_last : (q : ℕ) (p : Production) (under below : List Symbol) (x : Symbol) (t : ℕ) → slice_get g.productions.items q ≡ Some p → below ++ x ∷ [] ≡ under ++ p.right.items
        → Valid g under (fresh q) t → Ahead below x t
    before_last q p under below x t listed at v =
        elim (snoc p.right.items) [ inl e ↦ empty e | inr h ↦ full h.0 h.1 h.2 ]
      where
        empty : p.right.items ≡ [] → Ahead below x t
        empty e =
            let f = kernel v below x (sym (at ∙ ap (λ (l : List Symbol). under ++ l) e ∙ append-nil under)) in
            let none : right_of g q ≡ [] = right_is q p listed ∙ e in
            record { item = f.item; token = f.token; rest = f.rest; valid = f.valid; at = f.at; begins = f.gives t (inr (rw none done, refl)) }

        full : (r : List Symbol) (y : Symbol) → p.right.items ≡ r ++ y ∷ [] → Ahead below x t
        full r y e =
            let parts = same_from_push below (under ++ r) x y (at ∙ ap (λ (l : List Symbol). under ++ l) e ∙ sym (append_assoc under r (y ∷ []))) in
            let m = move_over under (fresh q) t r (y ∷ []) v (right_is q p listed ∙ e) in
            record {
              item = m.item;
              token = t;
              rest = [];
              valid = rw parts.0 m.valid;
              at = m.rest ∙ ap (λ (z : Symbol). z ∷ []) (sym parts.1);
              begins = inr (done, refl);
            }

    ahead : (actions : List Action) (below : List Symbol) (x : Symbol) (tokens : List ℕ) → Reads g.productions.items actions (below ++ x ∷ []) (map Terminal tokens) (Nonterminal s.left ∷ [])
        → AtEnd below x tokens ⊎ Ahead below x (next tokens)
    ahead [] below x tokens (none, same) =
        let parts = same_from_push below [] x (Nonterminal s.left) same in
        inl (record { below_none = parts.0; symbol = parts.1; tokens_none = no_tokens tokens none })
    ahead (Shift ∷ actions) below x [] (y, rest, at, h) = let bad : [] ≡ y ∷ rest = at in cc
    ahead (Shift ∷ actions) below x (t ∷ tokens) (y, rest, at, h) =
        let both : Terminal t ∷ map Terminal tokens ≡ y ∷ rest = at in
        let one : y ≡ Terminal t = cc in
        let others : rest ≡ map Terminal tokens = cc in
        elim (ahead actions (below ++ x ∷ []) (Terminal t) tokens (rw (one, others) at h)) [
          | inl d ↦ let bad : Terminal t ≡ Nonterminal s.left = d.symbol in cc
          | inr k ↦
              let f = kernel k.valid below x refl in
              inr (record { item = f.item; token = f.token; rest = f.rest; valid = f.valid; at = f.at; begins = f.gives t (inl (k.rest, rw k.at done)) })
        ]
    ahead (Reduce q ∷ actions) below x tokens (p, under, listed, at, h) =
        inr (before_last q p under below x (next tokens) listed at (fresh_at q p under tokens listed (ahead actions under (Nonterminal p.left) tokens h)))

    -- ---- the two actions

    reduces : (q : ℕ) (actions : List Action) (stack : List Symbol) (tokens : List ℕ) → Reads g.productions.items (Reduce q ∷ actions) stack (map Terminal tokens) (Nonterminal s.left ∷ [])
        → Valid g stack (complete g q) (next tokens)
    reduces q actions stack tokens (p, under, listed, at, h) =
        let v = fresh_at q p under tokens listed (ahead actions under (Nonterminal p.left) tokens h) in
        let right = right_is q p listed in
        let m = move_over under (fresh q) (next tokens) p.right.items [] v (right ∙ sym (append-nil p.right.items)) in
        let end : m.item ≡ complete g q = item_is m.item q (length (right_of g q)) m.production (m.dot ∙ (let l = ap length right in omega arith)) in
        rw (at, ← end) m.valid

    shifts : (actions : List Action) (stack : List Symbol) (t : ℕ) (tokens : List ℕ) → Reads g.productions.items (Shift ∷ actions) stack (map Terminal (t ∷ tokens)) (Nonterminal s.left ∷ [])
        → (i : Item) × (a : ℕ) × (β : List Symbol) × Valid g stack i a × (rest_of g i ≡ Terminal t ∷ β)
    shifts actions stack t tokens (y, rest, at, h) =
        let both : Terminal t ∷ map Terminal tokens ≡ y ∷ rest = at in
        let one : y ≡ Terminal t = cc in
        let others : rest ≡ map Terminal tokens = cc in
        elim (ahead actions stack (Terminal t) tokens (rw (one, others) at h)) [
          | inl d ↦ let bad : Terminal t ≡ Nonterminal s.left = d.symbol in cc
          | inr k ↦ (k.item, k.token, k.rest, k.valid, k.at)
        ]

-- ---- both readings

-- the stack is the same after the same actions on the same symbols
reads_same : (ps : List Production) (actions : List Action) (s i e f : List Symbol) → Reads ps actions s i e → Reads ps actions s i f → e ≡ f
reads_same ps [] s i e f h k = sym h.1 ∙ k.1
reads_same ps (Shift ∷ actions) s i e f (x, rest, at, h) (y, more, is, k) =
    let both : x ∷ rest ≡ y ∷ more = sym at ∙ is in
    let one : y ≡ x = cc in
    let others : more ≡ rest = cc in
    reads_same ps actions (s ++ x ∷ []) rest e f h (rw (one, others) at k)
reads_same ps (Reduce n ∷ actions) s i e f (p, below, listed, at, h) (q, under, found, is, k) =
    let same : q ≡ p = cc in
    let both : under ++ p.right.items ≡ below ++ p.right.items = ap (λ (x : Production). under ++ x.right.items) (sym same) ∙ sym is ∙ at in
    let one : under ≡ below = append_cancel_right under below p.right.items both in
    reads_same ps actions (below ++ Nonterminal p.left ∷ []) i e f h (rw (same, one) at k)

same_front : (a b c d : List Symbol) → a ++ b ≡ c ++ d → length a ≡ length c → a ≡ c
same_front [] b [] d e n = refl
same_front [] b (y ∷ c) d e n = absurd (omega arith)
same_front (x ∷ a) b [] d e n = absurd (omega arith)
same_front (x ∷ a) b (y ∷ c) d e n =
    let both : x ∷ (a ++ b) ≡ y ∷ (c ++ d) = e in
    let one : x ≡ y = cc in
    let rest : a ++ b ≡ c ++ d = cc in
    let more : a ≡ c = same_front a b c d rest (omega arith) in
    cc

-- the stack before the fork
record Half (ps : List Production) (before behind : List Action) (read tail : List ℕ) (e : List Symbol) : Type 0 where
  stack : List Symbol
  front : Reads ps before [] (map Terminal read) stack
  back : Reads ps behind stack (map Terminal tail) e

halves : (ps : List Production) (before behind : List Action) (read tail : List ℕ) (e : List Symbol) → Reads ps (before ++ behind) [] (map Terminal (read ++ tail)) e → shifts_of before ≡ length read
    → Half ps before behind read tail e
halves ps before behind read tail e h point =
    let c = cut ps before behind [] (map Terminal (read ++ tail)) e h in
    let n = shifts-reads ps before [] c.front c.middle c.first in
    let joined : c.front ++ c.back ≡ map Terminal read ++ map Terminal tail = sym c.input ∙ map-append Terminal read tail in
    let front : c.front ≡ map Terminal read = same_front c.front c.back (map Terminal read) (map Terminal tail) joined (sym n ∙ point ∙ sym (length-map read Terminal)) in
    let back : c.back ≡ map Terminal tail = append_cancel_left (map Terminal read) c.back (map Terminal tail) (ap (λ (l : List Symbol). l ++ c.back) (sym front) ∙ joined) in
    record { stack = c.middle; front = rw front at c.first; back = rw back at c.second }

by_action : (g : Grammar) (s : Production) → slice_get g.productions.items 0 ≡ Some s → IsAugmented g.productions.items → (t p : ℕ) (stack : List Symbol) (tail other_tail : List ℕ) (x : Action) (rest : List Action)
    → Valid g stack (complete g p) t → Reads g.productions.items (x ∷ rest) stack (map Terminal (t ∷ other_tail)) (Nonterminal s.left ∷ []) → IsReal g t p x
by_action g s first augmented t p stack tail other_tail Shift rest reduction h =
    let k = shifts g s first augmented rest stack t other_tail h in
    (stack, record { reduces = reduction; item = k.0; token = k.1; behind = k.2; valid = k.3; shifts = k.4 })
by_action g s first augmented t p stack tail other_tail (Reduce q) rest reduction h =
    (stack, reduction, reduces g s first augmented q rest stack (t ∷ other_tail) h)

pub real : (g : Grammar) (fork : Fork) (read tail other_tail : List ℕ) → ArePartedParses g.productions.items fork read tail other_tail → IsAugmented g.productions.items
    → IsReal g fork.token fork.production fork.other
real g fork read tail other_tail parses augmented =
    let p = parses.part in
    let ps = g.productions.items in
    let s = parses.one.start in
    let two_start = parses.two.start in
    let same_start : two_start ≡ s = let f = parses.one.first in let f' = parses.two.first in cc in
    let first = halves ps p.before (Reduce fork.production ∷ p.rest) read (fork.token ∷ tail) (Nonterminal s.left ∷ []) (rw p.one at parses.one.reading) p.point in
    let second = halves ps p.before (fork.other ∷ p.other_rest) read (fork.token ∷ other_tail) (Nonterminal two_start.left ∷ []) (rw p.two at parses.two.reading) p.point in
    let stack = reads_same ps p.before [] (map Terminal read) second.stack first.stack second.front first.front in
    let reduction = reduces g s parses.one.first augmented fork.production p.rest first.stack (fork.token ∷ tail) first.back in
    let back : Reads ps (fork.other ∷ p.other_rest) first.stack (map Terminal (fork.token ∷ other_tail)) (Nonterminal s.left ∷ []) = rw (stack, same_start) at second.back in
    by_action g s parses.one.first augmented fork.token fork.production first.stack tail other_tail fork.other p.other_rest reduction back

pub real_of : (g : Grammar) (fork : Fork) (r : Result Verdict AllocError) → (r ≡ Ok Ambiguous → HasTwoParses g.productions.items fork) → (r ≡ Ok TwoInputs → HasTwoInputs g.productions.items fork)
    → IfOk r (λ v. v ≢ Refused → IsAugmented g.productions.items → IsReal g fork.token fork.production fork.other)
real_of g fork (Ok Ambiguous) a b = λ n augmented. let h = a refl in real g fork h.0 h.1 h.1 h.2 augmented
real_of g fork (Ok TwoInputs) a b = λ n augmented. let h = b refl in real g fork h.0 h.1 h.2 h.3 augmented
real_of g fork (Ok Refused) a b = λ n augmented. absurd (n refl)
real_of g fork (Err e) a b = tt
