-- Runs of a parser: one after the other, over a stack, and cut in two.
use Rattle.std.proofs.Common.{◌≡◌, ℕ, suc, ◌+◌, List, [], ◌∷◌, ◌++◌, length, refl, sym, ◌∙◌, ap, append_assoc, append-nil, arith}
use Rattle.std.proofs.Common.{cond}
use Rattle.std.proofs.lemmas.List.Sums.{sum_by-cons}
use Rattle.std.specs.Prelude.{slice_get, Some}
use Rattle.grammar.specs.declared.symbol.Symbol.{Symbol}
use Rattle.grammar.specs.declared.symbol.Symbol.TheVariants.{Terminal, Nonterminal}
use Rattle.grammar.specs.declared.symbol.Production.{Production}
use Rattle.certificate.specs.declared.reading.Action.{Action}
use Rattle.certificate.specs.declared.reading.Action.TheVariants.{Shift, Reduce}
use Rattle.certificate.specs.Readings.{Reads, is_shift, shifts_of}

module _ (ps : List Production) where
  -- the same run by other names
  pub reads_from : (actions : List Action) (s t i e : List Symbol) → s ≡ t → Reads ps actions s i e → Reads ps actions t i e
  reads_from actions s t i e h r = rw h at r

  pub reads_append : (a b : List Action) (s i m j e : List Symbol) → Reads ps a s i m → Reads ps b m j e → Reads ps (a ++ b) s (i ++ j) e
  reads_append [] b s i m j e h k = rw (h.0, h.1) k
  reads_append (Shift ∷ a) b s i m j e (x, rest, at, h) k =
      (x, rest ++ j, ap (λ (l : List Symbol). l ++ j) at, reads_append a b (s ++ x ∷ []) rest m j e h k)
  reads_append (Reduce n ∷ a) b s i m j e (p, below, listed, at, h) k =
      (p, below, listed, at, reads_append a b (below ++ Nonterminal p.left ∷ []) i m j e h k)

  -- what lies below stays
  pub reads_over : (u : List Symbol) (a : List Action) (s i e : List Symbol) → Reads ps a s i e → Reads ps a (u ++ s) i (u ++ e)
  reads_over u [] s i e h = (h.0, ap (λ (l : List Symbol). u ++ l) h.1)
  reads_over u (Shift ∷ a) s i e (x, rest, at, h) =
      (x, rest, at, reads_from a (u ++ (s ++ x ∷ [])) (u ++ s ++ x ∷ []) rest (u ++ e) (sym (append_assoc u s (x ∷ []))) (reads_over u a (s ++ x ∷ []) rest e h))
  reads_over u (Reduce n ∷ a) s i e (p, below, listed, at, h) = (
    p,
    u ++ below,
    listed,
    ap (λ (l : List Symbol). u ++ l) at ∙ sym (append_assoc u below p.right.items),
    reads_from a (u ++ (below ++ Nonterminal p.left ∷ [])) (u ++ below ++ Nonterminal p.left ∷ []) i (u ++ e) (sym (append_assoc u below (Nonterminal p.left ∷ [])))
        (reads_over u a (below ++ Nonterminal p.left ∷ []) i e h),
  )

  -- a run on top of a stack
  pub reads_on : (u : List Symbol) (a : List Action) (i e : List Symbol) → Reads ps a [] i e → Reads ps a u i (u ++ e)
  reads_on u a i e h = reads_from a (u ++ []) u i (u ++ e) (append-nil u) (reads_over u a [] i e h)

  -- as many symbols are read as there are
  pub shifts-reads : (a : List Action) (s i e : List Symbol) → Reads ps a s i e → shifts_of a ≡ length i
  shifts-reads [] s i e h = sym (ap length h.0)
  shifts-reads (Shift ∷ a) s i e (x, rest, at, h) = let k = shifts-reads a (s ++ x ∷ []) rest e h in let l = ap length at in let one : shifts_of (Shift ∷ a) ≡ 1 + shifts_of a = sum_by-cons (λ (x : Action). cond (is_shift x) 1 0) Shift a in omega arith
  shifts-reads (Reduce n ∷ a) s i e (p, below, listed, at, h) = shifts-reads a (below ++ Nonterminal p.left ∷ []) i e h

  -- a run in two parts
  pub record Halves (a b : List Action) (s i e : List Symbol) : Type 0 where
    pub front : List Symbol
    pub back : List Symbol
    pub middle : List Symbol
    pub input : i ≡ front ++ back
    pub first : Reads ps a s front middle
    pub second : Reads ps b middle back e

  pub cut : (a b : List Action) (s i e : List Symbol) → Reads ps (a ++ b) s i e → Halves a b s i e
  cut [] b s i e h = record { front = []; back = i; middle = s; input = refl; first = (refl, refl); second = h }
  cut (Shift ∷ a) b s i e (x, rest, at, h) =
      let c = cut a b (s ++ x ∷ []) rest e h in
      record {
        front = x ∷ c.front;
        back = c.back;
        middle = c.middle;
        input = at ∙ ap (λ (l : List Symbol). x ∷ l) c.input;
        first = (x, c.front, refl, c.first);
        second = c.second;
      }
  cut (Reduce n ∷ a) b s i e (p, below, listed, at, h) =
      let c = cut a b (below ++ Nonterminal p.left ∷ []) i e h in
      record { front = c.front; back = c.back; middle = c.middle; input = c.input; first = (p, below, listed, at, c.first); second = c.second }

  -- a run where a symbol of the input is read
  pub record Surrounds (a : List Action) (s i : List Symbol) (x : Symbol) (j e : List Symbol) : Type 0 where
    pub before : List Action
    pub behind : List Action
    pub middle : List Symbol
    pub actions : a ≡ before ++ (Shift ∷ behind)
    pub first : Reads ps before s i middle
    pub second : Reads ps behind (middle ++ x ∷ []) j e

  pub around : (a : List Action) (s i : List Symbol) (x : Symbol) (j e : List Symbol) → Reads ps a s (i ++ (x ∷ j)) e → Surrounds a s i x j e
  around [] s [] x j e h = let bad : x ∷ j ≡ [] = h.0 in cc
  around [] s (y ∷ i) x j e h = let bad : y ∷ (i ++ (x ∷ j)) ≡ [] = h.0 in cc
  around (Shift ∷ a) s [] x j e (y, rest, at, h) =
      let one : y ≡ x = cc in
      let others : rest ≡ j = cc in
      record { before = []; behind = a; middle = s; actions = refl; first = (refl, refl); second = rw (one, others) at h }
  around (Shift ∷ a) s (z ∷ i) x j e (y, rest, at, h) =
      let one : y ≡ z = cc in
      let others : rest ≡ i ++ (x ∷ j) = cc in
      let c = around a (s ++ z ∷ []) i x j e (rw (one, others) at h) in
      record {
        before = Shift ∷ c.before;
        behind = c.behind;
        middle = c.middle;
        actions = ap (λ (l : List Action). Shift ∷ l) c.actions;
        first = (z, i, refl, c.first);
        second = c.second;
      }
  around (Reduce n ∷ a) s i x j e (p, below, listed, at, h) =
      let c = around a (below ++ Nonterminal p.left ∷ []) i x j e h in
      record {
        before = Reduce n ∷ c.before;
        behind = c.behind;
        middle = c.middle;
        actions = ap (λ (l : List Action). Reduce n ∷ l) c.actions;
        first = (p, below, listed, at, c.first);
        second = c.second;
      }
