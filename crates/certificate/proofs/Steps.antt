-- A run, one action after the other.
use Rattle.std.proofs.Common.{◌≡◌, ℕ, suc, ◌+◌, ◌-◌, ◌<◌, ◌≤◌, List, [], ◌∷◌, ◌++◌, length, get_or, take, drop, refl, sym, ◌∙◌, ap, add-one, drop-cons, arith, length-append}
use Rattle.std.proofs.lemmas.List.{append_cancel_right, take-append-drop, drop_at}
use Rattle.std.proofs.lemmas.Slice.{between_to_end}
use Rattle.std.proofs.lemmas.Option.{slice_get_past}
use Rattle.std.specs.Prelude.{slice_get, slice_range, Some, None}
use Rattle.grammar.specs.declared.symbol.Symbol.{Symbol}
use Rattle.grammar.specs.declared.symbol.Symbol.TheVariants.{Nonterminal}
use Rattle.grammar.specs.declared.symbol.Production.{Production}
use Rattle.certificate.specs.declared.reading.Action.{Action}
use Rattle.certificate.specs.declared.reading.Action.TheVariants.{Shift, Reduce}
use Rattle.certificate.specs.Readings.{Reads}

-- what is left of a run, of its stack and of its input stands for the whole
pub record Goes (ps : List Production) (all : List Action) (form : List Symbol) (left : List Action) (stack rest : List Symbol) : Type 0 where
  pub forth : (end : List Symbol) → Reads ps left stack rest end → Reads ps all [] form end
  pub back : (end : List Symbol) → Reads ps all [] form end → Reads ps left stack rest end

module _ (ps : List Production) (all : List Action) (form : List Symbol) (left : List Action) where
  pub goes_start : Goes ps all form all [] form
  goes_start = record { forth = λ e h. h; back = λ e h. h }

  pub goes_shift : (stack : List Symbol) (x : Symbol) (rest : List Symbol) → Goes ps all form (Shift ∷ left) stack (x ∷ rest) → Goes ps all form left (stack ++ x ∷ []) rest
  goes_shift stack x rest g = record {
    forth = λ e h. g.forth e (x, rest, refl, h);
    back = λ e h. let k = g.back e h in other k.0 k.1 e k.2 k.3;
  }
    where
      other : (y : Symbol) (more e : List Symbol) → x ∷ rest ≡ y ∷ more → Reads ps left (stack ++ y ∷ []) more e → Reads ps left (stack ++ x ∷ []) rest e
      other y more e at h = let one : y ≡ x = cc in let others : more ≡ rest = cc in rw (one, others) at h

  pub goes_reduce : (k : ℕ) (p : Production) (stack below rest : List Symbol) → slice_get ps k ≡ Some p → stack ≡ below ++ p.right.items → Goes ps all form (Reduce k ∷ left) stack rest
      → Goes ps all form left (below ++ Nonterminal p.left ∷ []) rest
  goes_reduce k p stack below rest listed at g = record {
    forth = λ e h. g.forth e (p, below, listed, at, h);
    back = λ e h. let r = g.back e h in other e r.0 r.1 r.2 r.3 r.4;
  }
    where
      other : (e : List Symbol) (q : Production) (under : List Symbol) → slice_get ps k ≡ Some q → stack ≡ under ++ q.right.items → Reads ps left (under ++ Nonterminal q.left ∷ []) rest e
          → Reads ps left (below ++ Nonterminal p.left ∷ []) rest e
      other e q under found is h =
          let same : q ≡ p = cc in
          let both : under ++ p.right.items ≡ below ++ p.right.items = ap (λ (x : Production). under ++ x.right.items) (sym same) ∙ sym is ∙ at in
          let one : under ≡ below = append_cancel_right under below p.right.items both in
          rw (same, one) at h

  -- ---- where the run leads to nothing

  pub stuck_shift : (stack : List Symbol) → Goes ps all form (Shift ∷ left) stack [] → (e : List Symbol) → Reads ps all [] form e → ⊥
  stuck_shift stack g e h = let k = g.back e h in let bad : [] ≡ k.0 ∷ k.1 = k.2 in cc

  pub stuck_past : (k : ℕ) (stack rest : List Symbol) → length ps ≤ k → Goes ps all form (Reduce k ∷ left) stack rest → (e : List Symbol) → Reads ps all [] form e → ⊥
  stuck_past k stack rest past g e h = let r = g.back e h in let at = r.2 in let none = slice_get_past ps k past in cc

  pub stuck_other : (k : ℕ) (p : Production) (stack rest : List Symbol) → slice_get ps k ≡ Some p → ((below : List Symbol) → stack ≡ below ++ p.right.items → ⊥)
      → Goes ps all form (Reduce k ∷ left) stack rest → (e : List Symbol) → Reads ps all [] form e → ⊥
  stuck_other k p stack rest listed other g e h = let r = g.back e h in refuse r.0 r.1 r.2 r.3
    where
      refuse : (q : Production) (below : List Symbol) → slice_get ps k ≡ Some q → stack ≡ below ++ q.right.items → ⊥
      refuse q below found is = let same : q ≡ p = cc in other below (rw same at is)

  pub goes_done : (stack rest : List Symbol) → Goes ps all form [] stack rest → (x : Symbol) → rest ≡ [] → stack ≡ x ∷ [] → Reads ps all [] form (x ∷ [])
  goes_done stack rest g x empty one = g.forth (x ∷ []) (empty, one)

  pub goes_end : (stack rest : List Symbol) → Goes ps all form [] stack rest → (x : Symbol) → Reads ps all [] form (x ∷ []) → (rest ≡ []) × (stack ≡ x ∷ [])
  goes_end stack rest g x h = g.back (x ∷ []) h

-- the next action
pub next_action : (actions : List Action) (i : ℕ) (d a : Action) → i < length actions → get_or actions i d ≡ a → drop i actions ≡ a ∷ drop (i + 1) actions
next_action actions i d a within e = rw (add-one, drop-cons actions i d) (ap (λ (t : Action). t ∷ drop (suc i) actions) e)

pub at_action : (ps : List Production) (all : List Action) (form : List Symbol) (i : ℕ) (d a : Action) (stack rest : List Symbol) → Goes ps all form (drop i all) stack rest → i < length all → get_or all i d ≡ a
    → Goes ps all form (a ∷ drop (i + 1) all) stack rest
at_action ps all form i d a stack rest g within e = rw (next_action all i d a within e) at g

pub next_symbol : (form : List Symbol) (i : ℕ) (d : Symbol) → i < length form → drop i form ≡ get_or form i d ∷ drop (i + 1) form
next_symbol form i d within = rw (add-one, drop-cons form i d) refl

-- ---- the top of a stack

pub on_top : (stack right : List Symbol) → length right ≤ length stack → drop (length stack - length right) stack ≡ right → (below : List Symbol) × (stack ≡ below ++ right)
on_top stack right fits same =
    let below = take (length stack - length right) stack in
    (below, sym (take-append-drop (length stack - length right) stack) ∙ ap (λ (l : List Symbol). below ++ l) same)

pub top_of : (stack right below : List Symbol) → stack ≡ below ++ right → drop (length stack - length right) stack ≡ right
top_of stack right below at = rw at (drop_at below right (length (below ++ right) - length right) (omega (arith, length-append below right)))
