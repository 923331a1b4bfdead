-- The ways through the exported functions of a listing, one law each.
use Rattle.std.proofs.Common.{◌≡◌, ℕ, Bool, true, false, List, refl, sym, ap, ◌∙◌}
use Rattle.lr1_base.specs.declared.repr.refusals.Refusal.{Refusal}
use Rattle.lr1_base.specs.repr.Reply.{Reply, answered, refused, reply_of, number_of, place_of}
use Rattle.lr1_base.specs.repr.Meaning.{Item}
use Rattle.lr1_base.specs.declared.repr.ProductionIndex.{ProductionIndex}
use Rattle.enumerator.specs.trials.Advance.{outcome, advance_of, number_of_advanced}
use Rattle.enumerator.specs.trials.Lookahead.{Lookahead}
use Rattle.std.specs.Prelude.{Option, None, Some, Result, Ok, Err}
use Rattle.enumerator.specs.declared.trials.Listing.{Listing}
use Rattle.enumerator.specs.declared.trials.Advanced.{Advanced}
use Rattle.enumerator.specs.declared.trials.Advanced.TheVariants.{Example, End}
use Rattle.listing.specs.CallList.{listed, list_of}
use Rattle.std.specs.Bool.{then_some}
use Rattle.lihvemur_c.proofs.Numbered.{told_some, told_none}
use Rattle.lihvemur_c.specs.Exported.{Told, numbers}
use Rattle.lihvemur_c.specs.Listings.{ahead_of, open_numbers, advance_numbers, advanced_numbers, list_numbers, listed_numbers}

pub ahead_is : (f : Bool) (s : ℕ) → then_some f (record { 0 = s }) ≡ ahead_of f s
unfolding ahead_of
ahead_is true s = refl
ahead_is false s = refl

-- an opened listing, of which nothing is handed out
pub told_opened : (r : Result Listing Refusal) (a p : ℕ) (f : Option Listing) → Told r a p f → (d : Reply Listing) → reply_of r ≡ d → numbers a p ≡ open_numbers d
unfolding open_numbers
told_opened (Ok l) a p f h d e = rw (h.0, h.1, ← e)
told_opened (Err x) a p f h d e = rw (h.0, h.1, ← e)

-- ahead: what `lookahead_of` answers, ahead': what its contract says it is; r: what the entry answers, of which (x, y, f) is told
module _ (p : ProductionIndex) (i n : ℕ) (o : Bool) (t g scratch₀ buffer₀ : List ℕ) (ahead ahead' : Lookahead) (ea : ahead ≡ ahead') (r : Result Advanced Refusal) (x y : ℕ) (f : Option Advanced) (k : Told r x y f) (next : Listing) (scratch buffer : List ℕ) (e : outcome (reply_of r) next scratch buffer ≡ advance_of (record { production = p; index = i; lookahead = ahead; count = n; is_open = o }) t g scratch₀ buffer₀) where
  told : (b : Reply Advanced) → reply_of r ≡ b → advanced_numbers (outcome b next scratch buffer) ≡ advanced_numbers (advance_of (record { production = p; index = i; lookahead = ahead'; count = n; is_open = o }) t g scratch₀ buffer₀)
  told b h = ap (λ (b : Reply Advanced). advanced_numbers (outcome b next scratch buffer)) (sym h) ∙ ap advanced_numbers (e ∙ ap (λ (x : Lookahead). advance_of (record { production = p; index = i; lookahead = x; count = n; is_open = o }) t g scratch₀ buffer₀) ea)

  pub advance_handed : (b : Advanced) → f ≡ Some b → advance_numbers (number_of_advanced b) y next.count next.is_open scratch buffer ≡ advanced_numbers (advance_of (record { production = p; index = i; lookahead = ahead'; count = n; is_open = o }) t g scratch₀ buffer₀)
  unfolding advanced_numbers number_of_advanced
  advance_handed Example q = let T = told_some r x y f k Example q in rw T.1.1 (told (answered Example) (ap reply_of T.0))
  advance_handed End q = let T = told_some r x y f k End q in rw T.1.1 (told (answered End) (ap reply_of T.0))

  pub advance_refused : f ≡ None → advance_numbers x y next.count next.is_open scratch buffer ≡ advanced_numbers (advance_of (record { production = p; index = i; lookahead = ahead'; count = n; is_open = o }) t g scratch₀ buffer₀)
  unfolding advanced_numbers
  advance_refused q = told_none r x y f k q (λ v w. advance_numbers v w next.count next.is_open scratch buffer) _ (λ z h. told (refused (number_of z) (place_of z)) (ap reply_of h))

module _ (old : ℕ) (t : List ℕ) (i : Item) (calls g scratch₀ output₀ : List ℕ) (ahead ahead' : Lookahead) (ea : ahead ≡ ahead') (r : Result ℕ Refusal) (x y : ℕ) (f : Option ℕ) (k : Told r x y f) (scratch output : List ℕ) (e : listed (reply_of r) scratch output ≡ list_of t i ahead calls g scratch₀ output₀) where
  run : (b : Reply ℕ) → reply_of r ≡ b → listed_numbers old (listed b scratch output) ≡ listed_numbers old (list_of t i ahead' calls g scratch₀ output₀)
  run b h = ap (λ (b : Reply ℕ). listed_numbers old (listed b scratch output)) (sym h) ∙ ap (listed_numbers old) (e ∙ ap (λ (x : Lookahead). list_of t i x calls g scratch₀ output₀) ea)

  pub list_made : (n : ℕ) → f ≡ Some n → list_numbers x y n scratch output ≡ listed_numbers old (list_of t i ahead' calls g scratch₀ output₀)
  unfolding listed_numbers
  list_made n q = let T = told_some r x y f k n q in rw (T.1.0, T.1.1) (run (answered n) (ap reply_of T.0))

  pub list_refused : f ≡ None → list_numbers x y old scratch output ≡ listed_numbers old (list_of t i ahead' calls g scratch₀ output₀)
  unfolding listed_numbers
  list_refused q = told_none r x y f k q (λ v w. list_numbers v w old scratch output) _ (λ z h. run (refused (number_of z) (place_of z)) (ap reply_of h))
