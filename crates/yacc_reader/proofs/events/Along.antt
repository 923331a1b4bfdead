-- Calls that go through the words of a text until one passes a test: what holds in front of the first word, and is kept by each that does not pass, holds where they stop.
use Prim.Native.Nat.{ℕ, ◌≤◌}
use lib.ListN.{length}
use mathlib.Core.Bool.{Bool, true, false}
use mathlib.Core.Path.{◌≡◌, refl, sym, ap, ◌∙◌, subst}
use mathlib.Core.List.{List, [], ◌∷◌}
use mathlib.Core.Option.{some}
use denote.Param.Members.{Mut}
use denote.Ref.{Bor}
use Rattle.std.specs.Prelude.{Option as Answered, Some, None}
use Rattle.std.specs.Bool.{⊤}
use Rattle.std.specs.Option.{MatchOption, IfSome}
use Rattle.std.specs.List.{FoldsTo}
use Rattle.std.specs.Fn.{CalledAt}
use Rattle.std.specs.Iterator.{Yields, YieldsThen, CallableAtEachTurn}
use Rattle.yacc_syntax.specs.text.Places.{placed_from}
use Rattle.yacc_syntax.specs.text.Forward.{Mode}
use Rattle.yacc_syntax.specs.recognizer.Accepted.{mode_of}
use Rattle.yacc_reader.specs.declared.events.Token.{Token as Heard}
use Rattle.yacc_reader.specs.declared.events.TokenIter.{TokenIter}
use Rattle.yacc_reader.specs.events.Tokens.{Reads, Gives}
use Rattle.yacc_reader.proofs.events.Laws.{read_in, ends_in}

-- t: the text; f: what is called; C: a call at a word that does not pass
module _ (t : List ℕ) {F : Type 0} (f : F) (C : F → Heard → F → Type 0) (No : Heard → Type 0) (no : (x : Heard) (q : F) → C f x q → (q ≡ f) × No x)
    (I : Mode → ℕ → Type 0) (on : (s : TokenIter) (x : Heard) (u : TokenIter) → Reads t s x u → No x → I (mode_of s.mode) s.at → I (mode_of u.mode) u.at) where
  passed : (xs : List Heard) (s v : TokenIter) (h j : F) → h ≡ f → s.text.now ≡ t → I (mode_of s.mode) s.at → Yields Gives s xs v → FoldsTo C h xs j → (j ≡ f) × (v.text.now ≡ t) × I (mode_of v.mode) v.at
  passed [] s v h j q e i y k = (sym k ∙ q, ap (λ (w : TokenIter). w.text.now) (sym y) ∙ e, subst (λ (w : TokenIter). I (mode_of w.mode) w.at) y i)
  passed (x ∷ xs) s v h j q e i y k =
      let R = read_in t s e x y.0 y.1 in
      let n = no x k.0 (subst (λ (p : F). C p x k.0) q k.1) in
      passed xs y.0 v k.0 j n.0 R.text (on s x y.0 R n.1 i) y.2 k.2

-- what may be asked of each word of the text may be asked of those that come
pub asked_along : (t : List ℕ) {F : Type 0} (f : F) (C : F → Heard → F → Type 0) → ((x : Heard) (q : F) → C f x q → q ≡ f) → (Q : F → Heard → Type 0) → ((x : Heard) → x.lexeme.past ≤ length t → Q f x)
    → (s : TokenIter) → s.text.now ≡ t → CallableAtEachTurn Gives C Q s f
asked_along t f C still Q ask s e = record {
  at = λ xs v q x u y k n.
      let p = passed t f C (λ x. Unit {0}) (λ x q c. (still x q c, tt)) (λ m i. Unit {0}) (λ s x u R z i. tt) xs s v f q refl e tt y k in
      subst (λ h. Q h x) (sym p.0) (ask x (read_in t v p.1 x u n).leads.inside);
}

-- `find`
module _ (t : List ℕ) {F : Type 0} (g : Mut F (Bor Heard × Unit {0}) Bool) (f : F) (No : Heard → Type 0) (no : (x : Heard) (q : F) → CalledAt g f x false q → (q ≡ f) × No x)
    (I : Mode → ℕ → Type 0) (on : (s : TokenIter) (x : Heard) (u : TokenIter) → Reads t s x u → No x → I (mode_of s.mode) s.at → I (mode_of u.mode) u.at) where
  pub first_found : (P : Answered Heard → Type 0) (s u : TokenIter) (r : Answered Heard)
      → (xs : List Heard) × (j : F) × YieldsThen Gives s xs r u × FoldsTo (λ p x q. CalledAt g p x false q) f xs j × MatchOption r ⊤ (λ x. (h : F) × CalledAt g j x true h)
      → s.text.now ≡ t → I (mode_of s.mode) s.at
      → ((v : TokenIter) (x : Heard) (w : TokenIter) (h : F) → Reads t v x w → CalledAt g f x true h → I (mode_of v.mode) v.at → P (Some x))
      → ((v : TokenIter) → placed_from t v.at ≡ some [] → I (mode_of v.mode) v.at → P None)
      → P r
  first_found P s u None (xs, j, y, k, m) e i hit ends =
      let p = passed t f (λ p x q. CalledAt g p x false q) No no I on xs s y.0 f j refl e i y.1 k in
      ends y.0 (ends_in t y.0 p.1 u y.2) p.2
  first_found P s u (Some x) (xs, j, y, k, m) e i hit ends =
      let p = passed t f (λ p x q. CalledAt g p x false q) No no I on xs s y.0 f j refl e i y.1 k in
      hit y.0 x u m.0 (read_in t y.0 p.1 x u y.2) (subst (λ (q : F). CalledAt g q x true m.0) p.0 m.1) p.2

-- a word that is found stands in the text
pub found_inside : (t : List ℕ) {F : Type 0} (g : Mut F (Bor Heard × Unit {0}) Bool) (f : F) → ((x : Heard) (q : F) → CalledAt g f x false q → q ≡ f) → (s u : TokenIter) (r : Answered Heard)
    → (xs : List Heard) × (j : F) × YieldsThen Gives s xs r u × FoldsTo (λ p x q. CalledAt g p x false q) f xs j × MatchOption r ⊤ (λ x. (h : F) × CalledAt g j x true h)
    → s.text.now ≡ t → IfSome r (λ x. x.lexeme.past ≤ length t)
found_inside t g f still s u r d e =
    first_found t g f (λ x. Unit {0}) (λ x q c. (still x q c, tt)) (λ m i. Unit {0}) (λ s x u R z i. tt) (λ o. IfSome o (λ x. x.lexeme.past ≤ length t)) s u r d e tt
    (λ v x w h R k i. R.leads.inside) (λ v P i. tt)
