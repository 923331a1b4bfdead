-- The states found: what `place`, `add`, `take` and `collect` of specs/canonical/States keep. `build_right`: no two numbers have one set, and of each state every edge
-- leads to its goto, with an edge exactly where that is not empty.
use mathlib.Core.Path.{◌≡◌, refl, sym, ap, ◌∙◌, subst}
use mathlib.Core.Bool.{Bool, true, false}
use mathlib.Core.List.{List, [], ◌∷◌, ◌++◌, Memᴰ}
use mathlib.Core.Logic.{⊎_elim}
use mathlib.Core.Option.{Option, none, some, some-injective}
use Prim.Native.Nat.{ℕ, zero, suc, ◌+◌, ◌≤◌, ◌<◌}
use native.Mathlib.Omega.{arith}
use lib.Dec.{ltb}
use lib.ListN.{length, get_or, length-append, get_or-append}
use lib.Seq.{get_or-append_seam}
use borrow.Author.Tests.{ltb-true, ltb-false, lt-ltb, le-ltb}
use Rattle.lr1_base.proofs.words.Same.{same_words_eq, eq_same_words}
use Rattle.lr1_base.specs.words.Same.{same_words}
use Rattle.lr1_base.specs.repr.Meaning.{Symbol, Edge, Table, TableFits, is_same_symbol}
use Rattle.lr1_base.proofs.repr.Lists.{cases, clash}
use Rattle.lr1_base.proofs.repr.SameSymbol.{same_equal, same_refl}
use Rattle.lr1_states.specs.canonical.Canonical.{Set, Closed, given, Moved, Goto, Start, Reached, Viable, Inhabited}
use Rattle.lr1_states.specs.canonical.States.{places, moved, goto, nothing?, place, add, tried, Taken, take, Collected, built, halted, collect, build, start_state, target_of}
use Rattle.lr1_states.proofs.canonical.Rounds.{Sized}
use Rattle.lr1_states.proofs.canonical.Closure.{Describes}
use Rattle.lr1_states.proofs.canonical.Goto.{goto_sized, goto_exact, start_sized, start_exact, moved_sized, moved_exact, nothing-some}

-- a number, or the next one

pub place_here : (S R : List ℕ) (Rs : List (List ℕ)) → same_words S R ≡ true → place S (R ∷ Rs) ≡ 0
unfolding place
place_here S R Rs h = rw (h, place)

pub place_there : (S R : List ℕ) (Rs : List (List ℕ)) → same_words S R ≡ false → place S (R ∷ Rs) ≡ suc (place S Rs)
unfolding place
place_there S R Rs h = rw (h, place)

pub place_le : (S : List ℕ) (Rs : List (List ℕ)) → place S Rs ≤ length Rs
unfolding place
place_le S [] = omega arith
place_le S (R ∷ Rs) =
    let r = place_le S Rs in
    cases (same_words S R) (λ t. rw (place_here S R Rs t) (omega arith)) (λ t. rw (place_there S R Rs t) (omega arith))

place_found : (S : List ℕ) (Rs : List (List ℕ)) → place S Rs < length Rs → get_or Rs (place S Rs) [] ≡ S
place_found S [] h = absurd (omega arith)
place_found S (R ∷ Rs) h =
    let r = place_found S Rs in
    cases (same_words S R)
    (λ t. rw (place_here S R Rs t) (sym (same_words_eq S R t)))
    (λ t. rw (place_there S R Rs t) (r (omega (arith, rw (place_there S R Rs t) at h))))

place_new : (S : List ℕ) (Rs : List (List ℕ)) → length Rs ≤ place S Rs → (t : ℕ) → t < length Rs → get_or Rs t [] ≡ S → ⊥
place_new S [] h t l e = omega arith
place_new S (R ∷ Rs) h t l e =
    let r = place_new S Rs in
    cases (same_words S R)
    (λ u. omega (arith, rw (place_here S R Rs u) at h))
    (λ u. by r (omega (arith, rw (place_there S R Rs u) at h)) u t l e)
  where
    by : (length Rs ≤ place S Rs → (t : ℕ) → t < length Rs → get_or Rs t [] ≡ S → ⊥) → length Rs ≤ place S Rs → same_words S R ≡ false → (t : ℕ) → t < suc (length Rs) → get_or (R ∷ Rs) t [] ≡ S → ⊥
    by r h u zero l e = clash (same_words S R) (eq_same_words S R (sym e)) u
    by r h u (suc t) l e = r h t (omega arith) e

-- more states: those of before keep their numbers

pub record Extends (Rs Qs : List (List ℕ)) : Type 0 where
  pub long : length Rs ≤ length Qs
  pub same : (t : ℕ) → t < length Rs → get_or Qs t [] ≡ get_or Rs t []

pub extends_refl : (Rs : List (List ℕ)) → Extends Rs Rs
extends_refl Rs = record { long = omega arith; same = λ t h. refl }

pub extends_trans : (Rs Qs Ps : List (List ℕ)) → Extends Rs Qs → Extends Qs Ps → Extends Rs Ps
extends_trans Rs Qs Ps f g = record {
  long = omega (arith, f.long, g.long);
  same = λ t h. g.same t (omega (arith, f.long)) ∙ f.same t h;
}

pub length_snoc : (S : List ℕ) (Rs : List (List ℕ)) → length (Rs ++ S ∷ []) ≡ suc (length Rs)
length_snoc S Rs = length-append Rs (S ∷ []) ∙ omega arith

abbrev pub Distinct : List (List ℕ) → Type 0
Distinct Rs = (t u : ℕ) → t < length Rs → u < length Rs → get_or Rs t [] ≡ get_or Rs u [] → t ≡ u

pub add_old : (S : List ℕ) (Rs : List (List ℕ)) → place S Rs < length Rs → add S Rs ≡ Rs
unfolding add
add_old S Rs h = rw (lt-ltb (place S Rs) (length Rs) h, add)

pub add_new : (S : List ℕ) (Rs : List (List ℕ)) → length Rs ≤ place S Rs → add S Rs ≡ Rs ++ S ∷ []
unfolding add
add_new S Rs h = rw (le-ltb (place S Rs) (length Rs) h, add)

pub add_extends : (S : List ℕ) (Rs : List (List ℕ)) → Extends Rs (add S Rs)
add_extends S Rs =
    cases (ltb (place S Rs) (length Rs))
    (λ t. rw (add_old S Rs (ltb-true (place S Rs) (length Rs) t)) (extends_refl Rs))
    (λ t. rw (add_new S Rs (ltb-false (place S Rs) (length Rs) t)) (record {
      long = rw (length_snoc S Rs) (omega arith);
      same = λ u h. get_or-append Rs (S ∷ []) [] u h;
    }))

add_at : (S : List ℕ) (Rs : List (List ℕ)) → (place S Rs < length (add S Rs)) × (get_or (add S Rs) (place S Rs) [] ≡ S)
add_at S Rs =
    cases (ltb (place S Rs) (length Rs))
    (λ t. let h = ltb-true (place S Rs) (length Rs) t in rw (add_old S Rs h) (h, place_found S Rs h))
    (λ t.
    let h = ltb-false (place S Rs) (length Rs) t in
    let q : place S Rs ≡ length Rs = omega (arith, place_le S Rs) in
    rw (add_new S Rs h, q) (rw (length_snoc S Rs) (omega arith), get_or-append_seam Rs S [] []))

add-distinct : (S : List ℕ) (Rs : List (List ℕ)) → Distinct Rs → Distinct (add S Rs)
add-distinct S Rs d =
    cases (ltb (place S Rs) (length Rs))
    (λ t. rw (add_old S Rs (ltb-true (place S Rs) (length Rs) t)) d)
    (λ t. let h = ltb-false (place S Rs) (length Rs) t in rw (add_new S Rs h) (more h))
  where
    old : (t : ℕ) → t < length Rs → get_or (Rs ++ S ∷ []) t [] ≡ get_or Rs t []
    old t h = get_or-append Rs (S ∷ []) [] t h

    last : (t : ℕ) → t ≡ length Rs → get_or (Rs ++ S ∷ []) t [] ≡ S
    last t q = rw q (get_or-append_seam Rs S [] [])

    more : length Rs ≤ place S Rs → Distinct (Rs ++ S ∷ [])
    more h t u l m e =
        let l' : t < suc (length Rs) = rw (length_snoc S Rs) at l in
        let m' : u < suc (length Rs) = rw (length_snoc S Rs) at m in
        cases (ltb t (length Rs))
        (λ a. let x = ltb-true t (length Rs) a in cases (ltb u (length Rs))
        (λ b. let y = ltb-true u (length Rs) b in d t u x y (sym (old t x) ∙ e ∙ old u y))
        (λ b. let y = ltb-false u (length Rs) b in absurd (place_new S Rs h t x (sym (old t x) ∙ e ∙ last u (omega arith)))))
        (λ a. let x = ltb-false t (length Rs) a in cases (ltb u (length Rs))
        (λ b. let y = ltb-true u (length Rs) b in absurd (place_new S Rs h u y (sym (old u y) ∙ sym e ∙ last t (omega arith))))
        (λ b. let y = ltb-false u (length Rs) b in omega arith))

-- what holds of every state
abbrev pub Each : (List ℕ → Type 0) → List (List ℕ) → Type 0
Each P Rs = (t : ℕ) → t < length Rs → P (get_or Rs t [])

add_each : (P : List ℕ → Type 0) (S : List ℕ) (Rs : List (List ℕ)) → P S → Each P Rs → Each P (add S Rs)
add_each P S Rs z f =
    cases (ltb (place S Rs) (length Rs))
    (λ t. rw (add_old S Rs (ltb-true (place S Rs) (length Rs) t)) f)
    (λ t. rw (add_new S Rs (ltb-false (place S Rs) (length Rs) t)) more)
  where
    more : Each P (Rs ++ S ∷ [])
    more t l =
        let l' : t < suc (length Rs) = rw (length_snoc S Rs) at l in
        cases (ltb t (length Rs))
        (λ a. let x = ltb-true t (length Rs) a in rw (get_or-append Rs (S ∷ []) [] t x) (f t x))
        (λ a.
        let x = ltb-false t (length Rs) a in
        let q : t ≡ length Rs = omega arith in
        rw (q, get_or-append_seam Rs S [] []) z)

-- edges

target_of-yes : (X : Symbol) (d : Edge) (ds : List Edge) → is_same_symbol X d.symbol ≡ true → target_of X (d ∷ ds) ≡ some d.target
unfolding target_of
target_of-yes X d ds h = rw (h, target_of)

target_of_no : (X : Symbol) (d : Edge) (ds : List Edge) → is_same_symbol X d.symbol ≡ false → target_of X (d ∷ ds) ≡ target_of X ds
unfolding target_of
target_of_no X d ds h = rw (h, target_of)

pub none-some {ℓ} : {P : Type ℓ} (o : Option ℕ) (t : ℕ) → o ≡ none → o ≡ some t → P
none-some o t e f = clash true refl (ap some? (sym e ∙ f))
  where
    some? : Option ℕ → Bool
    some? none = true
    some? (some k) = false

target_of-nil : (X : Symbol) → target_of X [] ≡ none
unfolding target_of
target_of-nil X = refl

-- what an edge over X from S says, and what no edge says
abbrev pub Leads : Table → List ℕ → List (List ℕ) → Symbol → ℕ → Type 0
Leads T S Rs X t = (nothing? (moved T X S) ≡ false) × (t < length Rs) × (get_or Rs t [] ≡ goto T X S)

leads-more : (T : Table) (S : List ℕ) (Rs Qs : List (List ℕ)) → Extends Rs Qs → (X : Symbol) (t : ℕ) → Leads T S Rs X t → Leads T S Qs X t
leads-more T S Rs Qs f X t w = (w.0, omega (arith, f.long, w.1), f.same t w.1 ∙ w.2)

module _ (T : Table) (S : List ℕ) where
  pub take-nil : (Rs : List (List ℕ)) → take T S Rs [] ≡ record { states = Rs; edges = [] }
  unfolding take
  take-nil Rs = refl

  pub take_none : (Rs : List (List ℕ)) (X : Symbol) (Xs : List Symbol) → nothing? (moved T X S) ≡ true → take T S Rs (X ∷ Xs) ≡ take T S Rs Xs
  unfolding take
  take_none Rs X Xs h = rw (h, take)

  pub take-some : (Rs : List (List ℕ)) (X : Symbol) (Xs : List Symbol) → nothing? (moved T X S) ≡ false
      → take T S Rs (X ∷ Xs) ≡ record {
        states = (take T S (add (goto T X S) Rs) Xs).states;
        edges = record { symbol = X; target = place (goto T X S) Rs } ∷ (take T S (add (goto T X S) Rs) Xs).edges;
      }
  unfolding take
  take-some Rs X Xs h = rw (h, take)

  pub take_extends : (Rs : List (List ℕ)) (Xs : List Symbol) → Extends Rs (take T S Rs Xs).states
  take_extends Rs [] = rw (take-nil Rs) (extends_refl Rs)
  take_extends Rs (X ∷ Xs) =
      let same = take_extends Rs Xs in
      let more = take_extends (add (goto T X S) Rs) Xs in
      cases (nothing? (moved T X S))
      (λ t. rw (take_none Rs X Xs t) same)
      (λ t. rw (take-some Rs X Xs t) (extends_trans Rs (add (goto T X S) Rs) (take T S (add (goto T X S) Rs) Xs).states (add_extends (goto T X S) Rs) more))

  take-distinct : (Rs : List (List ℕ)) (Xs : List Symbol) → Distinct Rs → Distinct (take T S Rs Xs).states
  take-distinct Rs [] d = rw (take-nil Rs) d
  take-distinct Rs (X ∷ Xs) d =
      let same = take-distinct Rs Xs d in
      let more = take-distinct (add (goto T X S) Rs) Xs (add-distinct (goto T X S) Rs d) in
      cases (nothing? (moved T X S))
      (λ t. rw (take_none Rs X Xs t) same)
      (λ t. rw (take-some Rs X Xs t) more)

  take_each : (P : List ℕ → Type 0) → ((X : Symbol) → nothing? (moved T X S) ≡ false → P (goto T X S)) → (Rs : List (List ℕ)) (Xs : List Symbol) → Each P Rs → Each P (take T S Rs Xs).states
  take_each P next Rs [] f = rw (take-nil Rs) f
  take_each P next Rs (X ∷ Xs) f =
      let same = take_each P next Rs Xs f in
      let more = take_each P next (add (goto T X S) Rs) Xs in
      cases (nothing? (moved T X S))
      (λ t. rw (take_none Rs X Xs t) same)
      (λ t. rw (take-some Rs X Xs t) (more (add_each P (goto T X S) Rs (next X t) f)))

  -- every edge leads to the goto
  take_right : (Rs : List (List ℕ)) (Xs : List Symbol) (X : Symbol) (t : ℕ) → target_of X (take T S Rs Xs).edges ≡ some t → Leads T S (take T S Rs Xs).states X t
  take_right Rs [] X t h = none-some (target_of X (take T S Rs []).edges) t (ap (λ (r : Taken). target_of X r.edges) (take-nil Rs) ∙ target_of-nil X) h
  take_right Rs (Y ∷ Xs) X t h =
      let same = take_right Rs Xs X t in
      let C : List ℕ = goto T Y S in
      let r : Taken = take T S (add C Rs) Xs in
      let more : target_of X r.edges ≡ some t → Leads T S r.states X t = take_right (add C Rs) Xs X t in
      let ext : Extends (add C Rs) r.states = take_extends (add C Rs) Xs in
      cases (nothing? (moved T Y S))
      (λ n. rw (take_none Rs Y Xs n) (same (rw (take_none Rs Y Xs n) at h)))
      (λ n.
      let g : target_of X (record { symbol = Y; target = place C Rs } ∷ r.edges) ≡ some t = rw (take-some Rs Y Xs n) at h in
      rw (take-some Rs Y Xs n) (cases (is_same_symbol X Y)
      (λ e.
      let q : X ≡ Y = same_equal X Y e in
      let p : place C Rs ≡ t = some-injective (place C Rs) t (sym (target_of-yes X (record { symbol = Y; target = place C Rs }) r.edges e) ∙ g) in
      rw (q, ← p) (leads-more T S (add C Rs) r.states ext Y (place C Rs) (n, (add_at C Rs).0, (add_at C Rs).1)))
      (λ e. more (sym (target_of_no X (record { symbol = Y; target = place C Rs }) r.edges e) ∙ g))))

  -- and where there is none, nothing moves over the symbols tried
  take-full : (Rs : List (List ℕ)) (Xs : List Symbol) (X : Symbol) → Memᴰ X Xs → target_of X (take T S Rs Xs).edges ≡ none → nothing? (moved T X S) ≡ true
  take-full Rs [] X m h = absurd (mathlib.Core.List.Memᴰ.not-nil m)
  take-full Rs (Y ∷ Xs) X m h =
      let same = take-full Rs Xs X in
      let C : List ℕ = goto T Y S in
      let r : Taken = take T S (add C Rs) Xs in
      let more : Memᴰ X Xs → target_of X r.edges ≡ none → nothing? (moved T X S) ≡ true = take-full (add C Rs) Xs X in
      cases (nothing? (moved T Y S))
      (λ n. ⊎_elim
      (λ q. rw q n)
      (λ i. same i (rw (take_none Rs Y Xs n) at h))
      (mathlib.Core.List.Memᴰ.cases_cons m))
      (λ n.
      let g : target_of X (record { symbol = Y; target = place C Rs } ∷ r.edges) ≡ none = rw (take-some Rs Y Xs n) at h in
      cases (is_same_symbol X Y)
      (λ e. none-some (target_of X (record { symbol = Y; target = place C Rs } ∷ r.edges)) (place C Rs) g (target_of-yes X (record { symbol = Y; target = place C Rs }) r.edges e))
      (λ e. ⊎_elim
      (λ q. clash (is_same_symbol X Y) (rw q (same_refl Y)) e)
      (λ i. more i (sym (target_of_no X (record { symbol = Y; target = place C Rs }) r.edges e) ∙ g))
      (mathlib.Core.List.Memᴰ.cases_cons m)))

-- a state is the book's set of some list of symbols, and not empty

reached-more : (T : Table) (K : Set) (w : List Symbol) (X : Symbol) → ◌≡◌ {A = Set} (Reached T K (w ++ X ∷ [])) (Goto T X (Reached T K w))
unfolding Reached
reached-more T K [] X = refl
reached-more T K (Y ∷ w) X = reached-more T (Goto T Y K) w X

pub record Good (T : Table) (start : ℕ) (S : List ℕ) : Type 0 where
  pub sized : Sized (places T) S
  pub word : List Symbol
  pub some_item : Inhabited (Viable T start word)
  pub exact : Describes S (Viable T start word)

good_start : (T : Table) → TableFits T → (start : ℕ) → start < length T.productions → Good T start (start_state T start)
unfolding Reached
good_start T F start h = record {
  sized = start_sized T F start h;
  word = [];
  some_item = (record { production = start; index = 0 }, T.terminals, given (refl, refl, refl));
  exact = start_exact T F start h;
}

good_next : (T : Table) → TableFits T → (start : ℕ) (S : List ℕ) → Good T start S → (X : Symbol) → nothing? (moved T X S) ≡ false → Good T start (goto T X S)
good_next T F start S g X n =
    let K : Set = Viable T start g.word in
    let z = g.sized in
    let w = nothing-some (moved T X S) (Moved T X K) (moved_sized T X S z).fits (moved_exact T F K X S z g.exact) n in
    let q : ◌≡◌ {A = Set} (Goto T X K) (Viable T start (g.word ++ X ∷ [])) = sym (reached-more T (Closed T (Start T start)) g.word X) in
    record {
      sized = goto_sized T F X S z;
      word = g.word ++ X ∷ [];
      some_item = subst Inhabited q (w.0, w.1, given w.2);
      exact = subst (Describes (goto T X S)) q (goto_exact T F K X S z g.exact);
    }

-- all states

-- found: the first is the start's, no two are equal, each is the book's set of some list
pub record Found (T : Table) (start : ℕ) (Rs : List (List ℕ)) : Type 0 where
  pub some_state : 0 < length Rs
  pub first : get_or Rs 0 [] ≡ start_state T start
  pub distinct : Distinct Rs
  pub good : Each (Good T start) Rs

-- taken: an edge leads to its goto, and there is one exactly where that is not empty
pub record Right (T : Table) (start : ℕ) (Rs : List (List ℕ)) (es : List (List Edge)) : Type 0 where
  pub found : Found T start Rs
  pub taken : length es ≤ length Rs
  pub leads : (j : ℕ) → j < length es → (X : Symbol) (t : ℕ) → target_of X (get_or es j []) ≡ some t → Leads T (get_or Rs j []) Rs X t
  pub full : (j : ℕ) → j < length es → (X : Symbol) → Memᴰ X (tried T) → target_of X (get_or es j []) ≡ none → nothing? (moved T X (get_or Rs j [])) ≡ true

unfoldable pub Answer : Table → ℕ → Collected → Type 0
Answer T start (halted Rs) = Found T start Rs × (128 < length Rs)
Answer T start (built Rs es) = Right T start Rs es × (length Rs ≤ length es) × (length Rs ≤ 128)

module _ (T : Table) where
  pub collect-done : (f : ℕ) (Rs : List (List ℕ)) (es : List (List Edge)) → ltb (length es) (length Rs) ≡ false → collect (suc f) T Rs es ≡ built Rs es
  unfolding collect
  collect-done f Rs es h = rw (h, collect)

  pub collect-halts : (f : ℕ) (Rs : List (List ℕ)) (es : List (List Edge)) → ltb (length es) (length Rs) ≡ true
      → ltb 128 (length (take T (get_or Rs (length es) []) Rs (tried T)).states) ≡ true → collect (suc f) T Rs es ≡ halted (take T (get_or Rs (length es) []) Rs (tried T)).states
  unfolding collect
  collect-halts f Rs es h g = rw (h, g, collect)

  pub collect-more : (f : ℕ) (Rs : List (List ℕ)) (es : List (List Edge)) → ltb (length es) (length Rs) ≡ true
      → ltb 128 (length (take T (get_or Rs (length es) []) Rs (tried T)).states) ≡ false
      → collect (suc f) T Rs es ≡ collect f T (take T (get_or Rs (length es) []) Rs (tried T)).states (es ++ (take T (get_or Rs (length es) []) Rs (tried T)).edges ∷ [])
  unfolding collect
  collect-more f Rs es h g = rw (h, g, collect)

module _ (T : Table) (F : TableFits T) (start : ℕ) (in_range : start < length T.productions) where
  step_right : (Rs : List (List ℕ)) (es : List (List Edge)) → length es < length Rs → Right T start Rs es
      → Right T start (take T (get_or Rs (length es) []) Rs (tried T)).states (es ++ (take T (get_or Rs (length es) []) Rs (tried T)).edges ∷ [])
  step_right Rs es h w =
      let S : List ℕ = get_or Rs (length es) [] in
      let r : Taken = take T S Rs (tried T) in
      let ext : Extends Rs r.states = take_extends T S Rs (tried T) in
      let f : Found T start Rs = w.found in
      let k : length (es ++ r.edges ∷ []) ≡ suc (length es) = length-append es (r.edges ∷ []) ∙ omega arith in
      record {
        found = record {
          some_state = omega (arith, f.some_state, ext.long);
          first = ext.same 0 f.some_state ∙ f.first;
          distinct = take-distinct T S Rs (tried T) f.distinct;
          good = take_each T S (Good T start) (good_next T F start S (f.good (length es) h)) Rs (tried T) f.good;
        };
        taken = omega (arith, k, h, ext.long);
        leads = λ j l X t e. cases (ltb j (length es))
            (λ b.
            let u = ltb-true j (length es) b in
            let m : j < length Rs = omega arith in
            rw (ext.same j m) (leads-more T (get_or Rs j []) Rs r.states ext X t
            (w.leads j u X t (sym (ap (target_of X) (get_or-append es (r.edges ∷ []) [] j u)) ∙ e))))
            (λ b.
            let u = ltb-false j (length es) b in
            let q : j ≡ length es = omega (arith, k, l) in
            let g : target_of X r.edges ≡ some t = sym (ap (target_of X) (ap (λ (j : ℕ). get_or (es ++ r.edges ∷ []) j []) q ∙ get_or-append_seam es r.edges [] [])) ∙ e in
            rw (q, ext.same (length es) h) (take_right T S Rs (tried T) X t g));
        full = λ j l X i e. cases (ltb j (length es))
            (λ b.
            let u = ltb-true j (length es) b in
            let m : j < length Rs = omega arith in
            rw (ext.same j m) (w.full j u X i (sym (ap (target_of X) (get_or-append es (r.edges ∷ []) [] j u)) ∙ e)))
            (λ b.
            let u = ltb-false j (length es) b in
            let q : j ≡ length es = omega (arith, k, l) in
            let g : target_of X r.edges ≡ none = sym (ap (target_of X) (ap (λ (j : ℕ). get_or (es ++ r.edges ∷ []) j []) q ∙ get_or-append_seam es r.edges [] [])) ∙ e in
            rw (q, ext.same (length es) h) (take-full T S Rs (tried T) X i g));
      }

  answer-halted : (Rs : List (List ℕ)) → Found T start Rs → 128 < length Rs → Answer T start (halted Rs)
  unfolding Answer
  answer-halted Rs w h = (w, h)

  answer-built : (Rs : List (List ℕ)) (es : List (List Edge)) → Right T start Rs es → length Rs ≤ length es → length Rs ≤ 128 → Answer T start (built Rs es)
  unfolding Answer
  answer-built Rs es w h l = (w, h, l)

  -- a fuel of 129 never cuts
  collect_right : (f : ℕ) (Rs : List (List ℕ)) (es : List (List Edge)) → Right T start Rs es → length Rs ≤ 128 → 129 ≤ f + length es → Answer T start (collect f T Rs es)
  collect_right zero Rs es w h l = absurd (omega (arith, w.taken))
  collect_right (suc f) Rs es w h l =
      let r : Taken = take T (get_or Rs (length es) []) Rs (tried T) in
      let next = collect_right f r.states (es ++ r.edges ∷ []) in
      let k : length (es ++ r.edges ∷ []) ≡ suc (length es) = length-append es (r.edges ∷ []) ∙ omega arith in
      cases (ltb (length es) (length Rs))
      (λ t.
      let w' = step_right Rs es (ltb-true (length es) (length Rs) t) w in
      cases (ltb 128 (length r.states))
      (λ u. subst (Answer T start) (sym (collect-halts T f Rs es t u)) (answer-halted r.states w'.found (ltb-true 128 (length r.states) u)))
      (λ u. subst (Answer T start) (sym (collect-more T f Rs es t u)) (next w' (ltb-false 128 (length r.states) u) (omega (arith, k)))))
      (λ t. subst (Answer T start) (sym (collect-done T f Rs es t)) (answer-built Rs es w (ltb-false (length es) (length Rs) t) h))

  begin_right : Right T start (start_state T start ∷ []) []
  begin_right = record {
    found = record {
      some_state = omega arith;
      first = refl;
      distinct = λ t u h l e. omega arith;
      good = only;
    };
    taken = omega arith;
    leads = λ j h X t e. absurd (omega arith);
    full = λ j h X m e. absurd (omega arith);
  }
    where
      only : (t : ℕ) → t < 1 → Good T start (get_or (start_state T start ∷ []) t [])
      only zero h = good_start T F start in_range
      only (suc t) h = absurd (omega arith)

  build-answer : Answer T start (build T start)
  unfolding build
  build-answer = collect_right 129 (start_state T start ∷ []) [] begin_right (omega arith) (omega arith)

  pub build_right : (Rs : List (List ℕ)) (es : List (List Edge)) → build T start ≡ built Rs es → Right T start Rs es × (length Rs ≤ length es) × (length Rs ≤ 128)
  unfolding Answer
  build_right Rs es e = subst (Answer T start) e build-answer

  -- where it halts there are more than 128 states, no two the same, each the book's set of some list of symbols
  pub build-halted : (Rs : List (List ℕ)) → build T start ≡ halted Rs → Found T start Rs × (128 < length Rs)
  unfolding Answer
  build-halted Rs e = subst (Answer T start) e build-answer
