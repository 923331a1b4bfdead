-- Laws of state 0.
use mathlib.Core.Path.{◌≡◌, refl, sym, ap, ◌∙◌}
use mathlib.Core.Bool.{Bool, true, false}
use Rattle.std.proofs.Common.{Result, Ok, Err, MatchResult}
use Rattle.lr1_states.specs.declared.goto.Halt.{Halt}
use Rattle.lr1_states.specs.declared.goto.Halt.TheVariants.{Records}
use mathlib.Core.List.{List, [], ◌∷◌}
use Prim.Native.Nat.{ℕ, zero, suc, ◌+◌, ◌*◌, ◌/◌, ◌^◌, ◌≤◌, ◌<◌, min}
use native.Mathlib.Omega.{arith}
use lib.Dec.{eqb, ltb}
use lib.ListN.{length, get_or, set, take, replicate, length-set, length-replicate}
use lib.Seq.{get_or-set_same, get_or-set_other}
use borrow.Author.Tests.{eqb-true, eqb-false, lt-ltb, le-ltb}
use Rattle.lr1_base.specs.repr.Sizes.{index_limit, record_limit, state_limit}
use Rattle.lr1_base.specs.repr.Lists.{up_from, below, keep}
use Rattle.lr1_base.specs.repr.Meaning.{Table}
use Rattle.lr1_base.proofs.repr.Lists.{cases}
use Rattle.lr1_base.specs.lookahead.Tokens.{single, with}
use Rattle.lr1_base.proofs.lookahead.Laws.{with_yes, single_lt}
use Rattle.lr1_base.proofs.lookahead.Sets.{union-zero-left}
use Rattle.lr1_states.specs.canonical.States.{places, closure, start_state}
use Rattle.lr1_states.specs.canonical.Outcome.{sum, records, stops_at}
use Rattle.lr1_states.proofs.canonical.Refusals.{stops-other}
use Rattle.lr1_states.specs.closure.Grammar.{OfTable}
use Rattle.lr1_states.specs.stored_item.Stored.{Entry, entries, entry_words, held, packed}
use Rattle.lr1_states.proofs.stored_item.Stored.{entries-one}
use Rattle.lr1_states.proofs.stored_item.Packed.{held_none, held-some}
use Rattle.lr1_states.specs.state_list.Made.{first, Holds}
use Rattle.lr1_states.proofs.state_list.Holds.{holds_more, length-packed}
use Rattle.lr1_states.specs.goto.Search.{KernelIn, Stored}
use Rattle.lr1_states.specs.start_state.Start.{Counted, Started}
use Rattle.lr1_base.proofs.laws.Lists.{zero_at}

-- one item packed

held-empty : (M : List ℕ) (y n : ℕ) → ((i : ℕ) → y ≤ i → get_or M i 0 ≡ 0) → held M (up_from y n) ≡ []
unfolding up_from keep
held-empty M y zero f = refl
held-empty M y (suc n) f = held_none M y (up_from (suc y) n) (f y (omega arith)) ∙ held-empty M (suc y) n (λ i h. f i (omega arith))

held_one : (M : List ℕ) (x : ℕ) → (get_or M x 0 ≡ 0 → ⊥) → ((i : ℕ) → (i ≡ x → ⊥) → get_or M i 0 ≡ 0) → (y n : ℕ) → y ≤ x → x < y + n → held M (up_from y n) ≡ record { place = x; set = get_or M x 0 } ∷ []
unfolding up_from keep
held_one M x z f y zero h l = absurd (omega arith)
held_one M x z f y (suc n) h l =
    let more : (y < x) → held M (up_from (suc y) n) ≡ record { place = x; set = get_or M x 0 } ∷ [] = λ u. held_one M x z f (suc y) n (omega arith) (omega arith) in
    cases (eqb y x)
    (λ t.
    let q = eqb-true y x t in
    rw q (held-some M x (up_from (suc x) n) z ∙ ap (λ (l : List Entry). record { place = x; set = get_or M x 0 } ∷ l) (held-empty M (suc x) n (λ i u. f i (λ p. omega arith)))))
    (λ t. let q = eqb-false y x t in held_none M y (up_from (suc y) n) (f y q) ∙ more (omega (arith, q)))

module _ (n x v : ℕ) (h : x < n) (z : v ≡ 0 → ⊥) where
  abbrev one : List ℕ
  one = set (replicate n 0) x v

  one_long : length one ≡ n
  one_long = length-set (replicate n 0) x v ∙ length-replicate {A = ℕ} n 0

  one_at : get_or one x 0 ≡ v
  one_at = get_or-set_same (replicate n 0) x v 0 (rw (length-replicate {A = ℕ} n 0) h)

  one_other : (i : ℕ) → (i ≡ x → ⊥) → get_or one i 0 ≡ 0
  one_other i q = get_or-set_other (replicate n 0) x i v 0 q ∙ zero_at n i

  packed_one : packed one ≡ record { place = x; set = v } ∷ []
  unfolding packed below
  packed_one = rw one_long (held_one one x (λ q. z (sym one_at ∙ q)) one_other 0 n (omega arith) (omega arith) ∙ rw one_at refl)

-- the end's set
pub end_is : (e s : ℕ) → e ≤ 63 → s ≡ with 0 e → s ≡ single e
end_is e s h q = q ∙ with_yes 0 e (omega arith) ∙ union-zero-left (single e)

power_some : (e : ℕ) → 2 ^ e ≡ 0 → ⊥
power_some zero q = omega arith
power_some (suc e) q = power_some e (omega arith)

single-some : (e : ℕ) → single e ≡ 0 → ⊥
unfolding single
single-some e q = power_some e q

-- its kernel in words
module _ (ks : List ℕ) (P start e s x : ℕ) (few : e ≤ 63) (h : start < P) (es : s ≡ with 0 e) (ex : x ≡ start * index_limit + 0) (is : ks ≡ entry_words x s) where
  words_are : entries ks 0 (length ks / 5) ≡ packed (set (replicate (index_limit * P) 0) (index_limit * start) (single e))
  unfolding entry_words
  words_are =
      let q : x ≡ index_limit * start = omega arith in
      let v = end_is e s few es in
      rw (is, q, v) (entries-one (index_limit * start) (single e) ∙ sym (packed_one (index_limit * P) (index_limit * start) (single e) (omega arith) (single-some e)))

  pub start_kernel : KernelIn ks (length ks / 5) P
  start_kernel = record {
    kernel = set (replicate (index_limit * P) 0) (index_limit * start) (single e);
    long = one_long (index_limit * P) (index_limit * start) (single e) (omega arith) (single-some e);
    fits = λ x. cases (eqb x (index_limit * start))
        (λ t. rw (eqb-true x (index_limit * start) t, one_at (index_limit * P) (index_limit * start) (single e) (omega arith) (single-some e)) (single_lt e 64 (omega arith)))
        (λ t. rw (one_other (index_limit * P) (index_limit * start) (single e) (omega arith) (single-some e) x (eqb-false x (index_limit * start) t)) (omega arith));
    is = words_are;
  }

  -- closed
  pub start-closed : (T : Table) (g sets S : List ℕ) → OfTable T g P e sets
      → ((T : Table) (M : List ℕ) → OfTable T g P e sets → length M ≡ index_limit * P → entries ks 0 (length ks / 5) ≡ packed M → take (index_limit * P) S ≡ closure T M) → take (index_limit * P) S ≡ start_state T start
  unfolding start_state
  start-closed T g sets S G f =
      let a : index_limit * P ≡ places T = ap (λ (i : ℕ). index_limit * i) G.many in
      let b : e ≡ T.terminals = G.tokens in
      f T (set (replicate (index_limit * P) 0) (index_limit * start) (single e)) G (one_long (index_limit * P) (index_limit * start) (single e) (omega arith) (single-some e)) words_are
      ∙ rw (a, b) refl

-- no state
pub holds_none : (T : Table) (start : ℕ) (ws bs : List ℕ) → record_limit * 5 ≤ length ws → length bs ≡ suc state_limit → get_or bs 0 0 ≡ 0 → Holds T start ws bs []
holds_none T start ws bs r l z = record {
  begun = record { room = r; long = l; few = omega arith; rises = λ k h. absurd (omega arith); ends = λ k h. absurd (omega arith) };
  front = z;
  made = λ k h. absurd (omega arith);
  counts = λ k h. absurd (omega arith);
  is = λ k h. absurd (omega arith);
}

module _ (T : Table) (start room N f l P : ℕ) (c : Counted T room N f l) (ws ws' bs bs' S : List ℕ) (H : Holds T start ws bs []) (is : take (index_limit * P) S ≡ start_state T start) (z : get_or bs 0 0 ≡ 0) (r : Bool)
    (k : Stored (f + 0 + 1) l (packed (take (index_limit * P) S)) ws ws' bs bs' 0 r) where
  stops_is : stops_at T room (start_state T start ∷ []) 0 ≡ ltb l (f + 0 + 1 + (get_or bs 0 0 + length (packed (take (index_limit * P) S))))
  unfolding records sum
  stops_is =
      let a = length-packed (start_state T start) in
      rw (is, c.limit_is) (stops-other T room (start_state T start ∷ []) 0 (λ q. omega arith) ∙ ap (ltb (min room record_limit)) (omega (arith, c.fixed_is)))

  pub start_stored : Started T start room ws' bs' r
  start_stored = record {
    full = λ q. stops_is ∙ lt-ltb l (f + 0 + 1 + (get_or bs 0 0 + length (packed (take (index_limit * P) S)))) (k.none q);
    fits = λ q. stops_is ∙ le-ltb l (f + 0 + 1 + (get_or bs 0 0 + length (packed (take (index_limit * P) S)))) (k.room q);
    holds = λ q.
        let small : get_or bs 0 0 + length (packed (take (index_limit * P) S)) ≤ record_limit = omega (arith, k.room q, c.limit_is) in
        rw (k.words q, k.begins q, is) (holds_more T start ws bs [] H (start_state T start) first (get_or bs 0 0 + length (packed (start_state T start))) (omega arith) refl (rw is at small));
  }

-- by what `append` says
pub start_told : {X : Type 0} (V W : Type 0) (T : Table) (start room N f l P : ℕ) → Counted T room N f l → (ws ws' bs bs' S : List ℕ) → Holds T start ws bs [] → take (index_limit * P) S ≡ start_state T start → get_or bs 0 0 ≡ 0 → (n n' : ℕ) → n ≡ 0 → (r : Result X Halt)
    → MatchResult r (λ x. Stored (f + n + 1) l (packed (take (index_limit * P) S)) ws ws' bs bs' n true × (n' ≡ n + 1)) (λ h. (h ≡ Records) × Stored (f + n + 1) l (packed (take (index_limit * P) S)) ws ws' bs bs' n false × V × W)
    → MatchResult r (λ x. Started T start room ws' bs' true × (n' ≡ 1)) (λ h. (h ≡ Records) × Started T start room ws' bs' false)
start_told V W T start room N f l P c ws ws' bs bs' S H is z n n' e (Ok x) k = (start_stored T start room N f l P c ws ws' bs bs' S H is z true (rw e at k.0), omega (arith, k.1, e))
start_told V W T start room N f l P c ws ws' bs bs' S H is z n n' e (Err h) k = (k.0, start_stored T start room N f l P c ws ws' bs bs' S H is z false (rw e at k.1))
