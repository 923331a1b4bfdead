-- Joined lists (docs/RULES.md, "Joined lists"; specs/Joining): the laws of putting strings together, for every table, and so for the public entries.
use mathlib.Core.Path.{◌≡◌, refl, sym, ap, ◌∙◌}
use mathlib.Core.Bool.{Bool, true, false, ◌&&◌}
use mathlib.Core.List.{List, [], ◌∷◌, ◌++◌}
use Prim.Native.Nat.{ℕ, ◌%◌, ◌<◌}
use native.Mathlib.Omega.{arith}
use lib.Dec.{ltb}
use lib.ListN.{length}
use borrow.Author.Tests.{ltb-true, lt-ltb}
use Rattle.lr1_base.specs.repr.Reply.{answered, refused}
use Rattle.lr1_base.specs.repr.Lists.{mem, joined}
use Rattle.lr1_base.specs.repr.Meaning.{Symbol, Table}
use Rattle.lr1_base.specs.repr.Listed.{listed}
use Rattle.lr1_base.proofs.repr.Lists.{joined_members}
use Rattle.lr1_base.proofs.repr.Parts.{length-listed}
use Rattle.lr1_base.proofs.repr.Joined.{listed-append, fits-append}
use Rattle.table.specs.Checked.{Checked, Accepted, Refused}
use Rattle.table.specs.Decoded.{meaning}
use Rattle.table.specs.Refusals.{check_of}
use Rattle.first.specs.declared.Answer.{Answer}
use Rattle.first.specs.First.{FIRST, join_answers}
use Rattle.first.proofs.Answers.{FIRST-nil, FIRST-append, join_answers_assoc, join-empty-left, join-empty_right}
use Rattle.state_graph.specs.Walk.{traced_back, merged}
use Rattle.state_graph.proofs.Exact.{mem_one, walk_inside}
use Rattle.state_graph.proofs.Merged.{trace_append}
use Rattle.lr1.specs.Entries.{over_table, symbols_fit, first0_answer, first0_of, trace_back_answer, trace_back_of}
use Rattle.lr1.specs.Joining.{Joining, EntriesJoin}
use Rattle.lr1_base.proofs.laws.Bools.{and_left, and_right}

pub joining : (T : Table) → Joining T
joining T = record {
  answers = FIRST-append T;
  associative = join_answers_assoc;
  neutral_left = λ a. ap (λ (e : Answer). join_answers e a) (FIRST-nil T) ∙ join-empty-left a;
  neutral_right = λ a. ap (join_answers a) (FIRST-nil T) ∙ join-empty_right a;
  walks = trace_append T;
}

-- ---- what an entry that answers has found

no-clash {ℓ} : {P : Type ℓ} → ◌≡◌ {A = ℕ} 0 1 → P
no-clash z = absurd (omega arith)

module _ (t ws : List ℕ) where
  first0-over : check_of t ≡ Accepted → first0_of t ws ≡ first0_answer ws (meaning t)
  unfolding first0_of over_table
  first0-over A = rw (A, over_table)

  first0-refused : (n r : ℕ) → check_of t ≡ Refused n r → first0_of t ws ≡ refused n r
  unfolding first0_of over_table
  first0-refused n r A = rw (A, over_table)

  first0-yes : symbols_fit (meaning t) ws ≡ true → first0_answer ws (meaning t) ≡ answered (FIRST (meaning t) (listed ws))
  unfolding first0_answer
  first0-yes f = rw (f, first0_answer)

  first0_no : symbols_fit (meaning t) ws ≡ false → first0_answer ws (meaning t) ≡ refused 9 0
  unfolding first0_answer
  first0_no f = rw (f, first0_answer)

  module _ (a : Answer) where
    abbrev Told : Type 0
    Told = (check_of t ≡ Accepted) × (symbols_fit (meaning t) ws ≡ true) × (FIRST (meaning t) (listed ws) ≡ a)

    first0-found : first0_of t ws ≡ answered a → Told
    first0-found e = go (check_of t) refl
      where
        fit : (b : Bool) → symbols_fit (meaning t) ws ≡ b → check_of t ≡ Accepted → Told
        fit true f A = let h : answered (FIRST (meaning t) (listed ws)) ≡ answered a = sym (first0-over A ∙ first0-yes f) ∙ e in (A, f, cc)
        fit false f A = let h : refused 9 0 ≡ answered a = sym (first0-over A ∙ first0_no f) ∙ e in no-clash cc

        go : (c : Checked) → check_of t ≡ c → Told
        go Accepted A = fit (symbols_fit (meaning t) ws) refl A
        go (Refused n r) A = let h : refused n r ≡ answered a = sym (first0-refused n r A) ∙ e in no-clash cc

  module _ (s : ℕ) where
    abbrev test : Bool
    test = ltb s (length (meaning t).states) && symbols_fit (meaning t) ws

    walk-over : check_of t ≡ Accepted → trace_back_of t s ws ≡ trace_back_answer s ws (meaning t)
    unfolding trace_back_of over_table
    walk-over A = rw (A, over_table)

    walk_refused : (n r : ℕ) → check_of t ≡ Refused n r → trace_back_of t s ws ≡ refused n r
    unfolding trace_back_of over_table
    walk_refused n r A = rw (A, over_table)

    walk-yes : test ≡ true → trace_back_answer s ws (meaning t) ≡ answered (traced_back (meaning t) s (listed ws))
    unfolding trace_back_answer
    walk-yes f = rw (f, trace_back_answer)

    walk_no : test ≡ false → trace_back_answer s ws (meaning t) ≡ refused 9 0
    unfolding trace_back_answer
    walk_no f = rw (f, trace_back_answer)

    module _ (found : List ℕ) where
      abbrev Found : Type 0
      Found = (check_of t ≡ Accepted) × (s < length (meaning t).states) × (symbols_fit (meaning t) ws ≡ true) × (traced_back (meaning t) s (listed ws) ≡ found)

      walk-found : trace_back_of t s ws ≡ answered found → Found
      walk-found e = go (check_of t) refl
        where
          fit : (b : Bool) → test ≡ b → check_of t ≡ Accepted → Found
          fit true f A =
              let h : answered (traced_back (meaning t) s (listed ws)) ≡ answered found = sym (walk-over A ∙ walk-yes f) ∙ e in
              let l = and_left (ltb s (length (meaning t).states)) (symbols_fit (meaning t) ws) f in
              let r = and_right (ltb s (length (meaning t).states)) (symbols_fit (meaning t) ws) f in
              (A, ltb-true s (length (meaning t).states) l, r, cc)
          fit false f A = let h : refused 9 0 ≡ answered found = sym (walk-over A ∙ walk_no f) ∙ e in no-clash cc

          go : (c : Checked) → check_of t ≡ c → Found
          go Accepted A = fit test refl A
          go (Refused n r) A = let h : refused n r ≡ answered found = sym (walk_refused n r A) ∙ e in no-clash cc

-- ---- two lists that fit, joined

module _ (T : Table) (xs ys : List ℕ) (f : symbols_fit T xs ≡ true) where
  whole : length xs % 2 ≡ 0
  unfolding symbols_fit
  whole = let l = length-listed (length T.nonterminals) T.terminals xs f in omega arith

  both_fit : symbols_fit T ys ≡ true → symbols_fit T (xs ++ ys) ≡ true
  unfolding symbols_fit
  both_fit g = fits-append (length T.nonterminals) T.terminals xs ys whole ∙ rw (f, g)

trace_inside : (T : Table) (s : ℕ) → s < length T.states → (xs : List Symbol) (p : ℕ) → mem p (traced_back T s xs) ≡ true → p < length T.states
unfolding traced_back
trace_inside T s h xs = walk_inside T (s ∷ []) (λ k m. rw (mem_one k s m) h) xs

module _ (t : List ℕ) where
  answers-join : (xs ys : List ℕ) (a b : Answer) → first0_of t xs ≡ answered a → first0_of t ys ≡ answered b → first0_of t (xs ++ ys) ≡ answered (join_answers a b)
  answers-join xs ys a b ea eb =
      let A = first0-found t xs a ea in
      let B = first0-found t ys b eb in
      first0-over t (xs ++ ys) A.0 ∙ first0-yes t (xs ++ ys) (both_fit (meaning t) xs ys A.1 B.1)
      ∙ ap answered (ap (FIRST (meaning t)) (listed-append xs ys (whole (meaning t) xs ys A.1)) ∙ FIRST-append (meaning t) (listed xs) (listed ys) ∙ (λ j. join_answers (A.2 j) (B.2 j)))

  walks_join : (s : ℕ) (xs ys found : List ℕ) (back : ℕ → List ℕ) → trace_back_of t s ys ≡ answered found
      → ((q : ℕ) → q < length (meaning t).states → trace_back_of t q xs ≡ answered (back q)) → trace_back_of t s (xs ++ ys) ≡ answered (merged (joined back found))
  walks_join s xs ys found back ey ex =
      let Y = walk-found t ys s found ey in
      let X = walk-found t xs s (back s) (ex s Y.1) in
      let each : joined (λ q. traced_back (meaning t) q (listed xs)) found ≡ joined back found =
      joined_members (λ q. traced_back (meaning t) q (listed xs)) back found (λ q m.
      let h = trace_inside (meaning t) s Y.1 (listed ys) q (ap (mem q) Y.3 ∙ m) in
      (walk-found t xs q (back q) (ex q h)).3) in
      walk-over t (xs ++ ys) s Y.0 ∙ walk-yes t (xs ++ ys) s (rw (lt-ltb s (length (meaning t).states) Y.1) (both_fit (meaning t) xs ys X.2 Y.2))
      ∙ ap answered (ap (traced_back (meaning t) s) (listed-append xs ys (whole (meaning t) xs ys X.2))
      ∙ trace_append (meaning t) s (listed xs) (listed ys)
      ∙ ap (λ (l : List ℕ). merged (joined (λ q. traced_back (meaning t) q (listed xs)) l)) Y.3
      ∙ ap merged each)

  pub entries-join : EntriesJoin t
  entries-join = record { answers = answers-join; walks = walks_join }
