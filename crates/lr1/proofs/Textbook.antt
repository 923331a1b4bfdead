-- FIRST of a lent list by the public entries' own definitions is the textbook's, for every accepted table (docs/RULES.md, "FIRST").
use mathlib.Core.Path.{◌≡◌, sym, ap, ◌∙◌}
use mathlib.Core.Bool.{Bool, true, false, ◌&&◌, not, and-true, and-false}
use mathlib.Core.List.{List, [], ◌∷◌, Memᴰ}
use mathlib.Core.Logic.{◌⊎◌, inl, inr}
use Prim.Native.Nat.{ℕ, suc, ◌≤◌, ◌<◌}
use native.Mathlib.Decide.{dec_lt}
use native.Mathlib.Omega.{arith}
use lib.ListN.{length, get_or}
use lib.Dec.{eqb}
use borrow.Author.Tests.{lt-ltb, ne_eqb, eqb-false}
use Rattle.lr1_base.specs.repr.Reply.{answered}
use Rattle.lr1_base.specs.repr.Lists.{mem}
use Rattle.lr1_base.specs.repr.Meaning.{Symbol, terminal, Production, no_production, Table, TableFits, SymbolFits, All}
use Rattle.lr1_base.specs.repr.Listed.{symbol_of_kind, listed, symbol_is_fit, list_is_fit}
use Rattle.lr1_base.proofs.repr.Lists.{cases, clash, mem-nil}
use Rattle.lr1_base.specs.lookahead.Tokens.{has, without}
use Rattle.lr1_base.proofs.lookahead.Laws.{has-none, has-without, without_no}
use Rattle.table.specs.Checked.{Accepted}
use Rattle.table.specs.Decoded.{meaning}
use Rattle.table.specs.Refusals.{check_of}
use Rattle.table.proofs.Accepted.{accepts}
use Rattle.table.proofs.Decoding.{symbol_fits, fits, owned}
use Rattle.first.specs.declared.Answer.{Answer}
use Rattle.first.specs.First.{FIRST, join, first_of, marked_at_end, unmarked, first0, sets_of_first}
use Rattle.first.specs.Rust.{rust_first0}
use Rattle.first.specs.Derives.{Derives}
use Rattle.first.proofs.Join.{join-left, join_right, join_cases, join-single_right, followed-join}
use Rattle.first.proofs.Textbook.{first-terminal, first_end, first-only, first-none}
use Rattle.lr1.specs.Entries.{over_table, symbols_fit, tokens_fit, first0_answer, first0_of, first1_answer, first1_of}
use Rattle.lr1.specs.Textbook.{IsFirst, IsFirst1}
use Rattle.lr1_base.proofs.laws.Bools.{and-true as both_true}

listed-fits : (T : Table) (ws : List ℕ) → list_is_fit (length T.nonterminals) T.terminals ws ≡ true → All (SymbolFits T) (listed ws)
unfolding list_is_fit listed All
listed-fits T [] h = tt
listed-fits T (k ∷ []) h = tt
listed-fits T (k ∷ x ∷ ws) h =
    let rest = listed-fits T ws in
    let b = both_true (symbol_is_fit (length T.nonterminals) T.terminals k x) _ h in
    (symbol_fits T k x b.0, rest b.1)

-- the answer is the textbook's, for every table whose numbers are in range
pub first_is : (T : Table) → TableFits T → (xs : List Symbol) → All (SymbolFits T) xs → IsFirst T xs (FIRST T xs)
unfolding FIRST first0 unmarked rust_first0
first_is T F xs inside =
    let s = rust_first0 T xs in
    let e = T.terminals in
    record {
      begins = λ k h.
          let q : has (without s e) k ≡ has s k = has-without s e k ∙ rw (ne_eqb k e (λ z. omega arith)) (and-true (has s k)) in
          let r = first-terminal T F xs inside k h in
          (λ z. r.0 (sym q ∙ z), λ d. q ∙ r.1 d);
      vanishes = first_end T F xs inside;
      only = λ k h.
          has-without s e k
          ∙ cases (eqb k e)
          (λ z. rw z (and-false (has s k)))
          (λ z. ap (λ (b : Bool). b && not (eqb k e)) (first-only T F xs inside k (above k e h (eqb-false k e z))));
    }
  where
    above : (k e : ℕ) → e ≤ k → (k ≡ e → ⊥) → e < k
    above k e h n = omega arith

module _ (t ws : List ℕ) (A : check_of t ≡ Accepted) (f : symbols_fit (meaning t) ws ≡ true) where
  inside : All (SymbolFits (meaning t)) (listed ws)
  unfolding symbols_fit
  inside = listed-fits (meaning t) ws f

  -- `first0` answers it
  pub first0_textbook : (a : Answer) × (first0_of t ws ≡ answered a) × IsFirst (meaning t) (listed ws) a
  unfolding first0_of over_table first0_answer
  first0_textbook = (FIRST (meaning t) (listed ws), rw (A, f, over_table, first0_answer), first_is (meaning t) (fits t A) (listed ws) inside)

  -- `first1`: what begins what the list derives, and where it vanishes the lookahead
  pub first1_textbook : (ahead : ℕ) → tokens_fit (meaning t) ahead ≡ true
      → (s : ℕ) × (first1_of t ws ahead ≡ answered (record { 0 = s })) × IsFirst1 (meaning t) (listed ws) ahead s
  unfolding first1_of over_table first1_answer FIRST first0 rust_first0
  first1_textbook ahead g = (join e s ahead, rw (A, f, g, over_table, first1_answer, followed-join e s ahead), record { begins = λ k. (there k, back k) })
    where
      e : ℕ
      e = (meaning t).terminals

      s : ℕ
      s = rust_first0 (meaning t) (listed ws)

      D : List Symbol → Type 0
      D ys = Derives (meaning t).productions (listed ws) ys

      Ways : ℕ → Type 0
      Ways k = ((k < e) × ((ys : List Symbol) × D (terminal k ∷ ys))) ⊎ (D [] × (has ahead k ≡ true))

      below : (k : ℕ) → has s k ≡ true → (k ≡ e → ⊥) → Ways k
      below k h n = by (dec_lt k e)
        where
          by : Dec (k < e) → Ways k
          by (yes l) = inl (l, (first-terminal (meaning t) (fits t A) (listed ws) inside k l).0 h)
          by (no l) = clash (has s k) h (first-only (meaning t) (fits t A) (listed ws) inside k (omega arith))

      there : (k : ℕ) → has (join e s ahead) k ≡ true → Ways k
      there k h = by (join_cases e s ahead k h)
        where
          by : ((has s k ≡ true) × (k ≡ e → ⊥)) ⊎ ((has s e ≡ true) × (has ahead k ≡ true)) → Ways k
          by (inl w) = below k w.0 w.1
          by (inr w) = inr ((first_end (meaning t) (fits t A) (listed ws) inside).0 w.0, w.1)

      back : (k : ℕ) → Ways k → has (join e s ahead) k ≡ true
      back k (inl d) =
          join-left e s ahead k ((first-terminal (meaning t) (fits t A) (listed ws) inside k d.0).1 d.1) (λ z. let l = d.0 in omega arith)
      back k (inr d) = join_right e s ahead k ((first_end (meaning t) (fits t A) (listed ws) inside).1 d.0) d.1

-- a nonterminal without productions has no terminal, and is not nullable

member_at : (x : Production) (xs : List Production) → Memᴰ x xs → (i : ℕ) × (i < length xs) × (get_or xs i no_production ≡ x)
member_at x (y ∷ ys) (Memᴰ.head q) = (0, omega arith, sym q)
member_at x (y ∷ ys) (Memᴰ.tail m) = let r = member_at x ys m in (suc r.0, omega (arith, r.1), r.2)
member_at x [] x'' = elim x'' [ ]

none_owned : (t : List ℕ) → check_of t ≡ Accepted → (n : ℕ) → n < length (meaning t).nonterminals → get_or (meaning t).nonterminals n [] ≡ []
    → (p : Production) → Memᴰ p (meaning t).productions → p.nonterminal ≡ n → ⊥
none_owned t A n h e p m q =
    let r = member_at p (meaning t).productions m in
    let o : mem r.0 (get_or (meaning t).nonterminals n []) ≡ true =
    (owned t (accepts t A) n r.0 h).1 (r.1, ap (λ (x : Production). x.nonterminal) r.2 ∙ q) in
    clash (mem r.0 (get_or (meaning t).nonterminals n [])) o (ap (mem r.0) e ∙ mem-nil r.0)

pub first0-none : (t : List ℕ) → check_of t ≡ Accepted → (n : ℕ) → n < length (meaning t).nonterminals → get_or (meaning t).nonterminals n [] ≡ []
    → first0_of t (0 ∷ n ∷ []) ≡ answered (record { tokens = record { 0 = 0 }; nullable = false })
unfolding first0_of over_table first0_answer symbols_fit list_is_fit symbol_is_fit listed symbol_of_kind FIRST first0 marked_at_end first_of unmarked
first0-none t A n h e =
    let z : get_or (sets_of_first (meaning t).terminals (meaning t).productions) n 0 ≡ 0 =
    first-none (meaning t).terminals n (meaning t).productions (none_owned t A n h e) in
    rw (A, lt-ltb n (length (meaning t).nonterminals) h, over_table, first0_answer, z, join-single_right (meaning t).terminals 0, without_no 0 (meaning t).terminals (has-none (meaning t).terminals), has-none (meaning t).terminals)
