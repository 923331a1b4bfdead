-- Laws of taking state after state, one for each way through the code.
use Rattle.std.proofs.Common.{Ok, Err}
use mathlib.Core.Path.{◌≡◌, refl, sym, ap, ◌∙◌}
use mathlib.Core.Bool.{true}
use mathlib.Core.List.{List, [], ◌∷◌, ◌++◌, map}
use Prim.Native.Nat.{ℕ, suc, ◌+◌, ◌-◌, ◌*◌, ◌≤◌, ◌<◌}
use native.Mathlib.Numerals.{add-one}
use native.Mathlib.Omega.{arith}
use lib.Dec.{eqb}
use lib.ListN.{length, get_or, set}
use lib.Seq.{get_or-set_same, get_or-set_other}
use borrow.Author.Tests.{eqb-true, eqb-false, ltb-true}
use Rattle.lr1_base.specs.repr.Lists.{up_from, below, mem}
use Rattle.lr1_base.specs.repr.Meaning.{Edge, Table}
use Rattle.lr1_base.proofs.repr.Lists.{cases, below_last, length-map-below, mem-cons_here, mem-cons_there, mem_below}
use Rattle.lr1_states.specs.canonical.States.{tried}
use Rattle.lr1_states.specs.state_list.Made.{Holds}
use Rattle.lr1_states.specs.goto.Steps.{stopped, take_to, found, collect_to}
use Rattle.lr1_states.proofs.goto.Steps.{to_end, to_halt, to_more}
use Rattle.lr1_states.specs.transitions.Taking.{edges_in, TookAll, TakenAs}
use Rattle.lr1_states.specs.goto.Search.{refusal_of}
use Rattle.lr1_states.specs.declared.goto.Halt.{Halt}
use Rattle.lr1_states.proofs.transitions.Laws.{edges_same, map_last}
use Rattle.lr1_states.specs.collection.Rows.{row_in, rows_in, FoundAs}

-- rows

length_rows : (E es : List ℕ) (n : ℕ) → length (rows_in E es n) ≡ n
unfolding rows_in
length_rows E es n = length-map-below (row_in E es) n

rows_same : (E D es ds : List ℕ) (xs : List ℕ) → ((k : ℕ) → mem k xs ≡ true → row_in D ds k ≡ row_in E es k) → map (row_in D ds) xs ≡ map (row_in E es) xs
rows_same E D es ds [] f = refl
rows_same E D es ds (x ∷ xs) f =
    let here = f x (mem-cons_here x xs) in
    let more = rows_same E D es ds xs (λ k h. f k (mem-cons_there k x xs h)) in
    cc

-- a turn of the loop: k states were taken
pub record Round (T : Table) (start room : ℕ) (Rs : List (List ℕ)) (ws bs E es : List ℕ) (k m q : ℕ) : Type 0 where
  pub Qs : List (List ℕ)
  pub many : q ≡ length Qs
  pub holds : Holds T start ws bs Qs
  pub before : k ≤ q
  pub last : get_or es k 0 ≡ m
  pub front : get_or es 0 0 ≡ 0
  pub begins : (i : ℕ) → i ≤ k → get_or es i 0 ≤ m
  pub rises : (i : ℕ) → i < k → get_or es i 0 ≤ get_or es (i + 1) 0
  pub few : m ≤ 95 * k
  pub rest : collect_to (129 - k) T room Qs (rows_in E es k) ≡ collect_to 129 T room Rs []

pub round-start : (T : Table) (start room : ℕ) (Rs : List (List ℕ)) (ws bs E es : List ℕ) (q : ℕ) → q ≡ length Rs → Holds T start ws bs Rs → get_or es 0 0 ≡ 0 → Round T start room Rs ws bs E es 0 0 q
unfolding rows_in below up_from
round-start T start room Rs ws bs E es q n H z = record {
  Qs = Rs;
  many = n;
  holds = H;
  before = omega arith;
  last = z;
  front = z;
  begins = λ i h. let p : i ≡ 0 = omega arith in rw (p, z) (omega arith);
  rises = λ i h. absurd (omega arith);
  few = omega arith;
  rest = refl;
}

module _ (T : Table) (start room : ℕ) (Rs : List (List ℕ)) (ws bs E es : List ℕ) (k m q : ℕ) (u : Round T start room Rs ws bs E es k m q) (h : k < q) (ws' bs' E' : List ℕ) (q' m' : ℕ) where
  fuel : 129 - k ≡ suc (129 - (k + 1))
  fuel = omega (arith, u.many, u.holds.begun.few)

  rows_k : length (rows_in E es k) ≡ k
  rows_k = length_rows E es k

  at : length (rows_in E es k) < length u.Qs
  at = rw (rows_k, ← u.many) h

  pub round-stops : (n : Halt) → TakenAs T start u.Qs (take_to T room (get_or u.Qs k []) u.Qs (tried T)) ws' bs' E E' m q' m' (Err n) → FoundAs T start (collect_to 129 T room Rs []) ws' bs' E' es q' (Err n)
  unfolding TakenAs FoundAs
  round-stops n step =
      let w : take_to T room (get_or u.Qs k []) u.Qs (tried T) ≡ stopped (refusal_of n) = step in
      sym u.rest ∙ ap (λ (f : ℕ). collect_to f T room u.Qs (rows_in E es k)) fuel ∙ to_halt (129 - (k + 1)) T room u.Qs (rows_in E es k) at (refusal_of n) (rw rows_k w)

  module _ (room_for : k + 1 < length es) where
    abbrev es' : List ℕ
    es' = set es (k + 1) m'

    old : (i : ℕ) → i ≤ k → get_or es' i 0 ≡ get_or es i 0
    old i l = get_or-set_other es (k + 1) i m' 0 (λ p. omega arith)

    new : get_or es' (k + 1) 0 ≡ m'
    new = get_or-set_same es (k + 1) m' 0 room_for

    rows_more : ((i : ℕ) → i < m → get_or E' i 0 ≡ get_or E i 0) → rows_in E' es' (k + 1) ≡ rows_in E es k ++ edges_in E' m (m' - m) ∷ []
    unfolding rows_in row_in
    rows_more f =
        let front : map (row_in E' es') (below k) ≡ map (row_in E es) (below k) = rows_same E E' es es' (below k) (λ i g.
        let l : i < k = ltb-true i k (sym (mem_below i k) ∙ g) in
        let a = u.begins i (omega arith) in
        let b = u.begins (i + 1) (omega arith) in
        rw (old i (omega arith), old (i + 1) (omega arith)) (edges_same E E' (get_or es i 0) (get_or es (i + 1) 0 - get_or es i 0) (λ y c d. f y (omega arith)))) in
        ap (map (row_in E' es')) (ap below (add-one k) ∙ below_last k) ∙ map_last (row_in E' es') (below k) k
        ∙ rw front (ap (λ (d : List Edge). map (row_in E es) (below k) ++ d ∷ []) (rw (new, old k (omega arith), u.last) refl))

    on : TookAll T start u.Qs (take_to T room (get_or u.Qs k []) u.Qs (tried T)) ws' bs' E E' m q' m' → Round T start room Rs ws' bs' E' es' (k + 1) m' q'
    on t = record {
      Qs = t.Qs;
      many = t.many;
      holds = t.holds;
      before = omega (arith, t.keeps.long, t.many, u.many);
      last = new;
      begins = λ i l. cases (eqb i (k + 1)) (λ v. rw (eqb-true i (k + 1) v, new) (omega arith)) (λ v. let z = eqb-false i (k + 1) v in rw (old i (omega (arith, z))) (omega (arith, u.begins i (omega (arith, z)), t.low)));
      front = old 0 (omega arith) ∙ u.front;
      rises = λ i l. cases (eqb i k)
          (λ v. rw (eqb-true i k v, old k (omega arith), new, u.last) t.low)
          (λ v. let z = eqb-false i k v in rw (old i (omega (arith, z)), old (i + 1) (omega (arith, z))) (u.rises i (omega (arith, z))));
      few = omega (arith, t.high, u.few);
      rest = rw (rows_more t.same) (sym (to_more (129 - (k + 1)) T room u.Qs (rows_in E es k) at t.Qs (edges_in E' m (m' - m)) (rw rows_k t.is)) ∙ ap (λ (f : ℕ). collect_to f T room u.Qs (rows_in E es k)) (sym fuel) ∙ u.rest);
    }

    pub round-more : (v : Unit {0}) → TakenAs T start u.Qs (take_to T room (get_or u.Qs k []) u.Qs (tried T)) ws' bs' E E' m q' m' (Ok v) → Round T start room Rs ws' bs' E' es' (k + 1) m' q'
    unfolding TakenAs
    round-more v step = on step

pub round_end : (T : Table) (start room : ℕ) (Rs : List (List ℕ)) (ws bs E es : List ℕ) (k m q : ℕ) → Round T start room Rs ws bs E es k m q → q ≤ k → FoundAs T start (collect_to 129 T room Rs []) ws bs E es q (Ok tt)
unfolding FoundAs
round_end T start room Rs ws bs E es k m q u h =
    let p : k ≡ q = omega (arith, u.before) in
    let fuel : 129 - k ≡ suc (128 - k) = omega (arith, u.many, u.holds.begun.few, u.before) in
    record {
      Rs = u.Qs;
      is = sym u.rest ∙ ap (λ (f : ℕ). collect_to f T room u.Qs (rows_in E es k)) fuel ∙ to_end (128 - k) T room u.Qs (rows_in E es k) (rw (length_rows E es k, ← u.many) h) ∙ ap (λ (i : ℕ). found u.Qs (rows_in E es i)) p;
      many = u.many;
      holds = u.holds;
      front = u.front;
      rises = λ i l. u.rises i (omega arith);
      few = rw (← p, u.last) (omega (arith, u.few, u.many, u.holds.begun.few, u.before));
    }
