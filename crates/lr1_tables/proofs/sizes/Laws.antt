-- Laws of counting over all states, and of refusal 17 at the end.
use mathlib.Core.Path.{◌≡◌, refl, sym, ap, ◌∙◌}
use mathlib.Core.Bool.{Bool, true, false, ◌&&◌}
use mathlib.Core.List.{List, [], ◌∷◌, ◌++◌, map}
use Prim.Native.Nat.{ℕ, zero, suc, ◌+◌, ◌-◌, ◌*◌, ◌^◌, ◌≤◌, ◌<◌, min}
use native.Mathlib.Numerals.{add-one}
use native.Mathlib.Omega.{arith}
use lib.Dec.{ltb}
use lib.ListN.{length, get_or, take, replicate, length-append, length-replicate}
use lib.Seq.{take_at}
use borrow.Author.Tests.{lt-ltb, le-ltb}
use Rattle.lr1_base.specs.repr.Sizes.{record_limit, index_limit, item_limit}
use Rattle.lr1_base.specs.repr.Lists.{up_from, below, keep, joined}
use Rattle.lr1_base.specs.repr.Meaning.{Edge, Table, TableFits}
use Rattle.lr1_base.proofs.repr.Lists.{below_last, length_mapped, length-up_from, length-keep, length-below}
use Rattle.lr1_states.specs.canonical.States.{places, reduces, shifts, clashes_of, clashes}
use Rattle.lr1_states.specs.canonical.Canonical.{Clash}
use Rattle.lr1_base.specs.lookahead.Tokens.{has, meet, members}
use Rattle.lr1_base.proofs.lookahead.Members.{members_few}
use Rattle.lr1_tables.proofs.state_conflicts.Counts.{joined_few}
use Rattle.std.specs.List.{range_with_len, sum_by}
use Rattle.std.proofs.lemmas.List.Sums.{sum_by-cons}
use Rattle.lr1_states.specs.canonical.Outcome.{sum, records, finish}
use Rattle.lr1_states.proofs.canonical.Rounds.{Sized}
use Rattle.lr1_states.specs.closure.Fed.{Flat}
use Rattle.lr1_states.specs.stored_item.Stored.{entry_at, entries, packed}
use Rattle.lr1_states.specs.state_list.Kept.{unpacked, state_in}
use Rattle.lr1_states.proofs.state_list.Flat.{unpacked-packed}
use Rattle.lr1_states.proofs.state_list.Holds.{sum-append, holds_counted}
use Rattle.lr1_states.proofs.state_list.Kernels.{made_sized}
use Rattle.lr1_states.proofs.goto.Laws.{entry_places, padded_fits}
use Rattle.lr1_states.specs.transitions.Taking.{edge_of, edges_in}
use Rattle.lr1_states.proofs.transitions.Laws.{map_last}
use Rattle.lr1_states.specs.collection.Rows.{row_in, rows_in}
use Rattle.std.proofs.Common.{Ok, Err}
use Rattle.lr1_states.specs.declared.goto.Halt.TheVariants.{Records}
use Rattle.lr1_states.specs.declared.goto.Sizes.{Sizes}
use Rattle.lr1_tables.specs.declared.sizes.KeptStates.{KeptStates}
use Rattle.lr1_tables.specs.sizes.Complete.{Collection, Complete, MeasuredAs}

-- a state flat again

module _ (kept : KeptStates) (s : Collection kept) (k : ℕ) (h : k < kept.begins.now.states) where
  abbrev ws : List ℕ
  ws = kept.words.now

  abbrev bs : List ℕ
  bs = kept.begins.now.items

  abbrev P : ℕ
  P = kept.grammar.productions

  inside : k < length s.Rs
  inside = omega (arith, s.many)

  sized : Sized (places s.T) (get_or s.Rs k [])
  sized = made_sized s.T s.grammar.fits s.start (rw (← s.grammar.many) s.started) (s.holds.made k inside)

  long : length (get_or s.Rs k []) ≡ index_limit * P
  long = sized.long ∙ ap (λ (i : ℕ). index_limit * i) (sym s.grammar.many)

  stands : entries ws (get_or bs k 0) (get_or bs (k + 1) 0 - get_or bs k 0) ≡ packed (get_or s.Rs k [])
  unfolding state_in
  stands = s.holds.is k inside

  pub at_rises : get_or bs k 0 ≤ get_or bs (k + 1) 0
  at_rises = s.holds.begun.rises k inside

  pub at_ends : get_or bs (k + 1) 0 ≤ record_limit
  at_ends = s.holds.begun.ends k inside

  pub at_places : (m : ℕ) → get_or bs k 0 ≤ m → m < get_or bs (k + 1) 0 → (entry_at ws m).place < item_limit
  at_places m u v = let w = entry_places ws (get_or s.Rs k []) (get_or bs k 0) (get_or bs (k + 1) 0 - get_or bs k 0) stands m u (omega arith) in omega (arith, long, s.grammar.packed.few)

  module _ (K : List ℕ) (e : K ≡ unpacked (entries ws (get_or bs k 0) (get_or bs (k + 1) 0 - get_or bs k 0))) where
    flat_is : K ≡ get_or s.Rs k [] ++ replicate (item_limit - length (get_or s.Rs k [])) 0
    flat_is = e ∙ ap unpacked stands ∙ unpacked-packed (get_or s.Rs k []) (rw long (omega (arith, s.grammar.packed.few)))

    pub at_flat : Flat K
    at_flat = record {
      long = ap length flat_is ∙ length-append (get_or s.Rs k []) (replicate (item_limit - length (get_or s.Rs k [])) 0)
          ∙ rw (length-replicate {A = ℕ} (item_limit - length (get_or s.Rs k [])) 0, long) (omega (arith, s.grammar.packed.few));
      fits = λ x. rw flat_is (padded_fits (get_or s.Rs k []) (item_limit - length (get_or s.Rs k [])) sized.fits x);
    }

    pub at_state : take (index_limit * P) K ≡ get_or s.Rs k []
    at_state = ap (take (index_limit * P)) flat_is ∙ take_at (get_or s.Rs k []) (replicate (item_limit - length (get_or s.Rs k [])) 0) (index_limit * P) long

-- the conflicts of all: how many they may be, and their sum

clashes_few : (T : Table) → TableFits T → (S : List ℕ) → length (clashes T S) ≤ 1056768
unfolding clashes clashes_of
clashes_few T F S = omega (arith, joined_few (clashes_of T S) 8256 (below (length T.productions)) of, length-below (length T.productions), F.few_productions_lem)
  where
    of : (p : ℕ) → length (clashes_of T S p) ≤ 8256
    of p =
        let shift : ℕ → Clash = λ t. record { production = p; action = 0; other = t; token = t } in
        let pair : ℕ → ℕ → Clash = λ q a. record { production = p; action = 1; other = q; token = a } in
        let tokens : List ℕ = keep (λ t. has (reduces T S p) t && shifts T S t) (below T.terminals) in
        let higher : List ℕ = keep (ltb p) (below (length T.productions)) in
        let both : ℕ → List ℕ = λ q. members (meet (reduces T S p) (reduces T S q)) in
        let l = length-append (map shift tokens) (joined (λ q. map (pair q) (both q)) higher) in
        let m = length_mapped shift tokens in
        let k = length-keep (λ t. has (reduces T S p) t && shifts T S t) (below T.terminals) in
        let j = joined_few (λ q. map (pair q) (both q)) 64 higher (λ q. omega (arith, length_mapped (pair q) (both q), members_few (meet (reduces T S p) (reduces T S q)))) in
        let n = length-keep (ltb p) (below (length T.productions)) in
        omega (arith, l, m, k, j, n, length-below (length T.productions), length-below T.terminals, F.few_productions_lem, F.few_terminals)

pub sum_clashes : (T : Table) → TableFits T → (Rs : List (List ℕ)) → sum (λ (S : List ℕ). length (clashes T S)) Rs ≤ length Rs * 1056768
unfolding sum
sum_clashes T F [] = omega arith
sum_clashes T F (S ∷ Rs) =
    let more = sum_clashes T F Rs in
    let here = clashes_few T F S in
    omega arith

sum_range : (T : Table) (h : ℕ → ℕ) (a : ℕ) (Rs : List (List ℕ)) → ((i : ℕ) → i < length Rs → h (a + i) ≡ length (clashes T (get_or Rs i []))) → sum_by h (range_with_len a (length Rs)) ≡ sum (λ (S : List ℕ). length (clashes T S)) Rs
unfolding sum
sum_range T h a [] f = refl
sum_range T h a (S ∷ Rs) f =
    let more = sum_range T h (a + 1) Rs (λ i l. let e : a + 1 + i ≡ a + suc i = omega arith in rw e (f (suc i) (omega arith))) in
    let z : a + 0 ≡ a = omega arith in
    let here : h a ≡ length (clashes T S) = rw z at (f 0 (omega arith)) in
    sum_by-cons h a (range_with_len (a + 1) (length Rs)) ∙ (omega arith)

pub sum_states : (T : Table) (Rs : List (List ℕ)) (n : ℕ) → n ≡ length Rs → sum_by (λ k. length (clashes T (get_or Rs k []))) (range_with_len 0 n) ≡ sum (λ (S : List ℕ). length (clashes T S)) Rs
sum_states T Rs n e = rw e (sum_range T (λ k. length (clashes T (get_or Rs k []))) 0 Rs (λ i l. let z : 0 + i ≡ i = omega arith in rw z refl))

-- edges

pub length_row : (E es : List ℕ) (k : ℕ) → length (row_in E es k) ≡ get_or es (k + 1) 0 - get_or es k 0
unfolding row_in edges_in
length_row E es k = length_mapped (λ i. edge_of (get_or E i 0)) (up_from (get_or es k 0) (get_or es (k + 1) 0 - get_or es k 0)) ∙ length-up_from (get_or es k 0) (get_or es (k + 1) 0 - get_or es k 0)

pub rows_sum : (E es : List ℕ) (n : ℕ) → get_or es 0 0 ≡ 0 → ((k : ℕ) → k < n → get_or es k 0 ≤ get_or es (k + 1) 0) → sum (λ (ds : List Edge). length ds) (rows_in E es n) ≡ get_or es n 0
unfolding rows_in sum below up_from
rows_sum E es zero z f = sym z
rows_sum E es (suc k) z f =
    let more : sum (λ (ds : List Edge). length ds) (map (row_in E es) (below k)) ≡ get_or es k 0 = rows_sum E es k z (λ i h. f i (omega arith)) in
    let up = f k (omega arith) in
    let gap : get_or es k 0 + (get_or es (k + 1) 0 - get_or es k 0) ≡ get_or es (k + 1) 0 = omega arith in
    ap (λ (xs : List ℕ). sum (λ (ds : List Edge). length ds) (map (row_in E es) xs)) (below_last k)
    ∙ ap (sum (λ (ds : List Edge). length ds)) (map_last (row_in E es) (below k) k)
    ∙ sum-append (λ (ds : List Edge). length ds) (map (row_in E es) (below k)) (row_in E es k)
    ∙ rw (more, length_row E es k) gap
    ∙ ap (λ (i : ℕ). get_or es i 0) (add-one k)

-- records

module _ (kept : KeptStates) (sizes : Sizes) (es : List ℕ) (s : Complete kept sizes es) where
  abbrev n : ℕ
  n = kept.begins.now.states

  pub few_begins : get_or kept.begins.now.items n 0 ≤ record_limit
  few_begins = by n s.all.many
    where
      by : (m : ℕ) → m ≡ length s.all.Rs → get_or kept.begins.now.items m 0 ≤ record_limit
      by zero q = rw s.all.holds.front (omega arith)
      by (suc m) q = rw (add-one m) at (s.all.holds.begun.ends m (omega arith))

  pub few_states : n ≤ 128
  few_states = omega (arith, s.all.many, s.all.holds.begun.few)

  pub records_are : sizes.fixed + n + get_or kept.begins.now.items n 0 + get_or es n 0 ≡ records s.T s.all.Rs + sum (λ (ds : List Edge). length ds) (rows_in s.E es n)
  unfolding records
  records_are =
      let a = rows_sum s.E es n s.all.front s.all.rises in
      let b = holds_counted s.T s.start kept.words.now kept.begins.now.items s.all.Rs s.all.holds in
      let c = s.counted.fixed_is in
      let d = s.all.many in
      let e : get_or kept.begins.now.items n 0 ≡ get_or kept.begins.now.items (length s.all.Rs) 0 = ap (λ (i : ℕ). get_or kept.begins.now.items i 0) s.all.many in
      omega arith

  module _ (r : ℕ) (is : r ≡ records s.T s.all.Rs + sum (λ (ds : List Edge). length ds) (rows_in s.E es n)) (words : ℕ) where
    limited : (b : Bool) → ltb sizes.limit r ≡ b → ltb (min s.room record_limit) (records s.T s.all.Rs + sum (λ (ds : List Edge). length ds) (rows_in s.E es n)) ≡ b
    limited b q = rw (← is, ← s.counted.limit_is) q

    pub edges_pass : sizes.limit < r → MeasuredAs s.T s.room words s.all.Rs (rows_in s.E es n) (Err Records)
    unfolding MeasuredAs finish
    edges_pass h = (refl, rw (limited true (lt-ltb sizes.limit r h), finish) refl)

    module _ (low : r ≤ sizes.limit) (c : ℕ) (many : c ≡ sum (λ (S : List ℕ). length (clashes s.T S)) s.all.Rs) where
      pub conflicts_pass : words < 5 * c → MeasuredAs s.T s.room words s.all.Rs (rows_in s.E es n) (Err Records)
      unfolding MeasuredAs finish
      conflicts_pass h = (refl, rw (limited false (le-ltb sizes.limit r low), ← many, lt-ltb words (5 * c) h, finish) refl)

      pub measured : 5 * c ≤ words → c ≤ 135266304 → MeasuredAs s.T s.room words s.all.Rs (rows_in s.E es n) (Ok (record { records = r; conflicts = c }))
      unfolding MeasuredAs finish
      measured h few = (rw (limited false (le-ltb sizes.limit r low), ← many, le-ltb words (5 * c) h, finish) refl, is, many, few)
