-- One state more, in words: what `store` and `goto_over` come to.
use Rattle.std.proofs.Common.{◌≡◌, ℕ, zero, suc, ◌+◌, ◌-◌, ◌*◌, ◌/◌, ◌<◌, ◌≤◌, min, true, false, Option, Some, None, Result, Ok, Err, eqb, ltb, List, [], ◌∷◌, ◌++◌, length, get_or, take, set, sym, refl, ap, ◌∙◌, arith, length-take-le, le-ltb, lt-ltb, ne_eqb, eqb-true}
use lib.ListN.{get_or-append}
use lib.Seq.{take-length}
use borrow.Author.Tests.{eqb-false}
use Rattle.lr1_base.specs.repr.Sizes.{index_limit, item_limit, record_limit, state_limit}
use Rattle.lr1_base.specs.repr.Lists.{up_from, below, keep}
use Rattle.lr1_base.specs.repr.Meaning.{Symbol, nonterminal, terminal, SymbolFits, Production, Table}
use Rattle.lr1_base.proofs.repr.Lists.{cases}
use Rattle.lr1_base.proofs.repr.Tests.{every?_elim, every?_fails}
use Rattle.lr1_states.specs.canonical.States.{places, closure, moved, nothing?, goto, place, written}
use Rattle.lr1_states.specs.canonical.Outcome.{sum, records, stops_at, number_of}
use Rattle.lr1_states.proofs.canonical.Collection.{length_snoc, place_le}
use Rattle.lr1_states.proofs.canonical.Refusals.{stops_128, stops-other}
use Rattle.lr1_states.proofs.canonical.Goto.{length_moved, moved_sized}
use Rattle.lr1_states.specs.stored_item.Stored.{entry_at, entries, held, packed, moved_over}
use Rattle.lr1_states.proofs.stored_item.Stored.{length-entries, entries_front}
use Rattle.lr1_states.proofs.stored_item.Packed.{held_none, held-some, packed-moved}
use Rattle.lr1_states.specs.state_list.Kept.{put_all, state_in, states_in, Begun, kernel_place}
use Rattle.lr1_states.specs.state_list.Made.{Made, next, Holds}
use Rattle.lr1_states.proofs.state_list.Holds.{holds_more, length-packed, sum-append, holds_counted, holds_place}
use Rattle.lr1_states.proofs.state_list.Kernels.{made_sized, moved_kernel}
use Rattle.lr1_states.specs.goto.Steps.{Reach, nowhere, stops, reach, add_to, goto_to}
use Rattle.lr1_states.specs.goto.Search.{KernelIn, Stored, Search, refusal_of, Keeps, Reached, IsOneOf}
use Rattle.lr1_states.specs.declared.goto.Halt.{Halt}
use Rattle.lr1_states.specs.declared.goto.Halt.TheVariants.{States, Records}
use Rattle.lr1_states.specs.declared.goto.Source.{Source}
use Rattle.lr1_states.proofs.goto.Steps.{to_old, to_full, to_new, goto-none, goto-some}
use Rattle.lr1_states.proofs.goto.Laws.{packed_short, entry_places}

-- what a step comes to

pub comes_nowhere : (T : Table) (start : ℕ) (Rs : List (List ℕ)) (w : Reach) (ws bs : List ℕ) (m : ℕ) → w ≡ nowhere → m ≡ length Rs → Holds T start ws bs Rs → Reached T start Rs w ws bs m (Ok None)
unfolding Reached
comes_nowhere T start Rs w ws bs m e l H = (e, l, H)

pub comes_stops : (T : Table) (start : ℕ) (Rs : List (List ℕ)) (w : Reach) (ws bs : List ℕ) (m : ℕ) (h : Halt) → w ≡ stops (refusal_of h) → Reached T start Rs w ws bs m (Err h)
unfolding Reached
comes_stops T start Rs w ws bs m h e = e

pub comes_to : (T : Table) (start : ℕ) (Rs : List (List ℕ)) (w : Reach) (ws bs : List ℕ) (t m : ℕ) (Qs : List (List ℕ)) → w ≡ reach t Qs → m ≡ length Qs → t < m → Holds T start ws bs Qs → Keeps Rs Qs
    → Reached T start Rs w ws bs m (Ok (Some t))
unfolding Reached
comes_to T start Rs w ws bs t m Qs e l h H K = (Qs, e, l, h, H, K)

keeps_refl : (Rs : List (List ℕ)) → Keeps Rs Rs
keeps_refl Rs = record { long = omega arith; same = λ k h. refl }

keeps_snoc : (Rs : List (List ℕ)) (C : List ℕ) → Keeps Rs (Rs ++ C ∷ [])
keeps_snoc Rs C = record { long = rw (length_snoc C Rs) (omega arith); same = λ k h. get_or-append Rs (C ∷ []) [] k h }

-- the records of a state more

module _ (T : Table) (start room : ℕ) (ws bs : List ℕ) (Rs : List (List ℕ)) (H : Holds T start ws bs Rs) (C : List ℕ) (f : ℕ)
    (fixed : f ≡ 1 + length T.nonterminals + length T.productions + sum (λ (p : Production). length p.symbols) T.productions) where
  records-more : records T (Rs ++ C ∷ []) ≡ f + length Rs + 1 + (get_or bs (length Rs) 0 + length (packed C))
  unfolding records
  records-more =
      let a = sum-append (λ (S : List ℕ). length (written S)) Rs C in
      let b = holds_counted T start ws bs Rs H in
      let c = length-packed C in
      let d = length_snoc C Rs in
      omega arith

  whole : take (suc (length Rs)) (Rs ++ C ∷ []) ≡ Rs ++ C ∷ []
  whole = ap (λ (n : ℕ). take n (Rs ++ C ∷ [])) (sym (length_snoc C Rs)) ∙ take-length (Rs ++ C ∷ [])

  stops-more_is : (length Rs ≡ 128 → ⊥) → stops_at T room (Rs ++ C ∷ []) (length Rs) ≡ ltb (min room record_limit) (f + length Rs + 1 + (get_or bs (length Rs) 0 + length (packed C)))
  stops-more_is n = stops-other T room (Rs ++ C ∷ []) (length Rs) n ∙ ap (λ (l : List (List ℕ)). ltb (min room record_limit) (records T l)) whole ∙ ap (ltb (min room record_limit)) records-more

number_of_lem : (i : ℕ) → (i ≡ 128 → ⊥) → number_of i ≡ 17
unfolding number_of
number_of_lem i z = rw (ne_eqb i 128 z, number_of)

-- `store`

pub last-begin : (T : Table) (start : ℕ) (ws bs : List ℕ) (Rs : List (List ℕ)) (n : ℕ) → Holds T start ws bs Rs → n ≡ length Rs → get_or bs n 0 ≤ record_limit
last-begin T start ws bs Rs n H q =
    cases (eqb n 0)
    (λ t. rw (eqb-true n 0 t, H.front) (omega arith))
    (λ t.
    let z = eqb-false n 0 t in
    let p : n - 1 + 1 ≡ n = omega (arith, z) in
    rw p at (H.begun.ends (n - 1) (omega (arith, z))))

module _ (source : Source) (ws bs : List ℕ) (n : ℕ) (s : Search source ws bs n) (C : List ℕ) (new : place C s.Rs ≡ length s.Rs) where
  high : length s.Rs ≤ place C s.Rs
  high = omega arith

  pub store_all : n ≡ 128 → (ws' bs' : List ℕ) (m' : ℕ) → Reached s.T s.start s.Rs (add_to s.T s.room C s.Rs) ws' bs' m' (Err States)
  unfolding number_of
  store_all q ws' bs' m' =
      let k : length s.Rs ≡ 128 = sym s.many ∙ q in
      comes_stops s.T s.start s.Rs (add_to s.T s.room C s.Rs) ws' bs' m' States
      (to_full s.T s.room C s.Rs high (ap (stops_at s.T s.room (s.Rs ++ C ∷ [])) k ∙ stops_128 s.T s.room (s.Rs ++ C ∷ [])) ∙ ap (λ (i : ℕ). stops (number_of i)) k)

  module _ (few : n ≡ 128 → ⊥) (S ws' bs' : List ℕ) (m' : ℕ) (is : take (index_limit * source.grammar.productions) S ≡ C) where
    other : length s.Rs ≡ 128 → ⊥
    other q = few (s.many ∙ q)

    test : stops_at s.T s.room (s.Rs ++ C ∷ []) (length s.Rs) ≡ ltb source.sizes.limit (source.sizes.fixed + n + 1 + (get_or bs n 0 + length (packed (take (index_limit * source.grammar.productions) S))))
    test = rw (is, s.many, s.limit_is) (stops-more_is s.T s.start s.room ws bs s.Rs s.holds C source.sizes.fixed s.fixed_is other)

    pub store_none : (h : Halt) → h ≡ Records → Stored (source.sizes.fixed + n + 1) source.sizes.limit (packed (take (index_limit * source.grammar.productions) S)) ws ws' bs bs' n false → Reached s.T s.start s.Rs (add_to s.T s.room C s.Rs) ws' bs' m' (Err h)
    store_none h q k =
        rw q (comes_stops s.T s.start s.Rs (add_to s.T s.room C s.Rs) ws' bs' m' Records
        (to_full s.T s.room C s.Rs high (test ∙ lt-ltb source.sizes.limit (source.sizes.fixed + n + 1 + (get_or bs n 0 + length (packed (take (index_limit * source.grammar.productions) S)))) (k.none refl)) ∙ ap stops (number_of_lem (length s.Rs) other)))

    pub store_some : Stored (source.sizes.fixed + n + 1) source.sizes.limit (packed (take (index_limit * source.grammar.productions) S)) ws ws' bs bs' n true → m' ≡ n + 1 → Made s.T s.start C
        → Reached s.T s.start s.Rs (add_to s.T s.room C s.Rs) ws' bs' m' (Ok (Some n))
    store_some k w' m =
        let past : ℕ = get_or bs n 0 + length (packed (take (index_limit * source.grammar.productions) S)) in
        let small : get_or bs n 0 + length (packed (take (index_limit * source.grammar.productions) S)) ≤ record_limit = omega (arith, k.room refl, s.limit_is) in
        let few' : length s.Rs < state_limit = omega (arith, other, s.holds.begun.few) in
        let at : get_or bs n 0 + length (packed (take (index_limit * source.grammar.productions) S)) ≡ get_or bs (length s.Rs) 0 + length (packed C) = rw (is, s.many) refl in
        let more = holds_more s.T s.start ws bs s.Rs s.holds C m (get_or bs n 0 + length (packed (take (index_limit * source.grammar.productions) S))) few' at small in
        let w : ws' ≡ put_all ws (get_or bs (length s.Rs) 0) (packed C) = k.words refl ∙ rw (is, s.many) refl in
        let b : bs' ≡ set bs (length s.Rs + 1) (get_or bs n 0 + length (packed (take (index_limit * source.grammar.productions) S))) = k.begins refl ∙ ap (λ (i : ℕ). set bs (i + 1) (get_or bs n 0 + length (packed (take (index_limit * source.grammar.productions) S)))) s.many in
        comes_to s.T s.start s.Rs (add_to s.T s.room C s.Rs) ws' bs' n m' (s.Rs ++ C ∷ [])
        (to_new s.T s.room C s.Rs high (test ∙ le-ltb source.sizes.limit (source.sizes.fixed + n + 1 + (get_or bs n 0 + length (packed (take (index_limit * source.grammar.productions) S)))) (k.room refl)) ∙ ap (λ (i : ℕ). reach i (s.Rs ++ C ∷ [])) (new ∙ sym s.many))
        (rw (length_snoc C s.Rs) (omega (arith, s.many, w')))
        (omega (arith, w'))
        (rw (w, b) more)
        (keeps_snoc s.Rs C)

-- how many items a state has

held-zero : (M : List ℕ) (x n : ℕ) → ((i : ℕ) → i < x + n → get_or M i 0 ≡ 0) → length (held M (up_from x n)) ≡ 0
unfolding up_from keep
held-zero M x zero f = refl
held-zero M x (suc n) f = rw (held_none M x (up_from (suc x) n) (f x (omega arith))) (held-zero M (suc x) n (λ i h. f i (omega arith)))

held_nonzero : (M : List ℕ) (x n i : ℕ) → x ≤ i → i < x + n → (get_or M i 0 ≡ 0 → ⊥) → 0 < length (held M (up_from x n))
unfolding up_from keep
held_nonzero M x zero i l h z = absurd (omega arith)
held_nonzero M x (suc n) i l h z =
    let more : (x < i) → 0 < length (held M (up_from (suc x) n)) = λ u. held_nonzero M (suc x) n i (omega arith) (omega arith) z in
    cases (eqb (get_or M x 0) 0)
    (λ t.
    let q = eqb-true (get_or M x 0) 0 t in
    rw (held_none M x (up_from (suc x) n) q) (more (cases (eqb x i) (λ u. absurd (z (ap (λ (y : ℕ). get_or M y 0) (sym (eqb-true x i u)) ∙ q))) (λ u. let w = eqb-false x i u in omega (arith, w)))))
    (λ t. rw (held-some M x (up_from (suc x) n) (eqb-false (get_or M x 0) 0 t)) (omega arith))

packed-nothing : (M : List ℕ) → nothing? M ≡ true → length (packed M) ≡ 0
unfolding packed below nothing?
packed-nothing M t =
    held-zero M 0 (length M) (λ i h.
    let l : i < length M = omega arith in
    sym (eqb-true 0 (get_or M i 0) (every?_elim (eqb 0) M i 0 t l)))

packed_something : (M : List ℕ) → nothing? M ≡ false → 0 < length (packed M)
unfolding packed below nothing?
packed_something M t =
    let w = every?_fails (eqb 0) M 0 t in
    held_nonzero M 0 (length M) w.0 (omega arith) (omega (arith, w.1)) (λ q. eqb-false 0 (get_or M w.0 0) w.2 (sym q))

-- a symbol by the numbers of the table

one_fits : (T : Table) (N e : ℕ) (X : Symbol) → N ≡ length T.nonterminals → e ≡ T.terminals → IsOneOf N e X → SymbolFits T X
unfolding SymbolFits IsOneOf
one_fits T N e (nonterminal x) n t F = rw (← n) F
one_fits T N e (terminal x) n t F = rw (← t) F

goto_is : (T : Table) (X : Symbol) (S : List ℕ) → goto T X S ≡ closure T (moved T X S)
unfolding goto
goto_is T X S = refl

-- `goto_over`

module _ (source : Source) (ws bs : List ℕ) (n : ℕ) (s : Search source ws bs n) (k : ℕ) (h : k < n) where
  inside : k < length s.Rs
  inside = rw s.many at h

  size : length (get_or s.Rs k []) ≡ places s.T
  size = (made_sized s.T s.grammar.fits s.start s.started (s.holds.made k inside)).long

  many_places : index_limit * source.grammar.productions ≡ places s.T
  many_places = ap (λ (i : ℕ). index_limit * i) s.grammar.many

  state_is : entries ws (get_or bs k 0) (get_or bs (k + 1) 0 - get_or bs k 0) ≡ packed (get_or s.Rs k [])
  unfolding state_in
  state_is = s.holds.is k inside

  pub over-begun : Begun ws bs n
  over-begun = rw s.many s.holds.begun

  pub over-room : get_or bs (k + 1) 0 - get_or bs k 0 ≤ item_limit
  over-room =
      let a = packed_short (get_or s.Rs k []) in
      let b = ap length state_is in
      let c = length-entries ws (get_or bs k 0) (get_or bs (k + 1) 0 - get_or bs k 0) in
      omega (arith, size, many_places, s.grammar.packed.few)

  pub over-places : (m : ℕ) → get_or bs k 0 ≤ m → m < get_or bs (k + 1) 0 → (entry_at ws m).place < index_limit * source.grammar.productions
  over-places m u v = let w = entry_places ws (get_or s.Rs k []) (get_or bs k 0) (get_or bs (k + 1) 0 - get_or bs k 0) state_is m u (omega arith) in omega (arith, size, many_places)

  -- what is moved stands at the front of the kernel's words
  module _ (X : Symbol) (F : IsOneOf source.sizes.nonterminals source.sets.now.terminals X) (ks : List ℕ) (room : item_limit * 5 ≤ length ks) (many : ℕ) (low : many ≤ get_or bs (k + 1) 0 - get_or bs k 0)
      (is : entries ks 0 many ≡ moved_over source.grammar.words.now (Some X) (entries ws (get_or bs k 0) (get_or bs (k + 1) 0 - get_or bs k 0))) where
    abbrev M : List ℕ
    M = moved s.T X (get_or s.Rs k [])

    abbrev front : List ℕ
    front = take (many * 5) ks

    pub over-room_front : many * 5 ≤ length ks
    over-room_front = omega (arith, over-room)

    pub over-front : many * 5 ≡ length front
    over-front = sym (length-take-le (many * 5) ks over-room_front)

    over_is : entries front 0 (length front / 5) ≡ packed M
    over_is =
        entries_front ks many over-room_front ∙ is ∙ ap (moved_over source.grammar.words.now (Some X)) state_is
        ∙ packed-moved s.T source.grammar.words.now source.grammar.productions source.sets.now.terminals source.sets.now.map s.grammar X (get_or s.Rs k []) size

    over_many : length (packed M) ≡ many
    over_many = let e = sym (ap length over_is) ∙ length-entries front 0 (length front / 5) in omega (arith, e, over-front)

    some : (many ≡ 0 → ⊥) → nothing? M ≡ false
    some z = cases (nothing? M) (λ t. absurd (z (sym over_many ∙ packed-nothing M t))) (λ t. t)

    pub over-nowhere : many ≡ 0 → Reached s.T s.start s.Rs (goto_to s.T s.room (get_or s.Rs k []) s.Rs X) ws bs n (Ok None)
    over-nowhere z =
        comes_nowhere s.T s.start s.Rs (goto_to s.T s.room (get_or s.Rs k []) s.Rs X) ws bs n
        (goto-none s.T s.room (get_or s.Rs k []) s.Rs X (cases (nothing? M) (λ t. t) (λ t. absurd (omega (arith, packed_something M t, over_many))))) s.many s.holds

    pub over_kernel : KernelIn front (length front / 5) source.grammar.productions
    over_kernel = record {
      kernel = M;
      long = length_moved s.T X (get_or s.Rs k []) ∙ sym many_places;
      fits = (moved_sized s.T X (get_or s.Rs k []) (made_sized s.T s.grammar.fits s.start s.started (s.holds.made k inside))).fits;
      is = over_is;
    }

    module _ (z : many ≡ 0 → ⊥) (t : ℕ) (at : kernel_place (entries front 0 (length front / 5)) (states_in ws bs n) ≡ t) where
      target_is : t ≡ place (goto s.T X (get_or s.Rs k [])) s.Rs
      target_is =
          sym at ∙ rw (over_is, s.many, goto_is s.T X (get_or s.Rs k [])) (holds_place s.T s.start ws bs s.Rs s.holds s.grammar.fits s.started M
          (moved_kernel s.T s.grammar.fits s.start s.started (s.holds.made k inside) X (some z)))

      pub over_old : t < n → Reached s.T s.start s.Rs (goto_to s.T s.room (get_or s.Rs k []) s.Rs X) ws bs n (Ok (Some t))
      over_old u =
          comes_to s.T s.start s.Rs (goto_to s.T s.room (get_or s.Rs k []) s.Rs X) ws bs t n s.Rs
          (goto-some s.T s.room (get_or s.Rs k []) s.Rs X (some z)
          ∙ to_old s.T s.room (goto s.T X (get_or s.Rs k [])) s.Rs (rw (← target_is, ← s.many) u)
          ∙ ap (λ (i : ℕ). reach i s.Rs) (sym target_is))
          s.many u s.holds (keeps_refl s.Rs)

      -- with what `store` leaves
      pub over_new : t ≡ n → (ws' bs' : List ℕ) (m' : ℕ) (r : Result (Option ℕ) Halt)
          → ((M : List ℕ) → length M ≡ index_limit * source.grammar.productions → entries front 0 (length front / 5) ≡ packed M → Made s.T s.start (closure s.T M) → place (closure s.T M) s.Rs ≡ length s.Rs
          → Reached s.T s.start s.Rs (add_to s.T s.room (closure s.T M) s.Rs) ws' bs' m' r)
          → Reached s.T s.start s.Rs (goto_to s.T s.room (get_or s.Rs k []) s.Rs X) ws' bs' m' r
      over_new u ws' bs' m' r stored =
          let q = goto_is s.T X (get_or s.Rs k []) in
          let m : Made s.T s.start (goto s.T X (get_or s.Rs k [])) = next X (s.holds.made k inside) (some z) in
          let p : place (goto s.T X (get_or s.Rs k [])) s.Rs ≡ length s.Rs = omega (arith, target_is, s.many, place_le (goto s.T X (get_or s.Rs k [])) s.Rs) in
          rw (goto-some s.T s.room (get_or s.Rs k []) s.Rs X (some z), q)
          (stored M (length_moved s.T X (get_or s.Rs k []) ∙ sym many_places) over_is (rw q at m) (rw q at p))
