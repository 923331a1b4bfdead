-- An edge from its word.
use Rattle.std.proofs.Common.{◌≡◌, ℕ, zero, suc, ◌+◌, ◌*◌, ◌/◌, ◌%◌, ◌<◌, ◌≤◌, true, ltb, List, [], ◌∷◌, length, get_or, drop, sym, refl, ap, ◌∙◌, true≢false, arith, ltb-false, ltb-true, eqb-true}
use mathlib.Core.Option.{some}
use Rattle.lr1_base.specs.repr.Meaning.{Symbol, Item, Production, no_production, Table, ItemFits, production_at}
use Rattle.lr1_base.specs.repr.Listed.{symbol_of_kind, listed}
use Rattle.lr1_base.specs.repr.Packed.{Packed, productions_in, production_in, symbol_words}
use Rattle.lr1_base.proofs.repr.Lists.{cases, get_d_map-below, length-map-below}
use Rattle.lr1_base.specs.item.Items.{first, symbol_sets, is_nonterminal, shifts_nonterminal}
use Rattle.lr1_base.proofs.item.Items.{shifts_past}
use Rattle.trace_graph.specs.Graph.{at_nonterminal, TraceEdge}
use Rattle.trace_graph.specs.Words.{node_words, edge_words}
use Rattle.trace_graph.specs.Index.{InRange}
use Rattle.trace_graph.specs.declared.Node.{Node}
use Rattle.trace_graph.specs.Values.{SmallNode, SmallEdge, value_words}
use Rattle.trace.specs.Traced.{owner_of, symbols_of, can_shift}
use Rattle.trace.proofs.Traced.{fits-item}
use Rattle.trace.specs.edge_codes.Codes.{cursor_of, edge_by, item_in, edge_of}
use Rattle.trace.proofs.edge_codes.Keys.{code_few, code_edge}
use Rattle.trace.specs.edge_codes.Carried.{Decodes}

by_label_lem : (T : Table) (k : ℕ) (i : Item) → (edge_by T k i).label ≡ i
unfolding edge_by
by_label_lem T zero i = refl
by_label_lem T (suc zero) i = refl
by_label_lem T (suc (suc k)) i = refl

by_target : (T : Table) (k : ℕ) (i : Item) → (k ≡ 0 → ⊥) → (edge_by T k i).target ≡ at_nonterminal (cursor_of T i)
unfolding edge_by
by_target T zero i ne = absurd (ne refl)
by_target T (suc zero) i ne = refl
by_target T (suc (suc k)) i ne = refl

by_words : (T : Table) (k p x : ℕ) → (k ≡ 0 → ⊥) → (k ≡ 1 → ⊥) → edge_words (edge_by T k (record { production = p; index = x })) ≡ 1 ∷ p ∷ x ∷ 0 ∷ cursor_of T (record { production = p; index = x }) ∷ 0 ∷ p ∷ x ∷ []
unfolding edge_by edge_words node_words
by_words T zero p x a b = absurd (a refl)
by_words T (suc zero) p x a b = absurd (b refl)
by_words T (suc (suc k)) p x a b = refl

one_words : (T : Table) (p x : ℕ) → edge_words (edge_by T 1 (record { production = p; index = x })) ≡ 0 ∷ owner_of T (record { production = p; index = x }) ∷ 0 ∷ 0 ∷ cursor_of T (record { production = p; index = x }) ∷ 0 ∷ p ∷ x ∷ []
unfolding edge_by edge_words node_words
one_words T p x = refl

zero-words : (T : Table) (p x : ℕ) → edge_words (edge_by T 0 (record { production = p; index = x })) ≡ 0 ∷ owner_of T (record { production = p; index = x }) ∷ 0 ∷ 1 ∷ p ∷ x ∷ p ∷ x ∷ []
unfolding edge_by edge_words node_words
zero-words T p x = refl

module _ {g : List ℕ} {n : ℕ} {T : Table} {e : TraceEdge} {c : ℕ} (D : Decodes g n T e c) where
  pub code_small : c < 6528
  code_small = rw D.is (code_few T D.fits e D.traced)

  back : edge_by T (c / 2176) (item_in c) ≡ e
  unfolding edge_of
  back = ap (edge_of T) D.is ∙ code_edge T D.fits e D.traced

  pub label_is : e.label ≡ item_in c
  label_is = sym (ap (λ (f : TraceEdge). f.label) back) ∙ by_label_lem T (c / 2176) (item_in c)

  label_fits : ItemFits T (item_in c)
  label_fits = rw label_is at (fits-item T e.label D.traced.label)

  many : n ≡ length T.productions
  unfolding productions_in
  many = sym (length-map-below (production_in g) n) ∙ ap length D.same

  pub inside : c % 2176 / 17 < n
  unfolding item_in
  inside = let m = many in let l = label_fits.production in omega arith

  at_is : (p : ℕ) → p < n → production_at T p ≡ production_in g p
  unfolding productions_in
  at_is p h = ap (λ (ps : List Production). get_or ps p no_production) (sym D.same) ∙ get_d_map-below (production_in g) n p no_production h

  pub owner_is : get_or g (c % 2176 / 17 * 36) 0 ≡ owner_of T (item_in c)
  unfolding owner_of production_in item_in
  owner_is = sym (ap (λ (q : Production). q.nonterminal) (at_is (c % 2176 / 17) inside))

  shift_is : (m : ℕ) → can_shift T m (item_in c) ≡ shifts_nonterminal (listed (symbol_words g (c % 2176 / 17))) (c % 2176 % 17) m
  unfolding can_shift symbols_of production_in item_in
  shift_is m = rw (ap (λ (q : Production). q.symbols) (at_is (c % 2176 / 17) inside))

  module _ (ne : c / 2176 ≡ 0 → ⊥) where
    shifts : shifts_nonterminal (listed (symbol_words g (c % 2176 / 17))) (c % 2176 % 17) (cursor_of T (item_in c)) ≡ true
    shifts =
        let t : e.target ≡ at_nonterminal (cursor_of T (item_in c)) = sym (ap (λ (f : TraceEdge). f.target) back) ∙ by_target T (c / 2176) (item_in c) ne in
        sym (shift_is (cursor_of T (item_in c))) ∙ rw label_is at (D.traced.cursor (cursor_of T (item_in c)) t)

    before_end : c % 2176 % 17 < length (listed (symbol_words g (c % 2176 / 17)))
    before_end =
        cases (ltb (c % 2176 % 17) (length (listed (symbol_words g (c % 2176 / 17)))))
        (λ l. ltb-true (c % 2176 % 17) (length (listed (symbol_words g (c % 2176 / 17)))) l)
        (λ l. absurd (true≢false (sym shifts ∙ sym (shifts_past (listed (symbol_words g (c % 2176 / 17))) (c % 2176 % 17) (cursor_of T (item_in c)) (ltb-false (c % 2176 % 17) (length (listed (symbol_words g (c % 2176 / 17)))) l)))))

    cursor_small : cursor_of T (item_in c) < 128
    unfolding InRange
    cursor_small =
        let t : e.target ≡ at_nonterminal (cursor_of T (item_in c)) = sym (ap (λ (f : TraceEdge). f.target) back) ∙ by_target T (c / 2176) (item_in c) ne in
        let r : cursor_of T (item_in c) < length T.nonterminals = rw t at D.traced.target in
        let f = D.fits.few_nonterminals in
        omega arith

    words_one : c / 2176 ≡ 1 → 0 ∷ get_or g (c % 2176 / 17 * 36) 0 ∷ 0 ∷ 0 ∷ cursor_of T (item_in c) ∷ 0 ∷ c % 2176 / 17 ∷ c % 2176 % 17 ∷ [] ≡ edge_words e
    unfolding item_in
    words_one k = rw owner_is (sym (one_words T (c % 2176 / 17) (c % 2176 % 17)) ∙ ap edge_words (rw k at back))

    words_two : (c / 2176 ≡ 1 → ⊥) → 1 ∷ c % 2176 / 17 ∷ c % 2176 % 17 ∷ 0 ∷ cursor_of T (item_in c) ∷ 0 ∷ c % 2176 / 17 ∷ c % 2176 % 17 ∷ [] ≡ edge_words e
    unfolding item_in
    words_two k = sym (by_words T (c / 2176) (c % 2176 / 17) (c % 2176 % 17) ne k) ∙ ap edge_words back

  pub words-zero : c / 2176 ≡ 0 → 0 ∷ get_or g (c % 2176 / 17 * 36) 0 ∷ 0 ∷ 1 ∷ c % 2176 / 17 ∷ c % 2176 % 17 ∷ c % 2176 / 17 ∷ c % 2176 % 17 ∷ [] ≡ edge_words e
  unfolding item_in
  words-zero k = rw owner_is (sym (zero-words T (c % 2176 / 17) (c % 2176 % 17)) ∙ ap edge_words (rw k at back))

-- the nonterminal that an item shifts is the number of the symbol at its cursor
pub shifted_number : (xs rest : List Symbol) (i kind number n : ℕ) (s : Symbol) → drop i xs ≡ s ∷ rest → symbol_of_kind kind number ≡ s → shifts_nonterminal xs i n ≡ true → number ≡ n
unfolding shifts_nonterminal symbol_sets first is_nonterminal symbol_of_kind
shifted_number xs rest i kind number n s d e h = go kind (rw (d, ← e) at h)
  where
    go : (k : ℕ) → is_nonterminal n (some (symbol_of_kind k number)) ≡ true → number ≡ n
    go zero t = eqb-true number n t
    go (suc k) t = absurd (true≢false (sym t))

-- the words of productions are those of fewer too
pub packed_fewer : (g : List ℕ) (n m : ℕ) → m ≤ n → Packed g n → Packed g m
packed_fewer g n m h P = record {
  long = P.long;
  few = let f = P.few in omega arith;
  owner = λ p l. P.owner p (omega arith);
  short = λ p l. P.short p (omega arith);
  fits = λ p l. P.fits p (omega arith);
}

-- an edge's production p, and the words of those up to it
module _ (g : List ℕ) (c p : ℕ) (D : (n : ℕ) × ((T : Table) × ((e : TraceEdge) × Decodes g n T e c))) (ep : p ≡ c % 2176 / 17) where
  pub production_inside : p < D.0
  production_inside = rw ep (inside D.1.1.1)

  pub packed_upto : Packed g (p + 1)
  packed_upto = let i = production_inside in packed_fewer g D.0 (p + 1) (omega arith) D.1.1.1.packed

-- as the code has it: the item at index x of production p, w the number of its nonterminal
module _ (g : List ℕ) (c p x w : ℕ) (D : (n : ℕ) × ((T : Table) × ((e : TraceEdge) × Decodes g n T e c))) (ep : p ≡ c % 2176 / 17) (ex : x ≡ c % 2176 % 17) (ew : w ≡ get_or g (p * 36) 0) where
  owner_small : w < 128
  owner_small = let d = D.1.1.1 in let l = d.packed.owner (c % 2176 / 17) (inside d) in rw (ew, ep) (omega arith)

  pub made-zero : c / 2176 ≡ 0 → (SmallEdge (record { source = record { kind = 0; number = w; index = 0 }; target = record { kind = 1; number = p; index = x }; label = record { production = p; index = x } })
      × ((n : ℕ) (T : Table) (e : TraceEdge) → Decodes g n T e c → value_words (record { source = record { kind = 0; number = w; index = 0 }; target = record { kind = 1; number = p; index = x }; label = record { production = p; index = x } }) ≡ edge_words e))
  unfolding value_words
  made-zero k =
      let o = owner_small in (
        record {
          source = record { kind = omega arith; number = o; index = omega arith };
          target = record { kind = omega arith; number = omega arith; index = omega arith };
          production = omega arith;
          index = omega arith;
        },
        λ n T e d. rw (ew, ep, ex) (words-zero d k),
      )

  module _ (ne : c / 2176 ≡ 0 → ⊥) where
    pub cursor_inside : x < length (listed (symbol_words g p))
    cursor_inside = rw (ep, ex) (before_end D.1.1.1 ne)

    -- v: the node of the nonterminal that the item shifts
    module _ (v : Node) (ev : (m : ℕ) → shifts_nonterminal (listed (symbol_words g p)) x m ≡ true → v ≡ record { kind = 0; number = m; index = 0 }) where
      v_is : {n : ℕ} {T : Table} {e : TraceEdge} (d : Decodes g n T e c) → v ≡ record { kind = 0; number = cursor_of T (item_in c); index = 0 }
      v_is {T = T} d = ev (cursor_of T (item_in c)) (rw (ep, ex) (shifts d ne))

      v_small : SmallNode v
      v_small = rw (v_is D.1.1.1) (record { kind = omega arith; number = cursor_small D.1.1.1 ne; index = omega arith })

      pub made_one : c / 2176 ≡ 1 → (SmallEdge (record { source = record { kind = 0; number = w; index = 0 }; target = v; label = record { production = p; index = x } })
          × ((n : ℕ) (T : Table) (e : TraceEdge) → Decodes g n T e c → value_words (record { source = record { kind = 0; number = w; index = 0 }; target = v; label = record { production = p; index = x } }) ≡ edge_words e))
      unfolding value_words
      made_one k = (
        record {
          source = record { kind = omega arith; number = owner_small; index = omega arith };
          target = v_small;
          production = omega arith;
          index = omega arith;
        },
        λ n T e d. rw (v_is d, ew, ep, ex) (words_one d ne k),
      )

      pub made_two : (c / 2176 ≡ 1 → ⊥) → (SmallEdge (record { source = record { kind = 1; number = p; index = x }; target = v; label = record { production = p; index = x } })
          × ((n : ℕ) (T : Table) (e : TraceEdge) → Decodes g n T e c → value_words (record { source = record { kind = 1; number = p; index = x }; target = v; label = record { production = p; index = x } }) ≡ edge_words e))
      unfolding value_words
      made_two k = (
        record {
          source = record { kind = omega arith; number = omega arith; index = omega arith };
          target = v_small;
          production = omega arith;
          index = omega arith;
        },
        λ n T e d. rw (v_is d, ep, ex) (words_two d ne k),
      )
