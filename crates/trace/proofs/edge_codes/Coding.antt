-- An edge added to a trace's edges in words (specs/edge_codes/Coded). A fact that has to do with `TableFits` takes it first.
use Rattle.std.proofs.Common.{◌≡◌, ℕ, ◌+◌, ◌*◌, ◌/◌, ◌<◌, ◌≤◌, true, false, eqb, ltb, List, [], ◌∷◌, ◌++◌, length, get_or, set, replicate, sym, refl, ap, ◌∙◌, arith, length-append, length-set, get_or-set_other, get_or-set_same, get_or-append-add, ltb-false, ltb-true, eqb-true}
use mathlib.Core.Bool.{or-false, or-true}
use lib.ListN.{get_or-append}
use borrow.Author.Tests.{eqb-false}
use Rattle.lr1_base.specs.repr.Lists.{some?}
use Rattle.lr1_base.specs.repr.Meaning.{Production, Table, TableFits, All}
use Rattle.lr1_base.proofs.repr.Lists.{cases}
use Rattle.lr1_base.proofs.repr.Tests.{some?-nil, some?-cons, some?-append}
use Rattle.trace_graph.specs.Graph.{TraceEdge, is_same_edge, add, no_edge}
use Rattle.trace.proofs.Once.{add_there, add_new, add-all}
use Rattle.trace.specs.Sound.{EdgeSound}
use Rattle.lr1_base.specs.bits.Bits.{bit_at, bit_put}
use Rattle.lr1_base.proofs.bits.Laws.{zeros_none, put-length, put_here, put_other}
use Rattle.trace.specs.edge_codes.Codes.{code_of, key_by, key_of}
use Rattle.trace.specs.edge_codes.Coded.{Coded, Leasts}
use Rattle.trace.proofs.edge_codes.Keys.{same_key, key_one, key-other}
use Rattle.lr1_base.specs.item.Places.{item_place}

module _ (T : Table) (fits : TableFits T) where
  -- an equal edge is there exactly if the key's flag is set

  some_key : (e : TraceEdge) → EdgeSound T e → (es : List TraceEdge) → All (EdgeSound T) es
      → some? (is_same_edge T.productions e) es ≡ some? (λ f. eqb (key_of T.productions (code_of e)) (key_of T.productions (code_of f))) es
  unfolding All
  some_key e t [] h = some?-nil (is_same_edge T.productions e) ∙ sym (some?-nil (λ f. eqb (key_of T.productions (code_of e)) (key_of T.productions (code_of f))))
  some_key e t (f ∷ es) h =
      let rest = some_key e t es h.1 in
      some?-cons (is_same_edge T.productions e) f es
      ∙ rw (same_key T fits e f t h.0, rest) (sym (some?-cons (λ f. eqb (key_of T.productions (code_of e)) (key_of T.productions (code_of f))) f es))

  module _ (ws fs : List ℕ) (es : List TraceEdge) (e : TraceEdge) (C : Coded T ws fs es) (t : EdgeSound T e) (code key : ℕ) (ec : code ≡ code_of e) (ek : key ≡ key_of T.productions (code_of e)) (small : key < 6528) where
    pub there : some? (is_same_edge T.productions e) es ≡ bit_at fs key
    there = some_key e t es C.traced ∙ rw (← ek) (sym (C.keys key small))

    pub coded_there : bit_at fs key ≡ true → Coded T ws fs (add T.productions e es)
    coded_there b = rw (add_there T.productions e es (there ∙ b)) C

    pub coded_full : bit_at fs key ≡ false → 1024 ≤ get_or ws 0 0 → 1024 < length (add T.productions e es)
    coded_full b h =
        let c = C.count in
        rw (add_new T.productions e es (there ∙ b), length-append es (e ∷ [])) (omega arith)

    module _ (b : bit_at fs key ≡ false) (room : get_or ws 0 0 < 1024) where
      new_words : List ℕ
      new_words = set (set ws (1 + get_or ws 0 0) code) 0 (get_or ws 0 0 + 1)

      at_new : get_or new_words (1 + get_or ws 0 0) 0 ≡ code
      unfolding new_words
      at_new =
          let l = C.long in
          get_or-set_other (set ws (1 + get_or ws 0 0) code) 0 (1 + get_or ws 0 0) (get_or ws 0 0 + 1) 0 (λ q. omega arith)
          ∙ get_or-set_same ws (1 + get_or ws 0 0) code 0 (omega arith)

      at_old : (j : ℕ) → j < get_or ws 0 0 → get_or new_words (1 + j) 0 ≡ get_or ws (1 + j) 0
      unfolding new_words
      at_old j h =
          get_or-set_other (set ws (1 + get_or ws 0 0) code) 0 (1 + j) (get_or ws 0 0 + 1) 0 (λ q. omega arith)
          ∙ get_or-set_other ws (1 + get_or ws 0 0) (1 + j) code 0 (λ q. omega arith)

      codes_new : (j : ℕ) → j < length (es ++ e ∷ []) → get_or new_words (1 + j) 0 ≡ code_of (get_or (es ++ e ∷ []) j no_edge)
      codes_new j h =
          let c = C.count in
          let n : length (es ++ e ∷ []) ≡ length es + 1 = length-append es (e ∷ []) in
          cases (ltb j (length es))
          (λ q.
          let l = ltb-true j (length es) q in
          at_old j (omega arith) ∙ C.codes j l ∙ ap code_of (sym (get_or-append es (e ∷ []) no_edge j l)))
          (λ q.
          let l = ltb-false j (length es) q in
          let z : j ≡ get_or ws 0 0 = omega arith in
          let y : j ≡ length es + 0 = omega arith in
          ap (λ (k : ℕ). get_or new_words (1 + k) 0) z ∙ at_new ∙ ec
          ∙ ap code_of (sym (ap (λ (k : ℕ). get_or (es ++ e ∷ []) k no_edge) y ∙ get_or-append-add es (e ∷ []) 0 no_edge)))

      keys_new : (k : ℕ) → k < 6528 → bit_at (bit_put fs key) k ≡ some? (λ f. eqb k (key_of T.productions (code_of f))) (es ++ e ∷ [])
      keys_new k h =
          let l = C.flags in
          let p : key / 64 < length fs = omega arith in
          let one : some? (λ f. eqb k (key_of T.productions (code_of f))) (e ∷ []) ≡ eqb k key =
          some?-cons (λ f. eqb k (key_of T.productions (code_of f))) e [] ∙ rw (some?-nil (λ (f : TraceEdge). eqb k (key_of T.productions (code_of f))), ← ek) (or-false (eqb k key)) in
          rw (some?-append (λ f. eqb k (key_of T.productions (code_of f))) es (e ∷ []), one, ← (C.keys k h))
          (cases (eqb k key)
          (λ q. let z = eqb-true k key q in rw (q, or-true (bit_at fs k), z) (put_here fs key p))
          (λ q. rw (q, or-false (bit_at fs k)) (put_other fs key k p (eqb-false k key q))))

      pub coded_new : Coded T (set (set ws (1 + get_or ws 0 0) code) 0 (get_or ws 0 0 + 1)) (bit_put fs key) (add T.productions e es)
      unfolding new_words
      coded_new =
          let c = C.count in
          let l = C.long in
          let all = add-all T.productions (EdgeSound T) e es t C.traced in
          let an = add_new T.productions e es (there ∙ b) in
          rw an (record {
            long = length-set (set ws (1 + get_or ws 0 0) code) 0 (get_or ws 0 0 + 1) ∙ length-set ws (1 + get_or ws 0 0) code ∙ C.long;
            flags = put-length fs key ∙ C.flags;
            few = rw (length-append es (e ∷ [])) (omega arith);
            count = get_or-set_same (set ws (1 + get_or ws 0 0) code) 0 (get_or ws 0 0 + 1) 0 (rw (length-set ws (1 + get_or ws 0 0) code) (omega arith)) ∙ rw (length-append es (e ∷ []), c);
            codes = codes_new;
            keys = keys_new;
            traced = rw an at all;
          })

-- the key as the code makes it

pub coded_none : (T : Table) (ws : List ℕ) → length ws ≡ 1025 → get_or ws 0 0 ≡ 0 → Coded T ws (replicate 102 0) []
unfolding some? All
coded_none T ws l z = record {
  long = l;
  flags = refl;
  few = omega arith;
  count = z;
  codes = λ j h. absurd (omega arith);
  keys = λ k h. zeros_none 102 k;
  traced = tt;
}

pub key-least : (ps : List Production) (ls : List ℕ) (p x : ℕ) → Leasts ps ls → p < length ps → 2176 + (get_or ls p 0 * 17 + x) ≡ key_by ps 1 (record { production = p; index = x })
key-least ps ls p x L h = rw (L.exact p h) (sym (key_one ps (record { production = p; index = x })))

pub key_itself : (ps : List Production) (k p x : ℕ) → (k ≡ 1 → ⊥) → k * 2176 + (p * 17 + x) ≡ key_by ps k (record { production = p; index = x })
unfolding item_place
key_itself ps k p x ne = sym (key-other ps k (record { production = p; index = x }) ne)
