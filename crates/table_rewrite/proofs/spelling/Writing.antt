-- Laws of the writing of a chain record by record, and of chains one behind the other.
use mathlib.Core.Path.{◌≡◌, refl, sym, ap, ◌∙◌}
use mathlib.Core.List.{List, ◌∷◌}
use Prim.Native.Nat.{ℕ, suc, ◌+◌, ◌*◌, ◌≤◌, ◌<◌}
use native.Mathlib.Omega.{arith}
use lib.ListN.{length, get_or}
use lib.Dec.{eqb}
use borrow.Author.Tests.{eqb-true, eqb-false}
use Rattle.lr1_base.specs.repr.Sizes.{record_limit}
use Rattle.lr1_base.specs.repr.Meaning.{Table}
use Rattle.lr1_base.proofs.repr.Lists.{cases}
use Rattle.table.specs.Checked.{Accepted}
use Rattle.table.specs.Words.{word_at}
use Rattle.table.specs.Decoded.{meaning}
use Rattle.table.specs.Refusals.{check_of}
use Rattle.table.specs.Quads.{Quad, no_quad, put_quad}
use Rattle.table_rewrite.specs.spelling.Spelled.{head_of, chain_from, chains_from, size_of, records_of, quads}
use Rattle.table_rewrite.specs.spelling.Grown.{Grown, Room, Stands, records_from, same_quad, LooseIndex, chains_of, Heads}
use Rattle.table_rewrite.proofs.spelling.Laid.{stands_front, stands_back, length_chain_from}
use Rattle.table_rewrite.proofs.spelling.Places.{regions, spell_next, spell_one, spell_two, spell_three}
use Rattle.table_rewrite.proofs.spelling.Grown.{grown-none, grown-join, grown-put, head-none, head-some}
use Rattle.table_rewrite.proofs.spelling.Reading.{records_end, records-more, index_next, chains_end, chains_more, heads_more}

-- those before `at` are written, those from `from` on are left; `past` is the record behind the chain
pub record Writing (t g₀ g : List ℕ) (begin past from at : ℕ) : Type 0 where
  pub room : Room (meaning t) g₀
  pub grown : Grown (meaning t) g₀ g begin at
  pub on : LooseIndex t from
  pub left : at + length (records_from t from) ≡ past
  pub stands : Stands (quads (meaning t)) at (chain_from (same_quad t) at (records_from t from))

stands_tail : (qs : List Quad) (o : ℕ) (x : Quad) (xs : List Quad) → Stands qs o (x ∷ xs) → (get_or qs o no_quad ≡ x) × Stands qs (suc o) xs
stands_tail qs o x xs S =
    let z : o + 0 ≡ o = omega arith in (
      rw z at (S.at 0 (omega arith)),
      record {
        within = omega (arith, S.within);
        at = λ i h. let y : suc o + i ≡ o + suc i = omega arith in rw y (S.at (suc i) (omega arith));
      },
    )

-- a next index is a word
pub follower_small : (next at r : ℕ) → at < record_limit → (next ≡ 0 → r ≡ 0) × ((next ≡ 0 → ⊥) → r ≡ at + 1) → r < 65536
follower_small next at r h n =
    cases (eqb next 0)
    (λ q. let z = n.0 (eqb-true next 0 q) in omega arith)
    (λ q. let z = n.1 (eqb-false next 0 q) in omega arith)

module _ (t : List ℕ) (e : check_of t ≡ Accepted) where
  pub writing_start : (g : List ℕ) (begin head : ℕ) → LooseIndex t head × (Stands (quads (meaning t)) begin (chain_from (same_quad t) begin (records_from t head)) × Room (meaning t) g)
      → Writing t g g begin (begin + length (records_from t head)) head begin
  writing_start g begin head p = record { room = p.1.1; grown = grown-none (meaning t) g begin; on = p.0; left = refl; stands = p.1.0 }

  module _ (g₀ g : List ℕ) (begin past from at : ℕ) (ne : from ≡ 0 → ⊥) (W : Writing t g₀ g begin past from at) where
    -- there is room for one more
    pub writing_room : (at < record_limit) × (at * 4 + 3 < length g)
    writing_room =
        let l = ap length (records-more t e from ne W.on (word_at t from 0) refl) in
        let m = length_chain_from (same_quad t) at (records_from t from) in
        let k : at < records_of (meaning t) = omega (arith, W.stands.within, (regions (meaning t)).long) in
        (omega (arith, W.room.few), omega (arith, W.room.long, W.grown.long))

    module _ (next one two three r : ℕ) (en : next ≡ word_at t from 0) (e1 : one ≡ word_at t from 1) (e2 : two ≡ word_at t from 2) (e3 : three ≡ word_at t from 3)
        (f : (next ≡ 0 → r ≡ 0) × ((next ≡ 0 → ⊥) → r ≡ at + 1)) where
      follower : r ≡ head_of (suc at) (records_from t next)
      follower =
          cases (eqb next 0)
          (λ q. let z = eqb-true next 0 q in f.0 z ∙ sym (head-none (suc at) (records_from t next) (records_end t next z)))
          (λ q.
          let z = eqb-false next 0 q in
          let k : at + 1 ≡ suc at = omega arith in
          f.1 z ∙ k
          ∙ sym (head-some (suc at) next (records_from t next) (records_from t (word_at t next 0))
          (records-more t e next z (index_next t e from ne W.on next en) (word_at t next 0) refl)))

      here : (get_or (quads (meaning t)) at no_quad ≡ same_quad t (head_of (suc at) (records_from t next)) from) × Stands (quads (meaning t)) (suc at) (chain_from (same_quad t) (suc at) (records_from t next))
      unfolding chain_from
      here = stands_tail (quads (meaning t)) at _ _ (rw (records-more t e from ne W.on next en) at W.stands)

      pub writing_step : (g' : List ℕ) → g' ≡ put_quad g at r one two three → Writing t g₀ g' begin past next (at + 1)
      writing_step g' eg =
          let T = meaning t in
          let l = ap length (records-more t e from ne W.on next en) in
          let z : suc at ≡ at + 1 = omega arith in
          let put = grown-put T g at r one two three writing_room.1
          (follower ∙ sym (spell_next T at _ here.0)) (e1 ∙ sym (spell_one T at _ here.0)) (e2 ∙ sym (spell_two T at _ here.0)) (e3 ∙ sym (spell_three T at _ here.0)) in
          record {
            room = W.room;
            grown = rw eg (grown-join T g₀ g (put_quad g at r one two three) begin at (at + 1) W.grown put);
            on = index_next t e from ne W.on next en;
            left = omega (arith, W.left);
            stands = rw z at here.1;
          }

  pub writing_end : (g₀ g : List ℕ) (begin past from at : ℕ) → from ≡ 0 → Writing t g₀ g begin past from at → (at ≡ past) × Grown (meaning t) g₀ g begin at
  writing_end g₀ g begin past from at z W = let l = ap length (records_end t from z) in (omega (arith, W.left), W.grown)

pub room_same : (T : Table) (g g' : List ℕ) → length g' ≡ length g → Room T g → Room T g'
room_same T g g' e R = record { few = R.few; long = omega (arith, R.long) }

-- the chains of the holders before `holder` are written; `end` is the record behind all
pub record Walk (t g₀ g : List ℕ) (begin end past k holder at : ℕ) : Type 0 where
  pub heads : Heads t holder past k
  pub room : Room (meaning t) g
  pub grown : Grown (meaning t) g₀ g begin at
  pub left : at + size_of (chains_of t holder past k) ≡ end
  pub stands : Stands (quads (meaning t)) at (chains_from (same_quad t) at (chains_of t holder past k))

module _ (t : List ℕ) where
  pub walk_start : (g : List ℕ) (first past k begin : ℕ) → Heads t first past k × (Stands (quads (meaning t)) begin (chains_from (same_quad t) begin (chains_of t first past k)) × Room (meaning t) g)
      → Walk t g g begin (begin + size_of (chains_of t first past k)) past k first begin
  walk_start g first past k begin p = record { heads = p.0; room = p.1.1; grown = grown-none (meaning t) g begin; left = refl; stands = p.1.0 }

  module _ (g₀ g : List ℕ) (begin end past k holder at head : ℕ) (h : holder < past) (eh : head ≡ word_at t holder k) (W : Walk t g₀ g begin end past k holder at) where
    split : Stands (quads (meaning t)) at (chain_from (same_quad t) at (records_from t head))
        × Stands (quads (meaning t)) (at + length (records_from t head)) (chains_from (same_quad t) (at + length (records_from t head)) (chains_of t (holder + 1) past k))
    unfolding chains_from
    split =
        let more : chains_of t holder past k ≡ records_from t head ∷ chains_of t (holder + 1) past k = rw eh (chains_more t holder past k h) in
        let S = rw more at W.stands in
        let xs = chain_from (same_quad t) at (records_from t head) in
        let ys = chains_from (same_quad t) (at + length (records_from t head)) (chains_of t (holder + 1) past k) in
        (stands_front (quads (meaning t)) at xs ys S, rw (length_chain_from (same_quad t) at (records_from t head)) at (stands_back (quads (meaning t)) at xs ys S))

    pub walk_asks : LooseIndex t head × (Stands (quads (meaning t)) at (chain_from (same_quad t) at (records_from t head)) × Room (meaning t) g)
    walk_asks = (rw eh (W.heads.heads holder (omega arith) h), (split.0, W.room))

    pub walk_step : (g' : List ℕ) (next : ℕ) → (next ≡ at + length (records_from t head)) × Grown (meaning t) g g' at next → Walk t g₀ g' begin end past k (holder + 1) next
    unfolding size_of
    walk_step g' next p =
        let l : size_of (chains_of t holder past k) ≡ length (records_from t head) + size_of (chains_of t (holder + 1) past k) = ap size_of (chains_more t holder past k h) ∙ rw (← eh) in
        record {
          heads = heads_more t holder past k W.heads h;
          room = room_same (meaning t) g g' p.1.long W.room;
          grown = grown-join (meaning t) g₀ g g' begin at next W.grown p.1;
          left = omega (arith, W.left, p.0);
          stands = rw p.0 split.1;
        }

  pub walk_end : (g₀ g : List ℕ) (begin end past k holder at : ℕ) → past ≤ holder → Walk t g₀ g begin end past k holder at → (at ≡ end) × Grown (meaning t) g₀ g begin at
  unfolding size_of
  walk_end g₀ g begin end past k holder at h W = let l : size_of (chains_of t holder past k) ≡ 0 = ap size_of (chains_end t holder past k h) in (omega (arith, W.left), W.grown)
