-- The passes of `compact` one after the other, over the areas that were read: what each asks, and what all leave.
use mathlib.Core.Path.{◌≡◌, sym, ap, ◌∙◌}
use mathlib.Core.List.{List}
use Prim.Native.Nat.{ℕ, ◌*◌, ◌≤◌, ◌<◌}
use native.Mathlib.Omega.{arith}
use lib.ListN.{length, replicate}
use lib.Dec.{eqb}
use borrow.Author.Tests.{eqb-true, eqb-false}
use Rattle.lr1_base.specs.repr.Reply.{answered}
use Rattle.lr1_base.specs.repr.Sizes.{record_limit}
use Rattle.lr1_base.proofs.repr.Lists.{cases}
use Rattle.table.specs.Checked.{Accepted}
use Rattle.table.specs.Words.{word_at, records, state_area, production_area, loose}
use Rattle.table.specs.Refusals.{check_of}
use Rattle.table.specs.Quads.{Quad}
use Rattle.table.proofs.Accepted.{Accepts, accepts, areas_of}
use Rattle.table_check.specs.Known.{AreasOf}
use Rattle.table_check.specs.declared.areas.Areas.{Areas}
use Rattle.table_rewrite.specs.compaction.Compaction.{count_of, compacted}
use Rattle.table_rewrite.specs.compaction.Outcome.{Outcome, compact_of}
use Rattle.table_rewrite.specs.compaction.Passes.{Headed, HeadsMarked, Numbering, Numbers, Closing, Followed, Freed}
use Rattle.table_rewrite.proofs.compaction.Theorems.{count_most}
use Rattle.table_rewrite.proofs.compaction.Numbering.{items_headed, others_headed, reached-below, numbering_start}
use Rattle.table_rewrite.proofs.compaction.InPlace.{compacted_by}
use Rattle.table_rewrite.proofs.compaction.Called.{accepted_outcome}

pub count_fits : (t : List ℕ) (n : ℕ) → check_of t ≡ Accepted → n ≡ count_of t → n ≤ record_limit
count_fits t n e c = let m = count_most t e in let f = (accepts t e).few_records in omega arith

-- a head is the index of a number
head-below : (t ms : List ℕ) (first past k : ℕ) → Accepts t → Numbers t ms → Headed t first past k → (r : ℕ) → first ≤ r → r < past → word_at t r k < length ms
unfolding Headed
head-below t ms first past k A N H r a b =
    cases (eqb (word_at t r k) 0)
    (λ q. let z = eqb-true (word_at t r k) 0 q in omega (arith, N.long))
    (λ q. let l = reached-below t A (word_at t r k) (H r a b (eqb-false (word_at t r k) 0 q)) in omega (arith, N.long))

module _ (t : List ℕ) (a : Areas) (A : Accepts t) (P : AreasOf t a) where
  pub items_asked : (a.states_at ≤ a.productions_at) × ((a.productions_at ≤ loose t) × ((0 < 4) × Headed t a.states_at a.productions_at 0))
  items_asked = let d = areas_of t in rw (P.states_at, P.productions_at) (omega arith, (omega arith, (omega arith, items_headed t A)))

  pub others_asked : (a.states_at ≤ a.loose_at) × ((a.loose_at ≤ loose t) × ((1 < 4) × Headed t a.states_at a.loose_at 1))
  others_asked = let d = areas_of t in rw (P.states_at, P.loose_at) (omega arith, (omega arith, (omega arith, others_headed t A)))

  pub numbering_begun : (ms ms₁ ms₂ : List ℕ) → ms ≡ replicate record_limit 0 → HeadsMarked t a.states_at a.productions_at 0 ms ms₁
      → HeadsMarked t a.states_at a.loose_at 1 ms₁ ms₂ → Numbering t ms₂ (loose t)
  numbering_begun ms ms₁ ms₂ e H K = numbering_start t ms ms₁ ms₂ record_limit e (rw (P.states_at, P.productions_at) at H) (rw (P.states_at, P.loose_at) at K)

  module _ (ms g₁ : List ℕ) (N : Numbers t ms) (C : Closing t g₁ (records t)) where
    pub follow_items_asked : ((a.states_at ≤ a.productions_at) × ((a.productions_at ≤ record_limit) × ((a.productions_at * 4 ≤ length g₁) × (0 < 4))))
        × ((r : ℕ) → a.states_at ≤ r → r < a.productions_at → word_at g₁ r 0 < length ms)
    follow_items_asked =
        let d = areas_of t in
        let w = A.words in
        let f = A.few_records in
        let i = A.areas in
        let l = C.long in
        rw (P.states_at, P.productions_at) (
          (omega arith, (omega arith, (omega arith, omega arith))),
          λ r b c. rw (ap (λ (q : Quad). q.next) (C.areas r (omega arith))) (head-below t ms (state_area t) (production_area t) 0 A N (items_headed t A) r b c),
        )

    module _ (g₂ : List ℕ) (F : Followed ms g₁ g₂ a.states_at a.productions_at 0) where
      pub follow_others_asked : ((a.states_at ≤ a.loose_at) × ((a.loose_at ≤ record_limit) × ((a.loose_at * 4 ≤ length g₂) × (1 < 4))))
          × ((r : ℕ) → a.states_at ≤ r → r < a.loose_at → word_at g₂ r 1 < length ms)
      follow_others_asked =
          let d = areas_of t in
          let w = A.words in
          let f = A.few_records in
          let i = A.areas in
          let l = C.long in
          let m = F.long in
          rw (P.states_at, P.loose_at) (
            (omega arith, (omega arith, (omega arith, omega arith))),
            λ r b c. rw (F.word r 1 (omega arith) (λ z. omega arith) ∙ ap (λ (q : Quad). q.one) (C.areas r c)) (head-below t ms (state_area t) (loose t) 1 A N (others_headed t A) r b c),
          )

      pub closed : (g₃ g₄ : List ℕ) (n : ℕ) → Followed ms g₂ g₃ a.states_at a.loose_at 1 → n ≡ count_of t → Freed g₃ g₄ n → g₄ ≡ compacted t
      closed g₃ g₄ n H e Z = compacted_by t ms g₁ g₂ g₃ g₄ A N C (rw (P.states_at, P.productions_at) at F) (rw (P.states_at, P.loose_at) at H) (rw e at Z)

made : (n k : ℕ) (g u : List ℕ) → n ≡ k → g ≡ u → ◌≡◌ {A = Outcome} (record { answer = answered n; table = g }) (record { answer = answered k; table = u })
made n k g u p q = rw (p, q)

pub close_answered : (t g : List ℕ) (n : ℕ) → check_of t ≡ Accepted → (n ≡ count_of t) × (g ≡ compacted t) → record { answer = answered n; table = g } ≡ compact_of t
close_answered t g n e w = made n (count_of t) g (compacted t) w.0 w.1 ∙ sym (accepted_outcome t e)
