-- Laws of the whole writer: all regions one after the other, and the three answers.
use mathlib.Core.Path.{◌≡◌, sym, ap, ◌∙◌}
use mathlib.Core.Bool.{false}
use mathlib.Core.List.{List}
use Prim.Native.Nat.{ℕ, suc, ◌+◌, ◌-◌, ◌*◌, ◌/◌, ◌≤◌, ◌<◌, min}
use native.Mathlib.Omega.{arith}
use lib.ListN.{length}
use Rattle.lr1_base.specs.repr.Reply.{answered, refused}
use Rattle.lr1_base.specs.repr.Sizes.{record_limit}
use Rattle.lr1_base.specs.repr.Meaning.{Table}
use Rattle.lr1_base.proofs.repr.Lists.{cases}
use Rattle.table.specs.Checked.{Accepted}
use Rattle.table.specs.Decoded.{meaning}
use Rattle.table.specs.Refusals.{check_of}
use Rattle.table.specs.Quads.{put_quad}
use Rattle.table.proofs.Quads.{put_long}
use Rattle.table_rewrite.specs.spelling.Spelled.{chains_from, quads, size_of, symbol_lists, item_lists, edge_lists, states_at, productions_at, symbols_at, items_place, edges_at, records_of}
use Rattle.table_rewrite.specs.spelling.Grown.{Grown, Room, Stands, same_quad, chains_of, SizesOf}
use Rattle.table_rewrite.specs.spelling.Outcome.{room_for, written_of}
use Rattle.table_rewrite.proofs.spelling.Places.{begins}
use Rattle.table_rewrite.proofs.spelling.Grown.{grown-join, grown-all}
use Rattle.table_rewrite.proofs.spelling.Sources.{Source, symbol-source, item-source, edge_source}
use Rattle.table_rewrite.proofs.spelling.Wrote.{room_is, room_for_lem, front_is}

pub all_grown : (T : Table) (g g₁ g₂ g₃ g₄ g₅ g₆ g₇ : List ℕ) (b c d : ℕ) → Grown T g g₁ 0 1 → Grown T g₁ g₂ 1 (states_at T) → Grown T g₂ g₃ (states_at T) (productions_at T)
    → Grown T g₃ g₄ (productions_at T) (symbols_at T) → (b ≡ symbols_at T + size_of (symbol_lists T)) × Grown T g₄ g₅ (symbols_at T) b
    → (c ≡ items_place T + size_of (item_lists T)) × Grown T g₅ g₆ (items_place T) c → (d ≡ edges_at T + size_of (edge_lists T)) × Grown T g₆ g₇ (edges_at T) d → Grown T g g₇ 0 (records_of T)
all_grown T g g₁ g₂ g₃ g₄ g₅ g₆ g₇ b c d G₁ G₂ G₃ G₄ P Q R =
    let k = begins T in
    let G₅ = rw (P.0 ∙ sym k.items) at P.1 in
    let G₆ = rw (Q.0 ∙ sym k.edges) at Q.1 in
    let G₇ = rw (R.0 ∙ sym k.past) at R.1 in
    grown-join T g g₆ g₇ 0 (edges_at T) (records_of T)
    (grown-join T g g₅ g₆ 0 (items_place T) (edges_at T)
    (grown-join T g g₄ g₅ 0 (symbols_at T) (items_place T)
    (grown-join T g g₃ g₄ 0 (productions_at T) (symbols_at T) (grown-join T g g₂ g₃ 0 (states_at T) (productions_at T) (grown-join T g g₁ g₂ 0 1 (states_at T) G₁ G₂) G₃) G₄) G₅) G₆) G₇

-- a region, as `write_chains` leaves it
module _ (t g : List ℕ) (first past k o n begin : ℕ) (S : Source t first past k o n) (eb : begin ≡ o) where
  pub source_stands : Stands (quads (meaning t)) begin (chains_from (same_quad t) begin (chains_of t first past k))
  source_stands = rw eb S.stands

  pub source-done : (g' : List ℕ) (r : ℕ) → (r ≡ begin + size_of (chains_of t first past k)) × Grown (meaning t) g g' begin r → (r ≡ o + n) × Grown (meaning t) g g' o r
  source-done g' r p = (omega (arith, p.0, S.size), rw eb at p.1)

pub room-first : (T : Table) (g : List ℕ) → Room T g → 0 * 4 + 3 < length g
room-first T g R = let b = begins T in omega (arith, R.long)

pub put_same : (g g' : List ℕ) (r a b c d : ℕ) → g' ≡ put_quad g r a b c d → length g' ≡ length g
put_same g g' r a b c d e = ap length e ∙ put_long g r a b c d

-- counted up to 8,193, one region more
counted : (x m n a : ℕ) → x ≡ min m (suc record_limit) → a ≡ min n ((suc record_limit) - x) → x + a ≡ min (m + n) (suc record_limit)
counted x m n a e f = omega arith

uncounted : (x m : ℕ) → x ≡ m → x ≤ suc record_limit → x ≡ min m (suc record_limit)
uncounted x m e h = omega arith

-- the regions by their numbers, as the code asks for them
module _ (t : List ℕ) (e : check_of t ≡ Accepted) (first past k : ℕ) where
  pub symbols-source : (first ≡ productions_at (meaning t)) × ((past ≡ symbols_at (meaning t)) × (k ≡ 1)) → Source t first past k (symbols_at (meaning t)) (size_of (symbol_lists (meaning t)))
  symbols-source h = rw (h.0, h.1.0, h.1.1) (symbol-source t e)

  pub items_source : (first ≡ states_at (meaning t)) × ((past ≡ productions_at (meaning t)) × (k ≡ 0)) → Source t first past k (items_place (meaning t)) (size_of (item_lists (meaning t)))
  items_source h = rw (h.0, h.1.0, h.1.1) (item-source t e)

  pub edges_source : (first ≡ states_at (meaning t)) × ((past ≡ productions_at (meaning t)) × (k ≡ 1)) → Source t first past k (edges_at (meaning t)) (size_of (edge_lists (meaning t)))
  edges_source h = rw (h.0, h.1.0, h.1.1) (edge_source t e)

pub sizes_of : (T : Table) (y x z w a b c : ℕ) → y ≡ symbols_at T → y ≤ suc record_limit → size_of (symbol_lists T) ≡ x → size_of (item_lists T) ≡ z → size_of (edge_lists T) ≡ w
    → a ≡ min x ((suc record_limit) - y) → b ≡ min z ((suc record_limit) - (y + a)) → c ≡ min w ((suc record_limit) - (y + a + b))
    → SizesOf T y (y + a) (y + a + b) (y + a + b + c)
sizes_of T y x z w a b c ey f ex ez ew ea eb ec =
    let k = begins T in
    let i : y + a ≡ min (items_place T) (suc record_limit) = counted y (symbols_at T) (size_of (symbol_lists T)) a (uncounted y (symbols_at T) ey f) (rw ex ea) ∙ rw k.items in
    let d : y + a + b ≡ min (edges_at T) (suc record_limit) = counted (y + a) (items_place T) (size_of (item_lists T)) b i (rw ez eb) ∙ rw k.edges in
    let r : y + a + b + c ≡ min (records_of T) (suc record_limit) = counted (y + a + b) (edges_at T) (size_of (edge_lists T)) c d (rw ew ec) ∙ rw k.past in
    record { symbols = ey; items = i; edges = d; records = r }

module _ (T : Table) (g : List ℕ) where
  none : room_for T g ≡ false → record { answer = refused 17 0; out = g } ≡ written_of T g
  unfolding written_of
  none f = rw (f, written_of)

  pub written_many : (r : ℕ) → r ≡ min (records_of T) (suc record_limit) → record_limit < r → record { answer = refused 17 0; out = g } ≡ written_of T g
  written_many r e h = none (cases (room_for T g) (λ f. let w = (room_is T g f).0 in absurd (omega arith)) (λ f. f))

  pub written_short : (r : ℕ) → r ≡ min (records_of T) (suc record_limit) → length g / 4 < r → record { answer = refused 17 0; out = g } ≡ written_of T g
  written_short r e h = none (cases (room_for T g) (λ f. let w = (room_is T g f).1 in absurd (omega arith)) (λ f. f))

  -- what was counted to the end, and room for it
  module _ (y i d r : ℕ) (S : SizesOf T y i d r) (h : r ≤ record_limit) (l : r ≤ length g / 4) where
    counted-all : r ≡ records_of T
    counted-all = omega (arith, S.records)

    pub written_asks : (y ≡ symbols_at T) × ((i ≡ items_place T) × ((d ≡ edges_at T) × Room T g))
    written_asks =
        let b = begins T in
        let c = counted-all in
        let ei : i ≡ items_place T = omega (arith, S.items, b.edges, b.past) in
        let ed : d ≡ edges_at T = omega (arith, S.edges, b.past) in
        (S.symbols, (ei, (ed, record { few = omega arith; long = omega arith })))

    pub written-done : (g' : List ℕ) → Grown T g g' 0 (records_of T) → record { answer = answered r; out = g' } ≡ written_of T g
    unfolding written_of
    written-done g' G =
        let c = counted-all in
        rw (c, grown-all T g g' written_asks.1.1.1 G ∙ sym (front_is T g), room_for_lem T g (omega arith) (omega arith), written_of)
