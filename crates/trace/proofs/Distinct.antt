-- Laws of lists of items: what keeping keeps, and an item's code.
use Rattle.std.proofs.Common.{◌≡◌, ◌+◌, ◌*◌, ◌/◌, ◌%◌, ◌<◌, Bool, true, List, [], ◌∷◌, ap, ◌∙◌, arith}
use mathlib.Core.List.Memᴰ
use mathlib.Core.List.{Memᴰ}
use Rattle.lr1_base.specs.repr.Sizes.{index_limit, item_limit}
use Rattle.lr1_base.specs.repr.Lists.{keep}
use Rattle.lr1_base.specs.repr.Meaning.{Item, Table, no_production, TableFits, ItemFits, ProductionFits}
use Rattle.lr1_base.proofs.repr.Lists.{cases, keep-nil, keep-yes, keep_no}
use Rattle.lr1_base.proofs.repr.Tests.{All_at}
use Rattle.lr1_base.specs.item.Places.{item_at_place}

pub kept_member : (t : Item → Bool) (j : Item) (is : List Item) → Memᴰ j (keep t is) → Memᴰ j is × (t j ≡ true)
kept_member t j [] m = absurd (Memᴰ.not-nil (rw (keep-nil t) at m))
kept_member t j (i ∷ is) m =
    let rest = kept_member t j is in
    cases (t i)
    (λ e. here e rest (rw (keep-yes t i is e) at m))
    (λ e. let r = rest (rw (keep_no t i is e) at m) in (Memᴰ.tail r.0, r.1))
  where
    here : t i ≡ true → (Memᴰ j (keep t is) → Memᴰ j is × (t j ≡ true)) → Memᴰ j (i ∷ keep t is) → Memᴰ j (i ∷ is) × (t j ≡ true)
    here e rest (Memᴰ.head q) = (Memᴰ.head q, ap t q ∙ e)
    here e rest (Memᴰ.tail k) = let r = rest k in (Memᴰ.tail r.0, r.1)

-- an item's code

pub code-item : (i : Item) → i.index < index_limit → item_at_place (i.production * index_limit + i.index) ≡ i
unfolding item_at_place
code-item i h =
    let p : (i.production * index_limit + i.index) / index_limit ≡ i.production = omega arith in
    let q : (i.production * index_limit + i.index) % index_limit ≡ i.index = omega arith in
    λ j. record { production = p j; index = q j }

pub code_small : (T : Table) → TableFits T → (i : Item) → ItemFits T i → (i.index < index_limit) × (i.production * index_limit + i.index < item_limit)
code_small T fits i h =
    let a = (All_at (ProductionFits T) T.productions i.production no_production fits.productions h.production).short in
    let b = fits.few_productions_lem in
    let c = h.production in
    let d = h.index in
    (omega arith, omega arith)
