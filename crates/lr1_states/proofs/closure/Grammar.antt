-- The packed words under specs/closure/Grammar: a production is the table's.
use Rattle.std.proofs.Common.{◌≡◌, ℕ, suc, ◌+◌, ◌*◌, ◌<◌, true, List, [], ◌∷◌, drop, refl, arith}
use Rattle.lr1_base.specs.repr.Meaning.{Table, no_production, production_at}
use Rattle.lr1_base.specs.repr.Listed.{list_is_fit}
use Rattle.lr1_base.specs.repr.Packed.{Packed, symbol_words, production_in, productions_in}
use Rattle.lr1_base.proofs.repr.Lists.{get_d_map-below}
use Rattle.lr1_states.specs.closure.Grammar.{OfTable}
use Rattle.lr1_base.proofs.repr.Parts.{fits-drop}

pub production_at_lem : (T : Table) (g : List ℕ) (n e : ℕ) (sets : List ℕ) → OfTable T g n e sets → (p : ℕ) → p < n → production_at T p ≡ production_in g p
unfolding productions_in
production_at_lem T g n e sets G p h = rw (← G.same) (get_d_map-below (production_in g) n p no_production h)

-- what stands behind the cursor is whole symbols
pub suffix-fits : (g : List ℕ) (n p i : ℕ) → Packed g n → p < n → list_is_fit 32 63 (drop (2 * i + 2) (symbol_words g p)) ≡ true
suffix-fits g n p i P h = let e : 2 * i + 2 ≡ 2 * suc i = omega arith in rw e (fits-drop 32 63 (suc i) (symbol_words g p) (P.fits p h))
