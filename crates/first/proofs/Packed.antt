-- The productions in words (specs/repr/Packed of lr1_base) are small enough for the sets to be words of 64 bits.
use mathlib.Core.Path.{◌≡◌, refl, ap, ◌∙◌}
use mathlib.Core.Bool.{true, false}
use mathlib.Core.List.{List, [], ◌∷◌, ◌++◌, map}
use Prim.Native.Nat.{ℕ, zero, suc, ◌≤◌, ◌<◌}
use native.Mathlib.Omega.{arith}
use borrow.Author.Tests.{ltb-true}
use Rattle.lr1_base.specs.repr.Sizes.{nonterminal_limit, terminal_limit}
use Rattle.lr1_base.specs.repr.Lists.{below, up_from}
use Rattle.lr1_base.specs.repr.Meaning.{Production, All, no_production}
use Rattle.lr1_base.specs.repr.Listed.{symbol_of_kind, listed, symbol_is_fit, list_is_fit}
use Rattle.lr1_base.specs.repr.Packed.{Packed, symbol_words, production_in, productions_in}
use Rattle.lr1_base.proofs.repr.Lists.{cases, clash, below_last, length-map-below, get_d_map-below}
use Rattle.lr1_base.proofs.repr.Tests.{All_intro}
use Rattle.first.proofs.Join.{TerminalBelow}
use Rattle.first.proofs.Least.{ProductionSmall, Small}

kind_below : (k x : ℕ) → symbol_is_fit nonterminal_limit terminal_limit k x ≡ true → TerminalBelow 64 (symbol_of_kind k x)
unfolding symbol_is_fit symbol_of_kind TerminalBelow
kind_below zero x h = tt
kind_below (suc zero) x h = omega (arith, ltb-true x 63 h)
kind_below (suc (suc k)) x h = clash false h refl

pub listed_below : (ws : List ℕ) → list_is_fit nonterminal_limit terminal_limit ws ≡ true → All (TerminalBelow 64) (listed ws)
unfolding list_is_fit listed All
listed_below [] h = tt
listed_below (k ∷ []) h = tt
listed_below (k ∷ x ∷ ws) h =
    let rest = listed_below ws in
    cases (symbol_is_fit nonterminal_limit terminal_limit k x) (λ e. (kind_below k x e, rest (rw e at h))) (λ e. clash false (rw e at h) refl)

pub packed_one : (g : List ℕ) (n p : ℕ) → Packed g n → p < n → ProductionSmall (production_in g p)
unfolding production_in
packed_one g n p P h = record { owner = P.owner p h; symbols = listed_below (symbol_words g p) (P.fits p h) }

pub packed_small : (e : ℕ) (g : List ℕ) (n : ℕ) → Packed g n → e ≤ terminal_limit → Small e (productions_in g n)
unfolding productions_in
packed_small e g n P h = record {
  end = h;
  productions = All_intro ProductionSmall (map (production_in g) (below n)) no_production (λ i l.
      let k : i < n = rw (length-map-below (production_in g) n) at l in
      rw (get_d_map-below (production_in g) n i no_production k) (packed_one g n i P k));
}

-- one production more
pub productions_in-none : (g : List ℕ) → productions_in g 0 ≡ []
unfolding productions_in below up_from
productions_in-none g = refl

map_snoc : (f : ℕ → Production) (xs : List ℕ) (x : ℕ) → map f (xs ++ x ∷ []) ≡ map f xs ++ f x ∷ []
map_snoc f [] x = refl
map_snoc f (y ∷ xs) x = ap (λ (l : List Production). f y ∷ l) (map_snoc f xs x)

pub productions_in-more : (g : List ℕ) (n : ℕ) → productions_in g (suc n) ≡ productions_in g n ++ production_in g n ∷ []
unfolding productions_in
productions_in-more g n = ap (map (production_in g)) (below_last n) ∙ map_snoc (production_in g) (below n) n
