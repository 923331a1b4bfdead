-- The least equal production as the code finds it.
use Rattle.std.proofs.Common.{◌≡◌, ℕ, ◌+◌, ◌*◌, ◌<◌, ◌≤◌, true, false, eqb, List, length, get_or, set, replicate, sym, ap, ◌∙◌, arith, length-set, get_or-set_other, get_or-set_same, lt-ltb, eq-eqb, ne_eqb, eqb-true, le-leb}
use Rattle.std.specs.Prelude.{Option, Some, None, MatchOption}
use Rattle.std.specs.Option.{unwrap_or}
use lib.ListN.{length-replicate}
use borrow.Author.Tests.{eqb-false}
use Rattle.lr1_base.specs.repr.Meaning.{Production, no_production}
use Rattle.lr1_base.specs.repr.Packed.{productions_in}
use Rattle.lr1_base.proofs.repr.Lists.{cases}
use Rattle.lr1_base.proofs.repr.Tests.{first?-below_intro}
use Rattle.table.specs.Decoded.{or_zero}
use Rattle.trace_graph.specs.Graph.{label_of, same_sets}
use Rattle.trace_graph.specs.Fits.{item_is_fit}
use Rattle.trace_graph.proofs.Labels.{same_label_is}
use Rattle.trace.proofs.Steps.{packed_owner}
use Rattle.trace.specs.edge_codes.Codes.{is_same_production, least_alike}
use Rattle.trace.specs.edge_codes.Coded.{Leasts}
use Rattle.trace.proofs.edge_codes.Keys.{same_refl}
use Rattle.lr1_base.proofs.laws.Lists.{zero_at}
use Rattle.lr1_base.proofs.repr.Packed.{productions_long}

pub begins : (g : List ℕ) (n p : ℕ) → p < n → item_is_fit (productions_in g n) p 0 ≡ true
unfolding item_is_fit
begins g n p h =
    let m = productions_long g n in
    rw (lt-ltb p (length (productions_in g n)) (omega arith)) (le-leb 0 (length (get_or (productions_in g n) p no_production).symbols) (omega arith))

module _ (g : List ℕ) (n p q a b : ℕ) (hp : p < n) (hq : q < n) (ea : a ≡ get_or g (p * 36) 0) (eb : b ≡ get_or g (q * 36) 0) where
  pub same_not : (a ≡ b → ⊥) → false ≡ is_same_production (productions_in g n) p q
  unfolding is_same_production
  same_not ne = rw (packed_owner g n p hp, packed_owner g n q hq, ← ea, ← eb, ne_eqb a b ne)

  pub same_label : a ≡ b → same_sets (label_of (productions_in g n) (record { production = p; index = 0 })) (label_of (productions_in g n) (record { production = q; index = 0 })) ≡ is_same_production (productions_in g n) p q
  unfolding is_same_production label_of
  same_label e =
      same_label_is (get_or (productions_in g n) p no_production).symbols (get_or (productions_in g n) q no_production).symbols 0 0 (omega arith) (omega arith)
      ∙ rw (packed_owner g n p hp, packed_owner g n q hq, ← ea, ← eb, eq-eqb a b e)

-- the first that is equal
pub least-found : (ps : List Production) (p q : ℕ) → q < length ps → is_same_production ps q p ≡ true → ((j : ℕ) → j < q → is_same_production ps j p ≡ false) → q ≡ least_alike ps p
unfolding least_alike or_zero
least-found ps p q h e none = sym (ap or_zero (first?-below_intro (λ r. is_same_production ps r p) (length ps) q h e none))

pub least_itself : (ps : List Production) (p : ℕ) → p < length ps → ((j : ℕ) → j < p → is_same_production ps j p ≡ false) → p ≡ least_alike ps p
least_itself ps p h none = least-found ps p p h (same_refl ps p) none

-- the first before p that is equal, else p
pub least_of : (ps : List Production) (p : ℕ) (r : Option ℕ) → p < length ps
    → MatchOption r ((j : ℕ) → 0 ≤ j → j < p → is_same_production ps j p ≡ false) (λ q. (0 ≤ q) × (q < p) × (is_same_production ps q p ≡ true) × ((j : ℕ) → 0 ≤ j → j < q → is_same_production ps j p ≡ false))
    → (unwrap_or r p ≡ least_alike ps p) × (unwrap_or r p ≤ p)
least_of ps p None h m = (least_itself ps p h (λ j l. m j (omega arith) l), omega arith)
least_of ps p (Some q) h m = (least-found ps p q (omega (arith, m.1)) m.2 (λ j l. m.3 j (omega arith) l), omega (arith, m.1))

pub below_next : (P : ℕ → Type 0) (q : ℕ) → ((j : ℕ) → j < q → P j) → P q → (j : ℕ) → j < q + 1 → P j
below_next P q h e j l =
    cases (eqb j q)
    (λ b. rw (eqb-true j q b) e)
    (λ b. let ne = eqb-false j q b in h j (omega (arith, ne)))

-- the table so far
pub record Filling (ps : List Production) (ls : List ℕ) (p : ℕ) : Type 0 where
  pub long : length ls ≡ 128
  pub few : length ps ≤ 128
  pub within : p ≤ length ps
  pub exact : (j : ℕ) → j < p → get_or ls j 0 ≡ least_alike ps j
  pub small : (j : ℕ) → j < 128 → get_or ls j 0 < 128

pub filling_start : (ps : List Production) (ls : List ℕ) → length ps ≤ 128 → ls ≡ replicate 128 0 → Filling ps ls 0
filling_start ps ls f e = record {
  long = ap length e ∙ length-replicate {A = ℕ} 128 0;
  few = f;
  within = omega arith;
  exact = λ j h. absurd (omega arith);
  small = λ j h. rw (e, zero_at 128 j) (omega arith);
}

pub filling_more : (ps : List Production) (ls : List ℕ) (p q : ℕ) → Filling ps ls p → p < length ps → q ≡ least_alike ps p → q < 128 → Filling ps (set ls p q) (p + 1)
filling_more ps ls p q F h e s = record {
  long = length-set ls p q ∙ F.long;
  few = F.few;
  within = omega arith;
  exact = below_next (λ j. get_or (set ls p q) j 0 ≡ least_alike ps j) p (λ j l. get_or-set_other ls p j q 0 (λ z. omega arith) ∙ F.exact j l) (here ∙ e);
  small = λ j l. cases (eqb j p)
      (λ b. rw (eqb-true j p b, here) s)
      (λ b. rw (get_or-set_other ls p j q 0 (eqb-false j p b)) (F.small j l));
}
  where
    here : get_or (set ls p q) p 0 ≡ q
    here = let l = F.long in let f = F.few in get_or-set_same ls p q 0 (omega arith)

pub filling_done : (ps : List Production) (ls : List ℕ) (p : ℕ) → Filling ps ls p → length ps ≤ p → Leasts ps ls × ((j : ℕ) → j < 128 → get_or ls j 0 < 128)
filling_done ps ls p F h = (record { long = F.long; few = F.few; exact = λ j l. F.exact j (omega arith) }, F.small)
