-- One law for each way through the code of grow_one, grow and FirstSets::new (src/lib): a production, a round, and rounds until one changes nothing.
use mathlib.Core.Path.{◌≡◌, refl, sym, ap, ◌∙◌}
use mathlib.Core.Bool.{Bool, true, false, ◌&&◌, ◌||◌, not}
use mathlib.Core.List.{List}
use Prim.Native.Nat.{ℕ, ◌+◌, ◌-◌, ◌≤◌, ◌<◌}
use native.Mathlib.Numerals.{add-one}
use native.Mathlib.Omega.{arith}
use lib.Dec.{eqb}
use lib.ListN.{length, get_or, set, replicate}
use borrow.Author.Tests.{not-true, not-false}
use Rattle.lr1_base.specs.repr.Sizes.{nonterminal_limit, terminal_limit, production_place}
use Rattle.lr1_base.proofs.lookahead.Growing.{total, Sized, none_sized}
use Rattle.lr1_base.proofs.words.Same.{same_words_eq, same_words_refl}
use Rattle.lr1_base.specs.words.Same.{same_words}
use Rattle.lr1_base.specs.repr.Meaning.{Production}
use Rattle.lr1_base.specs.repr.Listed.{listed}
use Rattle.lr1_base.specs.repr.Packed.{Packed, symbol_words, production_in, productions_in}
use Rattle.lr1_base.specs.lookahead.Tokens.{union}
use Rattle.first.specs.First.{marked_at_end, grown, round, settle, rounds, sets_of_first}
use Rattle.first.proofs.Least.{grown_same, round-nil, round_snoc, length-round, round_same_snoc, round_sized, round_less, loop_more, loop_start, loop_done}
use Rattle.first.proofs.Packed.{packed_small, productions_in-none, productions_in-more}

-- one production

pub one_grown : (e : ℕ) (g map ws : List ℕ) (p n f u : ℕ) (c : Bool) → n < length map → n ≡ get_or g (production_place p) 0 → ws ≡ symbol_words g p → f ≡ marked_at_end e map (listed ws)
    → u ≡ union (get_or map n 0) f → c ≡ not (eqb (union (get_or map n 0) f) (get_or map n 0))
    → (set map n u ≡ grown e map (production_in g p)) × (c ≡ not (same_words (set map n u) map))
unfolding grown production_in
one_grown e g map ws p n f u c h en ew ef eu ec =
    let q : set map n u ≡ grown e map (production_in g p) = rw (eu, ef, ew, en) in
    let s : same_words (grown e map (production_in g p)) map ≡ eqb (union (get_or map n 0) f) (get_or map n 0) =
    grown_same e map (production_in g p) (rw en at h) ∙ rw (ef, ew, en) in
    (q, ec ∙ rw q (ap not (sym s)))

-- a round, after some of its productions

not-both : (a b : Bool) → not (a && b) ≡ (not a || not b)
not-both true b = refl
not-both false b = refl

module _ (e : ℕ) (g map₀ : List ℕ) where
  pub round-start : (map₀ ≡ round e map₀ (productions_in g 0)) × (false ≡ not (same_words map₀ map₀))
  round-start = (sym (ap (round e map₀) (productions_in-none g) ∙ round-nil e map₀), rw (same_words_refl map₀))

  pub round_long : (map : List ℕ) (p : ℕ) → map ≡ round e map₀ (productions_in g p) → length map₀ ≡ nonterminal_limit → length map ≡ nonterminal_limit
  round_long map p q l = ap length q ∙ length-round e map₀ (productions_in g p) ∙ l

  pub round-more : (map map' : List ℕ) (p : ℕ) (c m : Bool) → map ≡ round e map₀ (productions_in g p) → c ≡ not (same_words map map₀)
      → map' ≡ grown e map (production_in g p) → m ≡ not (same_words map' map)
      → (map' ≡ round e map₀ (productions_in g (p + 1))) × ((c || m) ≡ not (same_words map' map₀))
  round-more map map' p c m q ec q' em =
      let ps = productions_in g p in
      let next : round e map₀ (productions_in g (p + 1)) ≡ grown e (round e map₀ ps) (production_in g p) =
      rw (add-one p, productions_in-more g p) (round_snoc e map₀ ps (production_in g p)) in
      let at : map' ≡ grown e (round e map₀ ps) (production_in g p) = rw (← q) q' in
      let both : same_words (grown e (round e map₀ ps) (production_in g p)) map₀ ≡ (same_words (round e map₀ ps) map₀ && same_words (grown e (round e map₀ ps) (production_in g p)) (round e map₀ ps)) =
      rw (round_snoc e map₀ ps (production_in g p)) at (round_same_snoc e map₀ ps (production_in g p)) in
      (at ∙ sym next, rw (ec, em, at, q, both) (sym (not-both (same_words (round e map₀ ps) map₀) (same_words (grown e (round e map₀ ps) (production_in g p)) (round e map₀ ps)))))

-- rounds: what is left is what the sum of the sets can still grow by

unfoldable pub left : List ℕ → ℕ
left map = rounds - total map

-- a turn begins with sets from which the rounds reach the answer; where a round changes nothing they are the answer
pub record Turn (e : ℕ) (ps : List Production) (map : List ℕ) : Type 0 where
  pub sized : Sized nonterminal_limit map
  pub same : settle rounds e map ps ≡ sets_of_first e ps

pub turn_start : (e : ℕ) (ps : List Production) → Turn e ps (replicate nonterminal_limit 0)
turn_start e ps = record { sized = none_sized nonterminal_limit; same = loop_start e ps }

module _ (e : ℕ) (g : List ℕ) (n : ℕ) (packed : Packed g n) (few : e ≤ terminal_limit) (map map' : List ℕ) (c : Bool)
    (turn : Turn e (productions_in g n) map) (q : map' ≡ round e map (productions_in g n)) (ec : c ≡ not (same_words map' map)) where
  changes : c ≡ true → same_words (round e map (productions_in g n)) map ≡ false
  changes y = not-true (same_words (round e map (productions_in g n)) map) (rw (← q) (sym ec ∙ y))

  stays : c ≡ false → same_words (round e map (productions_in g n)) map ≡ true
  stays y = not-false (same_words (round e map (productions_in g n)) map) (rw (← q) (sym ec ∙ y))

  pub turn_again : c ≡ true → Turn e (productions_in g n) map'
  turn_again y = record {
    sized = rw q (round_sized e map (productions_in g n) few (packed_small e g n packed few).productions turn.sized);
    same = rw q (loop_more e (productions_in g n) (packed_small e g n packed few) map turn.sized (changes y) ∙ turn.same);
  }

  pub turn_less : c ≡ true → left map' < left map
  unfolding left
  turn_less y = rw q (omega (arith, round_less e (productions_in g n) (packed_small e g n packed few) map turn.sized (changes y)))

  pub turn_done : c ≡ false → map' ≡ sets_of_first e (productions_in g n)
  turn_done y = q ∙ same_words_eq (round e map (productions_in g n)) map (stays y) ∙ sym (loop_done e map (productions_in g n) (stays y)) ∙ turn.same
