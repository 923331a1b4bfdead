-- Laws of the inline test on two items (specs/outline/Inline), one for each way through the code. Assumes nothing.
use Rattle.std.proofs.Common.{◌++◌, ◌&&◌, eqb-true, nat_eq, ◌≡◌, ℕ, zero, suc, ◌+◌, ◌*◌, ◌<◌, ◌≤◌, Bool, true, false, eqb, List, [], ◌∷◌, length, get_or, drop, sym, refl, ap, ◌∙◌, arith, ltb, leb, ltb-true, leb-true}
use borrow.Author.Tests.{eqb-false}
use lib.Pointwise.{pointwise}
use Rattle.lr1_base.specs.repr.Sizes.{nonterminal_limit, terminal_limit}
use Rattle.lr1_base.specs.repr.Meaning.{Symbol, is_same_symbol, no_production}
use Rattle.lr1_base.specs.repr.Listed.{symbol_of_kind, listed, symbol_is_fit, list_is_fit}
use Rattle.lr1_base.specs.repr.Packed.{Packed, production_in, productions_in, symbol_words}
use Rattle.lr1_base.proofs.repr.Lists.{cases, length-map-below}
use Rattle.lr1_base.proofs.laws.Bools.{and_left, and_right}
use Rattle.lr1_base.proofs.repr.Listed.{symbol_range}
use Rattle.lr1_base.specs.item.Items.{symbol_sets}
use Rattle.lr1_base.specs.declared.item.Item.{Item as ItemOf}
use Rattle.trace_graph.specs.Fits.{item_is_fit}
use Rattle.lr1_base.proofs.repr.Parts.{fits-drop}
use Rattle.enumerator.proofs.example.LabelList.{production-symbols}
use Rattle.first.specs.First.{first0, disjoint}
use Rattle.conflict_sides.specs.outline.Inline.{apart, diverge_by, suffix_of}

-- `same_symbol`

pub kinds_differ : (k n k' n' : ℕ) → k < 2 → k' < 2 → (k ≡ k' → ⊥) → false ≡ is_same_symbol (symbol_of_kind k n) (symbol_of_kind k' n')
unfolding is_same_symbol symbol_of_kind
kinds_differ zero n zero n' h h' ne = absurd (ne refl)
kinds_differ zero n (suc k') n' h h' ne = refl
kinds_differ (suc k) n zero n' h h' ne = refl
kinds_differ (suc k) n (suc k') n' h h' ne = absurd (ne (omega arith))

kind_same : (k n n' : ℕ) → eqb n n' ≡ is_same_symbol (symbol_of_kind k n) (symbol_of_kind k n')
unfolding is_same_symbol symbol_of_kind
kind_same zero n n' = refl
kind_same (suc k) n n' = refl

pub kinds_same : (k n k' n' : ℕ) → k ≡ k' → eqb n n' ≡ is_same_symbol (symbol_of_kind k n) (symbol_of_kind k' n')
kinds_same k n k' n' e = kind_same k n n' ∙ ap (λ (m : ℕ). is_same_symbol (symbol_of_kind k n) (symbol_of_kind m n')) e

-- `diverge`: a symbol of each list at a time, and what is left decides

module _ (e : ℕ) (sets : List ℕ) (x y : Symbol) (xs ys : List Symbol) where
  by_same : is_same_symbol x y ≡ true → diverge_by e sets (x ∷ xs) (y ∷ ys) ≡ diverge_by e sets xs ys
  unfolding diverge_by
  by_same q = rw (q, diverge_by)

  by_apart : is_same_symbol x y ≡ false → diverge_by e sets (x ∷ xs) (y ∷ ys) ≡ apart e sets x y
  unfolding diverge_by
  by_apart q = rw (q, diverge_by)

abbrev fit : List ℕ → Bool
fit ws = list_is_fit nonterminal_limit terminal_limit ws

-- two symbols in words, and the words behind them
pub record Diverging (e : ℕ) (sets us own us' vs other vs' : List ℕ) : Type 0 where
  pub own_fits : list_is_fit nonterminal_limit terminal_limit own ≡ true
  pub other_fits : list_is_fit nonterminal_limit terminal_limit other ≡ true
  pub left_fits : list_is_fit nonterminal_limit terminal_limit us' ≡ true
  pub other_left_fits : list_is_fit nonterminal_limit terminal_limit vs' ≡ true
  pub same : pointwise nat_eq own other ≡ true → diverge_by e sets (listed us') (listed vs') ≡ diverge_by e sets (listed us) (listed vs)
  pub differ : pointwise nat_eq own other ≡ false → disjoint (first0 e sets (listed own)) (first0 e sets (listed other)) ≡ diverge_by e sets (listed us) (listed vs)

module _ (e : ℕ) (sets : List ℕ) where
  same_two : (a b c d : ℕ) → a < 2 → c < 2 → pointwise nat_eq (a ∷ b ∷ []) (c ∷ d ∷ []) ≡ is_same_symbol (symbol_of_kind a b) (symbol_of_kind c d)
  same_two a b c d ha hc =
      cases (nat_eq a c)
      (λ q. rw q (let same : a ≡ c = eqb-true a c q in let z : nat_eq b d && true ≡ nat_eq b d = elim (nat_eq b d) as (λ v. v && true ≡ v) [ true ↦ refl | false ↦ refl ] in z ∙ kinds_same a b c d same))
      (λ q. rw q (kinds_differ a b c d ha hc (eqb-false a c q)))

  two : (a b c d : ℕ) (us vs : List ℕ) → fit (a ∷ b ∷ us) ≡ true → fit (c ∷ d ∷ vs) ≡ true → Diverging e sets (a ∷ b ∷ us) (a ∷ b ∷ []) us (c ∷ d ∷ vs) (c ∷ d ∷ []) vs
  unfolding list_is_fit listed apart
  two a b c d us vs fu fv =
      let hu = and_left (symbol_is_fit nonterminal_limit terminal_limit a b) (fit us) fu in
      let hv = and_left (symbol_is_fit nonterminal_limit terminal_limit c d) (fit vs) fv in
      let s = same_two a b c d (symbol_range nonterminal_limit terminal_limit a b hu).0 (symbol_range nonterminal_limit terminal_limit c d hv).0 in
      record {
        own_fits = rw hu refl;
        other_fits = rw hv refl;
        left_fits = and_right (symbol_is_fit nonterminal_limit terminal_limit a b) (fit us) fu;
        other_left_fits = and_right (symbol_is_fit nonterminal_limit terminal_limit c d) (fit vs) fv;
        same = λ q. sym (by_same e sets (symbol_of_kind a b) (symbol_of_kind c d) (listed us) (listed vs) (sym s ∙ q));
        differ = λ q. sym (by_apart e sets (symbol_of_kind a b) (symbol_of_kind c d) (listed us) (listed vs) (sym s ∙ q));
      }

  pub diverge_turn : (us own us' vs other vs' : List ℕ) → us ≡ own ++ us' → length own ≡ 2 → vs ≡ other ++ vs' → length other ≡ 2 → list_is_fit nonterminal_limit terminal_limit us ≡ true → list_is_fit nonterminal_limit terminal_limit vs ≡ true
      → Diverging e sets us own us' vs other vs'
  diverge_turn us (a ∷ b ∷ []) us' vs (c ∷ d ∷ []) vs' eu lu ev lv fu fv = rw (eu, ev) (two a b c d us' vs' (rw eu at fu) (rw ev at fv))
  diverge_turn us [] us' vs other vs' eu lu ev lv fu fv = absurd (omega arith)
  diverge_turn us (a ∷ []) us' vs other vs' eu lu ev lv fu fv = absurd (omega arith)
  diverge_turn us (a ∷ b ∷ x ∷ xs) us' vs other vs' eu lu ev lv fu fv = absurd (omega arith)
  diverge_turn us (a ∷ b ∷ []) us' vs [] vs' eu lu ev lv fu fv = absurd (omega arith)
  diverge_turn us (a ∷ b ∷ []) us' vs (c ∷ []) vs' eu lu ev lv fu fv = absurd (omega arith)
  diverge_turn us (a ∷ b ∷ []) us' vs (c ∷ d ∷ x ∷ xs) vs' eu lu ev lv fu fv = absurd (omega arith)

  none_left : (ws : List ℕ) → length ws < 2 → listed ws ≡ []
  unfolding listed
  none_left [] h = refl
  none_left (a ∷ []) h = refl
  none_left (a ∷ b ∷ ws) h = absurd (omega arith)

  pub diverge_end : (us vs : List ℕ) → length us < 2 → false ≡ diverge_by e sets (listed us) (listed vs)
  unfolding diverge_by
  diverge_end us vs h = rw (none_left us h)

  pub diverge-other_end : (us vs : List ℕ) → length vs < 2 → false ≡ diverge_by e sets (listed us) (listed vs)
  unfolding diverge_by
  diverge-other_end us vs h = rw (none_left vs h) (go (listed us))
    where
      go : (xs : List Symbol) → false ≡ diverge_by e sets xs []
      go [] = refl
      go (x ∷ xs) = refl

-- an item of the productions: the symbols after its cursor

module _ (g : List ℕ) (n : ℕ) (P : Packed g n) (p i : ℕ) (I : item_is_fit (productions_in g n) p i ≡ true) where
  many : length (productions_in g n) ≡ n
  unfolding productions_in
  many = length-map-below (production_in g) n

  pub item-inside : p < n
  unfolding item_is_fit
  item-inside =
      let a = ltb-true p (length (productions_in g n)) (and_left (ltb p (length (productions_in g n))) (leb i (length (get_or (productions_in g n) p no_production).symbols)) I) in
      let b = many in
      omega arith

  own_symbols : (get_or (productions_in g n) p no_production).symbols ≡ listed (symbol_words g p)
  own_symbols = production-symbols g n p item-inside

  pub item_index : i ≤ length (listed (symbol_words g p))
  unfolding item_is_fit
  item_index =
      let a = leb-true i (length (get_or (productions_in g n) p no_production).symbols) (and_right (ltb p (length (productions_in g n))) (leb i (length (get_or (productions_in g n) p no_production).symbols)) I) in
      rw own_symbols at a

  module _ (r : List ℕ) (e : (r ≡ drop (2 * i + 2) (symbol_words g p)) × (listed r ≡ (symbol_sets (listed (symbol_words g p)) i).suffix)) where
    pub item-suffix : (item : ItemOf) → item.production ≡ p → item.index ≡ i → listed r ≡ suffix_of (productions_in g n) item
    unfolding suffix_of symbol_sets
    item-suffix item ep ei = e.1 ∙ rw (ep, ei, own_symbols)

    pub suffix-fits : list_is_fit nonterminal_limit terminal_limit r ≡ true
    suffix-fits = let z : 2 * i + 2 ≡ 2 * suc i = omega arith in rw (e.0, z) (fits-drop nonterminal_limit terminal_limit (suc i) (symbol_words g p) (P.fits p item-inside))
