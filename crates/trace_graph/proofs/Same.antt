-- `same_words` of specs/Same, and the symbols that words say.
use Rattle.std.proofs.Common.{◌≡◌, ℕ, zero, suc, ◌<◌, true, ◌&&◌, List, [], ◌∷◌, sym, refl, true≢false, arith}
use Rattle.lr1_base.specs.repr.Sizes.{nonterminal_limit, terminal_limit}
use Rattle.lr1_base.proofs.words.Same.{same_words_eq, same_words_refl}
use Rattle.lr1_base.specs.words.Same.{same_words}
use Rattle.lr1_base.specs.repr.Listed.{symbol_of_kind, listed, symbol_is_fit, list_is_fit}
use Rattle.lr1_base.proofs.repr.Listed.{symbol_range}
use Rattle.trace_graph.specs.Graph.{same_symbols}
use Rattle.lr1_base.proofs.laws.Bools.{and_left, and_right, agree}
use Rattle.trace_graph.proofs.Labels.{symbols_equal, symbols_refl}

-- words in range that say the same symbols are the same
same_kind : (k x m y : ℕ) → k < 2 → m < 2 → symbol_of_kind k x ≡ symbol_of_kind m y → (k ≡ m) × (x ≡ y)
unfolding symbol_of_kind
same_kind zero x zero y hk hm e = (refl, cc)
same_kind zero x (suc m) y hk hm e = let z : ◌≡◌ {A = ℕ} 0 1 = cc in absurd (omega arith)
same_kind (suc k) x zero y hk hm e = let z : ◌≡◌ {A = ℕ} 0 1 = cc in absurd (omega arith)
same_kind (suc k) x (suc m) y hk hm e = (omega arith, cc)

listed_one : (a b : List ℕ) → list_is_fit nonterminal_limit terminal_limit a ≡ true → list_is_fit nonterminal_limit terminal_limit b ≡ true → listed a ≡ listed b → a ≡ b
unfolding listed list_is_fit
listed_one [] [] f g e = refl
listed_one [] (m ∷ []) f g e = absurd (true≢false (sym g))
listed_one [] (m ∷ y ∷ b) f g e = let z : ◌≡◌ {A = ℕ} 0 1 = cc in absurd (omega arith)
listed_one (k ∷ []) b f g e = absurd (true≢false (sym f))
listed_one (k ∷ x ∷ a) [] f g e = let z : ◌≡◌ {A = ℕ} 0 1 = cc in absurd (omega arith)
listed_one (k ∷ x ∷ a) (m ∷ []) f g e = absurd (true≢false (sym g))
listed_one (k ∷ x ∷ a) (m ∷ y ∷ b) f g e =
    let hk = (symbol_range nonterminal_limit terminal_limit k x (and_left _ _ f)).0 in
    let hm = (symbol_range nonterminal_limit terminal_limit m y (and_left _ _ g)).0 in
    let s : symbol_of_kind k x ≡ symbol_of_kind m y = cc in
    let t : listed a ≡ listed b = cc in
    let p = same_kind k x m y hk hm s in
    let q = listed_one a b (and_right (symbol_is_fit nonterminal_limit terminal_limit k x) _ f) (and_right (symbol_is_fit nonterminal_limit terminal_limit m y) _ g) t in
    cc (p.0, p.1)

pub words-symbols : (a b : List ℕ) → list_is_fit nonterminal_limit terminal_limit a ≡ true → list_is_fit nonterminal_limit terminal_limit b ≡ true → same_words a b ≡ same_symbols (listed a) (listed b)
words-symbols a b f g =
    agree (same_words a b) (same_symbols (listed a) (listed b))
    (λ e. rw (same_words_eq a b e) (symbols_refl (listed b)))
    (λ e. rw (listed_one a b f g (symbols_equal (listed a) (listed b) e)) (same_words_refl b))
