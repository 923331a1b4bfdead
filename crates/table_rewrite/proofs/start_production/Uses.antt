-- Laws of the search for a nonterminal in right sides.
use Rattle.std.proofs.Common.{◌≡◌, ℕ, zero, suc, Bool, ◌||◌, eqb, List, [], ◌∷◌, map, sym, refl, ap, ◌∙◌, add-one}
use Rattle.std.specs.List.{list_any, range_with_len}
use Rattle.lr1_base.specs.repr.Lists.{up_from, below, some?}
use Rattle.lr1_base.specs.repr.Meaning.{Symbol, nonterminal, is_same_symbol}
use Rattle.lr1_base.specs.repr.Symbols.{meant}
use Rattle.lr1_base.specs.declared.repr.NonterminalString.{NonterminalString}
use Rattle.lr1_base.specs.declared.repr.Symbol.{Symbol as Coded}
use Rattle.lr1_base.specs.declared.repr.Symbol.TheVariants.{Nonterminal, Terminal}
use Rattle.lr1_base.specs.contracts.repr.SymbolPartialEq.TheImpl.{eq-value}
use Rattle.lr1_base.proofs.repr.Lists.{turned}
use Rattle.lr1_base.specs.repr.Listed.{listed}
use Rattle.lr1_base.specs.repr.Packed.{symbol_words, production_in, productions_in}
use Rattle.lr1_base.proofs.repr.Tests.{some?-nil, some?-cons}
use Rattle.table_rewrite.specs.start_production.Started.{uses}

-- the code's comparison with a nonterminal
pub is_nonterminal : (n : NonterminalString) (X : Coded) → eq-value.it X (Nonterminal n) ≡ is_same_symbol (nonterminal n.0) (meant X)
unfolding is_same_symbol
is_nonterminal n (Nonterminal m) = turned m.0 n.0
is_nonterminal n (Terminal t) = refl

any_some : {A : Type 0} (t : A → Bool) (xs : List A) → list_any t xs ≡ some? t xs
any_some t [] = sym (some?-nil t)
any_some t (x ∷ xs) = ap (λ (b : Bool). t x || b) (any_some t xs) ∙ sym (some?-cons t x xs)

pub among_is : (n : ℕ) (ss : List Symbol) → list_any (is_same_symbol (nonterminal n)) ss ≡ some? (is_same_symbol (nonterminal n)) ss
among_is n ss = any_some (is_same_symbol (nonterminal n)) ss

-- whether it is a symbol of production p
abbrev pub used : List ℕ → ℕ → ℕ → Bool
used g n p = some? (is_same_symbol (nonterminal n)) (listed (symbol_words g p))

used_from : (g : List ℕ) (n a m : ℕ) → list_any (used g n) (range_with_len a m) ≡ some? (uses n) (map (production_in g) (up_from a m))
unfolding up_from uses production_in
used_from g n a zero = sym (some?-nil (uses n))
used_from g n a (suc m) =
    let more : list_any (used g n) (range_with_len (suc a) m) ≡ some? (uses n) (map (production_in g) (up_from (suc a) m)) = used_from g n (suc a) m in
    rw (add-one a) (ap (λ (b : Bool). used g n a || b) more ∙ sym (some?-cons (uses n) (production_in g a) (map (production_in g) (up_from (suc a) m))))

pub stands_is : (g : List ℕ) (n m : ℕ) → list_any (used g n) (range_with_len 0 m) ≡ some? (uses n) (productions_in g m)
unfolding productions_in below
stands_is g n m = used_from g n 0 m
