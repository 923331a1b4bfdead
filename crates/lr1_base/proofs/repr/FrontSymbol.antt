-- The first symbol of a list in words, and the list behind it (specs/repr/Listed, specs/repr/Symbols).
use Rattle.std.proofs.Common.{◌≡◌, refl, ◌∙◌, ℕ, zero, suc, ◌-◌, ◌*◌, ◌≤◌, ◌<◌, true, List, [], ◌∷◌, length, get_or, take, drop, arith}
use Rattle.std.proofs.Math.Seq.{take-length}
use Rattle.std.proofs.lemmas.List.{length-drop}
use Rattle.lr1_base.specs.repr.Sizes.{nonterminal_limit, terminal_limit}
use Rattle.lr1_base.specs.repr.Meaning.{Symbol}
use Rattle.lr1_base.specs.repr.Listed.{symbol_of_kind, listed, symbol_is_fit, list_is_fit}
use Rattle.lr1_base.specs.repr.Packed.{symbol_words, Packed}
use Rattle.lr1_base.proofs.repr.Listed.{fits_head, listed-step, symbol_range}
use Rattle.lr1_base.proofs.repr.Parts.{listed-drop, fits-drop}
use Rattle.lr1_base.specs.repr.Symbols.{meant, IsInRange}
use Rattle.lr1_base.specs.declared.repr.Symbol.{Symbol as Coded}
use Rattle.lr1_base.specs.declared.repr.Symbol.TheVariants.{Nonterminal, Terminal}

pub listed_short : (ws : List ℕ) → length ws < 2 → listed ws ≡ []
unfolding listed
listed_short [] h = refl
listed_short (k ∷ []) h = refl
listed_short (k ∷ x ∷ ws) h = absurd (omega arith)

module _ (ws : List ℕ) (h : 2 ≤ length ws) where
  -- what is left, as code has it
  pub behind_two : take (length ws - 2) (drop 2 ws) ≡ drop 2 ws
  behind_two = let e : length ws - 2 ≡ length (drop 2 ws) = omega (arith, length-drop 2 ws) in rw e (take-length (drop 2 ws))

  pub fits_behind : list_is_fit nonterminal_limit terminal_limit ws ≡ true → list_is_fit nonterminal_limit terminal_limit (take (length ws - 2) (drop 2 ws)) ≡ true
  fits_behind f = rw behind_two (fits_head nonterminal_limit terminal_limit ws 0 (omega arith) f).1.1

  pub listed_two : listed ws ≡ symbol_of_kind (get_or ws 0 0) (get_or ws 1 0) ∷ listed (take (length ws - 2) (drop 2 ws))
  listed_two = listed-step ws 0 (omega arith) ∙ rw behind_two

-- the first symbol of a list in range is in range
pub first_in_range : (ws : List ℕ) (s : Coded) (rest : List Symbol) → list_is_fit nonterminal_limit terminal_limit ws ≡ true → listed ws ≡ meant s ∷ rest → IsInRange s
unfolding listed symbol_of_kind
first_in_range [] s rest f e = absurd cc
first_in_range (k ∷ []) s rest f e = absurd cc
first_in_range (k ∷ x ∷ ws) s rest f e = in_range k s (let h : symbol_of_kind k x ≡ meant s = cc in h) (fits_head nonterminal_limit terminal_limit (k ∷ x ∷ ws) 0 (omega arith) f).1.0
  where
    in_range : (k : ℕ) (s : Coded) → symbol_of_kind k x ≡ meant s → symbol_is_fit nonterminal_limit terminal_limit k x ≡ true → IsInRange s
    in_range zero (Nonterminal n) q g = let b = (symbol_range nonterminal_limit terminal_limit zero x g).1.0 refl in let same : x ≡ n.0 = cc in omega arith
    in_range zero (Terminal t) q g = absurd cc
    in_range (suc k) (Nonterminal n) q g = absurd cc
    in_range (suc k) (Terminal t) q g = let b = (symbol_range nonterminal_limit terminal_limit (suc k) x g).1.1 (λ (z : ◌≡◌ {A = ℕ} (suc k) 0). absurd (omega arith)) in let same : x ≡ t = cc in omega arith

-- symbol i of a production's is in range
pub here_in_range : (g : List ℕ) (n p i : ℕ) (s : Coded) (rest : List Symbol) → Packed g n → p < n → drop i (listed (symbol_words g p)) ≡ meant s ∷ rest → IsInRange s
here_in_range g n p i s rest P h e =
    first_in_range (drop (2 * i) (symbol_words g p)) s rest (fits-drop nonterminal_limit terminal_limit i (symbol_words g p) (P.fits p h)) (listed-drop i (symbol_words g p) ∙ e)
