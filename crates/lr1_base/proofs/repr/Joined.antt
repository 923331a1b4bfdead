-- Laws of two lists of words joined, as lists of symbols (specs/repr/Listed): of whole symbols the first, or with a symbol that begins with its last word and ends with the
-- other's first.
use mathlib.Core.Path.{◌≡◌, refl, sym, ap, ◌∙◌}
use mathlib.Core.Bool.{Bool, true, false, ◌&&◌, and-true, and_assoc}
use mathlib.Core.List.{List, [], ◌∷◌, ◌++◌, append_assoc}
use Prim.Native.Nat.{ℕ, ◌-◌, ◌%◌, ◌<◌}
use native.Mathlib.Decide.{dec_lt}
use native.Mathlib.Omega.{arith}
use lib.ListN.{length, get_or, take, drop, length-append, length-drop, take-append-drop}
use lib.Seq.{drop-cons, take_all, length-take-le}
use Rattle.lr1_base.specs.repr.Meaning.{Symbol}
use Rattle.lr1_base.specs.repr.Listed.{symbol_of_kind, listed, symbol_is_fit, list_is_fit}
use Rattle.lr1_base.proofs.repr.Lists.{cases, clash}
use Rattle.lr1_base.proofs.repr.Listed.{drop-last}
use Rattle.lr1_base.proofs.repr.Parts.{length-listed}
use Rattle.lr1_base.proofs.laws.Bools.{and_left, and_right}

pub listed-append : (xs ys : List ℕ) → length xs % 2 ≡ 0 → listed (xs ++ ys) ≡ listed xs ++ listed ys
unfolding listed
listed-append [] ys e = refl
listed-append (k ∷ []) ys e = absurd (omega arith)
listed-append (k ∷ x ∷ xs) ys e = ap (λ (l : List Symbol). symbol_of_kind k x ∷ l) (listed-append xs ys (omega arith))

module _ (n t : ℕ) where
  pub fits-append : (xs ys : List ℕ) → length xs % 2 ≡ 0 → list_is_fit n t (xs ++ ys) ≡ list_is_fit n t xs && list_is_fit n t ys
  unfolding list_is_fit
  fits-append [] ys e = refl
  fits-append (k ∷ []) ys e = absurd (omega arith)
  fits-append (k ∷ x ∷ xs) ys e =
      ap (λ (b : Bool). symbol_is_fit n t k x && b) (fits-append xs ys (omega arith)) ∙ sym (and_assoc (symbol_is_fit n t k x) (list_is_fit n t xs) (list_is_fit n t ys))

  pub fits_odd : (ws : List ℕ) → length ws % 2 ≡ 1 → list_is_fit n t ws ≡ false
  fits_odd ws o = cases (list_is_fit n t ws) (λ f. let l = length-listed n t ws f in absurd (omega arith)) (λ f. f)

  pub fits_one : (k x : ℕ) → list_is_fit n t (k ∷ x ∷ []) ≡ symbol_is_fit n t k x
  unfolding list_is_fit
  fits_one k x = and-true (symbol_is_fit n t k x)

-- all but the first word, as the code lends it
abbrev pub behind : List ℕ → List ℕ
behind ys = take (length ys - 1) (drop 1 ys)

first_word : (ys : List ℕ) → 0 < length ys → ys ≡ get_or ys 0 0 ∷ behind ys
first_word ys h =
    drop-cons ys 0 0 h ∙ ap (λ (l : List ℕ). get_or ys 0 0 ∷ l) (sym (take_all (length ys - 1) (drop 1 ys) (rw (length-drop 1 ys) (omega arith))))

-- the first is odd: all but its last word are whole symbols, and that word and the other's first are one symbol
module _ (xs ys : List ℕ) (odd : length xs % 2 ≡ 0 → ⊥) (more : 0 < length ys) where
  abbrev last : ℕ
  last = length xs - 1

  there : last < length xs
  there = omega (arith, odd)

  front_even : length (take last xs) % 2 ≡ 0
  front_even = rw (length-take-le last xs (omega arith)) (omega (arith, odd))

  pub joined_straddled : xs ++ ys ≡ take last xs ++ ((get_or xs last 0 ∷ get_or ys 0 0 ∷ []) ++ behind ys)
  joined_straddled =
      ap (λ (l : List ℕ). l ++ ys) (sym (take-append-drop last xs) ∙ ap (λ (l : List ℕ). take last xs ++ l) (drop-last xs last there (omega (arith, odd))))
      ∙ append_assoc (take last xs) (get_or xs last 0 ∷ []) ys
      ∙ ap (λ (l : List ℕ). take last xs ++ (get_or xs last 0 ∷ l)) (first_word ys more)

  pub listed_straddled : listed (xs ++ ys) ≡ listed (take last xs) ++ (listed (get_or xs last 0 ∷ get_or ys 0 0 ∷ []) ++ listed (behind ys))
  listed_straddled =
      ap listed joined_straddled
      ∙ listed-append (take last xs) ((get_or xs last 0 ∷ get_or ys 0 0 ∷ []) ++ behind ys) front_even
      ∙ ap (λ (l : List Symbol). listed (take last xs) ++ l) (listed-append (get_or xs last 0 ∷ get_or ys 0 0 ∷ []) (behind ys) refl)

  pub fits_straddled : (n t : ℕ) → list_is_fit n t (xs ++ ys) ≡ list_is_fit n t (take last xs) && (list_is_fit n t (get_or xs last 0 ∷ get_or ys 0 0 ∷ []) && list_is_fit n t (behind ys))
  fits_straddled n t =
      ap (list_is_fit n t) joined_straddled
      ∙ fits-append n t (take last xs) ((get_or xs last 0 ∷ get_or ys 0 0 ∷ []) ++ behind ys) front_even
      ∙ ap (λ (b : Bool). list_is_fit n t (take last xs) && b) (fits-append n t (get_or xs last 0 ∷ get_or ys 0 0 ∷ []) (behind ys) refl)

-- the test's answers, as the code finds them
module _ (n t : ℕ) (xs ys : List ℕ) where
  pub even_out : length xs % 2 ≡ 0 → list_is_fit n t xs ≡ false → false ≡ list_is_fit n t (xs ++ ys)
  even_out e f = sym (fits-append n t xs ys e ∙ rw f)

  pub even_in : length xs % 2 ≡ 0 → list_is_fit n t xs ≡ true → (b : Bool) → b ≡ list_is_fit n t ys → b ≡ list_is_fit n t (xs ++ ys)
  even_in e f b h = h ∙ sym (fits-append n t xs ys e ∙ rw f)

  module _ (odd : length xs % 2 ≡ 0 → ⊥) where
    pub odd_alone : length ys ≡ 0 → false ≡ list_is_fit n t (xs ++ ys)
    odd_alone e = sym (fits_odd n t (xs ++ ys) (rw (length-append xs ys) (omega (arith, odd))))

    module _ (more : length ys ≡ 0 → ⊥) where
      some : 0 < length ys
      some = omega (arith, more)

      pub front_out : list_is_fit n t (take (length xs - 1) xs) ≡ false → false ≡ list_is_fit n t (xs ++ ys)
      front_out f = sym (fits_straddled xs ys odd some n t ∙ rw f)

      module _ (f : list_is_fit n t (take (length xs - 1) xs) ≡ true) (k x : ℕ) (ek : k ≡ get_or xs (length xs - 1) 0) (ex : x ≡ get_or ys 0 0) where
        pub symbol-out : symbol_is_fit n t k x ≡ false → false ≡ list_is_fit n t (xs ++ ys)
        symbol-out q = sym (fits_straddled xs ys odd some n t ∙ rw (f, fits_one n t (get_or xs (length xs - 1) 0) (get_or ys 0 0), ← ek, ← ex, q))

        pub symbol_in : symbol_is_fit n t k x ≡ true → (b : Bool) → b ≡ list_is_fit n t (behind ys) → b ≡ list_is_fit n t (xs ++ ys)
        symbol_in q b h = h ∙ sym (fits_straddled xs ys odd some n t ∙ rw (f, fits_one n t (get_or xs (length xs - 1) 0) (get_or ys 0 0), ← ek, ← ex, q))

-- so a joined list that fits has parts that do
module _ (n t : ℕ) (xs ys : List ℕ) (f : list_is_fit n t (xs ++ ys) ≡ true) where
  pub even_parts : length xs % 2 ≡ 0 → (list_is_fit n t xs ≡ true) × (list_is_fit n t ys ≡ true)
  even_parts e =
      let q = sym (fits-append n t xs ys e) ∙ f in
      (and_left (list_is_fit n t xs) (list_is_fit n t ys) q, and_right (list_is_fit n t xs) (list_is_fit n t ys) q)

  module _ (odd : length xs % 2 ≡ 0 → ⊥) where
    pub odd_more : 0 < length ys
    odd_more = go (dec_lt 0 (length ys))
      where
        go : Dec (0 < length ys) → 0 < length ys
        go (yes h) = h
        go (no h) = clash (list_is_fit n t (xs ++ ys)) f (sym (odd_alone n t xs ys odd (omega (arith, h))))

    pub odd_parts : (list_is_fit n t (take (length xs - 1) xs) ≡ true) × (list_is_fit n t (get_or xs (length xs - 1) 0 ∷ get_or ys 0 0 ∷ []) ≡ true) × (list_is_fit n t (behind ys) ≡ true)
    odd_parts =
        let q = sym (fits_straddled xs ys odd odd_more n t) ∙ f in
        let r = and_right (list_is_fit n t (take (length xs - 1) xs)) _ q in
        (and_left (list_is_fit n t (take (length xs - 1) xs)) _ q, and_left (list_is_fit n t (get_or xs (length xs - 1) 0 ∷ get_or ys 0 0 ∷ [])) _ r, and_right (list_is_fit n t (get_or xs (length xs - 1) 0 ∷ get_or ys 0 0 ∷ [])) _ r)
