-- Lists of records: where they stand in the words, and the key law: a chain that is laid consecutively reads back as its records, whatever stands before and after.
use mathlib.Core.Path.{◌≡◌, refl, ap, ◌∙◌}
use mathlib.Core.List.{List, [], ◌∷◌, ◌++◌, map}
use Prim.Native.Nat.{ℕ, zero, suc, ◌+◌, ◌≤◌, ◌<◌}
use native.Mathlib.Omega.{arith}
use lib.ListN.{length, get_or, drop, length-append, get_or-append}
use lib.Seq.{get_or-append-add}
use Rattle.lr1_base.specs.repr.Lists.{up_from}
use Rattle.table.specs.Words.{word_at, records, Area, chain}
use Rattle.table.proofs.Chains.{names_good, chain_end, chain-step}
use Rattle.table.specs.Quads.{Quad, no_quad}
use Rattle.table_rewrite.specs.spelling.Spelled.{head_of, chain_from, chains_from, place_of, size_of}
use Rattle.table_rewrite.specs.spelling.Grown.{Stands}

-- records that stand in others (specs/spelling/Grown)

pub stands_all : (qs : List Quad) → Stands qs 0 qs
stands_all qs = record { within = omega arith; at = λ i h. ap (λ (k : ℕ). get_or qs k no_quad) (omega arith) }

module _ (qs : List Quad) (o : ℕ) (xs ys : List Quad) (S : Stands qs o (xs ++ ys)) where
  pub stands_front : Stands qs o xs
  stands_front = record { within = omega (arith, S.within, length-append xs ys); at = λ i h. S.at i (rw (length-append xs ys) (omega arith)) ∙ get_or-append xs ys no_quad i h }

  pub stands_back : Stands qs (o + length xs) ys
  stands_back = record {
    within = omega (arith, S.within, length-append xs ys);
    at = λ i h.
        ap (λ (k : ℕ). get_or qs k no_quad) (omega arith)
        ∙ S.at (length xs + i) (rw (length-append xs ys) (omega arith))
        ∙ get_or-append-add xs ys i no_quad;
  }

-- one chain

module _ {ℓ} {A : Type ℓ} (f : ℕ → A → Quad) where
  pub length_chain_from : (o : ℕ) (xs : List A) → length (chain_from f o xs) ≡ length xs
  unfolding chain_from
  length_chain_from o [] = refl
  length_chain_from o (x ∷ xs) = ap suc (length_chain_from (suc o) xs)

  pub get_d_chain_from : (o : ℕ) (xs : List A) (i : ℕ) (d : A) → i < length xs → get_or (chain_from f o xs) i no_quad ≡ f (head_of (o + suc i) (drop (suc i) xs)) (get_or xs i d)
  unfolding chain_from
  get_d_chain_from o [] i d h = absurd (omega arith)
  get_d_chain_from o (x ∷ xs) zero d h = ap (λ (k : ℕ). f (head_of k xs) x) (omega arith)
  get_d_chain_from o (x ∷ xs) (suc i) d h =
      get_d_chain_from (suc o) xs i d (omega arith) ∙ ap (λ (k : ℕ). f (head_of k (drop (suc i) xs)) (get_or xs i d)) (omega arith)

  pub length_chains_from : (o : ℕ) (xss : List (List A)) → length (chains_from f o xss) ≡ size_of xss
  unfolding chains_from size_of
  length_chains_from o [] = refl
  length_chains_from o (xs ∷ xss) =
      length-append (chain_from f o xs) (chains_from f (o + length xs) xss)
      ∙ let a = length_chain_from o xs in let b = length_chains_from (o + length xs) xss in omega arith

  -- chain number i stands at its place
  pub stands_chain : (qs : List Quad) (o : ℕ) (xss : List (List A)) (i : ℕ) → i < length xss → Stands qs o (chains_from f o xss)
      → Stands qs (place_of o xss i) (chain_from f (place_of o xss i) (get_or xss i []))
  unfolding chains_from place_of
  stands_chain qs o [] i h S = absurd (omega arith)
  stands_chain qs o (xs ∷ xss) zero h S = stands_front qs o (chain_from f o xs) (chains_from f (o + length xs) xss) S
  stands_chain qs o (xs ∷ xss) (suc i) h S =
      stands_chain qs (o + length xs) xss i (omega arith)
      (rw (length_chain_from o xs) at (stands_back qs o (chain_from f o xs) (chains_from f (o + length xs) xss) S))

-- a chain lies within all of them
pub place-within {ℓ} : {A : Type ℓ} (o : ℕ) (xss : List (List A)) (i : ℕ) → i < length xss
    → (o ≤ place_of o xss i) × (place_of o xss i + length (get_or xss i []) ≤ o + size_of xss)
unfolding place_of size_of
place-within o [] i h = absurd (omega arith)
place-within o (xs ∷ xss) zero h = (omega arith, omega arith)
place-within o (xs ∷ xss) (suc i) h = let r = place-within (o + length xs) xss i (omega arith) in (omega (arith, r.0), omega (arith, r.1))

-- the key law: in any words whose next indexes from o on are those of a chain laid there, the chain is read as its records
pub chain-laid {ℓ} : {A : Type ℓ} (t : List ℕ) (a : Area) → a.past ≤ records t → (r o : ℕ) (xs : List A) → r < o → a.from ≤ o → o + length xs ≤ a.past
    → ((i : ℕ) → i < length xs → word_at t (o + i) 0 ≡ head_of (o + suc i) (drop (suc i) xs))
    → chain t a r (head_of o xs) ≡ up_from o (length xs)
unfolding head_of up_from
chain-laid t a w r o [] h l m s = chain_end t a r
chain-laid t a w r o (x ∷ xs) h l m s =
    let e : o + 0 ≡ o = omega arith in
    let e' : o + 1 ≡ suc o = omega arith in
    chain-step t a w r o (λ z. omega arith) (names_good a r o l (omega arith) h)
    ∙ ap (λ (k : List ℕ). o ∷ k)
    (ap (chain t a o) (rw (e, e') at (s 0 (omega arith)))
    ∙ chain-laid t a w o (suc o) xs (omega arith) (omega arith) (omega arith)
    (λ i b.
    ap (λ (k : ℕ). word_at t k 0) (omega arith) ∙ s (suc i) (omega arith) ∙ ap (λ (k : ℕ). head_of k (drop (suc i) xs)) (omega arith)))

-- and a decoding that gives back each element gives back the list
pub map-up_from {ℓ} : {A : Type ℓ} (g : ℕ → A) (o : ℕ) (xs : List A) (d : A) → ((i : ℕ) → i < length xs → g (o + i) ≡ get_or xs i d) → map g (up_from o (length xs)) ≡ xs
unfolding up_from
map-up_from g o [] d h = refl
map-up_from {A = A} g o (x ∷ xs) d h =
    let e : o ≡ o + 0 = omega arith in
    ap (λ (y : A). y ∷ map g (up_from (suc o) (length xs))) (ap g e ∙ h 0 (omega arith))
    ∙ ap (λ (l : List A). x ∷ l) (map-up_from g (suc o) xs d (λ i b. ap g (omega arith) ∙ h (suc i) (omega arith)))
