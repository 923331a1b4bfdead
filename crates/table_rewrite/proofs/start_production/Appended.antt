-- A production put behind the packed ones.
use mathlib.Core.Path.{◌≡◌, refl, sym, ap, ◌∙◌, subst}
use mathlib.Core.Bool.{true}
use mathlib.Core.List.{List, [], ◌∷◌, ◌++◌}
use Prim.Native.Nat.{ℕ, ◌+◌, ◌*◌, ◌≤◌, ◌<◌}
use native.Mathlib.Omega.{arith}
use lib.ListN.{length, get_or, take, drop, set, length-set, length-append, get_or-append}
use lib.Seq.{get_or-set_same, get_or-set_other, take-set-le, get_or-append-add}
use lib.Dec.{ltb}
use borrow.Author.Tests.{ltb-true, ltb-false, lt-ltb}
use Rattle.lr1_base.specs.repr.Sizes.{nonterminal_limit, terminal_limit, production_limit, symbol_limit, production_place}
use Rattle.lr1_base.specs.repr.Meaning.{nonterminal, Production, no_production}
use Rattle.lr1_base.specs.repr.Listed.{symbol_of_kind, listed, symbol_is_fit, list_is_fit}
use Rattle.lr1_base.specs.repr.Packed.{Packed, symbol_words, production_in, productions_in}
use Rattle.lr1_base.proofs.repr.Lists.{cases, get_d_map-below}
use Rattle.lr1_base.proofs.repr.Fronts.{same_part, same_word}
use Rattle.lr1_base.proofs.repr.Listed.{drop_two}
use Rattle.table_rewrite.proofs.spelling.Meaning.{map-below-is}
use Rattle.lr1_base.proofs.repr.Packed.{productions_long}

-- six words from b on, one after the other
module _ (g : List ℕ) (b x z : ℕ) where
  abbrev put0 : List ℕ
  put0 = set g b x

  abbrev put1 : List ℕ
  put1 = set put0 (b + 1) 1

  abbrev put2 : List ℕ
  put2 = set put1 (b + 2) 0

  abbrev put3 : List ℕ
  put3 = set put2 (b + 3) 0

  abbrev put4 : List ℕ
  put4 = set put3 (b + 4) 0

  abbrev six : List ℕ
  six = set put4 (b + 5) z

  six_long : length six ≡ length g
  six_long = simp length-set

  module _ (h : b + 5 < length g) where
    other : (l : List ℕ) (i j a : ℕ) → (j ≡ i → ⊥) → get_or (set l i a) j 0 ≡ get_or l j 0
    other l i j a n = get_or-set_other l i j a 0 n

    same : (l : List ℕ) (i a : ℕ) → length l ≡ length g → i ≤ b + 5 → get_or (set l i a) i 0 ≡ a
    same l i a e k = get_or-set_same l i a 0 (omega arith)

    six_front : take b six ≡ take b g
    six_front =
        take-set-le b put4 (b + 5) z (omega arith)
        ∙ take-set-le b put3 (b + 4) 0 (omega arith)
        ∙ take-set-le b put2 (b + 3) 0 (omega arith)
        ∙ take-set-le b put1 (b + 2) 0 (omega arith)
        ∙ take-set-le b put0 (b + 1) 1 (omega arith)
        ∙ take-set-le b g b x (omega arith)

    six_0 : get_or six b 0 ≡ x
    six_0 =
        other put4 (b + 5) b z (λ e. omega arith)
        ∙ other put3 (b + 4) b 0 (λ e. omega arith)
        ∙ other put2 (b + 3) b 0 (λ e. omega arith)
        ∙ other put1 (b + 2) b 0 (λ e. omega arith)
        ∙ other put0 (b + 1) b 1 (λ e. omega arith)
        ∙ same g b x refl (omega arith)

    six_1 : get_or six (b + 1) 0 ≡ 1
    six_1 =
        other put4 (b + 5) (b + 1) z (λ e. omega arith)
        ∙ other put3 (b + 4) (b + 1) 0 (λ e. omega arith)
        ∙ other put2 (b + 3) (b + 1) 0 (λ e. omega arith)
        ∙ other put1 (b + 2) (b + 1) 0 (λ e. omega arith)
        ∙ same put0 (b + 1) 1 (simp length-set) (omega arith)

    six_2 : get_or six (b + 2) 0 ≡ 0
    six_2 =
        other put4 (b + 5) (b + 2) z (λ e. omega arith)
        ∙ other put3 (b + 4) (b + 2) 0 (λ e. omega arith)
        ∙ other put2 (b + 3) (b + 2) 0 (λ e. omega arith)
        ∙ same put1 (b + 2) 0 (simp length-set) (omega arith)

    six_3 : get_or six (b + 3) 0 ≡ 0
    six_3 =
        other put4 (b + 5) (b + 3) z (λ e. omega arith)
        ∙ other put3 (b + 4) (b + 3) 0 (λ e. omega arith)
        ∙ same put2 (b + 3) 0 (simp length-set) (omega arith)

    six_4 : get_or six (b + 4) 0 ≡ 0
    six_4 =
        other put4 (b + 5) (b + 4) z (λ e. omega arith)
        ∙ same put3 (b + 4) 0 (simp length-set) (omega arith)

    six_5 : get_or six (b + 5) 0 ≡ z
    six_5 =
        same put4 (b + 5) z (simp length-set) (omega arith)

-- a production's list of one nonterminal
one_fits : (n : ℕ) → n < nonterminal_limit → list_is_fit nonterminal_limit terminal_limit (0 ∷ n ∷ []) ≡ true
unfolding list_is_fit symbol_is_fit
one_fits n h = rw (lt-ltb n nonterminal_limit h)

one_listed : (n : ℕ) → listed (0 ∷ n ∷ []) ≡ nonterminal n ∷ []
unfolding listed symbol_of_kind
one_listed n = refl

module _ (g : List ℕ) (m owner n : ℕ) (P : Packed g m) (few : m < production_limit) (ho : owner < nonterminal_limit) (hn : n < nonterminal_limit) where
  room : production_place m + 5 < length g
  room = omega (arith, P.long)

  abbrev after : List ℕ
  after = six g (production_place m) owner n

  long : length after ≡ length g
  long = six_long g (production_place m) owner n

  -- the others stay
  module _ (p : ℕ) (h : p < m) where
    kept : (k : ℕ) → k < 36 → get_or after (production_place p + k) 0 ≡ get_or g (production_place p + k) 0
    kept k l = same_word (production_place m) (production_place p + k) after g (six_front g (production_place m) owner n room) (omega arith)

    kept_owner : get_or after (production_place p) 0 ≡ get_or g (production_place p) 0
    kept_owner = same_word (production_place m) (production_place p) after g (six_front g (production_place m) owner n room) (omega arith)

    kept-words : symbol_words after p ≡ symbol_words g p
    unfolding symbol_words
    kept-words =
        let c = kept 1 (omega arith) in
        let s = P.short p h in
        ap (λ (k : ℕ). take (2 * k) (drop (production_place p + 4) after)) c
        ∙ same_part (production_place m) (production_place p + 4) (2 * get_or g (production_place p + 1) 0) after g (six_front g (production_place m) owner n room) (omega arith)

    kept-production : production_in after p ≡ production_in g p
    unfolding production_in
    kept-production = rw (kept_owner, kept-words, kept 2 (omega arith), kept 3 (omega arith))

  -- the new one
  new_words : symbol_words after m ≡ 0 ∷ n ∷ []
  unfolding symbol_words
  new_words =
      let l = long in
      let z : production_place m + 4 + 1 ≡ production_place m + 5 = omega arith in
      ap (λ (k : ℕ). take (2 * k) (drop (production_place m + 4) after)) (six_1 g (production_place m) owner n room)
      ∙ ap (take 2) (drop_two after (production_place m + 4) (omega (arith, room)))
      ∙ ap (λ (k : ℕ). k ∷ get_or after (production_place m + 4 + 1) 0 ∷ []) (six_4 g (production_place m) owner n room)
      ∙ ap (λ (k : ℕ). 0 ∷ get_or after k 0 ∷ []) z
      ∙ ap (λ (k : ℕ). 0 ∷ k ∷ []) (six_5 g (production_place m) owner n room)

  abbrev added : Production
  added = record { nonterminal = owner; symbols = nonterminal n ∷ []; start = 0; end = 0 }

  new_production : production_in after m ≡ added
  unfolding production_in
  new_production = rw (six_0 g (production_place m) owner n room, new_words, one_listed n, six_2 g (production_place m) owner n room, six_3 g (production_place m) owner n room)

  which {ℓ} : (Q : ℕ → Type ℓ) → ((p : ℕ) → p < m → Q p) → Q m → (p : ℕ) → p < m + 1 → Q p
  which Q old new p h =
      cases (ltb p m) (λ e. old p (ltb-true p m e))
      (λ e. let b = ltb-false p m e in let z : m ≡ p = omega arith in subst Q z new)

  pub appended_packed : Packed after (m + 1)
  appended_packed = record {
    long = long ∙ P.long;
    few = omega arith;
    owner = which (λ p. get_or after (production_place p) 0 < nonterminal_limit) (λ p h. let k = kept_owner p h in let o = P.owner p h in omega arith) (let k = six_0 g (production_place m) owner n room in omega arith);
    short = which (λ p. get_or after (production_place p + 1) 0 ≤ symbol_limit) (λ p h. let k = kept p h 1 (omega arith) in let o = P.short p h in omega arith) (let k = six_1 g (production_place m) owner n room in omega arith);
    fits = which (λ p. list_is_fit nonterminal_limit terminal_limit (symbol_words after p) ≡ true) (λ p h. rw (kept-words p h) (P.fits p h)) (rw new_words (one_fits n hn));
  }

  pub appended_is : productions_in after (m + 1) ≡ productions_in g m ++ added ∷ []
  unfolding productions_in
  appended_is =
      let l = productions_long g m in
      let a = length-append (productions_in g m) (added ∷ []) in
      map-below-is (production_in after) (m + 1) (productions_in g m ++ added ∷ []) no_production (omega arith)
      (λ i h.
      which (λ p. production_in after p ≡ get_or (productions_in g m ++ added ∷ []) p no_production)
      (λ p b. kept-production p b ∙ sym (get_or-append (productions_in g m) (added ∷ []) no_production p (omega arith) ∙ get_d_map-below (production_in g) m p no_production b))
      (let z : length (productions_in g m) + 0 ≡ m = omega arith in
      new_production ∙ sym (ap (λ (k : ℕ). get_or (productions_in g m ++ added ∷ []) k no_production) (sym z) ∙ get_or-append-add (productions_in g m) (added ∷ []) 0 no_production))
      i (omega arith))
