-- FIRST as the least solution (docs/RULES.md, "FIRST"): a round makes sets larger and never smaller, so the rounds come to rest before the fuel of
-- specs/First does; what is reached solves every production, and lies within any other solution.
use mathlib.Core.Path.{◌≡◌, refl, sym, ap, ◌∙◌, subst}
use mathlib.Core.Bool.{true, false, ◌&&◌}
use mathlib.Core.List.{List, [], ◌∷◌, ◌++◌, Memᴰ}
use Prim.Native.Nat.{ℕ, zero, suc, ◌-◌, ◌^◌, ◌≤◌, ◌<◌}
use native.Mathlib.Omega.{arith}
use lib.Dec.{eqb, ltb}
use lib.ListN.{length, get_or, replicate, length-set}
use lib.Seq.{get_or-set_same, get_or-set_other, set_out, ext_get_or}
use borrow.Author.Tests.{eqb-true, eqb-false, ltb-true, ltb-false}
use Rattle.lr1_base.specs.repr.Sizes.{nonterminal_limit, terminal_limit}
use Rattle.lr1_base.proofs.repr.Tests.{All-map, All_member}
use Rattle.lr1_base.proofs.lookahead.Growing.{Inside, inside_refl, inside_trans, inside_antisym, inside-none, same_between, total, total_inside, Sized, none_sized, total_lt}
use Rattle.lr1_base.proofs.words.Same.{same_words_eq, eq_same_words}
use Rattle.lr1_base.specs.words.Same.{same_words}
use Rattle.lr1_base.specs.repr.Meaning.{Symbol, nonterminal, terminal, Production, Table, SymbolFits, All, ProductionFits, TableFits}
use Rattle.lr1_base.proofs.repr.Lists.{cases}
use Rattle.lr1_base.specs.lookahead.Tokens.{union, Within}
use Rattle.lr1_base.proofs.lookahead.Laws.{union_lt}
use Rattle.lr1_base.proofs.lookahead.Sets.{union-within, within_refl, within_trans, within-union-left, within_same_union, union-within-union}
use Rattle.first.specs.First.{marked_at_end, grown, round, settle, rounds, sets_of_first}
use Rattle.first.proofs.Join.{end_marked-within, end_marked_lt, TerminalBelow}

-- one production

pub length-grown : (e : ℕ) (S : List ℕ) (p : Production) → length (grown e S p) ≡ length S
unfolding grown
length-grown e S p = simp length-set

pub grown_at : (e : ℕ) (S : List ℕ) (p : Production) → p.nonterminal < length S → get_or (grown e S p) p.nonterminal 0 ≡ union (get_or S p.nonterminal 0) (marked_at_end e S p.symbols)
unfolding grown
grown_at e S p h = get_or-set_same S p.nonterminal (union (get_or S p.nonterminal 0) (marked_at_end e S p.symbols)) 0 h

pub grown-other : (e : ℕ) (S : List ℕ) (p : Production) (n : ℕ) → (n ≡ p.nonterminal → ⊥) → get_or (grown e S p) n 0 ≡ get_or S n 0
unfolding grown
grown-other e S p n h = get_or-set_other S p.nonterminal n (union (get_or S p.nonterminal 0) (marked_at_end e S p.symbols)) 0 h

pub grown-out : (e : ℕ) (S : List ℕ) (p : Production) → length S ≤ p.nonterminal → grown e S p ≡ S
unfolding grown
grown-out e S p h = set_out S p.nonterminal (union (get_or S p.nonterminal 0) (marked_at_end e S p.symbols)) h

-- what a grown set is: as before, or the nonterminal's with what the production gives
pub grown-cases {ℓ} : (e : ℕ) (S : List ℕ) (p : Production) (n : ℕ) (P : ℕ → Type ℓ) → P (get_or S n 0) → (n ≡ p.nonterminal → P (union (get_or S n 0) (marked_at_end e S p.symbols))) → P (get_or (grown e S p) n 0)
grown-cases e S p n P old new =
    cases (eqb n p.nonterminal)
    (λ t.
    let q = eqb-true n p.nonterminal t in
    cases (ltb p.nonterminal (length S))
    (λ u. subst P (sym (ap (λ (m : ℕ). get_or (grown e S p) m 0) q ∙ grown_at e S p (ltb-true p.nonterminal (length S) u) ∙ ap (λ (m : ℕ). union (get_or S m 0) (marked_at_end e S p.symbols)) (sym q))) (new q))
    (λ u. subst P (sym (ap (λ (l : List ℕ). get_or l n 0) (grown-out e S p (ltb-false p.nonterminal (length S) u)))) old))
    (λ t. subst P (sym (grown-other e S p n (eqb-false n p.nonterminal t))) old)

pub grown-inside : (e : ℕ) (S : List ℕ) (p : Production) → Inside S (grown e S p)
grown-inside e S p n =
    grown-cases e S p n (Within (get_or S n 0)) (within_refl (get_or S n 0)) (λ q. within-union-left (get_or S n 0) (marked_at_end e S p.symbols))

-- in what is closed under the production it stays
pub grown-below : (e : ℕ) (S R : List ℕ) (p : Production) → Inside S R → Within (marked_at_end e R p.symbols) (get_or R p.nonterminal 0) → Inside (grown e S p) R
grown-below e S R p f c n =
    grown-cases e S p n (λ (a : ℕ). Within a (get_or R n 0)) (f n) (λ q.
    union-within (get_or S n 0) (marked_at_end e S p.symbols) (get_or R n 0) (f n)
    (rw q (within_trans (marked_at_end e S p.symbols) (marked_at_end e R p.symbols) (get_or R p.nonterminal 0) (end_marked-within e S R f p.symbols) c)))

pub grown-within : (e : ℕ) (S R : List ℕ) (p : Production) → length S ≡ length R → Inside S R → Inside (grown e S p) (grown e R p)
grown-within e S R p l f n =
    cases (ltb p.nonterminal (length R))
    (λ u.
    let h = ltb-true p.nonterminal (length R) u in
    grown-cases e S p n (λ (a : ℕ). Within a (get_or (grown e R p) n 0))
    (within_trans (get_or S n 0) (get_or R n 0) (get_or (grown e R p) n 0) (f n) (grown-inside e R p n))
    (λ q. rw (q, grown_at e R p h)
    (union-within-union (get_or S p.nonterminal 0) (marked_at_end e S p.symbols) (get_or R p.nonterminal 0) (marked_at_end e R p.symbols) (f p.nonterminal) (end_marked-within e S R f p.symbols))))
    (λ u.
    let h = ltb-false p.nonterminal (length R) u in
    rw (grown-out e S p (rw l h), grown-out e R p h) (f n))

-- a grown list is the same exactly if the production gives nothing new
pub grown_same : (e : ℕ) (S : List ℕ) (p : Production) → p.nonterminal < length S → same_words (grown e S p) S ≡ eqb (union (get_or S p.nonterminal 0) (marked_at_end e S p.symbols)) (get_or S p.nonterminal 0)
grown_same e S p h =
    cases (eqb (union (get_or S p.nonterminal 0) (marked_at_end e S p.symbols)) (get_or S p.nonterminal 0))
    (λ t. rw t (eq_same_words (grown e S p) S (ext_get_or 0 (grown e S p) S (length-grown e S p) (λ i l.
    grown-cases e S p i (λ (a : ℕ). a ≡ get_or S i 0) refl (λ q. rw q (eqb-true (union (get_or S p.nonterminal 0) (marked_at_end e S p.symbols)) (get_or S p.nonterminal 0) t))))))
    (λ t. rw t (cases (same_words (grown e S p) S)
    (λ u. absurd (eqb-false (union (get_or S p.nonterminal 0) (marked_at_end e S p.symbols)) (get_or S p.nonterminal 0) t (sym (grown_at e S p h) ∙ ap (λ (l : List ℕ). get_or l p.nonterminal 0) (same_words_eq (grown e S p) S u))))
    (λ u. u)))

-- a round

pub round-nil : (e : ℕ) (S : List ℕ) → round e S [] ≡ S
unfolding round
round-nil e S = refl

pub round-cons : (e : ℕ) (S : List ℕ) (p : Production) (ps : List Production) → round e S (p ∷ ps) ≡ round e (grown e S p) ps
unfolding round
round-cons e S p ps = refl

pub round-append : (e : ℕ) (S : List ℕ) (ps qs : List Production) → round e S (ps ++ qs) ≡ round e (round e S ps) qs
unfolding round
round-append e S [] qs = refl
round-append e S (p ∷ ps) qs = round-append e (grown e S p) ps qs

pub round_snoc : (e : ℕ) (S : List ℕ) (ps : List Production) (p : Production) → round e S (ps ++ p ∷ []) ≡ grown e (round e S ps) p
unfolding round
round_snoc e S [] p = refl
round_snoc e S (q ∷ ps) p = round_snoc e (grown e S q) ps p

pub length-round : (e : ℕ) (S : List ℕ) (ps : List Production) → length (round e S ps) ≡ length S
unfolding round
length-round e S [] = refl
length-round e S (p ∷ ps) = length-round e (grown e S p) ps ∙ length-grown e S p

pub round-inside : (e : ℕ) (S : List ℕ) (ps : List Production) → Inside S (round e S ps)
unfolding round
round-inside e S [] = inside_refl S
round-inside e S (p ∷ ps) = inside_trans S (grown e S p) (round e (grown e S p) ps) (grown-inside e S p) (round-inside e (grown e S p) ps)

pub round-within : (e : ℕ) (S R : List ℕ) (ps : List Production) → length S ≡ length R → Inside S R → Inside (round e S ps) (round e R ps)
unfolding round
round-within e S R [] l f = f
round-within e S R (p ∷ ps) l f =
    round-within e (grown e S p) (grown e R p) ps (length-grown e S p ∙ l ∙ sym (length-grown e R p)) (grown-within e S R p l f)

-- so a round is the same exactly if each step of it is
pub round_same_snoc : (e : ℕ) (S : List ℕ) (ps : List Production) (p : Production) → same_words (round e S (ps ++ p ∷ [])) S ≡ (same_words (round e S ps) S && same_words (grown e (round e S ps) p) (round e S ps))
round_same_snoc e S ps p =
    rw (round_snoc e S ps p) (same_between S (round e S ps) (grown e (round e S ps) p) (sym (length-round e S ps)) (round-inside e S ps) (grown-inside e (round e S ps) p))

-- a round that changes something raises the sum
pub round_raises : (e : ℕ) (S : List ℕ) (ps : List Production) → same_words (round e S ps) S ≡ false → total S < total (round e S ps)
round_raises e S ps h = total_inside S (round e S ps) (sym (length-round e S ps)) (round-inside e S ps) h

-- what the numbers must be for the sets to stay words of 64 bits: owners below 32, terminals and end below 64

pub record ProductionSmall (p : Production) : Type 0 where
  pub owner : p.nonterminal < nonterminal_limit
  pub symbols : All (TerminalBelow 64) p.symbols

pub record Small (e : ℕ) (ps : List Production) : Type 0 where
  pub end : e ≤ terminal_limit
  pub productions : All ProductionSmall ps

pub symbol_small : (T : Table) → TableFits T → (x : Symbol) → SymbolFits T x → TerminalBelow 64 x
unfolding SymbolFits TerminalBelow
symbol_small T F (terminal t) h = omega (arith, F.few_terminals)
symbol_small T F (nonterminal n) h = tt

-- every table that is accepted is small
pub table_small : (T : Table) → TableFits T → Small T.terminals T.productions
table_small T F = record {
  end = F.few_terminals;
  productions = All-map (ProductionFits T) ProductionSmall (λ p h. record {
    owner = omega (arith, h.owner, F.few_nonterminals);
    symbols = All-map (SymbolFits T) (TerminalBelow 64) (symbol_small T F) p.symbols h.symbols;
  }) T.productions F.productions;
}

pub grown_sized : (e : ℕ) (S : List ℕ) (p : Production) → e ≤ terminal_limit → ProductionSmall p → Sized nonterminal_limit S → Sized nonterminal_limit (grown e S p)
grown_sized e S p h k z = record {
  long = length-grown e S p ∙ z.long;
  fits = λ n. grown-cases e S p n (λ (a : ℕ). a < 2 ^ 64) (z.fits n) (λ q.
      union_lt 64 (get_or S n 0) (marked_at_end e S p.symbols) (z.fits n) (end_marked_lt e 64 S (omega arith) z.fits p.symbols k.symbols));
}

pub round_sized : (e : ℕ) (S : List ℕ) (ps : List Production) → e ≤ terminal_limit → All ProductionSmall ps → Sized nonterminal_limit S → Sized nonterminal_limit (round e S ps)
unfolding round All
round_sized e S [] h k z = z
round_sized e S (p ∷ ps) h k z = round_sized e (grown e S p) ps h k.1 (grown_sized e S p h k.0 z)

pub total_rounds : (S : List ℕ) → Sized nonterminal_limit S → total S < rounds
total_rounds S z = total_lt nonterminal_limit S (omega arith) z

-- round after round

pub settle-stop : (f e : ℕ) (S : List ℕ) (ps : List Production) → same_words (round e S ps) S ≡ true → settle f e S ps ≡ S
unfolding settle
settle-stop zero e S ps h = refl
settle-stop (suc f) e S ps h = rw (h, settle)

pub settle_again : (f e : ℕ) (S : List ℕ) (ps : List Production) → same_words (round e S ps) S ≡ false → settle (suc f) e S ps ≡ settle f e (round e S ps) ps
unfolding settle
settle_again f e S ps h = rw (h, settle)

module _ (e : ℕ) (ps : List Production) (small : Small e ps) where
  next_sized : (S : List ℕ) → Sized nonterminal_limit S → Sized nonterminal_limit (round e S ps)
  next_sized S z = round_sized e S ps small.end small.productions z

  -- what a round can still raise the sum by falls
  pub round_less : (S : List ℕ) → Sized nonterminal_limit S → same_words (round e S ps) S ≡ false → rounds - total (round e S ps) < rounds - total S
  round_less S z h = omega (arith, round_raises e S ps h, total_rounds (round e S ps) (next_sized S z))

  -- a fuel of that is enough: nothing changes any more
  pub settle_fixed : (f : ℕ) (S : List ℕ) → Sized nonterminal_limit S → rounds - total S ≤ f → round e (settle f e S ps) ps ≡ settle f e S ps
  settle_fixed zero S z h = absurd (omega (arith, total_rounds S z))
  settle_fixed (suc f) S z h =
      cases (same_words (round e S ps) S)
      (λ t. rw (settle-stop (suc f) e S ps t) (same_words_eq (round e S ps) S t))
      (λ t. rw (settle_again f e S ps t) (settle_fixed f (round e S ps) (next_sized S z) (omega (arith, round_less S z t))))

  -- and every fuel that is enough gives the same
  pub settle-enough : (f g : ℕ) (S : List ℕ) → Sized nonterminal_limit S → rounds - total S ≤ f → rounds - total S ≤ g → settle f e S ps ≡ settle g e S ps
  settle-enough zero g S z h l = absurd (omega (arith, total_rounds S z))
  settle-enough (suc f) zero S z h l = absurd (omega (arith, total_rounds S z))
  settle-enough (suc f) (suc g) S z h l =
      cases (same_words (round e S ps) S)
      (λ t. settle-stop (suc f) e S ps t ∙ sym (settle-stop (suc g) e S ps t))
      (λ t. settle_again f e S ps t ∙ settle-enough f g (round e S ps) (next_sized S z) (omega (arith, round_less S z t)) (omega (arith, round_less S z t)) ∙ sym (settle_again g e S ps t))

  -- the loop of the code: from any sets on the way the same is reached
  pub loop_more : (S : List ℕ) → Sized nonterminal_limit S → same_words (round e S ps) S ≡ false → settle rounds e (round e S ps) ps ≡ settle rounds e S ps
  loop_more S z h =
      let l = round_less S z h in
      let g : ℕ = rounds - total S in
      settle-enough rounds g (round e S ps) (next_sized S z) (omega arith) (omega arith)
      ∙ sym (settle_again g e S ps h)
      ∙ settle-enough (suc g) rounds S z (omega arith) (omega arith)

  -- the fuel of `sets_of_first` never cuts
  pub settled : round e (sets_of_first e ps) ps ≡ sets_of_first e ps
  unfolding sets_of_first
  settled = settle_fixed rounds (replicate nonterminal_limit 0) (none_sized nonterminal_limit) (omega arith)

  settle_sized : (f : ℕ) (S : List ℕ) → Sized nonterminal_limit S → Sized nonterminal_limit (settle f e S ps)
  unfolding settle
  settle_sized zero S z = z
  settle_sized (suc f) S z =
      cases (same_words (round e S ps) S)
      (λ t. rw (settle-stop (suc f) e S ps t) z)
      (λ t. rw (settle_again f e S ps t) (settle_sized f (round e S ps) (next_sized S z)))

  pub first_sets_sized : Sized nonterminal_limit (sets_of_first e ps)
  unfolding sets_of_first
  first_sets_sized = settle_sized rounds (replicate nonterminal_limit 0) (none_sized nonterminal_limit)

pub loop_start : (e : ℕ) (ps : List Production) → settle rounds e (replicate nonterminal_limit 0) ps ≡ sets_of_first e ps
unfolding sets_of_first
loop_start e ps = refl

pub loop_done : (e : ℕ) (S : List ℕ) (ps : List Production) → same_words (round e S ps) S ≡ true → settle rounds e S ps ≡ S
loop_done e S ps h = settle-stop rounds e S ps h

-- a solution: what each production gives is in its nonterminal's set

abbrev pub Closed : ℕ → List ℕ → List Production → Type 0
Closed e R ps = (p : Production) → Memᴰ p ps → Within (marked_at_end e R p.symbols) (get_or R p.nonterminal 0)

-- where a round changes nothing, no production does
fixed_grown : (e : ℕ) (S : List ℕ) (p : Production) (ps : List Production) → round e S (p ∷ ps) ≡ S → grown e S p ≡ S
fixed_grown e S p ps h =
    inside_antisym (grown e S p) S (length-grown e S p)
    (subst (Inside (grown e S p)) (sym (round-cons e S p ps) ∙ h) (round-inside e (grown e S p) ps))
    (grown-inside e S p)

fixed_closed : (e : ℕ) (S : List ℕ) (ps : List Production) → length S ≡ nonterminal_limit → All ProductionSmall ps → round e S ps ≡ S → All (λ p. Within (marked_at_end e S p.symbols) (get_or S p.nonterminal 0)) ps
unfolding All
fixed_closed e S [] l k h = tt
fixed_closed e S (p ∷ ps) l k h =
    let g = fixed_grown e S p ps h in
    let at : union (get_or S p.nonterminal 0) (marked_at_end e S p.symbols) ≡ get_or S p.nonterminal 0 = sym (grown_at e S p (omega (arith, k.0.owner))) ∙ ap (λ (l : List ℕ). get_or l p.nonterminal 0) g in (
      within_same_union (get_or S p.nonterminal 0) (marked_at_end e S p.symbols) at,
      fixed_closed e S ps l k.1 (ap (λ (l : List ℕ). round e l ps) (sym g) ∙ sym (round-cons e S p ps) ∙ h),
    )

pub solution : (e : ℕ) (ps : List Production) → Small e ps → Closed e (sets_of_first e ps) ps
solution e ps small p m =
    All_member (λ q. Within (marked_at_end e (sets_of_first e ps) q.symbols) (get_or (sets_of_first e ps) q.nonterminal 0))
    (fixed_closed e (sets_of_first e ps) ps (first_sets_sized e ps small).long small.productions (settled e ps small)) m

-- and the least one

round-below : (e : ℕ) (S R : List ℕ) (ps : List Production) → Closed e R ps → Inside S R → Inside (round e S ps) R
unfolding round
round-below e S R [] c f = f
round-below e S R (p ∷ ps) c f = round-below e (grown e S p) R ps (λ q m. c q (Memᴰ.tail m)) (grown-below e S R p f (c p (Memᴰ.head refl)))

settle-below : (f e : ℕ) (S R : List ℕ) (ps : List Production) → Closed e R ps → Inside S R → Inside (settle f e S ps) R
unfolding settle
settle-below zero e S R ps c i = i
settle-below (suc f) e S R ps c i =
    cases (same_words (round e S ps) S)
    (λ t. rw (settle-stop (suc f) e S ps t) i)
    (λ t. rw (settle_again f e S ps t) (settle-below f e (round e S ps) R ps c (round-below e S R ps c i)))

pub least : (e : ℕ) (ps : List Production) (R : List ℕ) → Closed e R ps → Inside (sets_of_first e ps) R
unfolding sets_of_first
least e ps R c = settle-below rounds e (replicate nonterminal_limit 0) R ps c (inside-none nonterminal_limit R)
