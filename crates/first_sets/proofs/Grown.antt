-- Sets to which a production was added, and to which it adds nothing.
use Rattle.std.proofs.Common.{◌≡◌, ℕ, ◌+◌, ◌<◌, ◌⊎◌, inl, inr, List, [], ◌∷◌, length, get_or, take, refl, subst, arith, append-nil, below_more, Bool, true, false, All}
use Rattle.std.specs.Bool.{OnFalse}
use Rattle.std.proofs.lemmas.List.Elements.{All-more, All-weaker}
use Rattle.std.proofs.lemmas.Bool.{cases_lt}
use Rattle.bit_table.specs.Table.{KeepsBits}
use Rattle.grammar.specs.declared.symbol.Symbol.{Symbol}
use Rattle.grammar.specs.declared.symbol.Symbol.TheVariants.{Terminal, Nonterminal}
use Rattle.grammar.specs.declared.symbol.Production.{Production}
use Rattle.grammar.specs.Derives.{HasRule, Derives}
use Rattle.grammar.proofs.Derivations.{derives_trans, derives_rule}
use Rattle.first_sets.specs.declared.sets.FirstSets.{FirstSets}
use Rattle.first_sets.specs.Sets.{IsSound, IsClosedFor, SymbolNull, AllNull, SymbolFirst, InFirst, IsSame, null_of, first_of}
use Rattle.first_sets.proofs.Textbook.{null_sound, first_sound, null_place, first_at, place_of}

rule : (ps : List Production) (l : ℕ) (r : List Symbol) → HasRule ps l r → Derives ps (Nonterminal l ∷ []) r
rule ps l r h = rw append-nil at (derives_rule l r [] h)

-- what is new comes from the production
pub grown_sound : (ps : List Production) (old new : FirstSets) (l : ℕ) (r : List Symbol) → HasRule ps l r → IsSound ps old
    → ((n : ℕ) → null_of new n → null_of old n ⊎ ((n ≡ l) × AllNull old r))
    → ((n t : ℕ) → first_of new n t → first_of old n t ⊎ ((n ≡ l) × InFirst old r t))
    → IsSound ps new
grown_sound ps old new l r h sound nulls firsts = record {
  null = λ n a. elim (nulls n a) [
    | inl k ↦ sound.null n k
    | inr k ↦ rw k.0 (derives_trans (rule ps l r h) (rw append-nil at (null_sound old ps sound r [] k.1)))
  ];
  first = λ n t f. elim (firsts n t f) [
    | inl k ↦ sound.first n t k
    | inr k ↦ let b = first_sound old ps sound r t k.1 in rw k.0 (b.0, derives_trans (rule ps l r h) b.1)
  ];
}

-- nothing is added where the symbol at i is not empty, and all up to it are covered
pub closed_at : (s : FirstSets) (l : ℕ) (r : List Symbol) (i : ℕ) → i < length r → (SymbolNull s (get_or r i (Terminal 0)) → ⊥)
    → ((j : ℕ) → j < i + 1 → (t : ℕ) → SymbolFirst s (get_or r j (Terminal 0)) t → first_of s l t) → IsClosedFor s l r
closed_at s l r i within full covered = record {
  null = λ a. absurd (full (null_place s r a i within));
  first = λ t f. let p = place_of s r t f in elim (cases_lt p.index (i + 1)) [
    | inl k ↦ covered p.index k t p.first
    | inr k ↦ absurd (full (p.before i (omega arith)))
  ];
}

-- nor where all are covered, and the mark is set
pub closed_all : (s : FirstSets) (l : ℕ) (r : List Symbol) → null_of s l
    → ((j : ℕ) → j < length r → (t : ℕ) → SymbolFirst s (get_or r j (Terminal 0)) t → first_of s l t) → IsClosedFor s l r
closed_all s l r null covered = record {
  null = λ a. null;
  first = λ t f. let p = place_of s r t f in covered p.index p.within t p.first;
}

-- ---- the same sets

symbol_null : (s u : FirstSets) → IsSame s u → (x : Symbol) → SymbolNull s x → SymbolNull u x
symbol_null s u same (Terminal t) h = h
symbol_null s u same (Nonterminal n) h = rw same.nullable h

symbol_null_back : (s u : FirstSets) → IsSame s u → (x : Symbol) → SymbolNull u x → SymbolNull s x
symbol_null_back s u same (Terminal t) h = h
symbol_null_back s u same (Nonterminal n) h = rw same.nullable at h

all_null_back : (s u : FirstSets) → IsSame s u → (xs : List Symbol) → AllNull u xs → AllNull s xs
all_null_back s u same [] h = tt
all_null_back s u same (x ∷ xs) h = (symbol_null_back s u same x h.0, all_null_back s u same xs h.1)

symbol_first_back : (s u : FirstSets) → IsSame s u → (x : Symbol) (t : ℕ) → SymbolFirst u x t → SymbolFirst s x t
symbol_first_back s u same (Terminal v) t h = h
symbol_first_back s u same (Nonterminal n) t h = same.no_more n t h

first_back : (s u : FirstSets) → IsSame s u → (xs : List Symbol) (t : ℕ) → InFirst u xs t → InFirst s xs t
first_back s u same [] t h = h
first_back s u same (x ∷ xs) t (inl h) = inl (symbol_first_back s u same x t h)
first_back s u same (x ∷ xs) t (inr h) = inr (symbol_null_back s u same x h.0, first_back s u same xs t h.1)

pub closed_same : (s u : FirstSets) → IsSame s u → (l : ℕ) (r : List Symbol) → IsClosedFor s l r → IsClosedFor u l r
closed_same s u same l r c = record {
  null = λ a. rw same.nullable (c.null (all_null_back s u same r a));
  first = λ t f. same.kept l t (c.first t (first_back s u same r t f));
}

-- ---- one production's symbols in turn

pub on_false : (b : Bool) {P : Type 0} → (b ≡ false → P) → OnFalse b P
on_false true f = tt
on_false false f = f refl

symbol_first_within : (s u : FirstSets) → KeepsBits u.sets s.sets → (x : Symbol) (t : ℕ) → SymbolFirst u x t → SymbolFirst s x t
symbol_first_within s u within (Terminal v) t h = h
symbol_first_within s u within (Nonterminal n) t h = within n t h

-- the sets of s with what a symbol behind empty ones has
pub added_sound : (ps : List Production) (s u : FirstSets) (l : ℕ) (r : List Symbol) (i : ℕ) → HasRule ps l r → IsSound ps s → u.nullable ≡ s.nullable
    → ((n t : ℕ) → first_of u n t → first_of s n t ⊎ ((n ≡ l) × SymbolFirst s (get_or r i (Terminal 0)) t))
    → i < length r → ((j : ℕ) → j < i → SymbolNull s (get_or r j (Terminal 0))) → IsSound ps u
added_sound ps s u l r i rule sound nullable only within null =
    grown_sound ps s u l r rule sound (λ n a. inl (rw nullable at a))
    (λ n t f. elim (only n t f) [ inl k ↦ inl k | inr k ↦ inr (k.0, first_at s r t i within null k.1) ])

-- the symbols below i that are covered
abbrev pub Covered : FirstSets → ℕ → List Symbol → ℕ → Type 0
Covered s l r i = (j : ℕ) → j < i → (t : ℕ) → SymbolFirst s (get_or r j (Terminal 0)) t → first_of s l t

pub covered_more : (s u : FirstSets) (l : ℕ) (r : List Symbol) (i : ℕ) → KeepsBits s.sets u.sets → KeepsBits u.sets s.sets
    → ((t : ℕ) → SymbolFirst s (get_or r i (Terminal 0)) t → first_of u l t) → Covered s l r i → Covered u l r (i + 1)
covered_more s u l r i keeps within adds covered =
    below_more (λ (j : ℕ). (t : ℕ) → SymbolFirst u (get_or r j (Terminal 0)) t → first_of u l t) i
    (λ j k t f. keeps l t (covered j k t (symbol_first_within s u within (get_or r j (Terminal 0)) t f)))
    (λ t f. adds t (symbol_first_within s u within (get_or r i (Terminal 0)) t f))

-- ---- the productions in turn

pub closed_more : (ps : List Production) (s u : FirstSets) → IsSame s u → (i : ℕ) → i < length ps → (p : Production) → p ≡ get_or ps i p → IsClosedFor u p.left p.right.items
    → All (λ (q : Production). IsClosedFor s q.left q.right.items) (take i ps) → All (λ (q : Production). IsClosedFor u q.left q.right.items) (take (i + 1) ps)
closed_more ps s u same i within p at closed all =
    let P : Production → Type 0 = λ q. IsClosedFor u q.left q.right.items in
    All-more P ps i p within (All-weaker (λ (q : Production). IsClosedFor s q.left q.right.items) P (λ q. closed_same s u same q.left q.right.items) (take i ps) all) (subst P at closed)

pub symbol_null_same : (s u : FirstSets) → u.nullable ≡ s.nullable → (x : Symbol) → SymbolNull s x → SymbolNull u x
symbol_null_same s u same (Terminal t) h = h
symbol_null_same s u same (Nonterminal n) h = rw same h
