-- Comparing kernels as the library's `eq` does: two lists, place by place.
use Rattle.std.proofs.Common.{◌≡◌, ℕ, ◌%◌, Bool, true, false, not, ◌&&◌, eqb, Option, Some, None, List, [], ◌∷◌, map, length, sym, ap, ◌∙◌, arith, eqb-true}
use borrow.Author.Tests.{eqb-false}
use Rattle.std.specs.Iterator.{Yields, AlwaysYields, ComparesItemsByEq}
use Rattle.std.specs.Option.{MatchOption, IfSome}
use Rattle.std.specs.List.{filter, AllZip}
use Rattle.std.proofs.lemmas.Iterator.{YieldsList}
use Rattle.std.proofs.lemmas.Iterator.Consumers.{YieldsList-at}
use Rattle.std.proofs.lemmas.Iterator.Splits.{YieldsList-from_shown_while}
use Rattle.std.specs.declared.slice.ChunksExact.{ChunksExact}
use Rattle.std.specs.Slice.Iter.{chunks_exact_rest, chunks_exact_size, chunks_exact_steps}
use Rattle.lr1_base.specs.repr.Sizes.{index_limit}
use Rattle.lr1_base.proofs.repr.Lists.{cases}
use Rattle.lr1_states.specs.stored_item.Stored.{Entry, entry_at, same_entry, is_same_kernel}
use Rattle.lr1_states.specs.declared.stored_item.StoredItem.{StoredItem}
use Rattle.lr1_states.specs.contracts.stored_item.StoredItemPartialEq.TheImpl.{eq-value}
use Rattle.lr1_states.proofs.stored_item.Stored.{all_entries, all_none, all-more, kernel_pass, kernel_short, kernel_both, kernel_nil, kernel_long}

unfoldable pub same_list : {A : Type 0} → (A → A → Bool) → List A → List A → Bool
same_list eq [] [] = true
same_list eq [] (y ∷ ys) = false
same_list eq (x ∷ xs) [] = false
same_list eq (x ∷ xs) (y ∷ ys) = eq x y && same_list eq xs ys

module _ {S T A : Type 0} (steps : S → Option A → S → Type 0) (others : T → Option A → T → Type 0) (eq : A → A → Bool) (r : Bool) where
  abbrev Last : Option A → Option A → Type 0
  Last o p = MatchOption o (MatchOption p (r ≡ true) (λ _. r ≡ false)) (λ x. (r ≡ false) × IfSome p (λ y. eq x y ≡ false))

  last : (s : S) (it : T) (L M : List A) → AlwaysYields steps (λ z. z) s L → AlwaysYields others (λ z. z) it M → (o p : Option A) (u : S) (v : T) → steps s o u → others it p v → Last o p → r ≡ same_list eq L M
  unfolding same_list
  last s it [] [] f g None None u v a b e = e
  last s it [] [] f g None (Some y) u v a b e = absurd (g y v b)
  last s it [] [] f g (Some x) p u v a b e = absurd (f x u a)
  last s it [] (m ∷ M) f g None None u v a b e = absurd (g.0 v b)
  last s it [] (m ∷ M) f g None (Some y) u v a b e = e
  last s it [] (m ∷ M) f g (Some x) p u v a b e = absurd (f x u a)
  last s it (l ∷ L) [] f g None p u v a b e = absurd (f.0 u a)
  last s it (l ∷ L) [] f g (Some x) None u v a b e = e.0
  last s it (l ∷ L) [] f g (Some x) (Some y) u v a b e = absurd (g y v b)
  last s it (l ∷ L) (m ∷ M) f g None p u v a b e = absurd (f.0 u a)
  last s it (l ∷ L) (m ∷ M) f g (Some x) None u v a b e = absurd (g.0 v b)
  last s it (l ∷ L) (m ∷ M) f g (Some x) (Some y) u v a b e =
      let fx = (f.1 x u a).0 in
      let gy = (g.1 y v b).0 in
      let n : eq l m ≡ false = rw (← fx, ← gy) e.1 in
      e.0 ∙ sym (ap (λ (b : Bool). b && same_list eq L M) n)

  run : (xs ys : List A) → AllZip (λ x y. eq x y ≡ true) xs ys → (s : S) (it : T) (L M : List A) → AlwaysYields steps (λ z. z) s L → AlwaysYields others (λ z. z) it M → (t : S) (q : T) → Yields steps s xs t → Yields others it ys q
      → (o p : Option A) (u : S) (v : T) → steps t o u → others q p v → Last o p → r ≡ same_list eq L M
  unfolding same_list
  run [] [] z s it L M f g t q y w o p u v a b e = last s it L M f g o p u v (rw y a) (rw w b) e
  run [] (y ∷ ys) z s it L M f g t q c w o p u v a b e = absurd z
  run (x ∷ xs) [] z s it L M f g t q c w o p u v a b e = absurd z
  run (x ∷ xs) (y ∷ ys) z s it [] M f g t q c w o p u v a b e = absurd (f x c.0 c.1)
  run (x ∷ xs) (y ∷ ys) z s it (l ∷ L) [] f g t q c w o p u v a b e = absurd (g y w.0 w.1)
  run (x ∷ xs) (y ∷ ys) z s it (l ∷ L) (m ∷ M) f g t q c w o p u v a b e =
      let fx = f.1 x c.0 c.1 in
      let gy = g.1 y w.0 w.1 in
      let n : eq l m ≡ true = rw (← fx.0, ← gy.0) z.0 in
      run xs ys z.1 c.0 w.0 L M fx.1 gy.1 t q c.2 w.2 o p u v a b e ∙ sym (ap (λ (b : Bool). b && same_list eq L M) n)

pub eq_told : {S T A : Type 0} {steps : S → Option A → S → Type 0} {others : T → Option A → T → Type 0} {s : S} {other : T} {eq : A → A → Bool} {r : Bool} {L M : List A} → ComparesItemsByEq steps (λ (x it : T). it ≡ x) others s other eq r
    → YieldsList steps (λ z. z) s L → YieldsList others (λ z. z) other M → r ≡ same_list eq L M
eq_told {steps = steps} {others = others} {s = s} {eq = eq} {r = r} {L = L} {M = M} e f g =
    run steps others eq r e.1 e.2 e.10 s e.0 L M f.runs (YieldsList-at e.7 g).runs e.8.0 e.9.0 e.8.1 e.9.1 e.3 e.4 e.5 e.6 e.8.2 e.9.2 e.11

-- the items of some words, five each
pub chunks : {s : ChunksExact ℕ} → chunks_exact_size s ≡ 5 → YieldsList chunks_exact_steps (λ w. entry_at w.now 0) s (all_entries (chunks_exact_rest s))
chunks {s} h = YieldsList-from_shown_while chunks_exact_steps (λ w. entry_at w.now 0) (λ t. all_entries (chunks_exact_rest t)) (λ t. chunks_exact_size t ≡ 5)
    (λ t u e k. ap length (all_none (chunks_exact_rest t) (omega (arith, k.1.0, e))))
    (λ t x u e k. (k.0 ∙ e, ap all_entries k.1.0 ∙ all-more x.now (chunks_exact_rest u) (k.1.1 ∙ e))) s h

abbrev pub item_of : Entry → StoredItem
item_of e = record { place = e.place; set = e.set }

-- what is past index 0
abbrev pub past? : StoredItem → Bool
past? i = not (eqb (i.place % index_limit) 0)

pub kernel_list : (es ds : List Entry) → same_list eq-value.it (filter past? (map item_of es)) (map item_of ds) ≡ is_same_kernel es ds
unfolding same_list same_entry is_same_kernel
kernel_list [] [] = sym kernel_nil
kernel_list [] (d ∷ ds) = sym (kernel_long d ds)
kernel_list (e ∷ es) [] =
    let more = kernel_list es [] in
    cases (eqb (e.place % index_limit) 0)
    (λ t. rw t (more ∙ sym (kernel_pass e.place e.set es [] (eqb-true (e.place % index_limit) 0 t))))
    (λ t. rw t (sym (kernel_short e.place e.set es (eqb-false (e.place % index_limit) 0 t))))
kernel_list (e ∷ es) (d ∷ ds) =
    let more = kernel_list es ds in
    let same = kernel_list es (d ∷ ds) in
    cases (eqb (e.place % index_limit) 0)
    (λ t. rw t (same ∙ sym (kernel_pass e.place e.set es (d ∷ ds) (eqb-true (e.place % index_limit) 0 t))))
    (λ t. rw t (ap (λ (b : Bool). eq-value.it (item_of e) (item_of d) && b) more ∙ sym (kernel_both e.place e.set es d ds (eqb-false (e.place % index_limit) 0 t))))
