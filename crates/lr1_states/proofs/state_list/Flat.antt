-- A packed state flat again is the state (`unpacked-packed`); what is stored is read, and nothing before it changes (`put_all_here`, `put_all-before`).
use Rattle.std.specs.Prelude.{◌≡◌, ℕ, zero, suc, ◌+◌, ◌-◌, ◌*◌, ◌<◌, ◌≤◌, eqb, ltb, List, [], ◌∷◌, ◌++◌, length, get_or, set, replicate}
use mathlib.Core.Path.{refl, sym, ap, ◌∙◌}
use native.Mathlib.Numerals.{add-one}
use native.Mathlib.Omega.{arith}
use lib.ListN.{length-set, length-append, length-replicate, get_or-append}
use lib.Seq.{get_or-set_same, get_or-set_other, get_or-append-add, ext_get_or}
use borrow.Author.Tests.{eqb-true, eqb-false, ltb-true, ltb-false}
use Rattle.lr1_base.specs.repr.Sizes.{item_limit}
use Rattle.lr1_base.specs.repr.Lists.{up_from, below, keep}
use Rattle.lr1_base.proofs.repr.Lists.{cases}
use Rattle.lr1_states.specs.stored_item.Stored.{Entry, entry_at, entries, put_entry, held, packed}
use Rattle.lr1_states.proofs.stored_item.Stored.{entries-more, entries_same, put_here, put_other, length-put}
use Rattle.lr1_states.proofs.stored_item.Packed.{held_none, held-some}
use Rattle.lr1_states.specs.state_list.Kept.{puts, unpacked, put_all}
use Rattle.lr1_base.proofs.laws.Lists.{zero_at}

-- flat again

length-puts : (S : List ℕ) (es : List Entry) → length (puts S es) ≡ length S
unfolding puts
length-puts S [] = refl
length-puts S (e ∷ es) = length-puts (set S e.place e.set) es ∙ simp length-set

module _ (M : List ℕ) where
  puts_skip : (S : List ℕ) (x n : ℕ) → get_or M x 0 ≡ 0 → puts S (held M (up_from x (suc n))) ≡ puts S (held M (up_from (suc x) n))
  unfolding up_from
  puts_skip S x n z = ap (puts S) (held_none M x (up_from (suc x) n) z)

  puts_here : (S : List ℕ) (x n : ℕ) → (get_or M x 0 ≡ 0 → ⊥) → puts S (held M (up_from x (suc n))) ≡ puts (set S x (get_or M x 0)) (held M (up_from (suc x) n))
  unfolding up_from puts
  puts_here S x n z = ap (puts S) (held-some M x (up_from (suc x) n) z)

  puts_end : (S : List ℕ) (x : ℕ) → puts S (held M (up_from x 0)) ≡ S
  unfolding up_from puts keep
  puts_end S x = refl

  -- one place more, for what is said of place i
  puts_by : (S : List ℕ) (x n i v : ℕ) → (get_or M x 0 ≡ 0 → get_or (puts S (held M (up_from (suc x) n))) i 0 ≡ v)
      → ((get_or M x 0 ≡ 0 → ⊥) → get_or (puts (set S x (get_or M x 0)) (held M (up_from (suc x) n))) i 0 ≡ v) → get_or (puts S (held M (up_from x (suc n)))) i 0 ≡ v
  puts_by S x n i v f g =
      cases (eqb (get_or M x 0) 0)
      (λ t. let z = eqb-true (get_or M x 0) 0 t in rw (puts_skip S x n z) (f z))
      (λ t. let z = eqb-false (get_or M x 0) 0 t in rw (puts_here S x n z) (g z))

  puts-before : (S : List ℕ) (x n i : ℕ) → i < x → get_or (puts S (held M (up_from x n))) i 0 ≡ get_or S i 0
  puts-before S x zero i h = rw (puts_end S x)
  puts-before S x (suc n) i h =
      let a = puts-before S (suc x) n i (omega arith) in
      let b = puts-before (set S x (get_or M x 0)) (suc x) n i (omega arith) in
      puts_by S x n i (get_or S i 0) (λ z. a) (λ z. b ∙ get_or-set_other S x i (get_or M x 0) 0 (λ q. omega arith))

  puts-behind : (S : List ℕ) (x n i : ℕ) → x + n ≤ i → get_or (puts S (held M (up_from x n))) i 0 ≡ get_or S i 0
  puts-behind S x zero i h = rw (puts_end S x)
  puts-behind S x (suc n) i h =
      let a = puts-behind S (suc x) n i (omega arith) in
      let b = puts-behind (set S x (get_or M x 0)) (suc x) n i (omega arith) in
      puts_by S x n i (get_or S i 0) (λ z. a) (λ z. b ∙ get_or-set_other S x i (get_or M x 0) 0 (λ q. omega arith))

  puts-inside : (S : List ℕ) (x n i : ℕ) → x ≤ i → i < x + n → i < length S → get_or S i 0 ≡ 0 → get_or (puts S (held M (up_from x n))) i 0 ≡ get_or M i 0
  puts-inside S x zero i l h k e = absurd (omega arith)
  puts-inside S x (suc n) i l h k e =
      let a : (x < i) → get_or (puts S (held M (up_from (suc x) n))) i 0 ≡ get_or M i 0 = λ u. puts-inside S (suc x) n i (omega arith) (omega arith) k e in
      let b : (x < i) → get_or (puts (set S x (get_or M x 0)) (held M (up_from (suc x) n))) i 0 ≡ get_or M i 0 = λ u.
      puts-inside (set S x (get_or M x 0)) (suc x) n i (omega arith) (omega arith) (simp length-set k)
      (get_or-set_other S x i (get_or M x 0) 0 (λ q. omega arith) ∙ e) in
      cases (ltb x i)
      (λ t. let u = ltb-true x i t in puts_by S x n i (get_or M i 0) (λ z. a u) (λ z. b u))
      (λ t.
      let u = ltb-false x i t in
      let q : i ≡ x = omega arith in
      puts_by S x n i (get_or M i 0)
      (λ z. puts-before S (suc x) n i (omega arith) ∙ e ∙ sym (ap (λ (y : ℕ). get_or M y 0) q ∙ z))
      (λ z. puts-before (set S x (get_or M x 0)) (suc x) n i (omega arith) ∙ rw q (get_or-set_same S x (get_or M x 0) 0 (omega arith))))

pub unpacked-packed : (M : List ℕ) → length M ≤ item_limit → unpacked (packed M) ≡ M ++ replicate (item_limit - length M) 0
unfolding unpacked packed below
unpacked-packed M h =
    let a : length (puts (replicate item_limit 0) (held M (up_from 0 (length M)))) ≡ item_limit = length-puts (replicate item_limit 0) (held M (up_from 0 (length M))) ∙ length-replicate {A = ℕ} item_limit 0 in
    let b : length (M ++ replicate (item_limit - length M) 0) ≡ item_limit = length-append M (replicate (item_limit - length M) 0) ∙ rw (length-replicate {A = ℕ} (item_limit - length M) 0) (omega arith) in
    ext_get_or 0 (puts (replicate item_limit 0) (held M (up_from 0 (length M)))) (M ++ replicate (item_limit - length M) 0) (a ∙ sym b) (λ i l.
    let m : i < item_limit = rw a at l in
    cases (ltb i (length M))
    (λ t.
    let u = ltb-true i (length M) t in
    puts-inside M (replicate item_limit 0) 0 (length M) i (omega arith) (omega arith) (rw (length-replicate {A = ℕ} item_limit 0) m) (zero_at item_limit i)
    ∙ sym (get_or-append M (replicate (item_limit - length M) 0) 0 i u))
    (λ t.
    let u = ltb-false i (length M) t in
    let q : length M + (i - length M) ≡ i = omega arith in
    puts-behind M (replicate item_limit 0) 0 (length M) i (omega arith) ∙ zero_at item_limit i
    ∙ sym (ap (λ (y : ℕ). get_or (M ++ replicate (item_limit - length M) 0) y 0) (sym q) ∙ get_or-append-add M (replicate (item_limit - length M) 0) (i - length M) 0 ∙ zero_at (item_limit - length M) (i - length M))))

-- stored

pub put_all-other : (ws : List ℕ) (m : ℕ) (es : List Entry) (j : ℕ) → j < m → entry_at (put_all ws m es) j ≡ entry_at ws j
unfolding put_all
put_all-other ws m [] j h = refl
put_all-other ws m (e ∷ es) j h = put_all-other (put_entry ws m e.place e.set) (m + 1) es j (omega arith) ∙ put_other ws m j e.place e.set (λ q. omega arith)

pub put_all-before : (ws : List ℕ) (m : ℕ) (es : List Entry) (j n : ℕ) → j + n ≤ m → entries (put_all ws m es) j n ≡ entries ws j n
put_all-before ws m es j n h = entries_same ws (put_all ws m es) j n (λ i l u. put_all-other ws m es i (omega arith))

pub put_all_here : (ws : List ℕ) (m : ℕ) (es : List Entry) → (m + length es) * 5 ≤ length ws → entries (put_all ws m es) m (length es) ≡ es
unfolding put_all entries up_from
put_all_here ws m [] h = refl
put_all_here ws m (e ∷ es) h =
    let ws' : List ℕ = put_entry ws m e.place e.set in
    let more : entries (put_all (put_entry ws m e.place e.set) (m + 1) es) (suc m) (length es) ≡ es = rw (← add-one m) (put_all_here (put_entry ws m e.place e.set) (m + 1) es (rw (length-put ws m e.place e.set) (omega arith))) in
    let here : entry_at (put_all (put_entry ws m e.place e.set) (m + 1) es) m ≡ e = put_all-other (put_entry ws m e.place e.set) (m + 1) es m (omega arith) ∙ put_here ws m e.place e.set (omega arith) in
    entries-more (put_all (put_entry ws m e.place e.set) (m + 1) es) m (length es) ∙ rw (here, more) refl
