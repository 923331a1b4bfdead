-- The lines of specs/table_text/Typed, put piece by piece.
use Prim.Native.Nat.{ℕ, suc, ◌+◌, ◌-◌, ◌*◌, ◌≤◌, ◌<◌}
use native.Mathlib.Omega.{arith}
use mathlib.Core.Bool.{Bool, true, false, ◌||◌}
use mathlib.Core.Path.{◌≡◌, sym, ap, ◌∙◌}
use mathlib.Core.List.{List, [], ◌∷◌, ◌++◌, append-nil}
use lib.ListN.{length, get_or, take, drop, length-take}
use lib.Seq.{take-suc, take-length}
use borrow.Author.Tests.{eq-eqb, ne_eqb, lt-ltb, le-ltb}
use Rattle.lr1_base.specs.repr.Sizes.{production_place}
use Rattle.lr1_base.specs.repr.Lists.{joined}
use Rattle.lr1_base.specs.repr.Packed.{symbol_words}
use Rattle.lr1_base.proofs.repr.Lists.{joined_append}
use Rattle.table.specs.Words.{word_at, state_area, production_area, loose}
use Rattle.lr1_base.specs.numerals.Numeral.{numeral}
use Rattle.output_text.specs.conflict_lines.Lines.{Put, spaced, symbol_text, symbol_texts}
use Rattle.output_text.proofs.conflict_lines.Laws.{put-nothing, put_then, put_as, put_all, put-within}
use Rattle.output_text.specs.table_text.Typed.{hash_text, counts_text, nonterminal_text, state_text, production_text, symbol_place, item_place, equals_text, dot_text, by_nonterminal, by_terminal, to_state, unused_text, named, symbol_part, rule_text, item_part, by_text, edge_part, unused_part, loose_text, area_text, record_text, line_of, line_of_record}
use Rattle.table_check.specs.declared.loose.Roles.{Roles}

-- numbers, a space before each
joined_more : (l : List ℕ) (x : ℕ) → joined spaced (l ++ (x ∷ [])) ≡ joined spaced l ++ spaced x
unfolding joined
joined_more l x = joined_append spaced l (x ∷ []) ∙ ap (λ (t : List ℕ). joined spaced l ++ t) (append-nil (spaced x))

pub record Numbers (old : List ℕ) (at : ℕ) (words : List ℕ) (new : List ℕ) (place i : ℕ) : Type 0 where
  pub within : i ≤ length words
  pub put : Put old at (joined spaced (take i words)) new place
  pub small : place ≤ at + 21 * i

pub numbers-first : (old : List ℕ) (at : ℕ) (words : List ℕ) → Numbers old at words old at 0
unfolding joined
numbers-first old at words = record { within = omega arith; put = put-nothing old at; small = omega arith }

pub numbers_more : {old : List ℕ} {at : ℕ} {words new : List ℕ} {place i : ℕ} {new' : List ℕ} {r x : ℕ} → Numbers old at words new place i → i < length words → x ≡ get_or words i 0
    → Put new place (32 ∷ numeral x) new' r → r ≤ place + 21 → Numbers old at words new' r (i + 1)
unfolding spaced
numbers_more {old} {at} {words} {new} {place} {i} {new'} {r} {x} N h ex P le =
    let s = N.small in
    let e : i + 1 ≡ suc i = omega arith in
    let t : joined spaced (take (i + 1) words) ≡ joined spaced (take i words) ++ spaced x =
    ap (λ (k : ℕ). joined spaced (take k words)) e
    ∙ ap (joined spaced) (take-suc words i 0 h)
    ∙ joined_more (take i words) (get_or words i 0)
    ∙ ap (λ (y : ℕ). joined spaced (take i words) ++ spaced y) (sym ex) in
    record { within = omega arith; put = put_as (put_then N.put P) (sym t); small = omega arith }

pub numbers_end : {old : List ℕ} {at : ℕ} {words new : List ℕ} {place i : ℕ} → Numbers old at words new place i → length words ≤ i → Put old at (joined spaced words) new place × (place ≤ at + 21 * length words)
numbers_end {old} {at} {words} {new} {place} {i} N h =
    let w = N.within in
    let s = N.small in
    let e : i ≡ length words = omega arith in
    (put_as N.put (ap (λ (k : ℕ). joined spaced (take k words)) e ∙ ap (joined spaced) (take-length words)), omega arith)

-- texts and numbers
pub named_put : {a b c : List ℕ} {at m r : ℕ} (name : List ℕ) (n : ℕ) → Put a at name b m → Put b m (32 ∷ numeral n) c r → Put a at (named name n) c r
unfolding named spaced
named_put name n P Q = put_then P Q

pub symbol-put : {a b c : List ℕ} {at m r : ℕ} (k n : ℕ) → Put a at symbol_place b m → Put b m (symbol_text k n) c r → Put a at (symbol_part true k n) c r
unfolding symbol_part
symbol-put k n P Q = put_then P Q

pub symbol-yes : {shown : Bool} {a b : List ℕ} {at r : ℕ} (k n : ℕ) → shown ≡ true → Put a at (symbol_part true k n) b r → Put a at (symbol_part shown k n) b r
symbol-yes k n e P = rw e P

pub symbol_no : {shown : Bool} {a b : List ℕ} {at r : ℕ} (k n : ℕ) → shown ≡ false → b ≡ a → r ≡ at → Put a at (symbol_part shown k n) b r
unfolding symbol_part
symbol_no {a = a} {at = at} k n e f g = rw (e, f, g) (put-nothing a at)

pub rule-put : {a b c d e f front back : List ℕ} {at m₁ m₂ m₃ m₄ r : ℕ} (n : ℕ) (ws : List ℕ) (i : ℕ) → front ≡ take (2 * i) ws → back ≡ drop (2 * i) ws
    → Put a at (named item_place n) b m₁ → Put b m₁ equals_text c m₂ → Put c m₂ (symbol_texts front) d m₃ → Put d m₃ dot_text e m₄ → Put e m₄ (symbol_texts back) f r → Put a at (rule_text n ws i) f r
unfolding rule_text
rule-put n ws i ef eb P Q R S T = put_then P (put_then Q (put_then (put_as R (ap symbol_texts ef)) (put_then S (put_as T (ap symbol_texts eb)))))

pub item-put : {a b ws : List ℕ} {at r n : ℕ} (g : List ℕ) (p i : ℕ) → n ≡ get_or g (production_place p) 0 → ws ≡ symbol_words g p → Put a at (rule_text n ws i) b r → Put a at (item_part true g p i) b r
unfolding item_part
item-put {ws = ws} g p i f h P = put_as P (ap (λ (k : ℕ). rule_text k ws i) f ∙ ap (λ (l : List ℕ). rule_text (get_or g (production_place p) 0) l i) h)

pub item-yes : {shown : Bool} {a b : List ℕ} {at r : ℕ} (g : List ℕ) (p i : ℕ) → shown ≡ true → Put a at (item_part true g p i) b r → Put a at (item_part shown g p i) b r
item-yes g p i e P = rw e P

pub item_no : {shown : Bool} {a b : List ℕ} {at r : ℕ} (g : List ℕ) (p i : ℕ) → shown ≡ false → b ≡ a → r ≡ at → Put a at (item_part shown g p i) b r
unfolding item_part
item_no {a = a} {at = at} g p i e f h = rw (e, f, h) (put-nothing a at)

pub by_nonterminal_lem : {a b : List ℕ} {at r : ℕ} (kind n : ℕ) → kind ≡ 0 → Put a at (named by_nonterminal n) b r → Put a at (named (by_text kind) n) b r
unfolding by_text
by_nonterminal_lem kind n e P = rw (eq-eqb kind 0 e, by_text) P

pub by_terminal_lem : {a b : List ℕ} {at r : ℕ} (kind n : ℕ) → (kind ≡ 0 → ⊥) → Put a at (named by_terminal n) b r → Put a at (named (by_text kind) n) b r
unfolding by_text
by_terminal_lem kind n e P = rw (ne_eqb kind 0 e, by_text) P

pub edge_put : {a b c : List ℕ} {at m r : ℕ} (k n t : ℕ) → Put a at (named (by_text k) n) b m → Put b m (named to_state t) c r → Put a at (edge_part true k n t) c r
unfolding edge_part
edge_put k n t P Q = put_then P Q

pub edge_yes : {shown : Bool} {a b : List ℕ} {at r : ℕ} (k n t : ℕ) → shown ≡ true → Put a at (edge_part true k n t) b r → Put a at (edge_part shown k n t) b r
edge_yes k n t e P = rw e P

pub edge_no : {shown : Bool} {a b : List ℕ} {at r : ℕ} (k n t : ℕ) → shown ≡ false → b ≡ a → r ≡ at → Put a at (edge_part shown k n t) b r
unfolding edge_part
edge_no {a = a} {at = at} k n t e f g = rw (e, f, g) (put-nothing a at)

pub used : (R : Roles) (a : List ℕ) (at : ℕ) → R.symbol || (R.item || R.edge) ≡ true → Put a at (unused_part R) a at
unfolding unused_part
used R a at e = rw (e, unused_part) (put-nothing a at)

pub not-used : (R : Roles) {a b : List ℕ} {at r : ℕ} → R.symbol || (R.item || R.edge) ≡ false → Put a at unused_text b r → Put a at (unused_part R) b r
unfolding unused_part
not-used R e P = rw (e, unused_part) P

pub loose-put : {a b c d e : List ℕ} {at m₁ m₂ m₃ r x y z : ℕ} (t g : List ℕ) (k : ℕ) (R : Roles) → x ≡ word_at t k 1 → y ≡ word_at t k 2 → z ≡ word_at t k 3
    → Put a at (symbol_part R.symbol x y) b m₁ → Put b m₁ (item_part R.item g x y) c m₂ → Put c m₂ (edge_part R.edge x y z) d m₃ → Put d m₃ (unused_part R) e r → Put a at (loose_text t g k R) e r
unfolding loose_text
loose-put t g k R ex ey ez P Q S U = rw (← ex, ← ey, ← ez) (put_then P (put_then Q (put_then S U)))

-- the areas
pub area-counts : {a b : List ℕ} {at k : ℕ} (t : List ℕ) (r : ℕ) → r ≡ 0 → Put a at counts_text b k → Put a at (area_text t r) b k
unfolding area_text
area-counts t r e P = rw (eq-eqb r 0 e, area_text) P

pub area-nonterminal : {a b : List ℕ} {at k : ℕ} (t : List ℕ) (r : ℕ) → (r ≡ 0 → ⊥) → r < state_area t → Put a at (named nonterminal_text (r - 1)) b k → Put a at (area_text t r) b k
unfolding area_text
area-nonterminal t r e h P = rw (ne_eqb r 0 e, lt-ltb r (state_area t) h, area_text) P

pub area_state : {a b : List ℕ} {at k : ℕ} (t : List ℕ) (r s : ℕ) → (r ≡ 0 → ⊥) → s ≡ state_area t → state_area t ≤ r → r < production_area t → Put a at (named state_text (r - s)) b k → Put a at (area_text t r) b k
unfolding area_text
area_state t r s e f h l P = rw (ne_eqb r 0 e, le-ltb r (state_area t) h, lt-ltb r (production_area t) l, area_text) (put_as P (ap (λ (k : ℕ). named state_text (r - k)) f))

pub area-production : {a b : List ℕ} {at k : ℕ} (t : List ℕ) (r s : ℕ) → (r ≡ 0 → ⊥) → s ≡ production_area t → state_area t ≤ r → production_area t ≤ r → Put a at (named production_text (r - s)) b k → Put a at (area_text t r) b k
unfolding area_text
area-production t r s e f h l P = rw (ne_eqb r 0 e, le-ltb r (state_area t) h, le-ltb r (production_area t) l, area_text) (put_as P (ap (λ (k : ℕ). named production_text (r - k)) f))

pub record_area : {a b : List ℕ} {at k : ℕ} (t g : List ℕ) (r : ℕ) (R : Roles) → r < loose t → Put a at (area_text t r) b k → Put a at (record_text t g r R) b k
unfolding record_text
record_area t g r R h P = rw (lt-ltb r (loose t) h, record_text) P

pub record_loose : {a b : List ℕ} {at k : ℕ} (t g : List ℕ) (r : ℕ) (R : Roles) → loose t ≤ r → Put a at (loose_text t g r R) b k → Put a at (record_text t g r R) b k
unfolding record_text
record_loose t g r R h P = rw (le-ltb r (loose t) h, record_text) P

pub numbers-put : {a b c d : List ℕ} {m₁ m₂ k : ℕ} (ws comment : List ℕ) → Put a 0 (joined spaced ws) b m₁ → Put b m₁ comment c m₂ → Put c m₂ (10 ∷ []) d k → (take k d ≡ line_of ws comment) × (k ≤ length d)
unfolding line_of
numbers-put ws comment P Q U = let W = put_then P (put_then Q U) in (put_all W, put-within W)

pub part_short : (n : ℕ) (l : List ℕ) → n ≡ 4 → length (take n l) ≤ 4
part_short n l e = let k = length-take n l in omega (arith, k)

pub line-put : {a b c d e : List ℕ} {m₁ m₂ m₃ k : ℕ} (t g : List ℕ) (r : ℕ) (R : Roles) (n : ℕ) → n ≡ 4
    → Put a 0 (joined spaced (take n (drop (r * 4) t))) b m₁ → Put b m₁ (named hash_text r) c m₂ → Put c m₂ (record_text t g r R) d m₃ → Put d m₃ (10 ∷ []) e k → (take k e ≡ line_of_record t g r R) × (k ≤ length e)
unfolding line_of_record
line-put t g r R n f P Q S U = numbers-put (take 4 (drop (r * 4) t)) (named hash_text r ++ record_text t g r R) (put_as P (ap (λ (j : ℕ). joined spaced (take j (drop (r * 4) t))) f)) (put_then Q S) U
