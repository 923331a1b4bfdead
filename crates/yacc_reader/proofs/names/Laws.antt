-- The turns of the loops over bytes and over a bucket's chain; a name entered.
use Prim.Native.Nat.{ℕ, zero, suc, ◌+◌, ◌-◌, ◌*◌, ◌%◌, ◌≤◌, ◌<◌, min}
use native.Mathlib.Omega.{arith}
use mathlib.Core.Bool.{Bool, true, false, ◌&&◌}
use mathlib.Core.Path.{◌≡◌, refl, sym, ap, ◌∙◌}
use mathlib.Core.List.{List, [], ◌∷◌}
use lib.ListN.{length, get_or, set, take, drop, length-set, drop_of_length-le}
use lib.Seq.{slice, length-take-le, get_or-set_same, get_or-set_other}
use lib.Dec.{eqb, leb}
use Rattle.std.specs.List.{fold}
use Rattle.std.proofs.lemmas.List.{drop-take}
use borrow.Author.Tests.{eqb-true, eqb-false, eq-eqb, leb-true, leb-false}
use Rattle.lr1_base.specs.words.Same.{same_words}
use Rattle.lr1_base.proofs.words.Same.{same_words_eq}
use Rattle.lr1_base.proofs.repr.Lists.{cases}
use Rattle.lr1_base.specs.hash_index.Chains.{newest, Linked, chained}
use Rattle.lr1_base.proofs.hash_index.Chains.{newest-yes, newest_no, newest-kept, linked_top, linked_step, chained_long, chain_joined, chain_beside}
use Rattle.yacc_reader.specs.names.Names.{bucket_limit, mixed, bucket_number, name_in, in_bucket, is_name, latest, Entered, left, placed_by, placing}

-- bytes from a place up to another
pub slice-none : (t : List ℕ) (i past : ℕ) → past ≤ i → past ≤ length t → slice i past t ≡ []
slice-none t i past h l = let n = length-take-le past t l in let k : length (take past t) ≤ i = omega (arith, n, h) in drop_of_length-le (take past t) k

-- `bytes`
pub bytes_is : (t : List ℕ) (from past m : ℕ) → past ≤ length t → m ≡ min from past → take (past - m) (drop m t) ≡ slice from past t
bytes_is t from past m h e =
    cases (leb from past)
    (λ y. let l : from ≤ past = leb-true from past y in
    let q : m ≡ from = omega arith in
    let s : from + (past - from) ≡ past = omega arith in
    ap (λ (k : ℕ). take (past - k) (drop k t)) q ∙ sym (drop-take from (past - from) t) ∙ ap (λ (k : ℕ). drop from (take k t)) s)
    (λ n. let l : past < from = leb-false from past n in
    let q : m ≡ past = omega arith in
    let z : past - m ≡ 0 = omega arith in
    ap (λ (k : ℕ). take k (drop m t)) z ∙ sym (slice-none t from past (omega arith) h))

-- `bucket_of`
pub mixed_fold : (bs : List ℕ) (h : ℕ) → fold (λ a b. (a * 211 + b) % 65536) h bs ≡ mixed h bs
unfolding mixed
mixed_fold [] h = refl
mixed_fold (b ∷ bs) h = mixed_fold bs ((h * 211 + b) % 65536)

pub bucket_is : (sum : ℕ) (bs : List ℕ) → sum ≡ mixed 0 bs → sum % bucket_limit ≡ bucket_number bs
unfolding bucket_number
bucket_is sum bs e = ap (λ (n : ℕ). n % bucket_limit) e

pub bucket_small : (bs : List ℕ) → bucket_number bs < bucket_limit
unfolding bucket_number
bucket_small bs = omega arith

-- the latest that passes
latest-yes : (u : ℕ → Bool) (k : ℕ) → u k ≡ true → latest u (suc k) ≡ suc k
unfolding latest
latest-yes u k e = rw (e, latest)

latest_no : (u : ℕ → Bool) (k : ℕ) → u k ≡ false → latest u (suc k) ≡ latest u k
unfolding latest
latest_no u k e = rw (e, latest)

latest-none : (u : ℕ → Bool) → latest u 0 ≡ 0
unfolding latest
latest-none u = refl

-- a test that only names of the chain pass is passed by none between a link and k
linked_latest : (ix : List ℕ) (links : ℕ) (u v : ℕ → Bool) (h k : ℕ) → ((j : ℕ) → j < k → u j ≡ false → v j ≡ false) → Linked ix links h (newest u k) → latest v k ≡ latest v h
unfolding Linked
linked_latest ix links u v h zero f l = let z = (linked_top ix links u h zero l).0 in let e : 0 ≡ h = omega (arith, z) in ap (latest v) e
linked_latest ix links u v h (suc k) f l =
    cases (u k)
    (λ s. let p = rw (newest-yes u k s) at l in ap (latest v) (sym p.0))
    (λ s. latest_no v k (f k (omega arith) s) ∙ linked_latest ix links u v h k (λ j m. f j (omega (arith, m))) (rw (newest_no u k s) at l))

-- the turns of `find`
pub record Turn (ix : List ℕ) (u v : ℕ → Bool) (k next : ℕ) : Type 0 where
  pub below : next ≤ k
  pub linked : Linked ix bucket_limit next (newest u next)
  pub same : latest v next ≡ latest v k

module _ (ix : List ℕ) (u v : ℕ → Bool) (k : ℕ) (f : (j : ℕ) → j < k → u j ≡ false → v j ≡ false) where
  pub turn_first : (next : ℕ) → Linked ix bucket_limit next (newest u k) → Turn ix u v k next
  turn_first next l =
      let r = linked_top ix bucket_limit u next k l in
      record { below = r.0; linked = rw r.1 at l; same = sym (linked_latest ix bucket_limit u v next k f l) }

  pub turn_end : (next : ℕ) → Turn ix u v k next → next ≡ 0 → 0 ≡ latest v k
  turn_end next T e = sym (latest-none v) ∙ sym (ap (latest v) e) ∙ T.same

  module _ (next i : ℕ) (T : Turn ix u v k next) (e : next ≡ suc i) where
    step : Linked ix bucket_limit (get_or ix (bucket_limit + i) 0) (newest u i)
    step = linked_step ix bucket_limit u i (rw e at T.linked)

    pub turn_less : get_or ix (bucket_limit + i) 0 ≤ i
    turn_less = (linked_top ix bucket_limit u (get_or ix (bucket_limit + i) 0) i step).0

    pub turn_found : v i ≡ true → next ≡ latest v k
    turn_found h = e ∙ sym (latest-yes v i h) ∙ sym (ap (latest v) e) ∙ T.same

    pub turn_again : (j : ℕ) → j ≡ get_or ix (bucket_limit + i) 0 → v i ≡ false → Turn ix u v k j
    turn_again j q h =
        let b = T.below in
        let l : Linked ix bucket_limit j (newest u i) = rw q step in
        let r = linked_top ix bucket_limit u j i l in
        record {
          below = omega (arith, r.0, b, e);
          linked = rw r.1 at l;
          same = sym (linked_latest ix bucket_limit u v j i (λ m g. f m (omega (arith, g, b, e))) l) ∙ sym (latest_no v i h) ∙ sym (ap (latest v) e) ∙ T.same;
        }

-- equal names are in one bucket
pub same_bucket : (t starts pasts bs : List ℕ) (j : ℕ) → in_bucket t starts pasts (bucket_number bs) j ≡ false → is_name t starts pasts bs j ≡ false
unfolding in_bucket is_name
same_bucket t starts pasts bs j e =
    cases (same_words bs (name_in t starts pasts j))
    (λ y. absurd (eqb-false (bucket_number (name_in t starts pasts j)) (bucket_number bs) e (ap bucket_number (sym (same_words_eq bs (name_in t starts pasts j) y)))))
    (λ n. n)

pub is_name_lem : (t starts pasts bs : List ℕ) (j start end : ℕ) (r : Bool) → start ≡ get_or starts j 0 → end ≡ get_or pasts j 0 → r ≡ same_words bs (slice start end t) → r ≡ is_name t starts pasts bs j
unfolding is_name name_in
is_name_lem t starts pasts bs j start end r p q e = e ∙ ap (λ (k : ℕ). same_words bs (slice k end t)) p ∙ ap (λ (k : ℕ). same_words bs (slice (get_or starts j 0) k t)) q

-- `find`
module _ (t starts pasts ix : List ℕ) (k from past : ℕ) (E : Entered t starts pasts ix k) where
  abbrev bytes : List ℕ
  bytes = slice from past t

  abbrev pub Finds : ℕ → Type 0
  Finds next = Turn ix (in_bucket t starts pasts (bucket_number bytes)) (is_name t starts pasts bytes) k next

  pub find_first : (b next : ℕ) → (b ≡ bucket_number bytes) × (b < bucket_limit) → next ≡ get_or ix b 0 → Finds next
  find_first b next B e =
      let p : b ≡ bucket_number bytes = B.0 in
      let small : bucket_number bytes < bucket_limit = omega (arith, p, B.1) in
      let q : next ≡ get_or ix (bucket_number bytes) 0 = e ∙ ap (λ (i : ℕ). get_or ix i 0) p in
      turn_first ix (in_bucket t starts pasts (bucket_number bytes)) (is_name t starts pasts bytes) k (λ j h. same_bucket t starts pasts bytes j) next (rw q (E.linked (bucket_number bytes) small))

  pub find_end : (next : ℕ) → Finds next → next ≡ 0 → 0 ≡ latest (is_name t starts pasts bytes) k
  find_end next F e = turn_end ix (in_bucket t starts pasts (bucket_number bytes)) (is_name t starts pasts bytes) k (λ j h. same_bucket t starts pasts bytes j) next F e

  module _ (next : ℕ) (F : Finds next) (ne : next ≡ 0 → ⊥) where
    one : next ≡ suc (next - 1)
    one = omega (arith, ne)

    pub find_low : next - 1 < k
    find_low = let b = F.below in omega (arith, ne, b)

    pub find_less : (m : ℕ) → m ≡ get_or ix (bucket_limit + (next - 1)) 0 → m < next
    find_less m e = let l = turn_less ix (in_bucket t starts pasts (bucket_number bytes)) (is_name t starts pasts bytes) k (λ j h. same_bucket t starts pasts bytes j) next (next - 1) F one in omega (arith, e, l, ne)

    module _ (start end : ℕ) (r : Bool) (p : start ≡ get_or starts (next - 1) 0) (q : end ≡ get_or pasts (next - 1) 0) (s : r ≡ same_words bytes (slice start end t)) where
      it : r ≡ is_name t starts pasts bytes (next - 1)
      it = is_name_lem t starts pasts bytes (next - 1) start end r p q s

      pub find-found : r ≡ true → suc (next - 1) ≡ latest (is_name t starts pasts bytes) k
      find-found y = sym one ∙ turn_found ix (in_bucket t starts pasts (bucket_number bytes)) (is_name t starts pasts bytes) k (λ j h. same_bucket t starts pasts bytes j) next (next - 1) F one (sym it ∙ y)

      pub find_again : r ≡ false → (m : ℕ) → m ≡ get_or ix (bucket_limit + (next - 1)) 0 → Finds m
      find_again n m e = turn_again ix (in_bucket t starts pasts (bucket_number bytes)) (is_name t starts pasts bytes) k (λ j h. same_bucket t starts pasts bytes j) next (next - 1) F one m e (sym it ∙ n)

-- a name entered
name_kept : (t starts pasts : List ℕ) (k from past j : ℕ) → j < k → name_in t (set starts k from) (set pasts k past) j ≡ name_in t starts pasts j
unfolding name_in
name_kept t starts pasts k from past j h =
    ap (λ (i : ℕ). slice i (get_or (set pasts k past) j 0) t) (get_or-set_other starts k j from 0 (λ e. omega (arith, h, e)))
    ∙ ap (λ (i : ℕ). slice (get_or starts j 0) i t) (get_or-set_other pasts k j past 0 (λ e. omega (arith, h, e)))

name_new : (t starts pasts : List ℕ) (k from past : ℕ) → k < length starts → k < length pasts → name_in t (set starts k from) (set pasts k past) k ≡ slice from past t
unfolding name_in
name_new t starts pasts k from past h l =
    ap (λ (i : ℕ). slice i (get_or (set pasts k past) k 0) t) (get_or-set_same starts k from 0 h)
    ∙ ap (λ (i : ℕ). slice from i t) (get_or-set_same pasts k past 0 l)

module _ (t starts pasts ix : List ℕ) (k from past bucket : ℕ) (E : Entered t starts pasts ix k) (hs : k < length starts) (hp : k < length pasts) (hx : bucket_limit + k < length ix) (small : bucket < bucket_limit) (is : bucket ≡ bucket_number (slice from past t)) (fit : past ≤ length t) where
  in_kept : (b j : ℕ) → j < k → in_bucket t (set starts k from) (set pasts k past) b j ≡ in_bucket t starts pasts b j
  unfolding in_bucket
  in_kept b j h = ap (λ (bs : List ℕ). eqb (bucket_number bs) b) (name_kept t starts pasts k from past j h)

  in_new : (b : ℕ) → in_bucket t (set starts k from) (set pasts k past) b k ≡ eqb bucket b
  unfolding in_bucket
  in_new b = ap (λ (bs : List ℕ). eqb (bucket_number bs) b) (name_new t starts pasts k from past hs hp) ∙ ap (λ (n : ℕ). eqb n b) (sym is)

  old : (b : ℕ) → b < bucket_limit → Linked ix bucket_limit (get_or ix b 0) (newest (in_bucket t (set starts k from) (set pasts k past) b) k)
  old b h = rw (newest-kept (in_bucket t starts pasts b) (in_bucket t (set starts k from) (set pasts k past) b) k (in_kept b)) (E.linked b h)

  new : (b : ℕ) → b < bucket_limit → Linked (chained ix bucket_limit bucket k) bucket_limit (get_or (chained ix bucket_limit bucket k) b 0) (newest (in_bucket t (set starts k from) (set pasts k past) b) (suc k))
  new b h =
      cases (eqb bucket b)
      (λ y. let q = eqb-true bucket b y in
      let u = in_bucket t (set starts k from) (set pasts k past) b in
      rw (← q) (chain_joined ix bucket_limit bucket k small hx (in_bucket t (set starts k from) (set pasts k past) bucket) (in_new bucket ∙ eq-eqb bucket bucket refl) (old bucket small)))
      (λ n. chain_beside ix bucket_limit bucket k small hx (in_bucket t (set starts k from) (set pasts k past) b) b h (λ e. eqb-false bucket b n (sym e)) (in_new b ∙ n) (old b h))

  within : (j : ℕ) → j < suc k → get_or (set pasts k past) j 0 ≤ length t
  within j h =
      cases (eqb j k)
      (λ y. let q = eqb-true j k y in rw (q, get_or-set_same pasts k past 0 hp) fit)
      (λ n. let ne = eqb-false j k n in rw (get_or-set_other pasts k j past 0 ne) (E.inside j (omega (arith, h, ne))))

  pub entered-more : Entered t (set starts k from) (set pasts k past) (chained ix bucket_limit bucket k) (suc k)
  entered-more =
      let a = length-set starts k from in
      let b = length-set pasts k past in
      let c = chained_long ix bucket_limit bucket k in
      record {
        begun = omega (arith, a, hs);
        ended = omega (arith, b, hp);
        long = omega (arith, c, hx);
        inside = within;
        linked = new;
      }

-- `place`
module _ (t starts pasts ix : List ℕ) (k from past f : ℕ) (e : f ≡ latest (is_name t starts pasts (slice from past t)) k) where
  by_found : (n : ℕ) → f ≡ n → placed_by n t starts pasts ix k from past ≡ placing t starts pasts ix k from past
  unfolding placing
  by_found n q = ap (λ (m : ℕ). placed_by m t starts pasts ix k from past) (sym q ∙ e)

  pub place_old : (j : ℕ) → f ≡ suc j → left starts pasts ix (record { number = j; names = k }) ≡ placing t starts pasts ix k from past
  unfolding placed_by
  place_old j n = by_found (suc j) n

  pub place_new : f ≡ 0 → (b : ℕ) (starts' pasts' ix' : List ℕ) → b ≡ bucket_number (slice from past t) → starts' ≡ set starts k from → pasts' ≡ set pasts k past → ix' ≡ chained ix bucket_limit b k
      → left starts' pasts' ix' (record { number = k; names = k + 1 }) ≡ placing t starts pasts ix k from past
  unfolding placed_by
  place_new z b starts' pasts' ix' q s p x = rw (s, p, x, q) (by_found 0 z)

-- the latest is one that passes, and none that passes is behind it
pub latest_low : (u : ℕ → Bool) (k j : ℕ) → latest u k ≡ suc j → (j < k) × (u j ≡ true)
latest_low u zero j e = let z = latest-none u in absurd (omega (arith, z, e))
latest_low u (suc k) j e =
    cases (u k)
    (λ y. let q : k ≡ j = omega (arith, latest-yes u k y, e) in (omega (arith, q), ap u (sym q) ∙ y))
    (λ n. let r = latest_low u k j (sym (latest_no u k n) ∙ e) in (omega (arith, r.0), r.1))

pub latest-zero : (u : ℕ → Bool) (k j : ℕ) → latest u k ≡ 0 → j < k → u j ≡ false
latest-zero u zero j e h = absurd (omega (arith, h))
latest-zero u (suc k) j e h =
    cases (u k)
    (λ y. absurd (omega (arith, latest-yes u k y, e)))
    (λ n. cases (eqb j k)
    (λ s. ap u (eqb-true j k s) ∙ n)
    (λ d. let ne = eqb-false j k d in latest-zero u k j (sym (latest_no u k n) ∙ e) (omega (arith, h, ne))))
