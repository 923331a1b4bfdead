-- The words of a text written as bytes: `scan_into`, which goes as the code does, tells what `scan` says.
use Prim.Native.Nat.{ℕ, suc, ◌+◌, ◌*◌, ◌/◌, ◌%◌, ◌≤◌, ◌<◌}
use native.Mathlib.Nat.{add-zero}
use native.Mathlib.Omega.{arith}
use mathlib.Core.Path.{◌≡◌, refl, sym, ap, ◌∙◌, subst}
use mathlib.Core.List.{List, [], ◌∷◌, ◌++◌, append_assoc, append-nil}
use lib.ListN.{length, get_or, take, drop, set, length-set, drop_of_length-le}
use lib.Seq.{drop-cons, take-suc-set}
use Rattle.parse_words.specs.Text.{Reader, Step, goes, fails, step, Scan, reads, stops, with_words, scan}
use Rattle.lr1_base.specs.le_words.Little.{encoded}
use Rattle.parse_words.specs.Bytes.{Near, in_bytes, wrote, stopped, tell, put_words, step_into, scan_into}
use Rattle.parse_words.proofs.Steps.{Short, short}

-- words as bytes
encoded-append : (ws vs : List ℕ) → encoded (ws ++ vs) ≡ encoded ws ++ encoded vs
unfolding encoded
encoded-append [] vs = refl
encoded-append (w ∷ ws) vs = ap (λ (l : List ℕ). w % 256 ∷ w / 256 ∷ l) (encoded-append ws vs)

with_none : (s : Scan) → with_words [] s ≡ s
unfolding with_words
with_none (reads vs r) = refl
with_none (stops vs l c) = refl

with_both_lem : (a b : List ℕ) (s : Scan) → with_words (a ++ b) s ≡ with_words a (with_words b s)
unfolding with_words
with_both_lem a b (reads vs r) = ap (λ (l : List ℕ). reads l r) (append_assoc a b vs)
with_both_lem a b (stops vs l c) = ap (λ (m : List ℕ). stops m l c) (append_assoc a b vs)

bytes_with : (ws : List ℕ) (s : Scan) → in_bytes (with_words ws s) ≡ with_words (encoded ws) (in_bytes s)
unfolding with_words in_bytes
bytes_with ws (reads vs r) = ap (λ (l : List ℕ). reads l r) (encoded-append ws vs)
bytes_with ws (stops vs l c) = ap (λ (m : List ℕ). stops m l c) (encoded-append ws vs)

-- words written
two_put : (out : List ℕ) (n x y : ℕ) → n + 2 ≤ length out → take (n + 2) (set (set out n x) (n + 1) y) ≡ take n out ++ (x ∷ y ∷ [])
two_put out n x y h =
    let l = length-set out n x in
    let e : n + 2 ≡ suc (n + 1) = omega arith in
    let f : n + 1 ≡ suc n = omega arith in
    ap (λ (k : ℕ). take k (set (set out n x) (n + 1) y)) e
    ∙ take-suc-set (set out n x) (n + 1) y (omega (arith, l))
    ∙ ap (λ (k : ℕ). take k (set out n x) ++ (y ∷ [])) f
    ∙ ap (λ (k : List ℕ). k ++ (y ∷ [])) (take-suc-set out n x (omega arith))
    ∙ append_assoc (take n out) (x ∷ []) (y ∷ [])

put_long : (ws out : List ℕ) (n : ℕ) → length (put_words out n ws) ≡ length out
unfolding put_words
put_long [] out n = refl
put_long (w ∷ ws) out n = put_long ws (set (set out n (w % 256)) (n + 1) (w / 256)) (n + 2) ∙ length-set (set out n (w % 256)) (n + 1) (w / 256) ∙ length-set out n (w % 256)

put_front : (ws out : List ℕ) (n : ℕ) → n + 2 * length ws ≤ length out → take (n + 2 * length ws) (put_words out n ws) ≡ take n out ++ encoded ws
unfolding put_words encoded
put_front [] out n h = ap (λ (k : ℕ). take k out) (add-zero n) ∙ sym (append-nil (take n out))
put_front (w ∷ ws) out n h =
    let out' = set (set out n (w % 256)) (n + 1) (w / 256) in
    let l : length (set (set out n (w % 256)) (n + 1) (w / 256)) ≡ length out = length-set (set out n (w % 256)) (n + 1) (w / 256) ∙ length-set out n (w % 256) in
    let e : n + 2 * length (w ∷ ws) ≡ (n + 2) + 2 * length ws = omega arith in
    ap (λ (k : ℕ). take k (put_words out n (w ∷ ws))) e
    ∙ put_front ws (set (set out n (w % 256)) (n + 1) (w / 256)) (n + 2) (omega (arith, l))
    ∙ ap (λ (k : List ℕ). k ++ encoded ws) (two_put out n (w % 256) (w / 256) (omega arith))
    ∙ append_assoc (take n out) (w % 256 ∷ w / 256 ∷ []) (encoded ws)

-- byte after byte
into_goes : (r : Reader) (out : List ℕ) (n b : ℕ) (bs ws : List ℕ) (q : Reader) → step r b ≡ goes ws q → scan_into r out n (b ∷ bs) ≡ scan_into q (put_words out n ws) (n + 2 * length ws) bs
unfolding scan_into step_into
into_goes r out n b bs ws q e = rw (e, scan_into)

into_fails : (r : Reader) (out : List ℕ) (n b : ℕ) (bs : List ℕ) → step r b ≡ fails → scan_into r out n (b ∷ bs) ≡ stopped out n r.line r.column
unfolding scan_into step_into
into_fails r out n b bs e = rw (e, scan_into)

scan-goes : (r : Reader) (b : ℕ) (bs ws : List ℕ) (q : Reader) → step r b ≡ goes ws q → scan r (b ∷ bs) ≡ with_words ws (scan q bs)
unfolding scan
scan-goes r b bs ws q e = rw (e, scan)

scan-fails : (r : Reader) (b : ℕ) (bs : List ℕ) → step r b ≡ fails → scan r (b ∷ bs) ≡ stops [] r.line r.column
unfolding scan
scan-fails r b bs e = rw (e, scan)

stops-none : (out : List ℕ) (n : ℕ) (r : Reader) → tell (stopped out n r.line r.column) ≡ with_words (take n out) (in_bytes (stops [] r.line r.column))
unfolding tell with_words in_bytes encoded
stops-none out n r = ap (λ (l : List ℕ). stops l r.line r.column) (sym (append-nil (take n out)))

told-fails : (r : Reader) (out : List ℕ) (n b : ℕ) (bs : List ℕ) → step r b ≡ fails → tell (scan_into r out n (b ∷ bs)) ≡ with_words (take n out) (in_bytes (scan r (b ∷ bs)))
told-fails r out n b bs e = ap tell (into_fails r out n b bs e) ∙ stops-none out n r ∙ ap (λ (s : Scan). with_words (take n out) (in_bytes s)) (sym (scan-fails r b bs e))

told-goes : (r : Reader) (out : List ℕ) (n b : ℕ) (bs ws : List ℕ) (q : Reader) → step r b ≡ goes ws q → n + 2 * length ws ≤ length out
    → tell (scan_into q (put_words out n ws) (n + 2 * length ws) bs) ≡ with_words (take (n + 2 * length ws) (put_words out n ws)) (in_bytes (scan q bs))
    → tell (scan_into r out n (b ∷ bs)) ≡ with_words (take n out) (in_bytes (scan r (b ∷ bs)))
told-goes r out n b bs ws q e h i =
    ap tell (into_goes r out n b bs ws q e)
    ∙ i
    ∙ ap (λ (l : List ℕ). with_words l (in_bytes (scan q bs))) (put_front ws out n h)
    ∙ with_both_lem (take n out) (encoded ws) (in_bytes (scan q bs))
    ∙ ap (with_words (take n out)) (sym (bytes_with ws (scan q bs)))
    ∙ ap (λ (s : Scan). with_words (take n out) (in_bytes s)) (sym (scan-goes r b bs ws q e))

told : (bs : List ℕ) (r : Reader) (out : List ℕ) (n : ℕ) → n + 2 * length bs ≤ length out → tell (scan_into r out n bs) ≡ with_words (take n out) (in_bytes (scan r bs))
unfolding tell scan_into scan with_words in_bytes encoded
told [] r out n h = ap (λ (l : List ℕ). reads l r) (sym (append-nil (take n out)))
told (b ∷ bs) r out n h = go (step r b) refl (λ q o m k. told bs q o m k)
  where
    go : (s : Step) → step r b ≡ s → ((q : Reader) (o : List ℕ) (m : ℕ) → m + 2 * length bs ≤ length o → tell (scan_into q o m bs) ≡ with_words (take m o) (in_bytes (scan q bs)))
        → tell (scan_into r out n (b ∷ bs)) ≡ with_words (take n out) (in_bytes (scan r (b ∷ bs)))
    go fails e ih = told-fails r out n b bs e
    go (goes ws q) e ih =
        let s : Short r (goes ws q) = subst (Short r) e (short r b) in
        let w : length ws ≤ 1 = s.0 in
        let l = put_long ws out n in
        let k : (n + 2 * length ws) + 2 * length bs ≤ length (put_words out n ws) = omega (arith, h, w, l) in
        told-goes r out n b bs ws q e (omega (arith, h, w)) (ih q (put_words out n ws) (n + 2 * length ws) k)

pub scan-told : (r : Reader) (out bs : List ℕ) → 2 * length bs ≤ length out → tell (scan_into r out 0 bs) ≡ in_bytes (scan r bs)
scan-told r out bs h = told bs r out 0 (omega arith) ∙ with_none (in_bytes (scan r bs))

-- `words_of`
pub record Scanning (r₀ : Reader) (bytes out₀ out : List ℕ) (r : Reader) (n i : ℕ) : Type 0 where
  pub within : i ≤ length bytes
  pub same : scan_into r out n (drop i bytes) ≡ scan_into r₀ out₀ 0 bytes
  pub small : n ≤ 2 * i
  pub long : length out ≡ length out₀
  pub near : Near r₀ r i

pub scanning_first : (r : Reader) (bytes out : List ℕ) → Scanning r bytes out out r 0 0
scanning_first r bytes out = record { within = omega arith; same = refl; small = omega arith; long = refl; near = record { line_near = omega arith; column_near = omega arith } }

module _ {r₀ : Reader} {bytes out₀ out : List ℕ} {r : Reader} {n i : ℕ} (S : Scanning r₀ bytes out₀ out r n i) (h : i < length bytes) where
  opened : scan_into r out n (get_or bytes i 0 ∷ drop (i + 1) bytes) ≡ scan_into r₀ out₀ 0 bytes
  opened =
      let e : suc i ≡ i + 1 = omega arith in
      sym (ap (scan_into r out n) (drop-cons bytes i 0 h ∙ ap (λ (k : ℕ). get_or bytes i 0 ∷ drop k bytes) e)) ∙ S.same

  pub scanning_more : (ws : List ℕ) (q : Reader) {out' : List ℕ} {m : ℕ} → goes ws q ≡ step r (get_or bytes i 0) → put_words out n ws ≡ out' → n + 2 * length ws ≡ m → Scanning r₀ bytes out₀ out' q m (i + 1)
  scanning_more ws q {out'} {m} e eo em =
      let s = S.small in
      let a = S.near.line_near in
      let b = S.near.column_near in
      let N : Short r (goes ws q) = subst (Short r) (sym e) (short r (get_or bytes i 0)) in
      let w : length ws ≤ 1 = N.0 in
      let c = N.1.line_near in
      let d = N.1.column_near in
      record {
        within = omega arith;
        same = ap (λ (o : List ℕ). scan_into q o m (drop (i + 1) bytes)) (sym eo) ∙ ap (λ (k : ℕ). scan_into q (put_words out n ws) k (drop (i + 1) bytes)) (sym em) ∙ sym (into_goes r out n (get_or bytes i 0) (drop (i + 1) bytes) ws q (sym e)) ∙ opened;
        small = omega (arith, w);
        long = ap length (sym eo) ∙ put_long ws out n ∙ S.long;
        near = record { line_near = omega arith; column_near = omega arith };
      }

  pub scanning_stops : fails ≡ step r (get_or bytes i 0) → 2 * length bytes ≤ length out₀ → tell (stopped out n r.line r.column) ≡ in_bytes (scan r₀ bytes)
  scanning_stops e w = ap tell (sym (into_fails r out n (get_or bytes i 0) (drop (i + 1) bytes) (sym e)) ∙ opened) ∙ scan-told r₀ out₀ bytes w

pub scanning_end : {r₀ : Reader} {bytes out₀ out : List ℕ} {q : Reader} {n i : ℕ} → Scanning r₀ bytes out₀ out q n i → length bytes ≤ i → 2 * length bytes ≤ length out₀
    → (tell (wrote out n q) ≡ in_bytes (scan r₀ bytes)) × Near r₀ q (length bytes)
unfolding scan_into
scanning_end {r₀} {bytes} {out₀} {out} {q} {n} {i} S h w =
    let v = S.within in
    let a = S.near.line_near in
    let b = S.near.column_near in
    let e : wrote out n q ≡ scan_into r₀ out₀ 0 bytes = sym (ap (scan_into q out n) (drop_of_length-le bytes h)) ∙ S.same in
    (ap tell e ∙ scan-told r₀ out₀ bytes w, record { line_near = omega arith; column_near = omega arith })
