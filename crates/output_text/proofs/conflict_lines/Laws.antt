-- Text put into bytes piece by piece (`Put` of specs/conflict_lines/Lines).
use Prim.Native.Nat.{ℕ, suc, ◌+◌, ◌≤◌, ◌<◌}
use native.Mathlib.Nat.{add-zero}
use native.Mathlib.Omega.{arith}
use mathlib.Core.Path.{◌≡◌, refl, sym, ap, ◌∙◌, subst}
use mathlib.Core.List.{List, [], ◌∷◌, ◌++◌, append_assoc, append-nil}
use lib.ListN.{length, take, set, length-set, length-append, length-take}
use lib.Seq.{take-suc-set}
use Rattle.output_text.specs.conflict_lines.Lines.{Put}

pub put-nothing : (a : List ℕ) (at : ℕ) → Put a at [] a at
put-nothing a at = record { front = sym (append-nil (take at a)); place = sym (add-zero at); long = refl }

pub put_one : (a : List ℕ) (at x : ℕ) → at < length a → Put a at (x ∷ []) (set a at x) (at + 1)
put_one a at x h =
    let e : at + 1 ≡ suc at = omega arith in
    record { front = ap (λ (k : ℕ). take k (set a at x)) e ∙ take-suc-set a at x h; place = refl; long = length-set a at x }

-- one text after the other
pub put_then : {a b c : List ℕ} {at m r : ℕ} {t u : List ℕ} → Put a at t b m → Put b m u c r → Put a at (t ++ u) c r
put_then {a} {b} {c} {at} {m} {r} {t} {u} P Q = record {
  front = Q.front ∙ ap (λ (l : List ℕ). l ++ u) P.front ∙ append_assoc (take at a) t u;
  place = let e = P.place in let f = Q.place in let g = length-append t u in omega arith;
  long = Q.long ∙ P.long;
}

-- the same text, otherwise written
pub put_as : {a b : List ℕ} {at r : ℕ} {t u : List ℕ} → Put a at t b r → t ≡ u → Put a at u b r
put_as {a} {b} {at} {r} P e = subst (λ (l : List ℕ). Put a at l b r) e P

-- what is put from the front on is all of a beginning
pub put_all : {a b t : List ℕ} {r : ℕ} → Put a 0 t b r → take r b ≡ t
put_all P = P.front

pub put-within : {a b t : List ℕ} {r : ℕ} → Put a 0 t b r → r ≤ length b
put-within {a} {b} {t} {r} P =
    let e : length (take r b) ≡ length t = ap length P.front in
    let p : r ≡ 0 + length t = P.place in
    let l = length-take r b in
    omega (arith, e, p, l)
