-- Two names are the same if their bytes are, as they stand in the text.
use Prim.Native.Nat.{ℕ, suc, ◌+◌, ◌-◌, ◌≤◌, ◌<◌}
use native.Mathlib.Omega.{arith}
use native.Mathlib.Numerals.{add-one}
use mathlib.Core.Path.{◌≡◌, sym, ap, ◌∙◌}
use mathlib.Core.List.{List, ◌∷◌}
use lib.ListN.{length, get_or, take, drop}
use lib.Seq.{slice, slice-cons, take-add, drop_at, length-take-le}
use Rattle.lr1_base.specs.words.Same.{same_words}
use Rattle.yacc_syntax.specs.declared.lexer.Word.TheVariants.{Name}
use Rattle.yacc_reader.specs.parsed_file.Source.{same_id}
use Rattle.yacc_reader.specs.events.Said.{id_at}

-- the bytes of a name: the first, and the others
name_bytes_lem : (t : List ℕ) (from past : ℕ) → from < past → past ≤ length t → slice from past t ≡ get_or t from 0 ∷ take (past - (from + 1)) (drop (from + 1) t)
name_bytes_lem t from past h l =
    let e : past ≡ suc from + (past - suc from) = omega (arith, h) in
    let k : suc from ≤ length t = omega (arith, h, l) in
    let rest : slice (suc from) past t ≡ take (past - suc from) (drop (suc from) t) =
    ap (λ (j : ℕ). drop (suc from) (take j t)) e ∙ ap (drop (suc from)) (take-add (suc from) (past - suc from) t)
    ∙ drop_at (take (suc from) t) (take (past - suc from) (drop (suc from) t)) (suc from) (length-take-le (suc from) t k) in
    slice-cons from past t 0 h l
    ∙ ap (λ (l : List ℕ). get_or t from 0 ∷ l) (rest ∙ ap (λ (j : ℕ). take (past - j) (drop j t)) (sym (add-one from)))

pub id_bytes : (t : List ℕ) (from past start end : ℕ) → from < past → past ≤ length t → start < end → end ≤ length t → same_id (id_at t Name from past) (id_at t Name start end) ≡ same_words (slice from past t) (slice start end t)
unfolding same_id id_at same_words
id_bytes t from past start end h l m n =
    sym (ap (λ (xs : List ℕ). same_words xs (slice start end t)) (name_bytes_lem t from past h l)
    ∙ ap (same_words (get_or t from 0 ∷ take (past - (from + 1)) (drop (from + 1) t))) (name_bytes_lem t start end m n))
