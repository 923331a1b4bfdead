-- Tokens in order: one more at the end.
use Rattle.std.proofs.Common.{◌≡◌, ℕ, ◌<◌, ◌≤◌, List, [], ◌∷◌, ◌++◌, arith, subst, sym, ap, ◌∙◌}
use Rattle.source.specs.declared.span.Span.{Span}
use Rattle.yacc_file.specs.declared.word.Word.{Word}
use Rattle.yacc_file.specs.Words.{AreInOrder, IsAt}

pub in_order_weaker : (low mid high : ℕ) (ws : List Word) → AreInOrder low mid ws → mid ≤ high → AreInOrder low high ws
in_order_weaker low mid high [] h more = omega arith
in_order_weaker low mid high (w ∷ ws) h more = (h.0, h.1, in_order_weaker w.name.span.end mid high ws h.2 more)

in_order_push : (low mid : ℕ) (ws : List Word) (w : Word) → AreInOrder low mid ws → mid ≤ w.name.span.start → w.name.span.start < w.name.span.end
    → AreInOrder low w.name.span.end (ws ++ w ∷ [])
in_order_push low mid [] w h behind some = let first : low ≤ w.name.span.start = omega arith in (first, some, omega arith)
in_order_push low mid (x ∷ ws) w h behind some = (h.0, h.1, in_order_push x.name.span.end mid ws w h.2 behind some)

-- a list with one more token, at a place behind the others
pub in_order_at : (low mid high : ℕ) (span : Span) (old new : List Word) → IsAt span old new → AreInOrder low mid old → mid ≤ span.start → span.start < span.end → span.end ≡ high
    → AreInOrder low high new
in_order_at low mid high span old new (w, same, grown) h behind some ends =
    let begins : w.name.span.start ≡ span.start = ap (λ (s : Span). s.start) same in
    let finishes : w.name.span.end ≡ span.end = ap (λ (s : Span). s.end) same in
    let pushed = in_order_push low mid old w h (omega arith) (omega arith) in
    let P : List Word → Type 0 = λ ws. AreInOrder low high ws in
    let Q : ℕ → Type 0 = λ n. AreInOrder low n (old ++ w ∷ []) in
    subst P (sym grown) (subst Q (finishes ∙ ends) pushed)
