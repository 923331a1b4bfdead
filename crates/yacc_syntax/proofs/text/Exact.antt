-- `parse` is exact: it finds the layout of every text of the grammar, and none else; so a text has one layout.
use Prim.Native.Nat.{ℕ, ◌≤◌, ◌<◌}
use native.Mathlib.Omega.{arith}
use mathlib.Core.Path.{◌≡◌, refl, sym, ap, ◌∙◌}
use mathlib.Core.List.{List}
use mathlib.Core.Option.{Option, none, some}
use lib.ListN.{length, get_or}
use Rattle.yacc_syntax.specs.text.Grammar.{Piece, Token, File, spell_all, tokens_in, fits, Layout, spell, Sound, text_limit, byte_limit, IsText}
use Rattle.yacc_syntax.specs.text.Lex.{lex}
use Rattle.yacc_syntax.specs.text.Parse.{run, file_of, laid, parsed, parse}
use Rattle.yacc_syntax.proofs.text.Lexing.{lex-complete, lex_sound}
use Rattle.yacc_syntax.proofs.text.Tokens.{file_complete, file_sound}

none-some : (l : Layout) → ◌≡◌ {A = Option Layout} none (some l) → ⊥
none-some l q = let w : ◌≡◌ {A = ℕ} 0 1 = ap (λ (o : Option Layout). elim o [ none ↦ 0 | some c ↦ 1 ]) q in omega arith

pub parse-complete : (l : Layout) → Sound l → parse (spell l) ≡ some l
unfolding parse parsed laid spell
parse-complete l S =
    ap parsed (lex-complete l.pieces S.fit)
    ∙ ap (λ (ts : List Token). laid l.pieces (file_of (run ts))) S.written
    ∙ ap (laid l.pieces) (file_complete l.file S.once)

laid_sound : (ps : List Piece) (o : Option File) (l : Layout) → laid ps o ≡ some l → (ps ≡ l.pieces) × (o ≡ some l.file)
unfolding laid
laid_sound ps none l e = absurd (none-some l e)
laid_sound ps (some f) l e =
    let i : record { pieces = ps; file = f } ≡ l = cc in
    (ap (λ (k : Layout). k.pieces) i, ap (λ (k : Layout). some k.file) i)

parsed_sound : (t : List ℕ) (o : Option (List Piece)) (l : Layout) → lex t ≡ o → parsed o ≡ some l → Sound l × (spell l ≡ t)
unfolding parsed spell
parsed_sound t none l x e = absurd (none-some l e)
parsed_sound t (some ps) l x e =
    let p = laid_sound ps (file_of (run (tokens_in ps))) l e in
    let i : ps ≡ l.pieces = p.0 in
    let s = lex_sound t ps x in
    let w = file_sound (tokens_in ps) l.file p.1 in
    (record { fit = ap fits (sym i) ∙ s.0; written = ap tokens_in (sym i) ∙ w.0; once = w.1 }, ap spell_all (sym i) ∙ s.1)

pub parse_sound : (t : List ℕ) (l : Layout) → parse t ≡ some l → Sound l × (spell l ≡ t)
unfolding parse
parse_sound t l e = parsed_sound t (lex t) l refl e

-- one layout, so one file, one list of tokens with its gaps
pub unambiguous : (l k : Layout) → Sound l → Sound k → spell l ≡ spell k → l ≡ k
unambiguous l k S T e =
    let i : some l ≡ some k = sym (parse-complete l S) ∙ ap parse e ∙ parse-complete k T in
    cc

-- a text that `parse` refuses is no sound layout's
pub refused : (t : List ℕ) → parse t ≡ none → (l : Layout) → Sound l → spell l ≡ t → ⊥
refused t e l S w = none-some l (sym e ∙ ap parse (sym w) ∙ parse-complete l S)

-- a text's layout is the one that `parse` finds
pub text_parsed : (t : List ℕ) (T : IsText t) → parse t ≡ some T.layout
text_parsed t T = ap parse (sym T.spelled) ∙ parse-complete T.layout T.sound

pub parsed_text : (t : List ℕ) (l : Layout) → length t ≤ text_limit → ((i : ℕ) → i < length t → get_or t i 0 < byte_limit) → parse t ≡ some l → IsText t
parsed_text t l s b e = let p = parse_sound t l e in record { short = s; bytes = b; layout = l; sound = p.0; spelled = p.1 }
