-- The bytes of a written text line by line (specs/Wrote) are those that yacc_write spells token by token.
use Prim.Native.Nat.{ℕ, zero, suc}
use mathlib.Core.Path.{◌≡◌, refl, sym, ap, ◌∙◌}
use mathlib.Core.List.{List, [], ◌∷◌, ◌++◌, map, append_assoc, append-nil}
use Rattle.lr1_base.specs.numerals.Numeral.{numeral}
use Rattle.lr1_base.specs.repr.Lists.{up_from, below, joined}
use Rattle.lr1_base.specs.repr.Meaning.{Symbol, nonterminal, terminal, Production, Table}
use Rattle.yacc_syntax.specs.text.Grammar.{Id, named, quoted, Token, ident, token, start, mark, colon, bar, semi, Piece, white, comment, piece, spell_id, spell_token, spell_piece, spell_all}
use Rattle.yacc_writer.specs.text.Text.{name_of, name_token, token_line, production_line, lines, spaced, line, pieces_of, text_of}
use Rattle.yacc_writer.proofs.text.Layouts.{joined_more}
use Rattle.yacc_writer.specs.Wrote.{name_bytes, terminal_bytes, token_bytes, production_bytes, file_bytes}

-- what stands behind a piece stays behind
id_append : (x : Id) (k l : List ℕ) → spell_id x (k ++ l) ≡ spell_id x k ++ l
unfolding spell_id
id_append (named n ns) k l = ap (λ (r : List ℕ). n ∷ r) (sym (append_assoc ns k l))
id_append (quoted b) k l = refl

token-append : (t : Token) (k l : List ℕ) → spell_token t (k ++ l) ≡ spell_token t k ++ l
unfolding spell_token
token-append (ident x) k l = id_append x k l
token-append token k l = refl
token-append start k l = refl
token-append mark k l = refl
token-append colon k l = refl
token-append bar k l = refl
token-append semi k l = refl

piece-append : (p : Piece) (k l : List ℕ) → spell_piece p (k ++ l) ≡ spell_piece p k ++ l
unfolding spell_piece
piece-append (white b) k l = refl
piece-append (comment cs) k l = ap (λ (r : List ℕ). 47 ∷ 42 ∷ r) (sym (append_assoc cs (42 ∷ 47 ∷ k) l))
piece-append (piece t) k l = token-append t k l

all_append : (ps qs : List Piece) → spell_all (ps ++ qs) ≡ spell_all ps ++ spell_all qs
unfolding spell_all
all_append [] qs = refl
all_append (p ∷ ps) qs = ap (spell_piece p) (all_append ps qs) ∙ piece-append p (spell_all ps) (spell_all qs)

-- words behind a space
abbrev apart : Token → List Piece
apart t = white 32 ∷ piece t ∷ []

name_one : (s : Symbol) (k : List ℕ) → 32 ∷ spell_id (name_of s) k ≡ name_bytes s ++ k
unfolding spell_id name_of name_bytes
name_one (nonterminal n) k = refl
name_one (terminal n) k = refl

names_bytes : (ss : List Symbol) → spell_all (joined apart (map name_token ss)) ≡ joined name_bytes ss
unfolding joined spell_all spell_piece spell_token
names_bytes [] = refl
names_bytes (s ∷ ss) = name_one s (spell_all (joined apart (map name_token ss))) ∙ ap (λ (l : List ℕ). name_bytes s ++ l) (names_bytes ss)

terminals_bytes : (t n : ℕ) → spell_all (joined apart (map (λ t. name_token (terminal t)) (up_from t n))) ≡ joined (λ t. name_bytes (terminal t)) (up_from t n)
unfolding up_from joined spell_all spell_piece spell_token
terminals_bytes t zero = refl
terminals_bytes t (suc n) =
    name_one (terminal t) (spell_all (joined apart (map (λ t. name_token (terminal t)) (up_from (suc t) n)))) ∙ ap (λ (l : List ℕ). name_bytes (terminal t) ++ l) (terminals_bytes (suc t) n)

-- lines
tokens_bytes : (n : ℕ) → spell_all (joined line (token_line n)) ≡ token_bytes n
unfolding joined line spaced token_line below spell_all spell_piece spell_token token_bytes terminal_bytes
tokens_bytes zero = refl
tokens_bytes (suc n) =
    let ts : List Token = map (λ t. name_token (terminal t)) (up_from 0 (suc n)) in
    ap (λ (ps : List Piece). 37 ∷ 116 ∷ 111 ∷ 107 ∷ 101 ∷ 110 ∷ spell_all ps) (append-nil (joined apart ts ++ (white 10 ∷ [])))
    ∙ ap (λ (l : List ℕ). 37 ∷ 116 ∷ 111 ∷ 107 ∷ 101 ∷ 110 ∷ l) (all_append (joined apart ts) (white 10 ∷ []) ∙ ap (λ (l : List ℕ). l ++ (10 ∷ [])) (terminals_bytes 0 (suc n)))

end_bytes : (ss : List Symbol) → spell_all (joined apart (map name_token ss ++ (semi ∷ [])) ++ (white 10 ∷ [])) ≡ joined name_bytes ss ++ (32 ∷ 59 ∷ 10 ∷ [])
unfolding joined spell_all spell_piece spell_token
end_bytes ss =
    ap (λ (l : List Piece). spell_all (l ++ (white 10 ∷ []))) (joined_more apart (map name_token ss) (semi ∷ []))
    ∙ ap spell_all (append_assoc (joined apart (map name_token ss)) (apart semi) (white 10 ∷ []))
    ∙ all_append (joined apart (map name_token ss)) (white 32 ∷ piece semi ∷ white 10 ∷ [])
    ∙ ap (λ (l : List ℕ). l ++ (32 ∷ 59 ∷ 10 ∷ [])) (names_bytes ss)

production_bytes_lem : (p : Production) → spell_all (line (production_line p)) ≡ production_bytes p
unfolding joined line spaced production_line name_of spell_all spell_piece spell_token spell_id production_bytes
production_bytes_lem p = ap (λ (l : List ℕ). 78 ∷ (numeral p.nonterminal ++ (32 ∷ 58 ∷ l))) (end_bytes p.symbols)

productions_bytes : (ps : List Production) → spell_all (joined line (map production_line ps)) ≡ joined production_bytes ps
unfolding joined spell_all
productions_bytes [] = refl
productions_bytes (p ∷ ps) =
    all_append (line (production_line p)) (joined line (map production_line ps))
    ∙ ap (λ (l : List ℕ). l ++ spell_all (joined line (map production_line ps))) (production_bytes_lem p)
    ∙ ap (λ (l : List ℕ). production_bytes p ++ l) (productions_bytes ps)

mark_bytes : (ps : List Production) → spell_all (joined line ((mark ∷ []) ∷ map production_line ps)) ≡ 37 ∷ 37 ∷ 10 ∷ joined production_bytes ps
unfolding joined line spaced spell_all spell_piece spell_token
mark_bytes ps = ap (λ (l : List ℕ). 37 ∷ 37 ∷ 10 ∷ l) (productions_bytes ps)

pub text_bytes : (T : Table) → file_bytes T.terminals T.productions ≡ text_of T
unfolding text_of pieces_of lines file_bytes
text_bytes T =
    let ls : List (List Token) = (mark ∷ []) ∷ map production_line T.productions in
    sym
    (ap spell_all (joined_more line (token_line T.terminals) ls)
    ∙ all_append (joined line (token_line T.terminals)) (joined line ls)
    ∙ ap (λ (l : List ℕ). l ++ spell_all (joined line ls)) (tokens_bytes T.terminals)
    ∙ ap (λ (l : List ℕ). token_bytes T.terminals ++ l) (mark_bytes T.productions))
