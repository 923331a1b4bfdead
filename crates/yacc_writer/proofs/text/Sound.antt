-- What is written is the spelling of a sound layout: it is read again, as the file that was written.
use Prim.Native.Nat.{ℕ, zero, suc, ◌+◌, ◌≤◌, ◌<◌}
use native.Mathlib.Omega.{arith}
use mathlib.Core.Bool.{Bool, true, ◌&&◌}
use mathlib.Core.Path.{◌≡◌, refl, sym, ap, ◌∙◌}
use mathlib.Core.List.{List, [], ◌∷◌, ◌++◌, map, append-nil}
use mathlib.Core.Option.{some}
use Rattle.lr1_base.specs.repr.Lists.{up_from, below, joined}
use Rattle.lr1_base.specs.repr.Meaning.{Symbol, nonterminal, terminal, Production, Table, SymbolFits, All, ProductionFits, TableFits}
use Rattle.yacc_syntax.specs.text.Grammar.{is_white_byte, is_letter_byte, kind_of, blank?, goes_on_byte, named, quoted, Token, ident, token, start, mark, colon, bar, semi, Piece, ids_to, alts_to, rule_to, rules_to, def_to, defs_to, tokens_of, one_start, spell_piece, spell_all, tokens_in, ok_token, ok_piece, stops, apart_id, apart_token, apart, fits, spell, Sound}
use Rattle.yacc_syntax.specs.text.Parse.{parse}
use Rattle.yacc_syntax.proofs.text.Exact.{parse-complete}
use Rattle.yacc_writer.specs.text.Text.{name_of, name_token, token_line, production_line, lines, spaced, line, pieces_of, text_of}
use Rattle.yacc_writer.specs.text.Files.{rule_of, defs_of, file_of, layout_of}
use Rattle.yacc_writer.proofs.text.Names.{number_of, number_small, name_ok}
use Rattle.yacc_writer.proofs.text.Layouts.{joined_more, owner_fits}
use Rattle.lr1_base.specs.numerals.Numeral.{is_digit_byte}

both : (a b : Bool) → a ≡ true → b ≡ true → (a && b) ≡ true
both a b x y = ap (λ (c : Bool). c && b) x ∙ y

-- the pieces fit: a space or a line's end stands behind each word
apart-stops : (t : Token) (k : List ℕ) → stops k ≡ true → apart_token t k ≡ true
unfolding apart_token apart_id
apart-stops (ident (named n ns)) k e = e
apart-stops (ident (quoted b)) k e = refl
apart-stops token k e = e
apart-stops start k e = e
apart-stops mark k e = refl
apart-stops colon k e = refl
apart-stops bar k e = refl
apart-stops semi k e = refl

spaced-stops : (ts : List Token) (rest : List Piece) → stops (spell_all (spaced ts ++ rest)) ≡ true
unfolding spaced joined spell_all spell_piece stops goes_on_byte kind_of is_white_byte is_letter_byte is_digit_byte
spaced-stops [] rest = refl
spaced-stops (t ∷ ts) rest = refl

abbrev Good : List Token → Type 0
Good ts = All (λ (t : Token). ok_token t ≡ true) ts

fits-spaced : (ts : List Token) (rest : List Piece) → Good ts → fits rest ≡ true → fits (spaced ts ++ rest) ≡ true
unfolding fits spaced joined All ok_piece apart blank? kind_of is_white_byte
fits-spaced [] rest G e = e
fits-spaced (t ∷ ts) rest G e =
    both (ok_token t) (apart_token t (spell_all (spaced ts ++ rest)) && fits (spaced ts ++ rest)) G.0
    (both (apart_token t (spell_all (spaced ts ++ rest))) (fits (spaced ts ++ rest)) (apart-stops t (spell_all (spaced ts ++ rest)) (spaced-stops ts rest)) (fits-spaced ts rest G.1 e))

fits_line : (ts : List Token) (rest : List Piece) → Good ts → fits rest ≡ true → fits (line ts ++ rest) ≡ true
unfolding fits line All ok_piece apart blank? kind_of is_white_byte
fits_line [] rest G e = e
fits_line (t ∷ ts) rest G e =
    both (ok_token t) (apart_token t (spell_all (spaced ts ++ rest)) && fits (spaced ts ++ rest)) G.0
    (both (apart_token t (spell_all (spaced ts ++ rest))) (fits (spaced ts ++ rest)) (apart-stops t (spell_all (spaced ts ++ rest)) (spaced-stops ts rest)) (fits-spaced ts rest G.1 e))

fits-lines : (ls : List (List Token)) → All Good ls → fits (joined line ls) ≡ true
unfolding joined All fits
fits-lines [] G = refl
fits-lines (l ∷ ls) G = fits_line l (joined line ls) G.0 (fits-lines ls G.1)

-- the words are tokens
name_good : (T : Table) → TableFits T → (s : Symbol) → SymbolFits T s → ok_token (name_token s) ≡ true
unfolding ok_token
name_good T F s h = name_ok s (number_small T s F h)

names_good : (T : Table) → TableFits T → (ss : List Symbol) → All (SymbolFits T) ss → Good (map name_token ss ++ (semi ∷ []))
unfolding All ok_token
names_good T F [] A = (refl, tt)
names_good T F (s ∷ ss) A = (name_good T F s A.0, names_good T F ss A.1)

production_good : (T : Table) → TableFits T → (p : Production) → ProductionFits T p → Good (production_line p)
unfolding production_line All ok_token
production_good T F p P = (name_ok (nonterminal p.nonterminal) (number_small T (nonterminal p.nonterminal) F (owner_fits T p P)), (refl, names_good T F p.symbols P.symbols))

productions_good : (T : Table) → TableFits T → (ps : List Production) → All (ProductionFits T) ps → All Good (map production_line ps)
unfolding All
productions_good T F [] A = tt
productions_good T F (p ∷ ps) A = (production_good T F p A.0, productions_good T F ps A.1)

pub token_small : (n : ℕ) → n < 63 → number_of (terminal n) < 63
unfolding number_of
token_small n h = h

tokens_good : (from k : ℕ) → from + k ≤ 63 → Good (map (λ t. name_token (terminal t)) (up_from from k))
unfolding up_from All ok_token
tokens_good from zero h = tt
tokens_good from (suc k) h = (name_ok (terminal from) (token_small from (omega arith)), tokens_good (suc from) k (omega arith))

line_good : (n : ℕ) → n ≤ 63 → All Good (token_line n)
unfolding token_line All ok_token below
line_good zero h = tt
line_good (suc n) h = ((refl, tokens_good 0 (suc n) (omega arith)), tt)

all_append : (xs ys : List (List Token)) → All Good xs → All Good ys → All Good (xs ++ ys)
unfolding All
all_append [] ys A B = B
all_append (x ∷ xs) ys A B = (A.0, all_append xs ys A.1 B)

mark_good : (ps : List (List Token)) → All Good ps → All Good ((mark ∷ []) ∷ ps)
unfolding All ok_token
mark_good ps A = ((refl, tt), A)

pieces_fit : (T : Table) → TableFits T → fits (pieces_of T) ≡ true
unfolding pieces_of lines
pieces_fit T F =
    fits-lines (token_line T.terminals ++ ((mark ∷ []) ∷ map production_line T.productions))
    (all_append (token_line T.terminals) ((mark ∷ []) ∷ map production_line T.productions) (line_good T.terminals F.few_terminals) (mark_good (map production_line T.productions) (productions_good T F T.productions F.productions)))

-- their tokens are the file's
abbrev all : List (List Token) → List Token
all ls = joined (λ l. l) ls

in_spaced : (ts : List Token) (rest : List Piece) → tokens_in (spaced ts ++ rest) ≡ ts ++ tokens_in rest
unfolding spaced joined tokens_in
in_spaced [] rest = refl
in_spaced (t ∷ ts) rest = ap (λ (l : List Token). t ∷ l) (in_spaced ts rest)

in_line : (ts : List Token) (rest : List Piece) → tokens_in (line ts ++ rest) ≡ ts ++ tokens_in rest
unfolding line tokens_in
in_line [] rest = refl
in_line (t ∷ ts) rest = ap (λ (l : List Token). t ∷ l) (in_spaced ts rest)

in_lines : (ls : List (List Token)) → tokens_in (joined line ls) ≡ all ls
unfolding joined tokens_in
in_lines [] = refl
in_lines (l ∷ ls) = in_line l (joined line ls) ∙ ap (λ (k : List Token). l ++ k) (in_lines ls)

names_to : (ss : List Symbol) (k : List Token) → ids_to (map name_of ss) (semi ∷ k) ≡ (map name_token ss ++ (semi ∷ [])) ++ k
unfolding ids_to
names_to [] k = refl
names_to (s ∷ ss) k = ap (λ (l : List Token). name_token s ∷ l) (names_to ss k)

rule_to_lem : (p : Production) (k : List Token) → rule_to (rule_of p) k ≡ production_line p ++ k
unfolding rule_to rule_of alts_to production_line name_of
rule_to_lem p k = ap (λ (l : List Token). name_token (nonterminal p.nonterminal) ∷ colon ∷ l) (names_to p.symbols k)

rules_to_lem : (ps : List Production) → rules_to (map rule_of ps) ≡ all (map production_line ps)
unfolding rules_to joined
rules_to_lem [] = refl
rules_to_lem (p ∷ ps) = rule_to_lem p (rules_to (map rule_of ps)) ∙ ap (λ (l : List Token). production_line p ++ l) (rules_to_lem ps)

tokens_to : (ns : List ℕ) (k : List Token) → ids_to (map (λ t. name_of (terminal t)) ns) k ≡ map (λ t. name_token (terminal t)) ns ++ k
unfolding ids_to
tokens_to [] k = refl
tokens_to (n ∷ ns) k = ap (λ (l : List Token). name_token (terminal n) ∷ l) (tokens_to ns k)

defs_to_lem : (n : ℕ) (k : List Token) → defs_to (defs_of n) k ≡ all (token_line n) ++ k
unfolding defs_to defs_of def_to token_line joined below up_from
defs_to_lem zero k = refl
defs_to_lem (suc n) k =
    ap (λ (l : List Token). token ∷ name_token (terminal 0) ∷ l) (tokens_to (up_from 1 n) k)
    ∙ ap (λ (l : List Token). token ∷ name_token (terminal 0) ∷ (l ++ k)) (sym (append-nil (map (λ t. name_token (terminal t)) (up_from 1 n))))

all_lines : (n : ℕ) (p : Production) (ps : List Production) → all (token_line n ++ ((mark ∷ []) ∷ map production_line (p ∷ ps))) ≡ tokens_of (file_of n p ps)
unfolding tokens_of file_of joined
all_lines n p ps =
    joined_more (λ l. l) (token_line n) ((mark ∷ []) ∷ map production_line (p ∷ ps))
    ∙ ap (λ (l : List Token). all (token_line n) ++ (mark ∷ l)) (sym (rule_to_lem p (rules_to (map rule_of ps)) ∙ ap (λ (l : List Token). production_line p ++ l) (rules_to_lem ps)))
    ∙ sym (defs_to_lem n (mark ∷ rule_to (rule_of p) (rules_to (map rule_of ps))))

no_starts : (n : ℕ) → one_start (defs_of n) ≡ true
unfolding one_start defs_of
no_starts zero = refl
no_starts (suc n) = refl

pub layout_sound : (T : Table) (p : Production) (ps : List Production) → TableFits T → T.productions ≡ p ∷ ps → Sound (layout_of T p ps)
unfolding layout_of pieces_of lines file_of
layout_sound T p ps F e = record {
  fit = pieces_fit T F;
  written =
      in_lines (token_line T.terminals ++ ((mark ∷ []) ∷ map production_line T.productions))
      ∙ ap (λ (qs : List Production). all (token_line T.terminals ++ ((mark ∷ []) ∷ map production_line qs))) e
      ∙ all_lines T.terminals p ps;
  once = no_starts T.terminals;
}

-- what is written is read as the file of the table
pub written-parsed : (T : Table) (p : Production) (ps : List Production) → TableFits T → T.productions ≡ p ∷ ps → parse (text_of T) ≡ some (layout_of T p ps)
unfolding text_of spell layout_of
written-parsed T p ps F e = parse-complete (layout_of T p ps) (layout_sound T p ps F e)
