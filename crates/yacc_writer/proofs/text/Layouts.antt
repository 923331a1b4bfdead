-- The text that is written is the spelling of a sound layout, so it is read, and as the file that was written; it fits in 9,468 bytes.
use Prim.Native.Nat.{ℕ, ◌+◌, ◌*◌, ◌≤◌}
use native.Mathlib.Omega.{arith}
use mathlib.Core.Bool.{true}
use mathlib.Core.Path.{◌≡◌, refl, sym, ap, ◌∙◌}
use mathlib.Core.List.{List, [], ◌∷◌, ◌++◌, map, append_assoc}
use lib.Dec.{leb}
use lib.ListN.{length, length-append}
use borrow.Author.Tests.{leb-true}
use Rattle.lr1_base.specs.repr.Lists.{up_from, below, every?, joined}
use Rattle.lr1_base.specs.repr.Meaning.{Symbol, nonterminal, Production, Table, SymbolFits, All, ProductionFits, TableFits}
use Rattle.lr1_base.proofs.repr.Tests.{every?_below}
use Rattle.lr1_base.specs.numerals.Numeral.{numeral_by, numeral}
use Rattle.yacc_syntax.specs.text.Grammar.{Id, named, quoted, Token, ident, token, start, mark, colon, bar, semi, Piece, white, comment, piece, spell_id, spell_token, spell_piece, spell_all}
use Rattle.yacc_writer.specs.text.Text.{text_most, name_of, name_token, token_line, production_line, lines, spaced, line, pieces_of, text_of}
use Rattle.yacc_writer.proofs.text.Names.{number_small, name_wide}

-- bytes of pieces in front of others
id_size : (x : Id) (k : List ℕ) → length (spell_id x k) ≡ length (spell_id x []) + length k
unfolding spell_id
id_size (named n ns) k = let a = length-append ns k in let b = length-append ns [] in omega arith
id_size (quoted b) k = omega arith

token_size : (t : Token) (k : List ℕ) → length (spell_token t k) ≡ length (spell_token t []) + length k
unfolding spell_token
token_size (ident x) k = id_size x k
token_size token k = omega arith
token_size start k = omega arith
token_size mark k = omega arith
token_size colon k = omega arith
token_size bar k = omega arith
token_size semi k = omega arith

piece_size : (p : Piece) (k : List ℕ) → length (spell_piece p k) ≡ length (spell_piece p []) + length k
unfolding spell_piece
piece_size (white b) k = omega arith
piece_size (comment cs) k = let a = length-append cs (42 ∷ 47 ∷ k) in let b = length-append cs (42 ∷ 47 ∷ []) in omega arith
piece_size (piece t) k = token_size t k

size_append : (ps qs : List Piece) → length (spell_all (ps ++ qs)) ≡ length (spell_all ps) + length (spell_all qs)
unfolding spell_all
size_append [] qs = omega arith
size_append (p ∷ ps) qs = let i = size_append ps qs in let a = piece_size p (spell_all (ps ++ qs)) in let b = piece_size p (spell_all ps) in omega arith

-- names, one space apart
names_size : (T : Table) → TableFits T → (ss : List Symbol) → All (SymbolFits T) ss → length (spell_all (joined (λ t. white 32 ∷ piece t ∷ []) (map name_token ss))) ≤ 4 * length ss
unfolding joined All spell_all spell_piece spell_token
names_size T F [] A = omega arith
names_size T F (s ∷ ss) A =
    let i = names_size T F ss A.1 in
    let w = name_wide s (number_small T s F A.0) in
    let z = id_size (name_of s) (spell_all (joined (λ t. white 32 ∷ piece t ∷ []) (map name_token ss))) in
    omega arith

pub joined_more {ℓ κ} : {A : Type ℓ} {B : Type κ} (f : A → List B) (xs ys : List A) → joined f (xs ++ ys) ≡ joined f xs ++ joined f ys
unfolding joined
joined_more f [] ys = refl
joined_more f (x ∷ xs) ys = ap (λ l. f x ++ l) (joined_more f xs ys) ∙ sym (append_assoc (f x) (joined f xs) (joined f ys))

-- words behind the first, and the line's end
spaced-more : (ts us : List Token) → length (spell_all (spaced (ts ++ us))) ≡ length (spell_all (joined (λ t. white 32 ∷ piece t ∷ []) ts)) + length (spell_all (spaced us))
unfolding spaced
spaced-more ts us =
    ap (λ (l : List Piece). length (spell_all (l ++ (white 10 ∷ [])))) (joined_more (λ t. white 32 ∷ piece t ∷ []) ts us)
    ∙ ap (λ (l : List Piece). length (spell_all l)) (append_assoc (joined (λ t. white 32 ∷ piece t ∷ []) ts) (joined (λ t. white 32 ∷ piece t ∷ []) us) (white 10 ∷ []))
    ∙ size_append (joined (λ t. white 32 ∷ piece t ∷ []) ts) (joined (λ t. white 32 ∷ piece t ∷ []) us ++ (white 10 ∷ []))

spaced_one : (t : Token) (ts : List Token) → length (spell_all (spaced (t ∷ ts))) ≡ 1 + length (spell_token t []) + length (spell_all (spaced ts))
unfolding spaced joined spell_all spell_piece
spaced_one t ts = let z = token_size t (spell_all (joined (λ u. white 32 ∷ piece u ∷ []) ts ++ (white 10 ∷ []))) in omega arith

spaced-none : length (spell_all (spaced [])) ≡ 1
unfolding spaced joined spell_all spell_piece
spaced-none = refl

line_one : (t : Token) (ts : List Token) → length (spell_all (line (t ∷ ts))) ≡ length (spell_token t []) + length (spell_all (spaced ts))
unfolding line spell_all spell_piece
line_one t ts = token_size t (spell_all (spaced ts))

-- a production's line has at most 72 bytes
pub owner_fits : (T : Table) (p : Production) → ProductionFits T p → SymbolFits T (nonterminal p.nonterminal)
unfolding SymbolFits
owner_fits T p P = P.owner

mark_size : (length (spell_token colon []) ≡ 1) × (length (spell_token semi []) ≡ 1)
unfolding spell_token
mark_size = (refl, refl)

name_size : (s : Symbol) → length (spell_token (name_token s) []) ≡ length (spell_id (name_of s) [])
unfolding spell_token
name_size s = refl

production_size : (T : Table) → TableFits T → (p : Production) → ProductionFits T p → length (spell_all (line (production_line p))) ≤ 72
unfolding production_line
production_size T F p P =
    let N = nonterminal p.nonterminal in
    let w = name_wide N (number_small T N F (owner_fits T p P)) in
    let n = name_size N in
    let a = line_one (name_token N) (colon ∷ (map name_token p.symbols ++ (semi ∷ []))) in
    let b = spaced_one colon (map name_token p.symbols ++ (semi ∷ [])) in
    let c = spaced-more (map name_token p.symbols) (semi ∷ []) in
    let d = spaced_one semi [] in
    let e = spaced-none in
    let g = names_size T F p.symbols P.symbols in
    let h = P.short in
    let m = mark_size in
    omega arith

productions_size : (T : Table) → TableFits T → (ps : List Production) → All (ProductionFits T) ps → length (spell_all (joined line (map production_line ps))) ≤ 72 * length ps
unfolding joined All spell_all
productions_size T F [] A = omega arith
productions_size T F (p ∷ ps) A =
    let a = production_size T F p A.0 in
    let i = productions_size T F ps A.1 in
    let z = size_append (line (production_line p)) (joined line (map production_line ps)) in
    omega arith

-- the line of the tokens has at most 249, for each number of them
all-tokens : every? (λ n. leb (length (spell_all (joined line (token_line n)))) 249) (below 64) ≡ true
unfolding every? below up_from joined line spaced token_line name_of numeral numeral_by spell_all spell_piece spell_token spell_id
all-tokens = refl

tokens_size : (n : ℕ) → n ≤ 63 → length (spell_all (joined line (token_line n))) ≤ 249
tokens_size n h = leb-true (length (spell_all (joined line (token_line n)))) 249 (every?_below (λ k. leb (length (spell_all (joined line (token_line k)))) 249) 64 n all-tokens (omega arith))

middle_size : (ps : List Production) → length (spell_all (joined line ((mark ∷ []) ∷ map production_line ps))) ≡ 3 + length (spell_all (joined line (map production_line ps)))
unfolding joined line spaced spell_all spell_piece spell_token
middle_size ps = omega arith

-- what is written has few bytes
pub text_size : (T : Table) → TableFits T → length (text_of T) ≤ text_most
unfolding text_of pieces_of lines
text_size T F =
    let a = tokens_size T.terminals F.few_terminals in
    let b = productions_size T F T.productions F.productions in
    let m = middle_size T.productions in
    let p = F.few_productions_lem in
    let j = ap (λ (l : List Piece). length (spell_all l)) (joined_more line (token_line T.terminals) ((mark ∷ []) ∷ map production_line T.productions)) in
    let z = size_append (joined line (token_line T.terminals)) (joined line ((mark ∷ []) ∷ map production_line T.productions)) in
    omega arith
