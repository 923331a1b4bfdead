-- What the loops of the writer hold, their turns, and the ways out of `write_in`.
use Prim.Native.Nat.{ℕ, suc, ◌+◌, ◌-◌, ◌*◌, ◌≤◌, ◌<◌}
use native.Mathlib.Nat.{le-add_right, mul-suc}
use native.Mathlib.Numerals.{add-one}
use native.Mathlib.Omega.{arith}
use mathlib.Core.Path.{◌≡◌, refl, sym, ap, ◌∙◌, subst}
use mathlib.Core.Bool.{Bool, true, false, ◌&&◌}
use mathlib.Core.List.{List, [], ◌∷◌, ◌++◌, map}
use lib.Dec.{leb}
use lib.ListN.{length, get_or, drop, drop_of_length-le}
use lib.Seq.{drop-cons, length-sets}
use borrow.Author.Tests.{le-leb, lt-leb}
use Rattle.lr1_base.specs.words.Lent.{in_front}
use Rattle.lr1_base.specs.repr.Reply.{answered, refused}
use Rattle.lr1_base.specs.repr.Sizes.{nonterminal_limit, terminal_limit, symbol_limit, production_place}
use Rattle.lr1_base.specs.repr.Lists.{up_from, below, joined}
use Rattle.lr1_base.specs.repr.Meaning.{Symbol, terminal, Production, Table}
use Rattle.lr1_base.specs.repr.Listed.{listed, list_is_fit}
use Rattle.lr1_base.specs.repr.Packed.{Packed, symbol_words, production_in, productions_in}
use Rattle.lr1_base.proofs.repr.Packed.{words_long}
use Rattle.table.specs.Checked.{Accepted, Refused as No}
use Rattle.table.specs.Decoded.{meaning, productions_from}
use Rattle.table.specs.Refusals.{check_of}
use Rattle.table.proofs.Written.{productions_end as no-productions}
use Rattle.yacc_writer.specs.text.Text.{ascending, text_of}
use Rattle.yacc_writer.specs.text.Outcome.{written_of, write_of}
use Rattle.yacc_writer.specs.Wrote.{Wrote, name_bytes, terminal_bytes, production_bytes, file_bytes}
use Rattle.yacc_writer.proofs.Laws.{Left, left_all_lem, left_less, left-none, wrote_as, wrote-front}
use Rattle.yacc_writer.proofs.Texts.{text_bytes}
use Rattle.lr1_base.proofs.repr.Lists.{up_from_more, up_from_end}

pub left_long : {a b : List ℕ} {at m : ℕ} {whole rest : List ℕ} → Left a at whole b m rest → length b ≡ length a
left_long {a} {b} {at} {m} {whole} {rest} L = sym (length-sets b m rest) ∙ ap length L.is ∙ length-sets a at whole

-- a loop that writes f of each number below n, w bytes at most each (`put_terminals`, `put_productions`)
pub record Numbered (f : ℕ → List ℕ) (w : ℕ) (text₀ : List ℕ) (at n : ℕ) (text : List ℕ) (place i : ℕ) : Type 0 where
  pub few : i ≤ n
  pub near : place ≤ at + w * i
  pub left : Left text₀ at (joined f (below n)) text place (joined f (up_from i (n - i)))

pub numbered-first : (f : ℕ → List ℕ) (w : ℕ) (text : List ℕ) (at n : ℕ) → Numbered f w text at n text at 0
unfolding below
numbered-first f w text at n = record {
  few = omega arith;
  near = le-add_right at (w * 0);
  left = let e : n ≡ n - 0 = omega arith in subst (λ (k : ℕ). Left text at (joined f (up_from 0 n)) text at (joined f (up_from 0 k))) e (left_all_lem text at (joined f (up_from 0 n)));
}

near_more : (at k w p p' : ℕ) → p ≤ at + k → p' ≤ p + w → p' ≤ at + (k + w)
near_more at k w p p' h b = omega arith

pub numbered_more : {f : ℕ → List ℕ} {w : ℕ} {text₀ : List ℕ} {at n : ℕ} {text text' : List ℕ} {place place' i : ℕ}
    → Numbered f w text₀ at n text place i → i < n → Wrote text place (f i) text' place' → place' ≤ place + w → Numbered f w text₀ at n text' place' (i + 1)
unfolding joined
numbered_more {f} {w} {text₀} {at} {n} {text} {text'} {place} {place'} {i} I h W b = record {
  few = omega arith;
  near = subst (λ (k : ℕ). place' ≤ at + k) (sym (ap (λ (k : ℕ). w * k) (add-one i) ∙ mul-suc w i)) (near_more at (w * i) w place place' I.near b);
  left = left_less I.left (ap (joined f) (up_from_more i n h)) W;
}

pub numbered_end : {f : ℕ → List ℕ} {w : ℕ} {text₀ : List ℕ} {at n : ℕ} {text : List ℕ} {place i : ℕ} → Numbered f w text₀ at n text place i → n ≤ i
    → Wrote text₀ at (joined f (below n)) text place × (place ≤ at + w * n)
unfolding joined
numbered_end {f} {w} {text₀} {at} {n} {text} {place} {i} I h =
    let s = I.few in
    let e : i ≡ n = omega arith in
    (left-none I.left (ap (joined f) (up_from_end i n h)), subst (λ (k : ℕ). place ≤ at + w * k) e I.near)

pub terminals_end : {text₀ : List ℕ} {at n : ℕ} {text : List ℕ} {place i : ℕ} → Numbered (λ t. name_bytes (terminal t)) 4 text₀ at n text place i → n ≤ i
    → Wrote text₀ at (terminal_bytes n) text place × (place ≤ at + 4 * n)
unfolding terminal_bytes
terminals_end I h = numbered_end I h

-- the productions
joined_map : (f : Production → List ℕ) (g : ℕ → Production) (xs : List ℕ) → joined (λ x. f (g x)) xs ≡ joined f (map g xs)
unfolding joined
joined_map f g [] = refl
joined_map f g (x ∷ xs) = ap (λ (l : List ℕ). f (g x) ++ l) (joined_map f g xs)

pub productions_end : (g : List ℕ) {text₀ : List ℕ} {at n : ℕ} {text : List ℕ} {place i : ℕ} → Numbered (λ p. production_bytes (production_in g p)) 72 text₀ at n text place i → n ≤ i
    → Wrote text₀ at (joined production_bytes (productions_in g n)) text place × (place ≤ at + 72 * n)
unfolding productions_in
productions_end g {text₀} {at} {n} {text} {place} {i} I h =
    let e = numbered_end I h in
    (subst (λ (l : List ℕ). Wrote text₀ at l text place) (joined_map production_bytes (production_in g) (below n)) e.0, e.1)

-- `put_symbols`: what is left of the symbols
pub record Symbols (text₀ : List ℕ) (at : ℕ) (whole : List Symbol) (text : List ℕ) (place : ℕ) (rest : List Symbol) : Type 0 where
  pub near : place + 4 * length rest ≤ at + 4 * length whole
  pub left : Left text₀ at (joined name_bytes whole) text place (joined name_bytes rest)

pub symbols-first : (text : List ℕ) (at : ℕ) (whole : List Symbol) → Symbols text at whole text at whole
symbols-first text at whole = record { near = omega arith; left = left_all_lem text at (joined name_bytes whole) }

pub symbols-more : {text₀ : List ℕ} {at : ℕ} {whole : List Symbol} {text text' : List ℕ} {place place' : ℕ} {rest rest' : List Symbol} (s : Symbol)
    → Symbols text₀ at whole text place rest → rest ≡ s ∷ rest' → Wrote text place (name_bytes s) text' place' → place' ≤ place + 4 → Symbols text₀ at whole text' place' rest'
unfolding joined
symbols-more s S e W b = record {
  near = let n = S.near in let l = ap length e in omega arith;
  left = left_less S.left (ap (joined name_bytes) e) W;
}

pub listed_few : (ws : List ℕ) → 2 * length (listed ws) ≤ length ws
unfolding listed
listed_few [] = omega arith
listed_few (k ∷ []) = omega arith
listed_few (k ∷ n ∷ ws) = let i = listed_few ws in omega arith

pub symbols_end : {text₀ : List ℕ} {at : ℕ} (words : List ℕ) {text : List ℕ} {place : ℕ} {rest : List Symbol} → Symbols text₀ at (listed words) text place rest → rest ≡ [] → length words ≤ 2 * symbol_limit
    → Wrote text₀ at (joined name_bytes (listed words)) text place × (place ≤ at + 64)
unfolding joined
symbols_end words S e h = let n = S.near in let f = listed_few words in (left-none S.left (ap (joined name_bytes) e), omega arith)

-- what the code asks of a production's words
pub owner_small : (g : List ℕ) (n p o : ℕ) → Packed g n → p < n → o ≡ get_or g (production_place p) 0 → o < 100
owner_small g n p o P h e = let k = P.owner p h in omega arith

pub words_small : (g : List ℕ) (n p : ℕ) (ws : List ℕ) → Packed g n → p < n → ws ≡ symbol_words g p → (length ws ≤ 2 * symbol_limit) × (list_is_fit nonterminal_limit terminal_limit ws ≡ true)
words_small g n p ws P h e =
    let l : length ws ≡ 2 * get_or g (production_place p + 1) 0 = ap length e ∙ words_long g n p P h in
    let s = P.short p h in
    (omega arith, ap (list_is_fit nonterminal_limit terminal_limit) e ∙ P.fits p h)

-- `ascends`: from nonterminal n on
pub record Ascends (ns : List (List ℕ)) (least n : ℕ) : Type 0 where
  pub few : n ≤ length ns
  pub same : ascending least (drop n ns) ≡ ascending 0 ns

pub ascends_first : (ns : List (List ℕ)) → Ascends ns 0 0
ascends_first ns = record { few = omega arith; same = refl }

module _ {ns : List (List ℕ)} {least n : ℕ} (A : Ascends ns least n) where
  here : (l : List ℕ) → n < length ns → get_or ns n [] ≡ l → ascending least (l ∷ drop (suc n) ns) ≡ ascending 0 ns
  here l h e = sym (ap (ascending least) (drop-cons ns n [] h) ∙ ap (λ (m : List ℕ). ascending least (m ∷ drop (suc n) ns)) e) ∙ A.same

  pub ascends_empty : n < length ns → get_or ns n [] ≡ [] → false ≡ ascending 0 ns
  unfolding ascending
  ascends_empty h e = here [] h e

  module _ (first : ℕ) (rest : List ℕ) (h : n < length ns) (e : get_or ns n [] ≡ first ∷ rest) where
    test : leb least first && ascending (suc first) (drop (suc n) ns) ≡ ascending 0 ns
    unfolding ascending
    test = here (first ∷ rest) h e

    pub ascends_below : first < least → false ≡ ascending 0 ns
    ascends_below b = sym (ap (λ (c : Bool). c && ascending (suc first) (drop (suc n) ns)) (lt-leb least first b)) ∙ test

    pub ascends_more : least ≤ first → Ascends ns (first + 1) (n + 1)
    ascends_more b = record {
      few = omega arith;
      same =
          ap (λ (k : ℕ). ascending k (drop (n + 1) ns)) (add-one first)
          ∙ ap (λ (k : ℕ). ascending (suc first) (drop k ns)) (add-one n)
          ∙ sym (ap (λ (c : Bool). c && ascending (suc first) (drop (suc n) ns)) (le-leb least first b))
          ∙ test;
    }

  pub ascends_end : length ns ≤ n → true ≡ ascending 0 ns
  unfolding ascending
  ascends_end h = sym (ap (ascending least) (drop_of_length-le ns h)) ∙ A.same

-- the chain of a nonterminal by its head
pub no_production_lem : (t : List ℕ) (ns : List (List ℕ)) (n head : ℕ) → productions_from t head ≡ get_or ns n [] → head ≡ 0 → get_or ns n [] ≡ []
no_production_lem t ns n head e z = sym e ∙ ap (productions_from t) z ∙ no-productions t

-- the ways out of `write_in`
pub file_is : (T : Table) (t n : ℕ) (g : List ℕ) → t ≡ T.terminals → productions_in g n ≡ T.productions
    → file_bytes t (productions_in g n) ≡ text_of T
file_is T t n g et ep =
    ap (λ (k : ℕ). file_bytes k (productions_in g n)) et
    ∙ ap (file_bytes T.terminals) ep
    ∙ text_bytes T

module _ (T : Table) (text : List ℕ) where
  pub written_disordered : ascending 0 T.nonterminals ≡ false → record { answer = refused 23 0; text = text } ≡ written_of T text
  unfolding written_of
  written_disordered e = sym (rw (e, written_of))

  module _ (e : ascending 0 T.nonterminals ≡ true) where
    pub written-full : leb (length (text_of T)) (length text) ≡ false → record { answer = refused 17 0; text = text } ≡ written_of T text
    unfolding written_of
    written-full l = sym (rw (e, l, written_of))

    pub written_roomy : leb (length (text_of T)) (length text) ≡ true → record { answer = answered (length (text_of T)); text = in_front (text_of T) text } ≡ written_of T text
    unfolding written_of
    written_roomy l = sym (rw (e, l, written_of))

    module _ (size : ℕ) (s : size ≡ length (text_of T)) where
      pub written_short : length text < size → record { answer = refused 17 0; text = text } ≡ written_of T text
      written_short h = written-full (lt-leb (length (text_of T)) (length text) (omega arith))

      pub written-done : size ≤ length text → (after : List ℕ) → after ≡ in_front (text_of T) text → record { answer = answered size; text = after } ≡ written_of T text
      written-done h after a =
          ap (λ (k : ℕ). record { answer = answered k; text = after }) s
          ∙ ap (λ (l : List ℕ). record { answer = answered (length (text_of T)); text = l }) a
          ∙ written_roomy (le-leb (length (text_of T)) (length text) (omega arith))

module _ (T : Table) (text g : List ℕ) (t n size : ℕ) (A : ascending 0 T.nonterminals ≡ true) (et : t ≡ T.terminals) (ep : productions_in g n ≡ T.productions) (s : size ≡ 0 + length (file_bytes t (productions_in g n))) where
  counted : size ≡ length (text_of T)
  counted = let e = ap length (file_is T t n g et ep) in omega arith

  pub ordered_short : length text < size → record { answer = refused 17 0; text = text } ≡ written_of T text
  ordered_short h = written_short T text A size counted h

  pub ordered_done : size ≤ length text → (after : List ℕ) (r : ℕ) → Wrote text 0 (file_bytes t (productions_in g n)) after r → record { answer = answered size; text = after } ≡ written_of T text
  ordered_done h after r W = let k = counted in written-done T text A size counted h after (wrote-front (wrote_as W (file_is T t n g et ep)) (omega arith))

-- `write_yacc`
module _ (t text : List ℕ) where
  pub write-refused : (n r : ℕ) → check_of t ≡ No n r → record { answer = refused n r; text = text } ≡ write_of t text
  unfolding write_of
  write-refused n r e = sym (rw (e, write_of))

  pub write_accepted : check_of t ≡ Accepted → written_of (meaning t) text ≡ write_of t text
  unfolding write_of
  write_accepted e = sym (rw (e, write_of))
