-- Laws of the flags of suffixes that may derive the empty string (specs/Ends), and of an item's words among the packed productions.
use Rattle.std.proofs.Common.{◌≡◌, ℕ, zero, suc, ◌+◌, ◌*◌, ◌/◌, ◌<◌, ◌≤◌, Bool, true, false, ltb, leb, List, [], ◌∷◌, length, get_or, take, drop, replicate, sym, refl, ap, ◌∙◌, arith, ltb-true, lt-ltb, leb-true}
use native.Mathlib.Decide.{dec_lt}
use lib.ListN.{length-replicate}
use Rattle.lr1_base.specs.repr.Sizes.{nonterminal_limit, terminal_limit, index_limit, item_flags}
use Rattle.lr1_base.specs.repr.Meaning.{Symbol, Item, Production, no_production, Table, TableFits, ProductionFits, SymbolFits, production_at, All, ItemFits}
use Rattle.lr1_base.specs.repr.Listed.{symbol_of_kind, listed, symbol_is_fit, list_is_fit}
use Rattle.lr1_base.specs.repr.Packed.{Packed, symbol_words, production_in, productions_in}
use Rattle.lr1_base.proofs.repr.Lists.{length-map-below, get_d_map-below}
use Rattle.lr1_base.proofs.repr.Tests.{All_at}
use Rattle.lr1_base.proofs.repr.Parts.{symbols_long, fits-drop, fits-take}
use Rattle.lr1_base.specs.bits.Bits.{bit_at, bit_put}
use Rattle.lr1_base.proofs.bits.Laws.{put-length, put_here, put_other, zeros_none}
use Rattle.lr1_base.specs.item.Items.{symbol_sets}
use Rattle.first.specs.First.{first0, sets_of_first, FIRST, nullable}
use Rattle.first.specs.declared.Answer.{Answer}
use Rattle.state_graph.specs.Walk.{walked_back, traced_back}
use Rattle.trace_graph.specs.Fits.{item_is_fit}
use Rattle.trace.specs.Traced.{symbols_of, prefix_of, suffix_of}
use Rattle.trace.specs.Ends.{EndsTo, Ends}
use Rattle.trace.specs.Edges.{item_at}
use Rattle.lr1_base.proofs.laws.Bools.{and-true}

-- lists of symbols in words that fit, in parts

-- kinds of 0 and 1, and numbers in the table's range
symbol_tight : (T : Table) (k x : ℕ) → symbol_is_fit nonterminal_limit terminal_limit k x ≡ true → SymbolFits T (symbol_of_kind k x) → symbol_is_fit (length T.nonterminals) T.terminals k x ≡ true
unfolding symbol_is_fit SymbolFits symbol_of_kind
symbol_tight T zero x e h = lt-ltb x (length T.nonterminals) h
symbol_tight T (suc zero) x e h = lt-ltb x T.terminals h
symbol_tight T (suc (suc k)) x e h = e

fits_tight : (T : Table) (ws : List ℕ) → list_is_fit nonterminal_limit terminal_limit ws ≡ true → All (SymbolFits T) (listed ws) → list_is_fit (length T.nonterminals) T.terminals ws ≡ true
unfolding list_is_fit listed All
fits_tight T [] e h = refl
fits_tight T (a ∷ []) e h = e
fits_tight T (a ∷ x ∷ ws) e h =
    let r = and-true (symbol_is_fit nonterminal_limit terminal_limit a x) (list_is_fit nonterminal_limit terminal_limit ws) e in
    rw (symbol_tight T a x r.0 h.0) (fits_tight T ws r.1 h.1)

-- an item's words

module _ (g : List ℕ) (n p : ℕ) (P : Packed g n) (h : p < n) where
  pub suffix-fits : (i : ℕ) (ws : List ℕ) → ws ≡ drop (2 * i + 2) (symbol_words g p) → list_is_fit nonterminal_limit terminal_limit ws ≡ true
  suffix-fits i ws e = let q : 2 * i + 2 ≡ 2 * suc i = omega arith in rw (e, q) (fits-drop 32 63 (suc i) (symbol_words g p) (P.fits p h))

  production_is : (T : Table) → T.productions ≡ productions_in g n → production_at T p ≡ production_in g p
  unfolding productions_in
  production_is T e = ap (λ (ps : List Production). get_or ps p no_production) e ∙ get_d_map-below (production_in g) n p no_production h

  symbols_are : (T : Table) → T.productions ≡ productions_in g n → (production_at T p).symbols ≡ listed (symbol_words g p)
  unfolding production_in
  symbols_are T e = ap (λ (q : Production). q.symbols) (production_is T e)

  prefix_is : (T : Table) (i : ℕ) → T.productions ≡ productions_in g n → prefix_of T (item_at p i) ≡ (symbol_sets (listed (symbol_words g p)) i).prefix
  unfolding prefix_of symbols_of item_at
  prefix_is T i e = ap (λ (xs : List Symbol). (symbol_sets xs i).prefix) (symbols_are T e)

  suffix_is : (T : Table) (i : ℕ) → T.productions ≡ productions_in g n → suffix_of T (item_at p i) ≡ (symbol_sets (listed (symbol_words g p)) i).suffix
  unfolding suffix_of symbols_of item_at
  suffix_is T i e = ap (λ (xs : List Symbol). (symbol_sets xs i).suffix) (symbols_are T e)

  pub symbols_short : (T : Table) → T.productions ≡ productions_in g n → (length (production_at T p).symbols ≡ length (listed (symbol_words g p))) × (length (production_at T p).symbols ≤ 16)
  symbols_short T e =
      let a = ap (λ (xs : List Symbol). length xs) (symbols_are T e) in
      let b = symbols_long g n p P h in
      let c = P.short p h in
      (a, omega arith)

  -- its suffix's flag, from the answer that the code asks for
  pub ends_is : (T : Table) (i e : ℕ) (sets ws : List ℕ) (x : Answer) → T.productions ≡ productions_in g n → T.terminals ≡ e → sets ≡ sets_of_first e (productions_in g n)
      → listed ws ≡ (symbol_sets (listed (symbol_words g p)) i).suffix → x ≡ first0 e sets (listed ws) → x.nullable ≡ nullable T (suffix_of T (item_at p i))
  unfolding nullable FIRST
  ends_is T i e sets ws x ep et es ew ex = rw (ex, es, ew, suffix_is T i ep, ep, et) refl

  -- its prefix has the table's range
  pub prefix-fits : (T : Table) (i : ℕ) (ws : List ℕ) → TableFits T → T.productions ≡ productions_in g n → ws ≡ take (2 * i) (symbol_words g p) → list_is_fit (length T.nonterminals) T.terminals ws ≡ true
  unfolding productions_in
  prefix-fits T i ws fits ep e =
      let l : p < length T.productions = rw (ep, length-map-below (production_in g) n) h in
      let a = (All_at (ProductionFits T) T.productions p no_production fits.productions l).symbols in
      rw e (fits-take (length T.nonterminals) T.terminals i (symbol_words g p) (fits_tight T (symbol_words g p) (P.fits p h) (rw (symbols_are T ep) at a)))

  -- the walk back over it
  pub before_is : (T : Table) (i s : ℕ) (ss rs ws : List ℕ) → T.productions ≡ productions_in g n → ss ≡ s ∷ [] → listed ws ≡ (symbol_sets (listed (symbol_words g p)) i).prefix
      → rs ≡ walked_back T ss (listed ws) → rs ≡ traced_back T s (prefix_of T (item_at p i))
  unfolding traced_back
  before_is T i s ss rs ws ep es ew er = er ∙ rw (es, ew, prefix_is T i ep)

-- an item in range, among the packed productions
pub fits-words : (g : List ℕ) (n p i : ℕ) → item_is_fit (productions_in g n) p i ≡ true → (p < n) × (i ≤ length (listed (symbol_words g p)))
unfolding item_is_fit productions_in production_in
fits-words g n p i e =
    let r = and-true (ltb p (length (productions_in g n))) (leb i (length (get_or (productions_in g n) p no_production).symbols)) e in
    let a = ltb-true p (length (productions_in g n)) r.0 in
    let b = length-map-below (production_in g) n in
    let h : p < n = omega arith in
    let c = leb-true i (length (get_or (productions_in g n) p no_production).symbols) r.1 in
    (h, rw (get_d_map-below (production_in g) n p no_production h) at c)

-- the flags, item by item

short_in : (g : List ℕ) (n : ℕ) (P : Packed g n) (T : Table) → T.productions ≡ productions_in g n → (j : Item) → ItemFits T j → (j.production < n) × (j.index ≤ 16)
unfolding productions_in
short_in g n P T e j f =
    let a = f.production in
    let b : length T.productions ≡ n = ap (λ (ps : List Production). length ps) e ∙ length-map-below (production_in g) n in
    let h : j.production < n = omega arith in
    let c = (symbols_short g n j.production P h T e).1 in
    let d = f.index in
    (h, omega arith)

pub ends-none : (T : Table) (ends : List ℕ) → ends ≡ replicate item_flags 0 → EndsTo T ends (0 * index_limit)
ends-none T ends e = record { long = ap length e ∙ length-replicate {A = ℕ} item_flags 0; exact = λ i f h. absurd (omega arith); clear = λ c h. rw e (zeros_none item_flags c) }

pub ends-start : (T : Table) (ends : List ℕ) (k : ℕ) → EndsTo T ends k → EndsTo T ends (k + 0)
ends-start T ends k E = record { long = E.long; exact = λ i f h. E.exact i f (omega arith); clear = λ c h. E.clear c (omega arith) }

module _ (g : List ℕ) (n : ℕ) (P : Packed g n) (T : Table) (e : T.productions ≡ productions_in g n) (ends : List ℕ) where
  -- an item's flag is set, or not, as its suffix has it
  ends_as : (to : List ℕ) (p i : ℕ) → p < n → i ≤ 16 → EndsTo T ends (p * index_limit + i) → length to ≡ item_flags
      → ((c : ℕ) → (c ≡ p * index_limit + i → ⊥) → bit_at to c ≡ bit_at ends c) → bit_at to (p * index_limit + i) ≡ nullable T (suffix_of T (item_at p i)) → EndsTo T to (p * index_limit + (i + 1))
  unfolding item_at
  ends_as to p i h l E long other here = record {
    long = long;
    exact = λ j f lt. at j f lt (dec_lt (j.production * index_limit + j.index) (p * index_limit + i));
    clear = λ c lt. other c (λ z. omega arith) ∙ E.clear c (omega arith);
  }
    where
      at : (j : Item) → ItemFits T j → j.production * index_limit + j.index < p * index_limit + (i + 1) → Dec (j.production * index_limit + j.index < p * index_limit + i)
          → bit_at to (j.production * index_limit + j.index) ≡ nullable T (suffix_of T j)
      at j f lt (yes q) = other (j.production * index_limit + j.index) (λ z. omega arith) ∙ E.exact j f q
      at j f lt (no q) =
          let s = short_in g n P T e j f in
          let same-p : j.production ≡ p = omega arith in
          let same-i : j.index ≡ i = omega arith in
          let same-j : ◌≡◌ {A = Item} j (record { production = p; index = i }) = λ k. record { production = same-p k; index = same-i k } in
          rw same-j here

  pub ends_set : (to : List ℕ) (p i : ℕ) (b : Bool) → p < n → i ≤ 16 → EndsTo T ends (p * index_limit + i) → b ≡ true → b ≡ nullable T (suffix_of T (item_at p i))
      → to ≡ bit_put ends (p * index_limit + i) → EndsTo T to (p * index_limit + (i + 1))
  ends_set to p i b h l E y q et =
      let few = P.few in
      let long = E.long in
      let inside : (p * index_limit + i) / 64 < length ends = omega arith in
      rw et (ends_as (bit_put ends (p * index_limit + i)) p i h l E (put-length ends (p * index_limit + i) ∙ long) (λ c ne. put_other ends (p * index_limit + i) c inside ne)
      (put_here ends (p * index_limit + i) inside ∙ sym y ∙ q))

  pub ends-unset : (p i : ℕ) (b : Bool) → p < n → i ≤ 16 → EndsTo T ends (p * index_limit + i) → b ≡ false → b ≡ nullable T (suffix_of T (item_at p i)) → EndsTo T ends (p * index_limit + (i + 1))
  ends-unset p i b h l E y q = ends_as ends p i h l E E.long (λ c ne. refl) (E.clear (p * index_limit + i) (omega arith) ∙ sym y ∙ q)

  pub ends_last : (p i : ℕ) → p < n → length (production_at T p).symbols < i → i ≤ 17 → EndsTo T ends (p * index_limit + i) → EndsTo T ends ((p + 1) * index_limit)
  ends_last p i h l m E = record { long = E.long; exact = λ j f lt. E.exact j f (inside j f lt); clear = λ c lt. E.clear c (omega arith) }
    where
      inside : (j : Item) → ItemFits T j → j.production * index_limit + j.index < (p + 1) * index_limit → j.production * index_limit + j.index < p * index_limit + i
      inside j f lt = go (dec_lt j.production p)
        where
          go : Dec (j.production < p) → j.production * index_limit + j.index < p * index_limit + i
          go (yes q) = let s = short_in g n P T e j f in omega arith
          go (no q) =
              let same : j.production ≡ p = omega arith in
              let d = rw same at f.index in
              omega arith

  pub ends-all : (k : ℕ) → n ≤ k → EndsTo T ends (k * index_limit) → Ends T ends
  ends-all k h E = record { long = E.long; exact = λ j f. let s = short_in g n P T e j f in E.exact j f (omega arith) }
