-- One law for each way through the code that feeds the nonterminals' sets (src/lib).
use Rattle.std.proofs.Common.{◌≡◌, ℕ, suc, ◌+◌, ◌*◌, ◌/◌, ◌%◌, ◌<◌, ◌≤◌, List, [], ◌∷◌, ◌++◌, length, get_or, drop, set, refl, ap, ◌∙◌, add-one, arith, length-set}
use lib.Seq.{set-get_or}
use Rattle.lr1_base.specs.repr.Sizes.{index_limit, production_room}
use Rattle.lr1_base.specs.repr.Lists.{up_from, below}
use Rattle.lr1_base.specs.repr.Packed.{symbol_words, production_in}
use Rattle.lr1_base.specs.repr.Listed.{listed}
use Rattle.lr1_base.specs.repr.Meaning.{Symbol, nonterminal, terminal, Table, production_at}
use Rattle.lr1_base.proofs.repr.Lists.{below_last}
use Rattle.lr1_base.specs.lookahead.Tokens.{union}
use Rattle.lr1_base.proofs.lookahead.Sets.{union-zero_right}
use Rattle.first.specs.First.{first1}
use Rattle.first.specs.Rust.{rust_first0}
use Rattle.first.proofs.Join.{first1-join}
use Rattle.lr1_states.specs.canonical.States.{from}
use Rattle.lr1_states.proofs.canonical.Rounds.{gives_none, gives-some}
use Rattle.lr1_states.specs.closure.Grammar.{OfTable}
use Rattle.lr1_states.specs.closure.Fed.{feed, fed_by_items, fed_by_firsts}
use Rattle.lr1_base.specs.item.Items.{symbol_sets}
use Rattle.lr1_states.proofs.closure.Grammar.{production_at_lem}

-- one item

pub feed-none : (T : Table) (A : List ℕ) (ys : List Symbol) (s : ℕ) → s ≡ 0 → A ≡ feed T A ys s
unfolding feed
feed-none T A [] s z = refl
feed-none T A (terminal t ∷ β) s z = refl
feed-none T A (nonterminal n ∷ β) s z = rw (gives_none T.terminals (rust_first0 T β) s z, union-zero_right (get_or A n 0), set-get_or A n 0)

pub feed_end : (T : Table) (A : List ℕ) (ys : List Symbol) (s : ℕ) → ys ≡ [] → A ≡ feed T A ys s
unfolding feed
feed_end T A ys s e = rw e refl

pub feed_terminal : (T : Table) (A : List ℕ) (ys β : List Symbol) (s t : ℕ) → ys ≡ terminal t ∷ β → A ≡ feed T A ys s
unfolding feed
feed_terminal T A ys β s t e = rw e refl

-- FIRST(β s) by the code's sets
feed-some : (T : Table) (g : List ℕ) (k e : ℕ) (sets A : List ℕ) (ys β : List Symbol) (s n m u : ℕ) → OfTable T g k e sets → (s ≡ 0 → ⊥) → ys ≡ nonterminal n ∷ β
    → m ≡ first1 e sets β s → u ≡ union (get_or A n 0) m → set A n u ≡ feed T A ys s
unfolding feed rust_first0
feed-some T g k e sets A ys β s n m u G ne q em eu =
    rw (q, gives-some T.terminals (rust_first0 T β) s ne, eu, em, first1-join e sets β s, G.tokens, G.firsts)

-- items in turn

pub items_none : (T : Table) (S A : List ℕ) → A ≡ fed_by_items T S A (below 0)
unfolding fed_by_items below up_from
items_none T S A = refl

items_snoc : (T : Table) (S A xs : List ℕ) (x : ℕ) → fed_by_items T S A (xs ++ x ∷ []) ≡ feed T (fed_by_items T S A xs) (from T x) (get_or S x 0)
unfolding fed_by_items
items_snoc T S A [] x = refl
items_snoc T S A (y ∷ xs) x = items_snoc T S (feed T A (from T y) (get_or S y 0)) xs x

pub items_more : (T : Table) (g : List ℕ) (k e : ℕ) (sets S A A' A'' : List ℕ) (x : ℕ) → OfTable T g k e sets → x < index_limit * k → A' ≡ fed_by_items T S A (below x)
    → A'' ≡ feed T A' (drop (x % index_limit) (production_in g (x / index_limit)).symbols) (get_or S x 0) → A'' ≡ fed_by_items T S A (below (x + 1))
items_more T g k e sets S A A' A'' x G h q r =
    let p : production_at T (x / index_limit) ≡ production_in g (x / index_limit) = production_at_lem T g k e sets G (x / index_limit) (omega arith) in
    r ∙ rw (add-one x, below_last x, items_snoc T S A (below x) x, q, p)

pub firsts_none : (T : Table) (A : List ℕ) → A ≡ fed_by_firsts T A (below 0)
unfolding fed_by_firsts below up_from
firsts_none T A = refl

firsts_snoc : (T : Table) (A ps : List ℕ) (p : ℕ) → fed_by_firsts T A (ps ++ p ∷ []) ≡ feed T (fed_by_firsts T A ps) (production_at T p).symbols (get_or (fed_by_firsts T A ps) (production_at T p).nonterminal 0)
unfolding fed_by_firsts
firsts_snoc T A [] p = refl
firsts_snoc T A (q ∷ ps) p = firsts_snoc T (feed T A (production_at T q).symbols (get_or A (production_at T q).nonterminal 0)) ps p

pub firsts_more : (T : Table) (g : List ℕ) (k e : ℕ) (sets A A' A'' : List ℕ) (p n : ℕ) → OfTable T g k e sets → p < k → n ≡ get_or g (p * production_room) 0 → A' ≡ fed_by_firsts T A (below p)
    → A'' ≡ feed T A' (production_in g p).symbols (get_or A' n 0) → A'' ≡ fed_by_firsts T A (below (p + 1))
unfolding production_in
firsts_more T g k e sets A A' A'' p n G h en q r =
    let i : production_at T p ≡ production_in g p = production_at_lem T g k e sets G p h in
    r ∙ rw (add-one p, below_last p, firsts_snoc T A (below p) p, q, i, en)

pub length-feed : (T : Table) (A : List ℕ) (ys : List Symbol) (s : ℕ) → length (feed T A ys s) ≡ length A
unfolding feed
length-feed T A [] s = refl
length-feed T A (terminal t ∷ β) s = refl
length-feed T A (nonterminal n ∷ β) s = simp length-set

-- a cursor at a nonterminal, by the code's values: its number, the words behind the cursor, FIRST of them, the union
pub feed-step : (T : Table) (g : List ℕ) (k e : ℕ) (sets A ws : List ℕ) (p i s n m u : ℕ) → OfTable T g k e sets → (s ≡ 0 → ⊥) → drop i (listed (symbol_words g p)) ≡ nonterminal n ∷ drop (suc i) (listed (symbol_words g p))
    → listed ws ≡ (symbol_sets (listed (symbol_words g p)) i).suffix → m ≡ first1 e sets (listed ws) s → u ≡ union (get_or A n 0) m → set A n u ≡ feed T A (drop i (production_in g p).symbols) s
unfolding symbol_sets production_in
feed-step T g k e sets A ws p i s n m u G ne q ew em eu =
    feed-some T g k e sets A (drop i (listed (symbol_words g p))) (drop (suc i) (listed (symbol_words g p))) s n m u G ne q (em ∙ ap (λ (b : List Symbol). first1 e sets b s) ew) eu

-- the loops' ends
pub items_end : (T : Table) (S A A' : List ℕ) (x k : ℕ) → x ≤ index_limit * k → index_limit * k ≤ x → A' ≡ fed_by_items T S A (below x) → A' ≡ fed_by_items T S A (below (index_limit * k))
items_end T S A A' x k h l q = let z : x ≡ 17 * k = omega arith in rw (← z) q

pub firsts_end : (T : Table) (A A' : List ℕ) (p k : ℕ) → p ≤ k → k ≤ p → A' ≡ fed_by_firsts T A (below p) → A' ≡ fed_by_firsts T A (below k)
firsts_end T A A' p k h l q = let z : p ≡ k = omega arith in rw (← z) q
