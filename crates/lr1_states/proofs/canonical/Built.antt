-- Every number of the table that is written is in range (`built-fits`), and so is every number of a conflict (`clash_fits`); while no state is refused, the
-- items are few enough for the room that is lent (`few_items`).
use mathlib.Core.Path.{◌≡◌, sym, ◌∙◌}
use mathlib.Core.Bool.{false, not}
use mathlib.Core.List.{List, [], ◌∷◌, ◌++◌, map, Memᴰ}
use mathlib.Core.Logic.{⊎_elim}
use Prim.Native.Nat.{ℕ, zero, suc, ◌≤◌, ◌<◌, min}
use native.Mathlib.Omega.{arith}
use lib.Dec.{eqb, ltb}
use lib.ListN.{length, get_or, take, length-take}
use borrow.Author.Tests.{ltb-false}
use Rattle.lr1_base.specs.repr.Sizes.{record_limit}
use Rattle.lr1_base.specs.repr.Lists.{below, keep}
use Rattle.lr1_base.specs.repr.Meaning.{Symbol, nonterminal, terminal, Production, Item, Edge, Table, production_at, SymbolFits, All, ItemFits, EdgeFits, StateFits, ProductionFits, TableFits}
use Rattle.lr1_base.proofs.repr.Lists.{cases, clash, length-map-below, joined_cons}
use Rattle.lr1_states.specs.canonical.Canonical.{Set, Closed, given, added, Moved, Goto, Start, Reached, Viable, Clash, InOrder}
use Rattle.lr1_states.specs.canonical.States.{built, build, tried, moved, nothing?, written, clashes}
use Rattle.lr1_states.specs.canonical.Built.{built_state, built_table}
use Rattle.lr1_states.specs.canonical.Outcome.{sum, records, stops_at}
use Rattle.lr1_base.proofs.repr.Tests.{All_member}
use Rattle.lr1_states.proofs.canonical.Members.{keep_out, map-out, map-mem, mem_less}
use Rattle.lr1_states.proofs.canonical.Closure.{behind_fit, All-by-member}
use Rattle.lr1_states.proofs.canonical.Goto.{drop-long}
use Rattle.lr1_states.proofs.canonical.Collection.{build_right}
use Rattle.lr1_states.proofs.canonical.Conflicts.{conflicts_exact, written_exact}
use Rattle.lr1_states.proofs.canonical.Order.{target, symbol, targets, found_in_order, edges_as_tried}

-- the book's sets hold items and tokens of the table alone
pub record Held (T : Table) (i : Item) (a : ℕ) : Type 0 where
  pub production : i.production < length T.productions
  pub index : i.index ≤ length (production_at T i.production).symbols
  pub token : a ≤ T.terminals

abbrev Bounded : Table → Set → Type 0
Bounded T K = (i : Item) (a : ℕ) → K i a → Held T i a

module _ (T : Table) where
  start_bounded : (start : ℕ) → start < length T.productions → Bounded T (Start T start)
  start_bounded start h i a k = record { production = omega (arith, k.0); index = omega (arith, k.1); token = omega (arith, k.2) }

  moved_bounded : (X : Symbol) (K : Set) → Bounded T K → Bounded T (Moved T X K)
  moved_bounded X K f j a k =
      let i : Item = k.0 in
      let w = f i a k.5 in
      let l : i.index < length (production_at T i.production).symbols = drop-long i.index (production_at T i.production).symbols X k.1 k.4 in
      record { production = rw k.2 w.production; index = rw (k.2, k.3) (omega arith); token = w.token }

  closed_bounded : (K : Set) → Bounded T K → Bounded T (Closed T K)
  closed_bounded K f i a (given k) = f i a k
  closed_bounded K f j b (added {i = i} {a = a} n β c e y l o v) =
      let w = closed_bounded K f i a c in
      record { production = l; index = rw y (omega arith); token = ⊎_elim (λ u. omega (arith, u.0)) (λ u. omega (arith, u.0, w.token)) v }

  reached_bounded : (w : List Symbol) (K : Set) → Bounded T K → Bounded T (Reached T K w)
  unfolding Reached
  reached_bounded [] K f = f
  reached_bounded (X ∷ w) K f = reached_bounded w (Goto T X K) (closed_bounded (Moved T X K) (moved_bounded X K f))

  pub viable_bounded : (start : ℕ) → start < length T.productions → (w : List Symbol) → Bounded T (Viable T start w)
  viable_bounded start h w = reached_bounded w (Closed T (Start T start)) (closed_bounded (Start T start) (start_bounded start h))

-- targets are states

order_fits : (m n : ℕ) (ts : List ℕ) → InOrder m ts n → (m ≤ n) × ((t : ℕ) → Memᴰ t ts → t < n)
unfolding InOrder
order_fits m n [] f = (omega arith, λ t i. absurd (mathlib.Core.List.Memᴰ.not-nil i))
order_fits m n (x ∷ ts) f =
    let same = order_fits m n ts in
    let more = order_fits (suc m) n ts in
    ⊎_elim
    (λ w. let r = same w.1 in (r.0, λ t i. ⊎_elim (λ e. omega (arith, e, w.0, r.0)) (r.1 t) (mathlib.Core.List.Memᴰ.cases_cons i)))
    (λ w. let r = more w.1 in (omega (arith, r.0), λ t i. ⊎_elim (λ e. omega (arith, e, w.0, r.0)) (r.1 t) (mathlib.Core.List.Memᴰ.cases_cons i)))
    f

in_targets : (es : List (List Edge)) (k t : ℕ) → k < length es → Memᴰ t (map target (get_or es k [])) → Memᴰ t (targets es)
in_targets [] k t h i = absurd (omega arith)
in_targets (ds ∷ es) zero t h i = rw (joined_cons (λ (ds : List Edge). map target ds) ds es) (mathlib.Core.List.Memᴰ.append_left (targets es) i)
in_targets (ds ∷ es) (suc k) t h i =
    let more = in_targets es k t (omega arith) i in
    rw (joined_cons (λ (ds : List Edge). map target ds) ds es) (mathlib.Core.List.Memᴰ.append_right (map target ds) more)

-- what is tried is of the table

tried-fits : (T : Table) (X : Symbol) → Memᴰ X (tried T) → SymbolFits T X
unfolding tried SymbolFits
tried-fits T X i =
    ⊎_elim
    (λ j. let r = map-out nonterminal X (below (length T.nonterminals)) j in rw r.2 (mem_less (length T.nonterminals) r.0 r.1))
    (λ j. let r = map-out terminal X (below T.terminals) j in rw r.2 (mem_less T.terminals r.0 r.1))
    (mathlib.Core.List.Memᴰ.append_cases (map nonterminal (below (length T.nonterminals))) i)

-- the grammar is the one lent

same_symbol : (T : Table) (Rs : List (List ℕ)) (es : List (List Edge)) (X : Symbol) → SymbolFits T X → SymbolFits (built_table T Rs es) X
unfolding built_table SymbolFits
same_symbol T Rs es (nonterminal n) f = f
same_symbol T Rs es (terminal n) f = f

same_production : (T : Table) (Rs : List (List ℕ)) (es : List (List Edge)) (p : Production) → ProductionFits T p → ProductionFits (built_table T Rs es) p
unfolding built_table
same_production T Rs es p f = record {
  owner = f.owner;
  short = f.short;
  symbols = All-by-member (SymbolFits (built_table T Rs es)) p.symbols (λ X m. same_symbol T Rs es X (All_member (SymbolFits T) f.symbols m));
}

module _ (T : Table) (F : TableFits T) (start : ℕ) (h : start < length T.productions) (Rs : List (List ℕ)) (es : List (List Edge)) (e : build T start ≡ built Rs es) where
  item_fits : (k : ℕ) → k < length Rs → (i : Item) → Memᴰ i (written (get_or Rs k [])) → Held T i 0
  item_fits k l i m =
      let g = (build_right T F start h Rs es e).0.found.good k l in
      let r = (written_exact T F (get_or Rs k []) (Viable T start g.word) g.sized g.exact i).0 m in
      let w = viable_bounded T start h g.word i r.0 r.1 in
      record { production = w.production; index = w.index; token = omega arith }

  edge_fits : (k : ℕ) → k < length Rs → (d : Edge) → Memᴰ d (get_or es k []) → SymbolFits T d.symbol × (d.target < length Rs)
  edge_fits k l d m =
      let n : k < length es = omega (arith, (build_right T F start h Rs es e).1) in
      let s : Memᴰ d.symbol (keep (λ X. not (nothing? (moved T X (get_or Rs k [])))) (tried T)) = rw (edges_as_tried T start Rs es e k n) at (map-mem symbol d (get_or es k []) m) in (
        tried-fits T d.symbol (keep_out (λ X. not (nothing? (moved T X (get_or Rs k [])))) d.symbol (tried T) s).0,
        (order_fits 1 (length Rs) (targets es) (found_in_order T start Rs es e)).1 d.target (in_targets es k d.target n (map-mem target d (get_or es k []) m)),
      )

  state_fits : (k : ℕ) → k < length Rs → StateFits (built_table T Rs es) (built_state Rs es k)
  unfolding built_table built_state
  state_fits k l = record {
    items = All-by-member (ItemFits (built_table T Rs es)) (written (get_or Rs k [])) (λ i m. let w = item_fits k l i m in record { production = w.production; index = w.index });
    edges = All-by-member (EdgeFits (built_table T Rs es)) (get_or es k []) (λ d m. let w = edge_fits k l d m in record { symbol = same_symbol T Rs es d.symbol w.0; target = rw (length-map-below (built_state Rs es) (length Rs)) w.1 });
  }

  pub built-fits : TableFits (built_table T Rs es)
  unfolding built_table
  built-fits =
      let r = build_right T F start h Rs es e in
      let n : length (map (built_state Rs es) (below (length Rs))) ≡ length Rs = length-map-below (built_state Rs es) (length Rs) in
      record {
        some-nonterminal = F.some-nonterminal;
        few_nonterminals = F.few_nonterminals;
        few_terminals = F.few_terminals;
        some_state = rw n (omega (arith, r.0.found.some_state));
        few_states = rw n r.2;
        few_productions_lem = F.few_productions_lem;
        productions = All-by-member (ProductionFits (built_table T Rs es)) T.productions (λ p m. same_production T Rs es p (All_member (ProductionFits T) F.productions m));
        states = All-by-member (StateFits (built_table T Rs es)) (map (built_state Rs es) (below (length Rs))) (λ s m.
            let w = map-out (built_state Rs es) s (below (length Rs)) m in
            rw w.2 (state_fits w.0 (mem_less (length Rs) w.0 w.1)));
      }

  -- the ranges of a conflict's words: refusals 9 and 10 are not met
  pub record ClashFits (k : ℕ) (c : Clash) : Type 0 where
    pub state : k < length Rs
    pub production : c.production < length T.productions
    pub shift : c.action ≡ 0 → (c.other < T.terminals) × (c.token < T.terminals)
    pub reduction : (c.action ≡ 0 → ⊥) → (c.action ≡ 1) × (c.other < length T.productions)
    pub token : c.token ≤ T.terminals

  pub clash_fits : (k : ℕ) → k < length Rs → (c : Clash) → Memᴰ c (clashes T (get_or Rs k [])) → ClashFits k c
  unfolding All SymbolFits
  clash_fits k l c m =
      let g = (build_right T F start h Rs es e).0.found.good k l in
      let b = viable_bounded T start h g.word in
      ⊎_elim
      (λ w.
      let r = b (record { production = c.production; index = length (production_at T c.production).symbols }) c.token w.2 in
      let s : c.token < T.terminals = (behind_fit T F w.3.0 (terminal c.token) w.3.2 w.3.3).0 in
      record {
        state = l;
        production = r.production;
        shift = λ z. (rw w.1 s, s);
        reduction = λ n. absurd (n w.0);
        token = r.token;
      })
      (λ w.
      let r = b (record { production = c.production; index = length (production_at T c.production).symbols }) c.token w.2 in
      let q = b (record { production = c.other; index = length (production_at T c.other).symbols }) c.token w.3 in
      record {
        state = l;
        production = r.production;
        shift = λ z. absurd (omega (arith, w.0, z));
        reduction = λ n. (w.0, q.production);
        token = r.token;
      })
      ((conflicts_exact T F (get_or Rs k []) (Viable T start g.word) g.sized g.exact c).0 m)

-- where state k is not refused, all items found with it fit the room for items
pub few_items : (T : Table) (room : ℕ) (Rs : List (List ℕ)) (k : ℕ) → 1 ≤ length T.nonterminals → 1 ≤ length T.productions → k < length Rs → stops_at T room Rs k ≡ false
    → sum (λ (S : List ℕ). length (written S)) (take (suc k) Rs) ≤ 8188
unfolding stops_at records
few_items T room Rs k n p l h =
    cases (eqb k 128)
    (λ t. clash (stops_at T room Rs k) (rw (t, stops_at)) h)
    (λ t.
    let r : ltb (min room record_limit) (records T (take (suc k) Rs)) ≡ false = sym (rw (t, stops_at)) ∙ h in
    let m : length (take (suc k) Rs) ≡ suc k = length-take (suc k) Rs ∙ omega arith in
    omega (arith, ltb-false (min room record_limit) (records T (take (suc k) Rs)) r, m))
