-- Laws of taking a state, one for each way through the code.
use Rattle.std.proofs.Common.{true, false, Some, None, Ok, Err}
use mathlib.Core.Path.{◌≡◌, refl, sym, ap, ◌∙◌}
use mathlib.Core.List.{List, [], ◌∷◌, ◌++◌, map, append-nil, append_assoc}
use Prim.Native.Nat.{ℕ, zero, suc, ◌+◌, ◌-◌, ◌*◌, ◌/◌, ◌%◌, ◌≤◌, ◌<◌}
use native.Mathlib.Numerals.{add-one}
use native.Mathlib.Omega.{arith}
use lib.Dec.{ltb}
use lib.ListN.{length, get_or, set, drop, length-append, get_or-append, drop_of_length-le}
use lib.Seq.{drop-cons, get_or-set_same, get_or-set_other, get_or-append-add}
use borrow.Author.Tests.{ltb-true, ltb-false, lt-ltb, le-ltb}
use Rattle.lr1_base.specs.repr.Sizes.{state_limit}
use Rattle.lr1_base.specs.repr.Lists.{up_from, below}
use Rattle.lr1_base.specs.repr.Meaning.{Symbol, nonterminal, terminal, Edge, Table, TableFits}
use Rattle.lr1_base.specs.repr.Symbols.{meant, IsInRange}
use Rattle.lr1_base.specs.declared.repr.Symbol.{Symbol as Coded}
use Rattle.lr1_base.specs.declared.repr.Symbol.TheVariants.{Nonterminal, Terminal}
use Rattle.lr1_base.proofs.repr.Lists.{cases, up_from-last, length-map-below, get_d_map-below}
use Rattle.lr1_base.specs.item.Cursor.{symbol_code}
use Rattle.lr1_states.specs.canonical.States.{tried}
use Rattle.lr1_states.specs.state_list.Made.{Holds}
use Rattle.lr1_states.specs.goto.Steps.{Reach, stops, goto_to, Told, stopped, told, behind, take_to}
use Rattle.lr1_states.specs.goto.Search.{Search, Keeps, Reached, refusal_of, IsOneOf}
use Rattle.lr1_states.specs.declared.goto.Halt.{Halt}
use Rattle.lr1_states.specs.declared.goto.Source.{Source}
use Rattle.lr1_states.proofs.goto.Steps.{to_nowhere, to_stops, to_reach}
use Rattle.lr1_states.specs.transitions.Taking.{symbol_of_code, edge_of, edges_in, TookOne, passed, reached, Tried, TakenAs}

-- the same search later on
abbrev pub search_on : (source : Source) (ws bs ws' bs' : List ℕ) (n q : ℕ) (s : Search source ws bs n) (Qs : List (List ℕ)) → q ≡ length Qs → Holds s.T s.start ws' bs' Qs
    → Search source ws' bs' q
search_on source ws bs ws' bs' n q s Qs m H = record {
  T = s.T;
  start = s.start;
  room = s.room;
  Rs = Qs;
  grammar = s.grammar;
  started = s.started;
  nonterminals_are = s.nonterminals_are;
  fixed_is = s.fixed_is;
  fixed_small = s.fixed_small;
  limit_is = s.limit_is;
  holds = H;
  many = m;
}

-- one symbol

module _ (T : Table) (start : ℕ) (Rs : List (List ℕ)) (w : Reach) (ws bs : List ℕ) (q : ℕ) where
  pub tried-nowhere : (c : ℕ) (E : List ℕ) (m : ℕ) (u : Unit {0}) → Reached T start Rs w ws bs q (Ok None) → Tried T start Rs w c ws bs E E m q m (Ok u)
  unfolding Reached Tried
  tried-nowhere c E m u h = passed h.0 h.1 h.2 refl refl

  pub tried-stops : (c : ℕ) (E : List ℕ) (m m' : ℕ) (v : Halt) → Reached T start Rs w ws bs q (Err v) → Tried T start Rs w c ws bs E E m q m' (Err v)
  unfolding Reached Tried
  tried-stops c E m m' v h = h

  pub tried_to : (c : ℕ) (E : List ℕ) (m t : ℕ) (u : Unit {0}) → Reached T start Rs w ws bs q (Ok (Some t)) → Tried T start Rs w c ws bs E (set E m (c * state_limit + t)) m q (m + 1) (Ok u)
  unfolding Reached Tried
  tried_to c E m t u h = reached t h.0 h.1 h.2 h.3 h.4 h.5 refl refl

pub to_small : (T : Table) (start : ℕ) (Rs : List (List ℕ)) (w : Reach) (ws bs : List ℕ) (q t : ℕ) → Reached T start Rs w ws bs q (Ok (Some t)) → t < state_limit
unfolding Reached
to_small T start Rs w ws bs q t h = omega (arith, h.2, h.3, h.4.begun.few)

-- edges

symbol_low : (c : ℕ) → c < 32 → symbol_of_code c ≡ nonterminal c
unfolding symbol_of_code
symbol_low c h = rw (lt-ltb c 32 h, symbol_of_code)

symbol_high : (i : ℕ) → symbol_of_code (32 + i) ≡ terminal i
unfolding symbol_of_code
symbol_high i = let z : 32 + i - 32 ≡ i = omega arith in rw (le-ltb (32 + i) 32 (omega arith), symbol_of_code) (ap terminal z)

pub code_back : (N e : ℕ) (X : Symbol) → N ≤ 32 → IsOneOf N e X → symbol_of_code (symbol_code X) ≡ X
unfolding symbol_code IsOneOf
code_back N e (nonterminal n) h F = symbol_low n (omega (arith, F))
code_back N e (terminal t) h F = symbol_high t

pub one_small : (N e : ℕ) (X : Coded) → N ≤ 32 → e ≤ 63 → IsOneOf N e (meant X) → IsInRange X
unfolding IsOneOf
one_small N e (Nonterminal n) h k F = omega (arith, F)
one_small N e (Terminal t) h k F = omega (arith, F)

edge_is_lem : (X : Symbol) (t : ℕ) → t < state_limit → symbol_of_code (symbol_code X) ≡ X → edge_of (symbol_code X * state_limit + t) ≡ record { symbol = X; target = t }
unfolding edge_of
edge_is_lem X t h e =
    let a : (symbol_code X * 128 + t) / 128 ≡ symbol_code X = omega arith in
    let b : (symbol_code X * 128 + t) % 128 ≡ t = omega arith in
    rw (a, b, e) refl

pub edges_none : (E : List ℕ) (m : ℕ) → edges_in E m (m - m) ≡ []
unfolding edges_in up_from
edges_none E m = let z : m - m ≡ 0 = omega arith in rw z refl

pub edges_same : (E D : List ℕ) (m n : ℕ) → ((i : ℕ) → m ≤ i → i < m + n → get_or D i 0 ≡ get_or E i 0) → edges_in D m n ≡ edges_in E m n
unfolding edges_in up_from
edges_same E D m zero f = refl
edges_same E D m (suc n) f =
    let here = f m (omega arith) (omega arith) in
    let more = edges_same E D (suc m) n (λ i l h. f i (omega arith) (omega arith)) in
    rw here (ap (λ (l : List Edge). edge_of (get_or E m 0) ∷ l) more)

pub map_last {ℓ} : {A : Type ℓ} (f : ℕ → A) (xs : List ℕ) (x : ℕ) → map f (xs ++ x ∷ []) ≡ map f xs ++ f x ∷ []
map_last f [] x = refl
map_last f (y ∷ xs) x = ap (λ l. f y ∷ l) (map_last f xs x)

edges_last : (E : List ℕ) (b m : ℕ) → b ≤ m → edges_in E b (m + 1 - b) ≡ edges_in E b (m - b) ++ edge_of (get_or E m 0) ∷ []
unfolding edges_in
edges_last E b m h =
    let z : m + 1 - b ≡ suc (m - b) = omega arith in
    let y : b + (m - b) ≡ m = omega arith in
    rw (z, up_from-last b (m - b), y) (map_last (λ i. edge_of (get_or E i 0)) (up_from b (m - b)) m)

edges_put : (E : List ℕ) (b m v : ℕ) → b ≤ m → m < length E → edges_in (set E m v) b (m + 1 - b) ≡ edges_in E b (m - b) ++ edge_of v ∷ []
edges_put E b m v h l =
    edges_last (set E m v) b m h ∙ rw (get_or-set_same E m v 0 l, edges_same E (set E m v) b (m - b) (λ i u k. get_or-set_other E m i v 0 (λ q. omega arith))) refl

behind-none : (w : Told) → behind [] w ≡ w
unfolding behind
behind-none (stopped n) = refl
behind-none (told Rs es) = refl

behind-behind : (ds es : List Edge) (w : Told) → behind ds (behind es w) ≡ behind (ds ++ es) w
unfolding behind
behind-behind ds es (stopped n) = refl
behind-behind ds es (told Rs fs) = ap (told Rs) (sym (append_assoc ds es fs))

behind-stopped : (ds : List Edge) (n : ℕ) → behind ds (stopped n) ≡ stopped n
unfolding behind
behind-stopped ds n = refl

behind-told : (ds : List Edge) (T : Table) (room : ℕ) (S : List ℕ) (Qs : List (List ℕ)) → behind ds (take_to T room S Qs []) ≡ told Qs ds
unfolding behind take_to
behind-told ds T room S Qs = ap (told Qs) (append-nil ds)

-- the symbols tried: symbol j is one of the nonterminals, then of the terminals

unfoldable pub symbol_tried : ℕ → ℕ → Symbol
symbol_tried nonterminals j = elim (ltb j nonterminals) [ true ↦ nonterminal j | false ↦ terminal (j - nonterminals) ]

pub tried_low : (N j : ℕ) → j < N → symbol_tried N j ≡ nonterminal j
unfolding symbol_tried
tried_low N j h = rw (lt-ltb j N h, symbol_tried)

pub tried_high : (N j : ℕ) → N ≤ j → symbol_tried N j ≡ terminal (j - N)
unfolding symbol_tried
tried_high N j h = rw (le-ltb j N h, symbol_tried)

pub tried_nonterminal : (N j : ℕ) → j < N → nonterminal j ≡ symbol_tried N j
tried_nonterminal N j h = sym (tried_low N j h)

pub tried_terminal : (N i : ℕ) → terminal i ≡ symbol_tried N (N + i)
tried_terminal N i = let z : N + i - N ≡ i = omega arith in sym (tried_high N (N + i) (omega arith) ∙ ap terminal z)

tried_long : (T : Table) (N e : ℕ) → N ≡ length T.nonterminals → e ≡ T.terminals → length (tried T) ≡ N + e
unfolding tried
tried_long T N e n t =
    length-append (map nonterminal (below (length T.nonterminals))) (map terminal (below T.terminals))
    ∙ rw (length-map-below nonterminal (length T.nonterminals), length-map-below terminal T.terminals, n, t) refl

module _ (T : Table) (F : TableFits T) (N e : ℕ) (n : N ≡ length T.nonterminals) (t : e ≡ T.terminals) (j : ℕ) (X : Symbol) (is : X ≡ symbol_tried N j) (h : j < N + e) where
  pub tried_fits : IsOneOf N e X
  unfolding IsOneOf
  tried_fits =
      cases (ltb j N)
      (λ u. let k = ltb-true j N u in rw (is, tried_low N j k) k)
      (λ u. let k = ltb-false j N u in rw (is, tried_high N j k) (omega arith))

  symbol_at_lem : get_or (tried T) j (nonterminal 0) ≡ X
  unfolding tried
  symbol_at_lem =
      let size = length-map-below nonterminal (length T.nonterminals) in
      cases (ltb j N)
      (λ u.
      let k = ltb-true j N u in
      let l : j < length T.nonterminals = omega arith in
      get_or-append (map nonterminal (below (length T.nonterminals))) (map terminal (below T.terminals)) (nonterminal 0) j (rw size l)
      ∙ get_d_map-below nonterminal (length T.nonterminals) j (nonterminal 0) l ∙ sym (is ∙ tried_low N j k))
      (λ u.
      let k = ltb-false j N u in
      let y : length (map nonterminal (below (length T.nonterminals))) + (j - N) ≡ j = omega (arith, size) in
      ap (λ (i : ℕ). get_or (map nonterminal (below (length T.nonterminals)) ++ map terminal (below T.terminals)) i (nonterminal 0)) (sym y)
      ∙ get_or-append-add (map nonterminal (below (length T.nonterminals))) (map terminal (below T.terminals)) (j - N) (nonterminal 0)
      ∙ get_d_map-below terminal T.terminals (j - N) (nonterminal 0) (omega arith) ∙ sym (is ∙ tried_high N j k))

  tried_at : drop j (tried T) ≡ X ∷ drop (j + 1) (tried T)
  tried_at = drop-cons (tried T) j (nonterminal 0) (rw (tried_long T N e n t) h) ∙ rw (symbol_at_lem, add-one j) refl

-- a turn of the loop: j symbols were tried
pub record Turn (T : Table) (start room : ℕ) (S : List ℕ) (Rs : List (List ℕ)) (ws bs E₀ E : List ℕ) (j m₀ m q : ℕ) : Type 0 where
  pub Qs : List (List ℕ)
  pub many : q ≡ length Qs
  pub holds : Holds T start ws bs Qs
  pub keeps : Keeps Rs Qs
  pub low : m₀ ≤ m
  pub high : m ≤ m₀ + j
  pub same : (i : ℕ) → i < m₀ → get_or E i 0 ≡ get_or E₀ i 0
  pub rest : behind (edges_in E m₀ (m - m₀)) (take_to T room S Qs (drop j (tried T))) ≡ take_to T room S Rs (tried T)

pub turn_start : (T : Table) (start room : ℕ) (S : List ℕ) (Rs : List (List ℕ)) (ws bs E : List ℕ) (m n : ℕ) → n ≡ length Rs → Holds T start ws bs Rs → Turn T start room S Rs ws bs E E 0 m m n
turn_start T start room S Rs ws bs E m n q H = record {
  Qs = Rs;
  many = q;
  holds = H;
  keeps = record { long = omega arith; same = λ k h. refl };
  low = omega arith;
  high = omega arith;
  same = λ i h. refl;
  rest = rw (edges_none E m) (behind-none (take_to T room S Rs (tried T)));
}

-- the same by another count
pub turn_on : {T : Table} {start room : ℕ} {S : List ℕ} {Rs : List (List ℕ)} {ws bs E₀ E : List ℕ} {j i m₀ m q : ℕ} → j ≡ i → Turn T start room S Rs ws bs E₀ E j m₀ m q → Turn T start room S Rs ws bs E₀ E i m₀ m q
turn_on e t = rw e at t

keeps_trans : (Rs Qs Ps : List (List ℕ)) → Keeps Rs Qs → Keeps Qs Ps → Keeps Rs Ps
keeps_trans Rs Qs Ps f g = record {
  long = omega (arith, f.long, g.long);
  same = λ k h. g.same k (omega (arith, f.long)) ∙ f.same k h;
}

module _ (T : Table) (F : TableFits T) (start room : ℕ) (Rs : List (List ℕ)) (k : ℕ) (inside : k < length Rs) (ws bs E₀ E : List ℕ) (N e j : ℕ) (X : Symbol) (m₀ m q : ℕ) (u : Turn T start room (get_or Rs k []) Rs ws bs E₀ E j m₀ m q)
    (n : N ≡ length T.nonterminals) (t : e ≡ T.terminals) (is : X ≡ symbol_tried N j) (h : j < N + e) (ws' bs' E' : List ℕ) (q' m' : ℕ) where
  abbrev S : List ℕ
  S = get_or Rs k []

  abbrev c : ℕ
  c = symbol_code X

  rest_at : behind (edges_in E m₀ (m - m₀)) (take_to T room S u.Qs (X ∷ drop (j + 1) (tried T))) ≡ take_to T room S Rs (tried T)
  rest_at = rw (tried_at T F N e n t j X is h) at u.rest

  pub turn_stops : (i : Halt) → Tried T start u.Qs (goto_to T room (get_or u.Qs k []) u.Qs X) (symbol_code X) ws' bs' E E' m q' m' (Err i) → TakenAs T start Rs (take_to T room S Rs (tried T)) ws' bs' E₀ E' m₀ q' m' (Err i)
  unfolding Tried TakenAs
  turn_stops i k' =
      let w : goto_to T room S u.Qs X ≡ stops (refusal_of i) = rw (u.keeps.same k inside) at k' in
      sym rest_at ∙ rw (to_stops T room S u.Qs X (drop (j + 1) (tried T)) (refusal_of i) w) (behind-stopped (edges_in E m₀ (m - m₀)) (refusal_of i))

  on : m < length E → TookOne T start u.Qs (goto_to T room S u.Qs X) c ws' bs' E E' m q' m' → Turn T start room S Rs ws' bs' E₀ E' (j + 1) m₀ m' q'
  on l (passed w y H x z) = record {
    Qs = u.Qs;
    many = y;
    holds = H;
    keeps = u.keeps;
    low = omega (arith, u.low, z);
    high = omega (arith, u.high, z);
    same = λ i b. ap (λ (d : List ℕ). get_or d i 0) x ∙ u.same i b;
    rest = rw (x, z, ← to_nowhere T room S u.Qs X (drop (j + 1) (tried T)) w) rest_at;
  }
  on l (reached o Ps w y b H K x z) =
      let small : o < state_limit = omega (arith, y, b, H.begun.few) in
      record {
        Qs = Ps;
        many = y;
        holds = H;
        keeps = keeps_trans Rs u.Qs Ps u.keeps K;
        low = omega (arith, u.low, z);
        high = omega (arith, u.high, z);
        same = λ i v. ap (λ (d : List ℕ). get_or d i 0) x ∙ get_or-set_other E m i (c * state_limit + o) 0 (λ p. omega (arith, u.low)) ∙ u.same i v;
        rest = ap (λ (ds : List Edge). behind ds (take_to T room S Ps (drop (j + 1) (tried T)))) (rw (x, z) (edges_put E m₀ m (c * state_limit + o) u.low l ∙ ap (λ (d : Edge). edges_in E m₀ (m - m₀) ++ d ∷ []) (edge_is_lem X o small (code_back N e X (omega (arith, n, F.few_nonterminals)) (tried_fits T F N e n t j X is h)))))
            ∙ sym (behind-behind (edges_in E m₀ (m - m₀)) (record { symbol = X; target = o } ∷ []) (take_to T room S Ps (drop (j + 1) (tried T))))
            ∙ ap (behind (edges_in E m₀ (m - m₀))) (sym (to_reach T room S u.Qs X (drop (j + 1) (tried T)) o Ps w)) ∙ rest_at;
      }

  pub turn_more : (v : Unit {0}) → Tried T start u.Qs (goto_to T room (get_or u.Qs k []) u.Qs X) (symbol_code X) ws' bs' E E' m q' m' (Ok v) → m < length E → Turn T start room S Rs ws' bs' E₀ E' (j + 1) m₀ m' q'
  unfolding Tried
  turn_more v k' l = on l (rw (u.keeps.same k inside) at k')

pub turn_end : (v : Unit {0}) (T : Table) (F : TableFits T) (start room : ℕ) (S : List ℕ) (Rs : List (List ℕ)) (ws bs E₀ E : List ℕ) (N e j m₀ m q : ℕ) → Turn T start room S Rs ws bs E₀ E j m₀ m q → N ≡ length T.nonterminals → e ≡ T.terminals
    → j ≤ N + e → N + e ≤ j → TakenAs T start Rs (take_to T room S Rs (tried T)) ws bs E₀ E m₀ q m (Ok v)
unfolding TakenAs
turn_end v T F start room S Rs ws bs E₀ E N e j m₀ m q u n t a b = record {
  Qs = u.Qs;
  is = sym u.rest ∙ rw (none) (behind-told (edges_in E m₀ (m - m₀)) T room S u.Qs);
  many = u.many;
  holds = u.holds;
  keeps = u.keeps;
  low = u.low;
  high = omega (arith, u.high, F.few_nonterminals, F.few_terminals);
  same = u.same;
}
  where
    none : drop j (tried T) ≡ []
    none = drop_of_length-le (tried T) {i = j} (rw (tried_long T N e n t) (omega arith))
