-- Laws of what the parts of `read_productions` leave in the words (specs/Written).
use mathlib.Core.Path.{◌≡◌, refl, sym, ap, ◌∙◌}
use mathlib.Core.Bool.{true, false}
use mathlib.Core.List.{List, [], ◌∷◌, ◌++◌, map, append_assoc, append-nil}
use Prim.Native.Nat.{ℕ, suc, ◌+◌, ◌-◌, ◌*◌, ◌≤◌, ◌<◌, min}
use native.Mathlib.Omega.{arith}
use native.Mathlib.Numerals.{add-two}
use lib.ListN.{length, get_or, take, drop, set, length-set, length-take, length-drop}
use lib.Seq.{get_or-set_same, get_or-set_other, take-suc-set, drop-set-add, drop-set-lt, get_or-take, get_or-drop, ext_get_or, length-take-le}
use lib.Dec.{eqb, ltb}
use borrow.Author.Tests.{eqb-true, eqb-false, ltb-true, ltb-false}
use Rattle.lr1_base.specs.repr.Sizes.{nonterminal_limit, terminal_limit, production_place, grammar_room}
use Rattle.lr1_base.specs.repr.Lists.{below, mem}
use Rattle.lr1_base.specs.repr.Meaning.{Symbol, Production, Table, production_at, no_production, ProductionFits}
use Rattle.lr1_base.specs.repr.Listed.{symbol_of_kind, listed, symbol_is_fit, list_is_fit}
use Rattle.lr1_base.specs.repr.Packed.{symbol_words, production_in, productions_in, Packed}
use Rattle.lr1_base.proofs.repr.Listed.{symbol_range, symbol_wider}
use Rattle.lr1_base.proofs.repr.Joined.{listed-append, fits-append, fits_one}
use Rattle.lr1_base.proofs.repr.Lists.{cases, clash, mem-nil, mem_no, mem-cons_here, mem-cons_there, length-map-below, get_d_map-below}
use Rattle.lr1_base.proofs.repr.Tests.{All_at}
use Rattle.table.specs.Checked.{Accepted}
use Rattle.table.specs.Words.{word_at, productions, production_area, loose_records, chain, production_records}
use Rattle.table.specs.Decoded.{symbol_chain, symbol_at, production_of, meaning, productions_from}
use Rattle.table.specs.Refusals.{check_of}
use Rattle.table.specs.Index.{ProductionHead, ProductionRead}
use Rattle.table.specs.Written.{symbols_from, SymbolIndex, SymbolRead, OwnerStored, OwnersIn, SymbolsStored, ProductionStored}
use Rattle.table.proofs.Chains.{chain-from, chain_end, loose-whole}
use Rattle.table.proofs.Accepted.{accepts, areas_of, symbol-head}
use Rattle.table.proofs.Held.{symbol-inside, symbol-first_as, symbol_on, symbol-next_as, loose_small}
use Rattle.table.proofs.Decoding.{many_productions, production_at_lem, owned, fits, symbols_of_lem, symbol_in_range}
use Rattle.table.proofs.Indexes.{Asked, inside, loose_past}

-- symbols, as the code reads them

module _ (t : List ℕ) (e : check_of t ≡ Accepted) where
  pub production_place-asked : (p r k : ℕ) → r ≡ production_area t + p → p < length (meaning t).productions → k < 4 → Asked t r k
  production_place-asked p r k er hp h =
      let A = accepts t e in
      let z = areas_of t in
      let m = many_productions t in
      inside t A r k (omega arith) h

  pub symbol-asked : (at k : ℕ) → (at ≡ 0 → ⊥) → SymbolIndex t at → k < 4 → Asked t at k
  symbol-asked at k ne I h = inside t (accepts t e) at k (symbol-inside t at (I.reached ne)).1 h

  pub first-symbol_is : (p r x : ℕ) → r ≡ production_area t + p → p < length (meaning t).productions → x ≡ word_at t r 1
      → (symbols_from t x ≡ (production_at (meaning t) p).symbols) × SymbolIndex t x
  unfolding symbols_from symbol_chain
  first-symbol_is p r x er hp ex =
      let A = accepts t e in
      let h : p < productions t = rw (many_productions t) at hp in
      let q : x ≡ word_at t (production_area t + p) 1 = ex ∙ ap (λ (r : ℕ). word_at t r 1) er in (
        ap (λ (y : ℕ). map (symbol_at t) (chain t (loose_records t) 0 y)) q
            ∙ sym (ap (map (symbol_at t)) (chain-from t (loose_records t) (loose-whole t) (production_area t + p) (word_at t (production_area t + p) 1) (symbol-head t A p h)))
            ∙ sym (symbols_of_lem t p h),
        rw q (record { below = loose_small t A (production_area t + p) (word_at t (production_area t + p) 1) (symbol-head t A p h); reached = symbol-first_as t A p h }),
      )

  pub symbol-read : (at next kind number : ℕ) → (at ≡ 0 → ⊥) → SymbolIndex t at → next ≡ word_at t at 0 → kind ≡ word_at t at 1 → number ≡ word_at t at 2
      → SymbolRead t at next kind number
  unfolding symbols_from symbol_at
  symbol-read at next kind number ne I en ek ex =
      let A = accepts t e in
      let a = I.reached ne in
      let i = symbol-inside t at a in
      rw (en, ek, ex) (record {
        list = ap (map (symbol_at t)) (loose_past t at i.0 i.1 (symbol_on t A at a));
        on = record { below = loose_small t A at (word_at t at 0) (symbol_on t A at a); reached = symbol-next_as t A at a };
        symbol = symbol_in_range t A at a;
      })

pub symbols_end : (t : List ℕ) → symbols_from t 0 ≡ []
unfolding symbols_from
symbols_end t = ap (map (symbol_at t)) (chain_end t (loose_records t) 0)

pub productions_end : (t : List ℕ) → productions_from t 0 ≡ []
unfolding productions_from
productions_end t = ap (map (λ r. r - production_area t)) (chain_end t (production_records t) 0)

-- a nonterminal's number into its productions: those that are not left have it

pub record Owning (t g₀ g : List ℕ) (n at : ℕ) : Type 0 where
  pub long : length g ≡ grammar_room
  pub same : length g ≡ length g₀
  pub on : ProductionHead t at
  pub mine : (q : ℕ) → mem q (productions_from t at) ≡ true → (production_at (meaning t) q).nonterminal ≡ n
  pub done : (q : ℕ) → q < length (meaning t).productions → (production_at (meaning t) q).nonterminal ≡ n → mem q (productions_from t at) ≡ false → get_or g (production_place q) 0 ≡ n
  pub others : (q : ℕ) → q < length (meaning t).productions → ((production_at (meaning t) q).nonterminal ≡ n → ⊥) → get_or g (production_place q) 0 ≡ get_or g₀ (production_place q) 0

-- the productions of the nonterminals below n have theirs
pub record OwnersBelow (T : Table) (g : List ℕ) (n : ℕ) : Type 0 where
  pub long : length g ≡ grammar_room
  pub few : n ≤ length T.nonterminals
  pub done : (q : ℕ) → q < length T.productions → (production_at T q).nonterminal < n → get_or g (production_place q) 0 ≡ (production_at T q).nonterminal

module _ (t : List ℕ) (e : check_of t ≡ Accepted) where
  pub owning_start : (g : List ℕ) (n at : ℕ) → length g ≡ grammar_room → n < length (meaning t).nonterminals
      → (productions_from t at ≡ get_or (meaning t).nonterminals n []) × ProductionHead t at → Owning t g g n at
  owning_start g n at l hn f =
      let o : (q : ℕ) → _ = λ q. owned t (accepts t e) n q hn in
      record {
        long = l;
        same = refl;
        on = f.1;
        mine = λ q m. ((o q).0 (sym (ap (mem q) f.0) ∙ m)).1;
        done = λ q h w m. clash (mem q (productions_from t at)) (ap (mem q) f.0 ∙ (o q).1 (h, w)) m;
        others = λ q h w. refl;
      }

  -- p * 36 is in the words
  room : (p : ℕ) → p < length (meaning t).productions → p < 128
  room p h = let f = (fits t e).few_productions_lem in omega arith

  pub owned-room : (at next p : ℕ) → ProductionRead t at next p → p < 128
  owned-room at next p R = room p R.fits

  pub owning_step : (g₀ g : List ℕ) (n at next p : ℕ) → ProductionRead t at next p → Owning t g₀ g n at → Owning t g₀ (set g (production_place p) n) n next
  owning_step g₀ g n at next p R W =
      let h = owned-room at next p R in
      let l = W.long in
      let here : mem p (productions_from t at) ≡ true = ap (mem p) R.list ∙ mem-cons_here p (productions_from t next) in
      record {
        long = simp length-set l;
        same = simp length-set W.same;
        on = R.on;
        mine = λ q m. W.mine q (ap (mem q) R.list ∙ mem-cons_there q p (productions_from t next) m);
        done =
            λ q hq w m.
            cases (eqb q p)
            (λ k. rw (eqb-true q p k) (get_or-set_same g (production_place p) n 0 (omega arith)))
            (λ k.
            let ne = eqb-false q p k in
            get_or-set_other g (production_place p) (production_place q) n 0 (λ z. ne (omega arith)) ∙ W.done q hq w (ap (mem q) R.list ∙ mem_no q p (productions_from t next) k ∙ m));
        others =
            λ q hq w.
            get_or-set_other g (production_place p) (production_place q) n 0
            (λ z. let k : q ≡ p = omega arith in w (ap (λ (i : ℕ). (production_at (meaning t) i).nonterminal) k ∙ W.mine p here))
            ∙ W.others q hq w;
      }

  pub owning_end : (g₀ g : List ℕ) (n at : ℕ) → at ≡ 0 → Owning t g₀ g n at → OwnerStored t g₀ g n
  owning_end g₀ g n at z W = record {
    long = W.same;
    own = λ q h w. W.done q h w (ap (λ (i : ℕ). mem q (productions_from t i)) z ∙ ap (mem q) (productions_end t) ∙ mem-nil q);
    others = W.others;
  }

  -- the owners of all
  pub owners_start : (g : List ℕ) → length g ≡ grammar_room → OwnersBelow (meaning t) g 0
  owners_start g l = record { long = l; few = omega arith; done = λ q h b. absurd (omega arith) }

  pub owners_step : (g g' : List ℕ) (n : ℕ) → n < length (meaning t).nonterminals → OwnerStored t g g' n → OwnersBelow (meaning t) g n → OwnersBelow (meaning t) g' (n + 1)
  owners_step g g' n hn S W = record {
    long = S.long ∙ W.long;
    few = omega arith;
    done =
        λ q h b.
        cases (eqb (production_at (meaning t) q).nonterminal n)
        (λ k. let w = eqb-true (production_at (meaning t) q).nonterminal n k in S.own q h w ∙ sym w)
        (λ k. let w = eqb-false (production_at (meaning t) q).nonterminal n k in S.others q h w ∙ W.done q h (omega arith));
  }

  owner_fits : (q : ℕ) → q < length (meaning t).productions → (production_at (meaning t) q).nonterminal < length (meaning t).nonterminals
  owner_fits q h = (All_at (ProductionFits (meaning t)) (meaning t).productions q no_production (fits t e).productions h).owner

  pub owners_end : (g : List ℕ) (n : ℕ) → length (meaning t).nonterminals ≤ n → OwnersBelow (meaning t) g n → OwnersIn (meaning t) g
  owners_end g n b W = record { long = W.long; own = λ q h. let f = owner_fits q h in W.done q h (omega arith) }

-- one symbol more at the end of a list in words

pub listed_snoc : (n : ℕ) (ws : List ℕ) (k x : ℕ) → length ws ≡ 2 * n → listed (ws ++ k ∷ x ∷ []) ≡ listed ws ++ symbol_of_kind k x ∷ []
unfolding listed
listed_snoc n ws k x l = listed-append ws (k ∷ x ∷ []) (omega arith)

pub fits_snoc : (n t m : ℕ) (ws : List ℕ) (k x : ℕ) → length ws ≡ 2 * m → list_is_fit n t ws ≡ true → symbol_is_fit n t k x ≡ true → list_is_fit n t (ws ++ k ∷ x ∷ []) ≡ true
fits_snoc n t m ws k x l e f = fits-append n t ws (k ∷ x ∷ []) (omega arith) ∙ rw (e, fits_one n t k x, f)

pub put_two : (g : List ℕ) (a j k x : ℕ) → a + j + 1 < length g → take (j + 2) (drop a (set (set g (a + j) k) (a + j + 1) x)) ≡ take j (drop a g) ++ k ∷ x ∷ []
put_two g a j k x h =
    let e : a + j + 1 ≡ a + suc j = omega arith in
    let d = length-drop a g in
    let s = length-set (drop a g) j k in
    rw (e, drop-set-add a (set g (a + j) k) (suc j) x, drop-set-add a g j k, add-two j)
    (take-suc-set (set (drop a g) j k) (suc j) x (omega arith)
    ∙ ap (λ (l : List ℕ). l ++ x ∷ []) (take-suc-set (drop a g) j k (omega arith))
    ∙ append_assoc (take j (drop a g)) (k ∷ []) (x ∷ []))

-- a production's symbols: those stored and those left are all

pub record Storing (t g₀ g : List ℕ) (p at count : ℕ) : Type 0 where
  pub long : length g ≡ grammar_room
  pub same : length g ≡ length g₀
  pub inside : p < 128
  pub on : SymbolIndex t at
  pub left : count + length (symbols_from t at) ≤ 16
  pub list : listed (take (2 * count) (drop (production_place p + 4) g)) ++ symbols_from t at ≡ (production_at (meaning t) p).symbols
  pub fits : list_is_fit nonterminal_limit terminal_limit (take (2 * count) (drop (production_place p + 4) g)) ≡ true
  pub earlier : (i : ℕ) → i < production_place p + 4 → get_or g i 0 ≡ get_or g₀ i 0
  pub later : (i : ℕ) → production_place (p + 1) ≤ i → get_or g i 0 ≡ get_or g₀ i 0

module _ (t : List ℕ) (e : check_of t ≡ Accepted) where
  pub storing_start : (g : List ℕ) (p at : ℕ) → length g ≡ grammar_room → p < length (meaning t).productions
      → (symbols_from t at ≡ (production_at (meaning t) p).symbols) × SymbolIndex t at → Storing t g g p at 0
  unfolding listed list_is_fit
  storing_start g p at l h f =
      let s = (All_at (ProductionFits (meaning t)) (meaning t).productions p no_production (fits t e).productions h).short in
      let k = ap length f.0 in
      record {
        long = l;
        same = refl;
        inside = room t e p h;
        on = f.1;
        left = omega arith;
        list = f.0;
        fits = refl;
        earlier = λ i b. refl;
        later = λ i b. refl;
      }

  -- fewer are left, and there is room for one more
  pub symbol_fewer : (at next kind number : ℕ) → SymbolRead t at next kind number → length (symbols_from t at) ≡ suc (length (symbols_from t next))
  symbol_fewer at next kind number R = ap length R.list

  pub storing_room : (g₀ g : List ℕ) (p at count next kind number : ℕ) → SymbolRead t at next kind number → Storing t g₀ g p at count → production_place p + 4 + 2 * count + 1 < length g
  storing_room g₀ g p at count next kind number R W =
      let few = symbol_fewer at next kind number R in
      omega arith

  pub symbol_small : (at next kind number : ℕ) → SymbolRead t at next kind number → (kind < 2) × (number < 64)
  symbol_small at next kind number R =
      let F = fits t e in
      let s =
      symbol_range nonterminal_limit terminal_limit kind number
      (symbol_wider (length (meaning t).nonterminals) (meaning t).terminals 32 63 kind number F.few_nonterminals F.few_terminals R.symbol) in (
        s.0,
        cases (eqb kind 0)
            (λ k. let b = s.1.0 (eqb-true kind 0 k) in omega arith)
            (λ k. let b = s.1.1 (eqb-false kind 0 k) in omega arith),
      )

  pub storing_step : (g₀ g : List ℕ) (p at count next kind number : ℕ) → SymbolRead t at next kind number → Storing t g₀ g p at count
      → Storing t g₀ (set (set g (production_place p + 4 + 2 * count) kind) (production_place p + 4 + 2 * count + 1) number) p next (count + 1)
  storing_step g₀ g p at count next kind number R W =
      let few = symbol_fewer at next kind number R in
      let l = W.long in
      let b = W.left in
      let h = W.inside in
      let a = production_place p + 4 in
      let j = 2 * count in
      let ws : List ℕ = take (2 * count) (drop (production_place p + 4) g) in
      let lw : length ws ≡ 2 * count = length-take-le (2 * count) (drop (production_place p + 4) g) (rw (length-drop (production_place p + 4) g) (omega arith)) in
      let two : 2 * (count + 1) ≡ 2 * count + 2 = omega arith in
      let put : take (2 * (count + 1)) (drop (production_place p + 4) (set (set g (production_place p + 4 + 2 * count) kind) (production_place p + 4 + 2 * count + 1) number)) ≡ ws ++ kind ∷ number ∷ [] =
      rw two (put_two g (production_place p + 4) (2 * count) kind number (omega arith)) in
      let F = fits t e in
      record {
        long = simp length-set l;
        same = simp length-set W.same;
        inside = h;
        on = R.on;
        left = omega arith;
        list =
            rw put (ap (λ (s : List Symbol). s ++ symbols_from t next) (listed_snoc count ws kind number lw)
            ∙ append_assoc (listed ws) (symbol_of_kind kind number ∷ []) (symbols_from t next)
            ∙ ap (λ (s : List Symbol). listed ws ++ s) (sym R.list)
            ∙ W.list);
        fits =
            rw put (fits_snoc 32 63 count ws kind number lw W.fits
            (symbol_wider (length (meaning t).nonterminals) (meaning t).terminals 32 63 kind number F.few_nonterminals F.few_terminals R.symbol));
        earlier =
            λ i m.
            get_or-set_other (set g (production_place p + 4 + 2 * count) kind) (production_place p + 4 + 2 * count + 1) i number 0 (λ z. omega arith)
            ∙ get_or-set_other g (production_place p + 4 + 2 * count) i kind 0 (λ z. omega arith)
            ∙ W.earlier i m;
        later =
            λ i m.
            get_or-set_other (set g (production_place p + 4 + 2 * count) kind) (production_place p + 4 + 2 * count + 1) i number 0 (λ z. omega arith)
            ∙ get_or-set_other g (production_place p + 4 + 2 * count) i kind 0 (λ z. omega arith)
            ∙ W.later i m;
      }

  pub storing_end : (g₀ g : List ℕ) (p at count : ℕ) → at ≡ 0 → Storing t g₀ g p at count → SymbolsStored t g₀ g p count
  storing_end g₀ g p at count z W =
      let s : symbols_from t at ≡ [] = ap (symbols_from t) z ∙ symbols_end t in
      record {
        long = W.same;
        short = omega (arith, W.left);
        list = sym (append-nil (listed (take (2 * count) (drop (production_place p + 4) g)))) ∙ ap (λ (r : List Symbol). listed (take (2 * count) (drop (production_place p + 4) g)) ++ r) (sym s) ∙ W.list;
        fits = W.fits;
        earlier = W.earlier;
        later = W.later;
      }

-- number of symbols and span

pub made : (a b : ℕ) (s u : List Symbol) (c d f g : ℕ) → a ≡ b → s ≡ u → c ≡ d → f ≡ g
    → ◌≡◌ {A = Production} (record { nonterminal = a; symbols = s; start = c; end = f }) (record { nonterminal = b; symbols = u; start = d; end = g })
made a b s u c d f g p q r o = rw (p, q, r, o)

module _ (t : List ℕ) (e : check_of t ≡ Accepted) (p : ℕ) (h : p < length (meaning t).productions) where
  span : ((production_at (meaning t) p).start ≡ word_at t (production_area t + p) 2) × ((production_at (meaning t) p).end ≡ word_at t (production_area t + p) 3)
  unfolding production_of
  span =
      let m : p < productions t = rw (many_productions t) at h in
      (ap (λ (q : Production). q.start) (production_at_lem t p m), ap (λ (q : Production). q.end) (production_at_lem t p m))

  pub stored_room : (g g₁ : List ℕ) (k : ℕ) → length g ≡ grammar_room → SymbolsStored t g g₁ p k → production_place p + 3 < length g₁
  stored_room g g₁ k l S = let r = room t e p h in omega (arith, S.long)

  pub few_words : p < 128
  few_words = room t e p h

  abbrev Heads : List ℕ → ℕ → ℕ → ℕ → List ℕ
  Heads g k a z = set (set (set g (production_place p + 1) k) (production_place p + 2) a) (production_place p + 3) z

  pub production_stored : (g g₁ : List ℕ) (q k a z : ℕ) → length g ≡ grammar_room → q ≡ production_area t + p → a ≡ word_at t q 2 → z ≡ word_at t q 3
      → SymbolsStored t g g₁ p k → ProductionStored t g (Heads g₁ k a z) p
  unfolding production_in symbol_words
  production_stored g g₁ q k a z l eq ea ez S =
      let r = room t e p h in
      let l₁ : length g₁ ≡ grammar_room = S.long ∙ l in
      let m₁ = length-set g₁ (production_place p + 1) k in
      let m₂ = length-set (set g₁ (production_place p + 1) k) (production_place p + 2) a in
      let other : (i : ℕ) → (i ≡ production_place p + 1 → ⊥) → (i ≡ production_place p + 2 → ⊥) → (i ≡ production_place p + 3 → ⊥) → get_or (Heads g₁ k a z) i 0 ≡ get_or g₁ i 0 =
      λ i o₁ o₂ o₃.
      get_or-set_other (set (set g₁ (production_place p + 1) k) (production_place p + 2) a) (production_place p + 3) i z 0 o₃
      ∙ get_or-set_other (set g₁ (production_place p + 1) k) (production_place p + 2) i a 0 o₂
      ∙ get_or-set_other g₁ (production_place p + 1) i k 0 o₁ in
      let at₁ : get_or (Heads g₁ k a z) (production_place p + 1) 0 ≡ k =
      get_or-set_other (set (set g₁ (production_place p + 1) k) (production_place p + 2) a) (production_place p + 3) (production_place p + 1) z 0 (λ q. omega arith)
      ∙ get_or-set_other (set g₁ (production_place p + 1) k) (production_place p + 2) (production_place p + 1) a 0 (λ q. omega arith)
      ∙ get_or-set_same g₁ (production_place p + 1) k 0 (omega arith) in
      let at₂ : get_or (Heads g₁ k a z) (production_place p + 2) 0 ≡ a =
      get_or-set_other (set (set g₁ (production_place p + 1) k) (production_place p + 2) a) (production_place p + 3) (production_place p + 2) z 0 (λ q. omega arith)
      ∙ get_or-set_same (set g₁ (production_place p + 1) k) (production_place p + 2) a 0 (omega arith) in
      let at₃ : get_or (Heads g₁ k a z) (production_place p + 3) 0 ≡ z = get_or-set_same (set (set g₁ (production_place p + 1) k) (production_place p + 2) a) (production_place p + 3) z 0 (omega arith) in
      let rest : drop (production_place p + 4) (Heads g₁ k a z) ≡ drop (production_place p + 4) g₁ =
      drop-set-lt (production_place p + 4) (set (set g₁ (production_place p + 1) k) (production_place p + 2) a) (production_place p + 3) z (omega arith)
      ∙ drop-set-lt (production_place p + 4) (set g₁ (production_place p + 1) k) (production_place p + 2) a (omega arith)
      ∙ drop-set-lt (production_place p + 4) g₁ (production_place p + 1) k (omega arith) in
      let words : take (2 * get_or (Heads g₁ k a z) (production_place p + 1) 0) (drop (production_place p + 4) (Heads g₁ k a z)) ≡ take (2 * k) (drop (production_place p + 4) g₁) =
      ap (λ (i : ℕ). take (2 * i) (drop (production_place p + 4) (Heads g₁ k a z))) at₁ ∙ ap (take (2 * k)) rest in
      record {
        long = simp length-set S.long;
        is =
            λ own.
            made
            (get_or (Heads g₁ k a z) (production_place p) 0)
            (production_at (meaning t) p).nonterminal
            (listed (take (2 * get_or (Heads g₁ k a z) (production_place p + 1) 0) (drop (production_place p + 4) (Heads g₁ k a z))))
            (production_at (meaning t) p).symbols
            (get_or (Heads g₁ k a z) (production_place p + 2) 0)
            (production_at (meaning t) p).start
            (get_or (Heads g₁ k a z) (production_place p + 3) 0)
            (production_at (meaning t) p).end
            (other (production_place p) (λ q. omega arith) (λ q. omega arith) (λ q. omega arith) ∙ S.earlier (production_place p) (omega arith) ∙ own)
            (ap listed words ∙ S.list)
            (at₂ ∙ ea ∙ ap (λ (i : ℕ). word_at t i 2) eq ∙ sym span.0)
            (at₃ ∙ ez ∙ ap (λ (i : ℕ). word_at t i 3) eq ∙ sym span.1);
        short = rw at₁ S.short;
        fits = ap (list_is_fit nonterminal_limit terminal_limit) words ∙ S.fits;
        earlier = λ i b. other i (λ q. omega arith) (λ q. omega arith) (λ q. omega arith) ∙ S.earlier i (omega arith);
        later = λ i b. other i (λ q. omega arith) (λ q. omega arith) (λ q. omega arith) ∙ S.later i b;
      }

-- all productions: those below p are read

part_same : (a k : ℕ) (g g' : List ℕ) → length g' ≡ length g → ((i : ℕ) → i < k → get_or g' (a + i) 0 ≡ get_or g (a + i) 0) → take k (drop a g') ≡ take k (drop a g)
part_same a k g g' l same =
    ext_get_or 0 (take k (drop a g')) (take k (drop a g)) (simp (length-take, length-drop) (ap (λ (n : ℕ). min k (n - a)) l))
    (λ i h.
    let b : i < k = omega (arith, simp (length-take, length-drop) at h) in
    get_or-take k (drop a g') i 0 b ∙ get_or-drop a g' i 0 ∙ same i b ∙ sym (get_or-drop a g i 0) ∙ sym (get_or-take k (drop a g) i 0 b))

pub record Stored (T : Table) (g : List ℕ) (q : ℕ) : Type 0 where
  pub is : production_in g q ≡ production_at T q
  pub short : get_or g (production_place q + 1) 0 ≤ 16
  pub fits : list_is_fit nonterminal_limit terminal_limit (symbol_words g q) ≡ true

-- other words of the same production
stored_same : (T : Table) (g g' : List ℕ) (q : ℕ) → length g' ≡ length g → ((i : ℕ) → i < production_place (q + 1) → get_or g' i 0 ≡ get_or g i 0) → Stored T g q → Stored T g' q
unfolding production_in symbol_words
stored_same T g g' q l same S =
    let s = S.short in
    let w : take (2 * get_or g' (production_place q + 1) 0) (drop (production_place q + 4) g') ≡ take (2 * get_or g (production_place q + 1) 0) (drop (production_place q + 4) g) =
    ap (λ (k : ℕ). take (2 * k) (drop (production_place q + 4) g')) (same (production_place q + 1) (omega arith))
    ∙ part_same (production_place q + 4) (2 * get_or g (production_place q + 1) 0) g g' l (λ i h. same (production_place q + 4 + i) (omega arith)) in
    record {
      is =
          made
          (get_or g' (production_place q) 0)
          (get_or g (production_place q) 0)
          (listed (take (2 * get_or g' (production_place q + 1) 0) (drop (production_place q + 4) g')))
          (listed (take (2 * get_or g (production_place q + 1) 0) (drop (production_place q + 4) g)))
          (get_or g' (production_place q + 2) 0)
          (get_or g (production_place q + 2) 0)
          (get_or g' (production_place q + 3) 0)
          (get_or g (production_place q + 3) 0)
          (same (production_place q) (omega arith))
          (ap listed w)
          (same (production_place q + 2) (omega arith))
          (same (production_place q + 3) (omega arith))
          ∙ S.is;
      short = rw (same (production_place q + 1) (omega arith)) s;
      fits = ap (list_is_fit nonterminal_limit terminal_limit) w ∙ S.fits;
    }

pub record Reading (T : Table) (g : List ℕ) (p : ℕ) : Type 0 where
  pub owners : OwnersIn T g
  pub few : p ≤ length T.productions
  pub done : (q : ℕ) → q < p → Stored T g q

module _ (t : List ℕ) (e : check_of t ≡ Accepted) where
  pub reading_start : (g : List ℕ) → OwnersIn (meaning t) g → Reading (meaning t) g 0
  reading_start g O = record { owners = O; few = omega arith; done = λ q h. absurd (omega arith) }

  pub reading_step : (g g' : List ℕ) (p : ℕ) → p < length (meaning t).productions → ProductionStored t g g' p → Reading (meaning t) g p → Reading (meaning t) g' (p + 1)
  reading_step g g' p h S W =
      let O = W.owners in
      record {
        owners = record {
          long = S.long ∙ O.long;
          own =
              λ q hq.
              cases (ltb p q)
              (λ k. let l = ltb-true p q k in S.later (production_place q) (omega arith) ∙ O.own q hq)
              (λ k. let l = ltb-false p q k in S.earlier (production_place q) (omega arith) ∙ O.own q hq);
        };
        few = omega arith;
        done =
            λ q hq.
            cases (eqb q p)
            (λ k.
            let z = eqb-true q p k in
            rw z (record { is = S.is (O.own p h); short = S.short; fits = S.fits }))
            (λ k.
            let ne = eqb-false q p k in
            stored_same (meaning t) g g' q S.long (λ i b. S.earlier i (omega arith)) (W.done q (omega arith)));
      }

  pub reading_end : (g : List ℕ) (p : ℕ) → length (meaning t).productions ≤ p → Reading (meaning t) g p
      → Packed g (length (meaning t).productions) × (productions_in g (length (meaning t).productions) ≡ (meaning t).productions)
  unfolding productions_in
  reading_end g p l W =
      let O = W.owners in
      let F = fits t e in (
        record {
          long = O.long;
          few = F.few_productions_lem;
          owner = λ q h. let o = O.own q h in let f = owner_fits t e q h in omega (arith, F.few_nonterminals);
          short = λ q h. (W.done q (omega arith)).short;
          fits = λ q h. (W.done q (omega arith)).fits;
        },
        ext_get_or no_production (map (production_in g) (below (length (meaning t).productions))) (meaning t).productions
            (length-map-below (production_in g) (length (meaning t).productions))
            (λ i h.
            let b : i < length (meaning t).productions = rw (length-map-below (production_in g) (length (meaning t).productions)) at h in
            get_d_map-below (production_in g) (length (meaning t).productions) i no_production b ∙ (W.done i (omega arith)).is),
      )
