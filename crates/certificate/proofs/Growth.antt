-- The two sets as they grow, and what they say when nothing adds to them.
use Rattle.std.proofs.Common.{◌≡◌, ℕ, suc, ◌+◌, ◌<◌, ◌≤◌, ◌⊎◌, inl, inr, List, [], ◌∷◌, ◌++◌, length, get_or, take, drop, refl, sym, ◌∙◌, ap, subst, append_assoc, append-nil, arith, map, All, true, false, ◌↔◌, Contains}
use Rattle.std.proofs.lemmas.List.{map-append, take_at, drop_at, take-append-drop, drop_more, length_push, get_or_default}
use Rattle.std.proofs.lemmas.List.Elements.{recursion_from_All, All-from_recursion, All-contains, All-weaker}
use Rattle.std.proofs.lemmas.Option.{slice_get-get_or, slice_get_within, get_or_from_slice_get}
use Rattle.std.specs.List.{AllByRecursion}
use Rattle.std.specs.Prelude.{slice_get, Some}
use Rattle.grammar.specs.declared.symbol.Symbol.{Symbol}
use Rattle.grammar.specs.declared.symbol.Symbol.TheVariants.{Terminal, Nonterminal}
use Rattle.grammar.specs.declared.symbol.Production.{Production}
use Rattle.grammar.specs.Symbols.{SymbolFits, ProductionFits}
use Rattle.grammar.specs.Derives.{Derives, done, step, HasRule}
use Rattle.grammar.proofs.Derivations.{derives_trans, derives_from, derives_to, derives_before, derives_between, derives_after, derives_rule}
use Rattle.certificate.specs.declared.set.NonterminalSet.{NonterminalSet}
use Rattle.certificate.specs.declared.useful.UsefulSets.{UsefulSets}
use Rattle.certificate.specs.Sentences.{DerivesSentence, IsInReach}
use Rattle.certificate.specs.Sets.{IsIn, SymbolIn, AreUseful, AreProductive, AreReachable, IsClosedFor, PassesOn, StandsAt, FitsIn}

rule_alone : (ps : List Production) (l : ℕ) (r : List Symbol) → HasRule ps l r → Derives ps (Nonterminal l ∷ []) r
rule_alone ps l r h = rw append-nil at (derives_rule l r [] h)

derives_behind : (ps : List Production) (us : List Symbol) {ys zs : List Symbol} → Derives ps ys zs → Derives ps (us ++ ys) (us ++ zs)
derives_behind ps [] d = d
derives_behind ps (u ∷ us) d = derives_after u (derives_behind ps us d)

-- ---- each of some symbols, by recursion on the list

module _ (s : NonterminalSet) where
  abbrev pub Each : List Symbol → Type 0
  Each xs = AllByRecursion (SymbolIn s) xs

  pub each-append : (xs ys : List Symbol) → Each xs → Each ys → Each (xs ++ ys)
  each-append [] ys h k = k
  each-append (x ∷ xs) ys h k = (h.0, each-append xs ys h.1 k)

  pub each_left : (xs ys : List Symbol) → Each (xs ++ ys) → Each xs
  each_left [] ys h = tt
  each_left (x ∷ xs) ys h = (h.0, each_left xs ys h.1)

  pub each_right : (xs ys : List Symbol) → Each (xs ++ ys) → Each ys
  each_right [] ys h = h
  each_right (x ∷ xs) ys h = each_right xs ys h.1

  pub each_terminal : (tokens : List ℕ) → Each (map Terminal tokens)
  each_terminal [] = tt
  each_terminal (t ∷ tokens) = (tt, each_terminal tokens)

  -- ---- sound: what the set says of symbols is derived

  pub each_derives : (ps : List Production) → AreProductive ps s → (xs : List Symbol) → Each xs → (tokens : List ℕ) × Derives ps xs (map Terminal tokens)
  each_derives ps sound [] h = ([], done)
  each_derives ps sound (Terminal t ∷ xs) h = let r = each_derives ps sound xs h.1 in (t ∷ r.0, derives_after (Terminal t) r.1)
  each_derives ps sound (Nonterminal n ∷ xs) h =
      let one = sound n h.0 in
      let r = each_derives ps sound xs h.1 in
      (one.0 ++ r.0, rw (map-append Terminal one.0 r.0) (derives_trans (derives_before xs one.1) (derives_behind ps (map Terminal one.0) r.1)))

  pub grown_productive : (ps : List Production) (l : ℕ) (r : List Symbol) → HasRule ps l r → AreProductive ps s → All (SymbolIn s) r → DerivesSentence ps (Nonterminal l)
  grown_productive ps l r rule sound all =
      let d = each_derives ps sound r (recursion_from_All (SymbolIn s) r all) in
      (d.0, derives_trans (rule_alone ps l r rule) d.1)

  -- ---- complete

  module _ (ps : List Production) (closed : All (IsClosedFor s) ps) where
    pub closed_rule : (l : ℕ) (r : List Symbol) → HasRule ps l r → Each r → IsIn s l
    closed_rule l r h each =
        let own : IsClosedFor s h.production = All-contains (IsClosedFor s) ps h.production closed h.listed in
        rw h.left_side at (own (All-from_recursion (SymbolIn s) h.production.right.items (rw h.right_side each)))

    derived_each : {xs ys : List Symbol} → Derives ps xs ys → Each ys → Each xs
    derived_each done h = h
    derived_each (step us vs l r rule e d) h =
        let all = derived_each d h in
        let rest = each_right us (r ++ vs) all in
        rw e (each-append us (Nonterminal l ∷ vs) (each_left us (r ++ vs) all) (closed_rule l r rule (each_left r vs rest), each_right r vs rest))

    pub productive_exact : AreProductive ps s → (n : ℕ) → IsIn s n ↔ DerivesSentence ps (Nonterminal n)
    productive_exact sound n = (sound n, λ d. (derived_each d.1 (each_terminal d.0)).0)

-- ---- what the start reaches

split_at : (r : List Symbol) (i : ℕ) (x : Symbol) → slice_get r i ≡ Some x → r ≡ take i r ++ (x ∷ drop (i + 1) r)
split_at r i x at =
    let within : i < length r = slice_get_within r i x at in
    sym (take-append-drop i r) ∙ ap (λ (l : List Symbol). take i r ++ l) (drop_more r i x within ∙ ap (λ (y : Symbol). y ∷ drop (i + 1) r) (get_or_from_slice_get r i x x at))

-- a production passes its left side's place on
pub passed : (ps : List Production) (productive : NonterminalSet) → AreProductive ps productive → (l : ℕ) (r : List Symbol) → HasRule ps l r → IsInReach ps l
    → (i n : ℕ) → StandsAt productive r i n → IsInReach ps n
passed ps productive sound l r rule at i n stands =
    let left = each_derives productive ps sound (take i r) (recursion_from_All (SymbolIn productive) (take i r) stands.before) in
    let right = each_derives productive ps sound (drop (i + 1) r) (recursion_from_All (SymbolIn productive) (drop (i + 1) r) stands.behind) in
    let split : r ≡ take i r ++ (Nonterminal n ∷ drop (i + 1) r) = split_at r i (Nonterminal n) stands.at in
    let one : Derives ps (take i r ++ (Nonterminal n ∷ drop (i + 1) r)) (map Terminal left.0 ++ (Nonterminal n ∷ drop (i + 1) r)) = derives_before (Nonterminal n ∷ drop (i + 1) r) left.1 in
    let two : Derives ps (map Terminal left.0 ++ (Nonterminal n ∷ drop (i + 1) r)) (map Terminal left.0 ++ (Nonterminal n ∷ map Terminal right.0)) =
    derives_behind ps (map Terminal left.0) (derives_after (Nonterminal n) right.1) in
    let inner : Derives ps (Nonterminal l ∷ []) (map Terminal left.0 ++ (Nonterminal n ∷ map Terminal right.0)) =
    derives_trans (rule_alone ps l r rule) (derives_from (sym split) (derives_trans one two)) in
    let whole : Derives ps (map Terminal at.front ++ (Nonterminal l ∷ map Terminal at.back)) (map Terminal at.front ++ ((map Terminal left.0 ++ (Nonterminal n ∷ map Terminal right.0)) ++ map Terminal at.back)) =
    derives_between (map Terminal at.front) (map Terminal at.back) inner in
    record {
      start = at.start;
      first = at.first;
      front = at.front ++ left.0;
      back = right.0 ++ at.back;
      derived = derives_to (joined at.front left.0 right.0 at.back) (derives_trans at.derived whole);
    }
  where
    joined : (a b c d : List ℕ) → map Terminal a ++ ((map Terminal b ++ (Nonterminal n ∷ map Terminal c)) ++ map Terminal d) ≡ map Terminal (a ++ b) ++ (Nonterminal n ∷ map Terminal (c ++ d))
    joined a b c d = simp (map-append, append_assoc)

pub start_reached : (ps : List Production) (p : Production) → slice_get ps 0 ≡ Some p → IsInReach ps p.left
start_reached ps p first = record { start = p; first = first; front = []; back = []; derived = done }

-- where a symbol stands in two lists
place : (us zs ls bs : List Symbol) (b : Symbol) → us ++ zs ≡ ls ++ (b ∷ bs)
    → ((ws : List Symbol) × (us ≡ ls ++ (b ∷ ws)) × (bs ≡ ws ++ zs)) ⊎ ((ws : List Symbol) × (ls ≡ us ++ ws) × (zs ≡ ws ++ (b ∷ bs)))
place [] zs ls bs b e = inr (ls, refl, e)
place (u ∷ us) zs [] bs b e =
    let both : u ∷ (us ++ zs) ≡ b ∷ bs = e in
    let one : u ≡ b = cc in
    let rest : us ++ zs ≡ bs = cc in
    inl (us, ap (λ (x : Symbol). x ∷ us) one, sym rest)
place (u ∷ us) zs (a ∷ ls) bs b e =
    let both : u ∷ (us ++ zs) ≡ a ∷ (ls ++ (b ∷ bs)) = e in
    let one : u ≡ a = cc in
    let rest : us ++ zs ≡ ls ++ (b ∷ bs) = cc in
    elim (place us zs ls bs b rest) [
      | inl h ↦ let p : us ≡ ls ++ (b ∷ h.0) = h.1 in inl (h.0, (cc), h.2)
      | inr h ↦ let p : ls ≡ us ++ h.0 = h.1 in inr (h.0, (cc), h.2)
    ]

get_behind : (ws : List Symbol) (x : Symbol) (ys : List Symbol) → slice_get (ws ++ (x ∷ ys)) (length ws) ≡ Some x
get_behind [] x ys = refl
get_behind (w ∷ ws) x ys = get_behind ws x ys

drop_behind : (ws : List Symbol) (x : Symbol) (ys : List Symbol) → drop (length ws + 1) (ws ++ (x ∷ ys)) ≡ ys
drop_behind ws x ys = ap (drop (length ws + 1)) (sym (append_assoc ws (x ∷ []) ys)) ∙ drop_at (ws ++ x ∷ []) ys (length ws + 1) (length_push ws x)

module _ (ps : List Production) (productive reachable : NonterminalSet) (closed : All (IsClosedFor productive) ps) (passes : All (PassesOn productive reachable) ps) (n : ℕ) where
  -- the nonterminal b of the form, among productive symbols, leads to n
  record Way (xs : List Symbol) : Type 0 where
    us : List Symbol
    b : ℕ
    vs : List Symbol
    at : xs ≡ us ++ (Nonterminal b ∷ vs)
    left : Each productive us
    right : Each productive vs
    leads : IsIn reachable b → IsIn reachable n

  reaches_in : (l : ℕ) (r : List Symbol) → HasRule ps l r → (ws : List Symbol) (b : ℕ) (ys : List Symbol) → r ≡ ws ++ (Nonterminal b ∷ ys) → Each productive ws → Each productive ys
      → IsIn reachable l → IsIn reachable b
  reaches_in l r h ws b ys split before behind marked =
      let own : PassesOn productive reachable h.production = All-contains (PassesOn productive reachable) ps h.production passes h.listed in
      let side : h.production.right.items ≡ ws ++ (Nonterminal b ∷ ys) = h.right_side ∙ split in
      own (rw h.left_side marked) (length ws) b (record {
        at = rw side (get_behind ws (Nonterminal b) ys);
        before = rw (side, take_at ws (Nonterminal b ∷ ys) (length ws) refl) (All-from_recursion (SymbolIn productive) ws before);
        behind = rw (side, drop_behind ws (Nonterminal b) ys) (All-from_recursion (SymbolIn productive) ys behind);
      })

  widen : (us vs : List Symbol) (l : ℕ) (r : List Symbol) → HasRule ps l r → Way (us ++ (r ++ vs)) → Way (us ++ (Nonterminal l ∷ vs))
  widen us vs l r rule w =
      elim (place us (r ++ vs) w.us w.vs (Nonterminal w.b) w.at) [
        | inl h ↦ before h.0 h.1 h.2
        | inr h ↦ elim (place r vs h.0 w.vs (Nonterminal w.b) h.2) [
          | inl k ↦ within h.0 h.1 k.0 k.1 k.2
          | inr k ↦ behind h.0 h.1 k.0 k.1 k.2
        ]
      ]
    where
      before : (ws : List Symbol) → us ≡ w.us ++ (Nonterminal w.b ∷ ws) → w.vs ≡ ws ++ (r ++ vs) → Way (us ++ (Nonterminal l ∷ vs))
      before ws p q =
          let all : Each productive (ws ++ (r ++ vs)) = rw q at w.right in
          let more = each_right productive ws (r ++ vs) all in
          record {
            us = w.us;
            b = w.b;
            vs = ws ++ (Nonterminal l ∷ vs);
            at = rw p (append_assoc w.us (Nonterminal w.b ∷ ws) (Nonterminal l ∷ vs));
            left = w.left;
            right = each-append productive ws (Nonterminal l ∷ vs) (each_left productive ws (r ++ vs) all)
                (closed_rule productive ps closed l r rule (each_left productive r vs more), each_right productive r vs more);
            leads = w.leads;
          }

      within : (ws : List Symbol) → w.us ≡ us ++ ws → (ys : List Symbol) → r ≡ ws ++ (Nonterminal w.b ∷ ys) → w.vs ≡ ys ++ vs → Way (us ++ (Nonterminal l ∷ vs))
      within ws p ys q s =
          let front : Each productive (us ++ ws) = rw p at w.left in
          let back : Each productive (ys ++ vs) = rw s at w.right in
          record {
            us = us;
            b = l;
            vs = vs;
            at = refl;
            left = each_left productive us ws front;
            right = each_right productive ys vs back;
            leads = λ h. w.leads (reaches_in l r rule ws w.b ys q (each_right productive us ws front) (each_left productive ys vs back) h);
          }

      behind : (ws : List Symbol) → w.us ≡ us ++ ws → (ys : List Symbol) → ws ≡ r ++ ys → vs ≡ ys ++ (Nonterminal w.b ∷ w.vs) → Way (us ++ (Nonterminal l ∷ vs))
      behind ws p ys q s =
          let front : Each productive (us ++ ws) = rw p at w.left in
          let mid : Each productive (r ++ ys) = rw q at (each_right productive us ws front) in
          record {
            us = us ++ (Nonterminal l ∷ ys);
            b = w.b;
            vs = w.vs;
            at = rw s (sym (append_assoc us (Nonterminal l ∷ ys) (Nonterminal w.b ∷ w.vs)));
            left = each-append productive us (Nonterminal l ∷ ys) (each_left productive us ws front)
                (closed_rule productive ps closed l r rule (each_left productive r ys mid), each_right productive r ys mid);
            right = w.right;
            leads = w.leads;
          }

  way : {xs ys : List Symbol} → Derives ps xs ys → (front back : List ℕ) → ys ≡ map Terminal front ++ (Nonterminal n ∷ map Terminal back) → Way xs
  way done front back e = record {
    us = map Terminal front;
    b = n;
    vs = map Terminal back;
    at = e;
    left = each_terminal productive front;
    right = each_terminal productive back;
    leads = λ h. h;
  }
  way (step us vs l r rule e d) front back f = rw e (widen us vs l r rule (way d front back f))

  lone : (us vs : List Symbol) (a b : ℕ) → Nonterminal a ∷ [] ≡ us ++ (Nonterminal b ∷ vs) → b ≡ a
  lone [] vs a b e = let both : Nonterminal a ∷ [] ≡ Nonterminal b ∷ vs = e in cc
  lone (u ∷ []) vs a b e = let both : Nonterminal a ∷ [] ≡ u ∷ (Nonterminal b ∷ vs) = e in cc
  lone (u ∷ x ∷ us) vs a b e = let both : Nonterminal a ∷ [] ≡ u ∷ (x ∷ (us ++ (Nonterminal b ∷ vs))) = e in cc

  pub reach_complete : ((p : Production) → slice_get ps 0 ≡ Some p → IsIn reachable p.left) → IsInReach ps n → IsIn reachable n
  reach_complete started r =
      let w = way r.derived r.front r.back refl in
      w.leads (rw (lone w.us w.vs r.start.left w.b w.at) (started r.start r.first))

-- ---- both sets, at their ends

pub reachable_exact : (ps : List Production) (productive reachable : NonterminalSet) → All (IsClosedFor productive) ps → All (PassesOn productive reachable) ps
    → ((p : Production) → slice_get ps 0 ≡ Some p → IsIn reachable p.left) → AreReachable ps reachable → (n : ℕ) → IsIn reachable n ↔ IsInReach ps n
reachable_exact ps productive reachable closed passes started sound n = (sound n, reach_complete ps productive reachable closed passes n started)

pub closed_of : (ps : List Production) (s : NonterminalSet) → ((n : ℕ) → IsIn s n ↔ DerivesSentence ps (Nonterminal n)) → All (IsClosedFor s) ps
closed_of ps s exact = λ k d within all.
    (exact (get_or ps k d).left).1 (grown_productive s ps (get_or ps k d).left (get_or ps k d).right.items
    (record { production = get_or ps k d; listed = (k, within, get_or_default ps k (get_or ps k d) d within); left_side = refl; right_side = refl })
    (λ n. (exact n).0) all)

-- a terminal derives itself
pub symbol_exact : (ps : List Production) (s : NonterminalSet) → ((n : ℕ) → IsIn s n ↔ DerivesSentence ps (Nonterminal n)) → (x : Symbol) → SymbolIn s x ↔ DerivesSentence ps x
symbol_exact ps s exact (Terminal t) = (λ h. (t ∷ [], done), λ d. tt)
symbol_exact ps s exact (Nonterminal n) = exact n

pub fits_all : (terminals count : ℕ) (ps : List Production) → All (ProductionFits terminals count) ps → All (FitsIn count) ps
fits_all terminals count ps all = All-weaker (ProductionFits terminals count) (FitsIn count) fits ps all
  where
    fits : (p : Production) → ProductionFits terminals count p → FitsIn count p
    fits p f = record {
      left = f.left;
      right = λ i n at.
          let own : SymbolFits terminals count (get_or p.right.items i (Nonterminal n)) = f.right i (Nonterminal n) (slice_get_within p.right.items i (Nonterminal n) at) in
          rw (get_or_from_slice_get p.right.items i (Nonterminal n) (Nonterminal n) at) at own;
    }
