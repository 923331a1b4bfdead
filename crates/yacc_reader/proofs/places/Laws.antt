-- A number in a list of those known is kept by what follows, so places are written in the order of their numbers.
use Prim.Native.Nat.{ℕ, suc, ◌+◌, ◌-◌, ◌≤◌, ◌<◌}
use native.Mathlib.Omega.{arith}
use mathlib.Core.Bool.{Bool, true, false, ◌||◌}
use mathlib.Core.Path.{◌≡◌, refl, sym, ap, ◌∙◌}
use mathlib.Core.List.{List, [], ◌∷◌, ◌++◌, map, append_assoc, append-nil}
use mathlib.Core.Option.{Option, none, some}
use lib.ListN.{length, get_or, set, drop, length-append, get_or-append}
use lib.Seq.{get_or-set_same, get_or-set_other, get_or-append_seam, get_or-append-add, get_or-drop, drop-drop, ext_get_or}
use lib.Dec.{eqb, ltb}
use borrow.Author.Tests.{eqb-true, eqb-false, eq-eqb, ne_eqb, ltb-true, ltb-false}
use Rattle.lr1_base.specs.words.Lent.{in_front}
use Rattle.lr1_base.proofs.words.Lent.{length-in_front}
use Rattle.lr1_base.specs.repr.Lists.{joined}
use Rattle.lr1_base.proofs.repr.Lists.{cases, clash, length_mapped, get_d_map}
use Rattle.yacc_syntax.specs.text.Grammar.{Id, named, quoted, Layout}
use Rattle.yacc_syntax.specs.text.Places.{Placed, placed_from}
use Rattle.yacc_syntax.specs.text.Parse.{parse}
use Rattle.yacc_syntax.specs.text.Forward.{Mode, top, move}
use Rattle.yacc_syntax.specs.lexer.Steps.{token_at, Leads}
use Rattle.yacc_syntax.specs.declared.lexer.Word.{Word}
use Rattle.yacc_syntax.specs.declared.lexer.Word.TheVariants.{Name, Literal, Token, Start, Mark, Colon, Bar, Semi}
use Rattle.yacc_reader.specs.parsed_file.Events.{Event, events}
use Rattle.yacc_reader.specs.parsed_file.Source.{Known, is_known, number_in, enter, entered, same_id, left_side, token_use, literal_use, start_use, no_id, Source, source_of}
use Rattle.yacc_reader.specs.parsed_file.Meaning.{places_of, start_of}
use Rattle.yacc_reader.specs.parsed_file.Outcome.{source_in}
use Rattle.yacc_reader.proofs.parsed_file.Known.{same_id_lem, enter_old, enter_new, enter_is, known_entered, known_cons, number-below, number_there}
use Rattle.yacc_reader.specs.events.Said.{said_in, id_at, events_of, of_said}
use Rattle.yacc_reader.specs.declared.events.Saying.{Saying}
use Rattle.yacc_reader.specs.declared.events.Saying.TheVariants.{Lists, Opens, Defines, Uses, Shuts, Nothing}
use Rattle.yacc_reader.proofs.events.Laws.{said_turn, said_ends, said-whole}
use Rattle.yacc_reader.proofs.events.Along.{first_found}
use Rattle.yacc_reader.specs.declared.events.Token.{Token as Heard}
use Rattle.yacc_reader.specs.declared.events.TokenIter.{TokenIter}
use Rattle.yacc_reader.specs.events.Tokens.{Gives}
use Rattle.yacc_syntax.specs.recognizer.Accepted.{mode_of}
use Rattle.std.specs.Prelude.{Option as Answer}
use Rattle.std.specs.Bool.{⊤}
use Rattle.std.specs.Option.{MatchOption}
use Rattle.std.specs.List.{FoldsTo}
use Rattle.std.specs.Fn.{CalledAt}
use Rattle.std.specs.Iterator.{YieldsThen}
use denote.Param.Members.{Mut}
use denote.Ref.{Bor}
use Rattle.yacc_reader.specs.numbers.Numbers.{place_in}
use Rattle.yacc_reader.proofs.numbers.Laws.{number-front, number_behind, place-yes, place_no}
use Rattle.yacc_reader.specs.symbol_table.Ids.{is_id}
use Rattle.yacc_reader.proofs.symbol_table.Laws.{Both, behind, behind-said}
use Rattle.yacc_reader.specs.places.Placed.{entered_place, written_to, written_in}

-- `write_place`
pub written_to_lem : (n place : ℕ) → place ≡ n + 1 → place ≡ written_to n place
unfolding written_to
written_to_lem n place e = let y = eq-eqb place (n + 1) e in rw (y, written_to) e

module _ (xs : List ℕ) (n place from : ℕ) where
  pub written_in_lem : place ≡ n + 1 → set xs n from ≡ written_in xs n place from
  unfolding written_in
  written_in_lem e = let y = eq-eqb place (n + 1) e in sym (rw (y, written_in))

  pub written-not : (place ≡ n + 1 → ⊥) → (n ≡ written_to n place) × (xs ≡ written_in xs n place from)
  unfolding written_to written_in
  written-not e = let y = ne_eqb place (n + 1) e in (sym (rw (y, written_to)), sym (rw (y, written_in)))

-- what is entered stands behind what was known
entered-behind : (os ks : List Known) → (js : List Known) × (entered ks os ≡ ks ++ js)
unfolding entered
entered-behind [] ks = ([], sym (append-nil ks))
entered-behind (o ∷ os) ks =
    cases (is_known ks o.id)
    (λ e. let r = entered-behind os ks in (r.0, ap (λ (l : List Known). entered l os) (enter_old ks o e) ∙ r.1))
    (λ e. let r = entered-behind os (ks ++ (o ∷ [])) in (o ∷ r.0, ap (λ (l : List Known). entered l os) (enter_new ks o e) ∙ r.1 ∙ append_assoc ks (o ∷ []) r.0))

-- one id in turn: it is known, or it gets the next number
pub data Step (ks next : List Known) (place from : ℕ) : Type 0 where
  kept : (place ≡ length ks + 1 → ⊥) → next ≡ ks → Step ks next place from
  more : place ≡ length ks + 1 → (x : Id) → next ≡ ks ++ (record { id = x; at = from } ∷ []) → Step ks next place from

module _ (ks : List Known) (x : Id) (from : ℕ) (rest all : List Known) where
  abbrev here : Known
  here = record { id = x; at = from }

  pub step_one : entered (enter ks here) rest ≡ all → Step ks (enter ks here) (place_in all x) from
  step_one w =
      let r = entered-behind rest (enter ks here) in
      cases (is_known ks x)
      (λ y. let e = enter_old ks here y in
      let a : all ≡ ks ++ r.0 = sym w ∙ r.1 ∙ ap (λ (l : List Known). l ++ r.0) e in
      let n : number_in all x ≡ number_in ks x = ap (λ (l : List Known). number_in l x) a ∙ number-front ks r.0 x y in
      let b = number-below ks x y in
      let k : is_known all x ≡ true = sym (ap (λ (l : List Known). is_known l x) (sym (ap (λ (l : List Known). entered l rest) e) ∙ w)) ∙ known_entered rest ks x ∙ ap (λ (b : Bool). b || is_known rest x) y in
      let p = place-yes all x k in
      kept (λ q. omega (arith, n, b, p, q)) e)
      (λ f. let e = enter_new ks here f in
      let a : all ≡ (ks ++ (here ∷ [])) ++ r.0 = sym w ∙ r.1 ∙ ap (λ (l : List Known). l ++ r.0) e in
      let y : is_known (enter ks here) x ≡ true = enter_is ks here x ∙ ap (λ (b : Bool). b || same_id x x) f ∙ same_id_lem x in
      let n : number_in all x ≡ length ks = ap (λ (l : List Known). number_in l x) a ∙ number-front (ks ++ (here ∷ [])) r.0 x (sym (ap (λ (l : List Known). is_known l x) e) ∙ y) ∙ number_behind ks here x f (same_id_lem x) in
      let k : is_known all x ≡ true = sym (ap (λ (l : List Known). is_known l x) w) ∙ known_entered rest (enter ks here) x ∙ ap (λ (b : Bool). b || is_known rest x) y in
      let p = place-yes all x k in
      more (omega (arith, n, p)) x e)

pub step-none : (ks : List Known) (from : ℕ) → Step ks ks 0 from
step-none ks from = kept (λ q. omega (arith, q)) refl

-- what a word enters
left_step : (s : Saying) (x : Id) (from past : ℕ) (ks rest all : List Known) → entered (entered ks (joined left_side (events_of s x from past))) rest ≡ all → Step ks (entered ks (joined left_side (events_of s x from past))) (entered_place all (joined left_side (events_of s x from past))) from
unfolding joined left_side events_of entered entered_place
left_step Lists x from past ks rest all w = step-none ks from
left_step Opens x from past ks rest all w = step-none ks from
left_step Defines x from past ks rest all w = step_one ks x from rest all w
left_step Uses x from past ks rest all w = step-none ks from
left_step Shuts x from past ks rest all w = step-none ks from
left_step Nothing x from past ks rest all w = step-none ks from

token-step : (s : Saying) (x : Id) (from past : ℕ) (ks rest all : List Known) → entered (entered ks (joined token_use (events_of s x from past))) rest ≡ all → Step ks (entered ks (joined token_use (events_of s x from past))) (entered_place all (joined token_use (events_of s x from past))) from
unfolding joined token_use literal_use events_of entered entered_place
token-step Lists x from past ks rest all w = step_one ks x from rest all w
token-step Opens x from past ks rest all w = step-none ks from
token-step Defines x from past ks rest all w = step-none ks from
token-step Uses (named n ns) from past ks rest all w = step-none ks from
token-step Uses (quoted b) from past ks rest all w = step_one ks (quoted b) from rest all w
token-step Shuts x from past ks rest all w = step-none ks from
token-step Nothing x from past ks rest all w = step-none ks from

-- those known so far are no more than all
entered_long : (ks rest all : List Known) → entered ks rest ≡ all → length ks ≤ length all
entered_long ks rest all w =
    let r = entered-behind rest ks in
    let a = length-append ks r.0 in
    let l = ap length (sym w ∙ r.1) in
    omega (arith, a, l)

step_low : (ks next rest all : List Known) (place from : ℕ) → Step ks next place from → entered next rest ≡ all → place ≡ length ks + 1 → length ks < length all
step_low ks next rest all place from (kept n e) w q = absurd (n q)
step_low ks next rest all place from (more y x e) w q =
    let a = length-append ks (record { id = x; at = from } ∷ []) in
    let b = ap length e in
    let l = entered_long next rest all w in
    omega (arith, a, b, l)

-- the places of those known so far stand in front
abbrev no_known : Known
no_known = record { id = no_id; at = 0 }

pub record Front (p : List ℕ) (n : ℕ) (ks : List Known) : Type 0 where
  pub count : n ≡ length ks
  pub words : (i : ℕ) → i < length ks → get_or p i 0 ≡ (get_or ks i no_known).at

module _ (p : List ℕ) (n : ℕ) (ks : List Known) (F : Front p n ks) where
  front-step : (next : List Known) (place from : ℕ) → Step ks next place from → (place ≡ length ks + 1 → length ks < length p) → Front (written_in p n place from) (written_to n place) next
  front-step next place from (kept a e) h =
      let c = F.count in
      let q = written-not p n place from (λ z. a (omega (arith, c, z))) in
      rw (← q.0, ← q.1, e) F
  front-step next place from (more y x e) h =
      let c = F.count in
      let k : Known = record { id = x; at = from } in
      let d : place ≡ n + 1 = omega (arith, y, c) in
      let l = length-append ks (k ∷ []) in
      let inside : n < length p = let z = h y in omega (arith, z, c) in
      rw (← (written_to_lem n place d), ← (written_in_lem p n place from d), e)
      (record {
        count = omega (arith, y, l);
        words = λ i m. cases (eqb i (length ks))
            (λ j. let d = eqb-true i (length ks) j in
            let u : i ≡ n = omega (arith, d, c) in
            ap (λ (o : ℕ). get_or (set p n from) o 0) u ∙ get_or-set_same p n from 0 inside
            ∙ sym (ap (λ (o : ℕ). (get_or (ks ++ (k ∷ [])) o no_known).at) d ∙ ap (λ (o : Known). o.at) (get_or-append_seam ks k [] no_known)))
            (λ j. let d = eqb-false i (length ks) j in
            let b : i < length ks = omega (arith, m, l, d) in
            get_or-set_other p n i from 0 (λ u. omega (arith, u, b, c)) ∙ F.words i b ∙ sym (ap (λ (o : Known). o.at) (get_or-append ks (k ∷ []) no_known i b)));
      })

-- the words behind them are as they were
rest-other : (p₀ p : List ℕ) (bound : ℕ) → ((i : ℕ) → bound ≤ i → get_or p i 0 ≡ get_or p₀ i 0) → (m place from : ℕ) → (place ≡ m + 1 → m < bound) → (i : ℕ) → bound ≤ i → get_or (written_in p m place from) i 0 ≡ get_or p₀ i 0
rest-other p₀ p bound R m place from a i h =
    cases (eqb place (m + 1))
    (λ y. let e = eqb-true place (m + 1) y in
    let l = a e in
    ap (λ (q : List ℕ). get_or q i 0) (sym (written_in_lem p m place from e)) ∙ get_or-set_other p m i from 0 (λ u. omega (arith, u, l, h)) ∙ R i h)
    (λ y. ap (λ (q : List ℕ). get_or q i 0) (sym (written-not p m place from (eqb-false place (m + 1) y)).1) ∙ R i h)

-- all of them, in the two parts p and q of the words
front_mapped : (ks : List Known) (p : List ℕ) (n : ℕ) → Front p n ks → (i : ℕ) → i < length ks → get_or p i 0 ≡ get_or (map (λ k. k.at) ks) i 0
front_mapped ks p n F i h = F.words i h ∙ sym (get_d_map (λ (k : Known). k.at) ks i no_known 0 h)

module _ (S : Source) (n m : ℕ) (q₀ p q : List ℕ) (F : Front p n S.nonterminals) (G : Front q m S.terminals) (b : length p ≡ length S.nonterminals) (R : (i : ℕ) → length S.terminals ≤ i → get_or q i 0 ≡ get_or q₀ i 0) (long : length q ≡ length q₀) (room : length S.terminals ≤ length q₀) where
  abbrev the_lefts : List ℕ
  the_lefts = map (λ k. k.at) S.nonterminals

  abbrev the_tokens : List ℕ
  the_tokens = map (λ k. k.at) S.terminals

  lefts_is : p ≡ the_lefts
  lefts_is =
      let l = length_mapped (λ (k : Known). k.at) S.nonterminals in
      ext_get_or 0 p the_lefts (omega (arith, l, b)) (λ i h. front_mapped S.nonterminals p n F i (omega (arith, h, b)))

  tokens_is : q ≡ the_tokens ++ drop (length the_tokens) q₀
  unfolding in_front
  tokens_is =
      let l = length_mapped (λ (k : Known). k.at) S.terminals in
      ext_get_or 0 q (the_tokens ++ drop (length the_tokens) q₀) (long ∙ sym (length-in_front the_tokens q₀ (omega (arith, l, room))))
      (λ i h. cases (ltb i (length S.terminals))
      (λ y. let low = ltb-true i (length S.terminals) y in front_mapped S.terminals q m G i low ∙ sym (get_or-append the_tokens (drop (length the_tokens) q₀) 0 i (omega (arith, low, l))))
      (λ y. let high = ltb-false i (length S.terminals) y in
      let j = i - length the_tokens in
      let u : length the_tokens + j ≡ i = omega (arith, high, l) in
      R i high ∙ ap (λ (o : ℕ). get_or q₀ o 0) (sym u) ∙ sym (get_or-drop (length the_tokens) q₀ j 0) ∙ sym (get_or-append-add the_tokens (drop (length the_tokens) q₀) j 0) ∙ ap (λ (o : ℕ). get_or (the_tokens ++ drop (length the_tokens) q₀) o 0) u))

  pub places-all : (r₀ : List ℕ) → q₀ ≡ drop (length S.nonterminals) r₀ → p ++ q ≡ in_front (places_of S) r₀
  unfolding in_front places_of
  places-all r₀ e =
      let l = length_mapped (λ (k : Known). k.at) S.nonterminals in
      let a = length-append the_lefts the_tokens in
      let d : drop (length the_tokens) q₀ ≡ drop (length (the_lefts ++ the_tokens)) r₀ =
      ap (drop (length the_tokens)) e ∙ drop-drop (length the_tokens) (length S.nonterminals) r₀ ∙ ap (λ (k : ℕ). drop k r₀) (omega (arith, a, l)) in
      ap (λ (k : List ℕ). k ++ q) lefts_is ∙ ap (λ (k : List ℕ). the_lefts ++ k) (tokens_is ∙ ap (λ (k : List ℕ). the_tokens ++ k) d) ∙ sym (append_assoc the_lefts the_tokens (drop (length (the_lefts ++ the_tokens)) r₀))

-- the loop's turns
abbrev both_of : Source → Both
both_of S = record { nonterminals = S.nonterminals; terminals = S.terminals }

pub record Placing (t : List ℕ) (S : Source) (q₀ p q : List ℕ) (n m : ℕ) (mode : Mode) (at : ℕ) : Type 0 where
  pub ns : List Known
  pub ts : List Known
  pub same : (z : Both) → of_said z (behind ns ts) mode (placed_from t at) ≡ both_of S
  pub lefts : Front p n ns
  pub tokens : Front q m ts
  pub rest : (i : ℕ) → length S.terminals ≤ i → get_or q i 0 ≡ get_or q₀ i 0

pub placing-first : (t : List ℕ) (l : Layout) → parse t ≡ some l → (p q : List ℕ) → Placing t (source_in l.pieces) q p q 0 0 (top false) 0
unfolding source_in source_of behind
placing-first t l e p q = record {
  ns = [];
  ts = [];
  same = λ z. said-whole z (behind [] []) t l e;
  lefts = record { count = refl; words = λ i h. absurd (omega (arith, h)) };
  tokens = record { count = refl; words = λ i h. absurd (omega (arith, h)) };
  rest = λ i h. refl;
}

-- where the same is said whatever stands for what is no token, all are tokens
not-all : (r : Both) → ((z : Both) → z ≡ r) → ⊥
not-all r h =
    let z : ◌≡◌ {A = ℕ} 0 1 = ap (λ (k : Both). length k.nonterminals) (h (record { nonterminals = []; terminals = [] }) ∙ sym (h (record { nonterminals = no_known ∷ []; terminals = [] }))) in
    omega (arith, z)

all-tokens : (f : List Event → Both) (r : Both) (m : Mode) (o : Option (List Placed)) → ((z : Both) → of_said z f m o ≡ r) → (es : List Event) × (f es ≡ r)
unfolding of_said
all-tokens f r m none h = absurd (not-all r h)
all-tokens f r m (some ps) h = (events m ps, h r)

module _ (t : List ℕ) (S : Source) (q₀ p q : List ℕ) (n m : ℕ) (mode : Mode) (at : ℕ) (P : Placing t S q₀ p q n m mode at) (b : length p ≡ length S.nonterminals) (room : length S.terminals ≤ length q)
    (s : Saying) (w : Word) (from past : ℕ) (k : Mode) (L : Leads t at w from past) (e : s ≡ said_in mode w) (g : k ≡ move mode (token_at t w from past)) where
  abbrev os : List Known
  os = joined left_side (events_of s (id_at t w from past) from past)

  abbrev us : List Known
  us = joined token_use (events_of s (id_at t w from past) from past)

  next_same : (z : Both) → of_said z (behind (entered P.ns os) (entered P.ts us)) k (placed_from t past) ≡ both_of S
  next_same z =
      said_turn z t at mode (behind P.ns P.ts) (both_of S) (P.same z) (behind (entered P.ns os) (entered P.ts us)) w from past k L g
      (λ es. behind-said s P.ns P.ts (id_at t w from past) from past es ∙ ap (λ (j : Saying). behind P.ns P.ts (events_of j (id_at t w from past) from past ++ es)) e)

  said-next : (es : List Event) × (behind (entered P.ns os) (entered P.ts us) es ≡ both_of S)
  said-next = all-tokens (behind (entered P.ns os) (entered P.ts us)) (both_of S) k (placed_from t past) next_same

  lefts_then : entered (entered P.ns os) (joined left_side said-next.0) ≡ S.nonterminals
  unfolding behind
  lefts_then = ap (λ (j : Both). j.nonterminals) said-next.1

  tokens-then : entered (entered P.ts us) (joined token_use said-next.0) ≡ S.terminals
  unfolding behind
  tokens-then = ap (λ (j : Both). j.terminals) said-next.1

  pub placing-next : (left token : ℕ) → left ≡ entered_place S.nonterminals os → token ≡ entered_place S.terminals us → (p₁ q₁ : List ℕ) (n₁ m₁ : ℕ) → p₁ ≡ written_in p n left from → n₁ ≡ written_to n left → q₁ ≡ written_in q m token from → m₁ ≡ written_to m token → Placing t S q₀ p₁ q₁ n₁ m₁ k past
  placing-next left token el et p₁ q₁ n₁ m₁ e₁ c₁ e₂ c₂ =
      let A : Step P.ns (entered P.ns os) left from = rw el (left_step s (id_at t w from past) from past P.ns (joined left_side said-next.0) S.nonterminals lefts_then) in
      let B : Step P.ts (entered P.ts us) token from = rw et (token-step s (id_at t w from past) from past P.ts (joined token_use said-next.0) S.terminals tokens-then) in
      let a = step_low P.ns (entered P.ns os) (joined left_side said-next.0) S.nonterminals left from A lefts_then in
      let d = step_low P.ts (entered P.ts us) (joined token_use said-next.0) S.terminals token from B tokens-then in
      let cm = P.tokens.count in
      record {
        ns = entered P.ns os;
        ts = entered P.ts us;
        same = next_same;
        lefts = rw (e₁, c₁) (front-step p n P.ns P.lefts (entered P.ns os) left from A (λ z. let y = a z in omega (arith, y, b)));
        tokens = rw (e₂, c₂) (front-step q m P.ts P.tokens (entered P.ts us) token from B (λ z. let y = d z in omega (arith, y, room)));
        rest = λ i l. ap (λ (x : List ℕ). get_or x i 0) e₂ ∙ rest-other q₀ q (length S.terminals) P.rest m token from (λ z. let y = d (z ∙ ap (λ (j : ℕ). j + 1) cm) in omega (arith, y, cm)) i l;
      }

module _ (t : List ℕ) (S : Source) (q₀ p q : List ℕ) (n m : ℕ) (mode : Mode) (at : ℕ) (P : Placing t S q₀ p q n m mode at) (D : placed_from t at ≡ some []) where
  pub placing-last : length p ≡ length S.nonterminals → length q ≡ length q₀ → length S.terminals ≤ length q₀ → (r₀ : List ℕ) → q₀ ≡ drop (length S.nonterminals) r₀ → p ++ q ≡ in_front (places_of S) r₀
  unfolding behind joined entered
  placing-last b l room r₀ f =
      let q' : behind P.ns P.ts [] ≡ both_of S = said_ends (both_of S) t at mode (behind P.ns P.ts) (both_of S) (P.same (both_of S)) D in
      let u : P.ns ≡ S.nonterminals = ap (λ (k : Both). k.nonterminals) q' in
      let v : P.ts ≡ S.terminals = ap (λ (k : Both). k.terminals) q' in
      places-all S n m q₀ p q (rw u at P.lefts) (rw v at P.tokens) b P.rest l room r₀ f

-- what a word enters, by what it says
pub said_enters : (f : Event → List Known) (ks os : List Known) (x : Id) (from past p : ℕ) (s v : Saying) → s ≡ v → joined f (events_of v x from past) ≡ os → p ≡ entered_place ks os → p ≡ entered_place ks (joined f (events_of s x from past))
said_enters f ks os x from past p s v e q w = w ∙ ap (entered_place ks) (sym q) ∙ sym (ap (λ (j : Saying). entered_place ks (joined f (events_of j x from past))) e)

-- what enters no nonterminal, and no terminal
pub left_none : (ns : List Known) (x : Id) (from past : ℕ) (s : Saying) → (s ≡ Defines → ⊥) → 0 ≡ entered_place ns (joined left_side (events_of s x from past))
unfolding joined left_side events_of entered_place
left_none ns x from past Lists n = refl
left_none ns x from past Opens n = refl
left_none ns x from past Defines n = absurd (n refl)
left_none ns x from past Uses n = refl
left_none ns x from past Shuts n = refl
left_none ns x from past Nothing n = refl

pub token_none : (ts : List Known) (x : Id) (from past : ℕ) (s : Saying) → (s ≡ Lists → ⊥) → (s ≡ Uses → ⊥) → 0 ≡ entered_place ts (joined token_use (events_of s x from past))
unfolding joined token_use events_of entered_place
token_none ts x from past Lists n m = absurd (n refl)
token_none ts x from past Opens n m = refl
token_none ts x from past Defines n m = refl
token_none ts x from past Uses n m = absurd (m refl)
token_none ts x from past Shuts n m = refl
token_none ts x from past Nothing n m = refl

-- what a body enters: a literal
literal_used : (t : List ℕ) (ts : List Known) (from past p : ℕ) → p ≡ place_in ts (id_at t Literal from past) → p ≡ entered_place ts (literal_use (id_at t Literal from past) from)
unfolding entered_place literal_use id_at
literal_used t ts from past p e = e

pub use_literal : (t : List ℕ) (ts : List Known) (from past p : ℕ) (k : Word) → k ≡ Literal → p ≡ place_in ts (id_at t k from past) → p ≡ entered_place ts (literal_use (id_at t k from past) from)
use_literal t ts from past p k e q = literal_used t ts from past p (q ∙ ap (λ (j : Word). place_in ts (id_at t j from past)) e) ∙ sym (ap (λ (j : Word). entered_place ts (literal_use (id_at t j from past) from)) e)

pub use_name : (t : List ℕ) (ts : List Known) (from past : ℕ) (k : Word) → is_id k ≡ true → (k ≡ Literal → ⊥) → 0 ≡ entered_place ts (literal_use (id_at t k from past) from)
unfolding is_id entered_place literal_use id_at
use_name t ts from past Name i n = refl
use_name t ts from past Literal i n = absurd (n refl)
use_name t ts from past Token i n = clash false i refl
use_name t ts from past Start i n = clash false i refl
use_name t ts from past Mark i n = clash false i refl
use_name t ts from past Colon i n = clash false i refl
use_name t ts from past Bar i n = clash false i refl
use_name t ts from past Semi i n = clash false i refl

-- the START id
unfoldable pub start_in : List Known → List Event → ℕ
start_in ns es = start_of ns (joined start_use es)

pub start_first : (t : List ℕ) (l : Layout) → parse t ≡ some l → (z : ℕ) → of_said z (start_in (source_in l.pieces).nonterminals) (top false) (placed_from t 0) ≡ start_of (source_in l.pieces).nonterminals (source_in l.pieces).starts
unfolding source_in source_of start_in
start_first t l e z = said-whole z (start_in (source_in l.pieces).nonterminals) t l e

pub start_none : (ns : List Known) → start_in ns [] ≡ 0
unfolding start_in joined start_of
start_none ns = refl

start_takes : (ns : List Known) (x : Id) (from past : ℕ) (es : List Event) → number_in ns x ≡ start_in ns (events_of Opens x from past ++ es)
unfolding start_in joined start_use events_of start_of
start_takes ns x from past es = refl

start-passes : (s : Saying) → (s ≡ Opens → ⊥) → (ns : List Known) (x : Id) (from past : ℕ) (es : List Event) → start_in ns es ≡ start_in ns (events_of s x from past ++ es)
unfolding start_in joined start_use events_of
start-passes Lists y ns x from past es = refl
start-passes Opens y ns x from past es = absurd (y refl)
start-passes Defines y ns x from past es = refl
start-passes Uses y ns x from past es = refl
start-passes Shuts y ns x from past es = refl
start-passes Nothing y ns x from past es = refl

said_one : (c : ℕ) (m : Mode) (o : Option (List Placed)) → of_said c (λ es. c) m o ≡ c
unfolding of_said
said_one c m none = refl
said_one c m (some ps) = refl

module _ (t : List ℕ) (at : ℕ) (m : Mode) (ns : List Known) (r : ℕ) (inv : (z : ℕ) → of_said z (start_in ns) m (placed_from t at) ≡ r) (s : Saying) (w : Word) (from past : ℕ) (L : Leads t at w from past) (e : s ≡ said_in m w) where
  pub start_turn : (s ≡ Opens → ⊥) → (n : Mode) → n ≡ move m (token_at t w from past) → (z : ℕ) → of_said z (start_in ns) n (placed_from t past) ≡ r
  start_turn f n g z = said_turn z t at m (start_in ns) r (inv z) (start_in ns) w from past n L g (λ es. start-passes s f ns (id_at t w from past) from past es ∙ ap (λ (j : Saying). start_in ns (events_of j (id_at t w from past) from past ++ es)) e)

  pub start_here : s ≡ Opens → number_in ns (id_at t w from past) ≡ r
  start_here y =
      let c = number_in ns (id_at t w from past) in
      sym (said_one c (move m (token_at t w from past)) (placed_from t past))
      ∙ said_turn c t at m (start_in ns) r (inv c) (λ es. c) w from past (move m (token_at t w from past)) L refl (λ es. start_takes ns (id_at t w from past) from past es ∙ ap (λ (j : Saying). start_in ns (events_of j (id_at t w from past) from past ++ es)) (sym y ∙ e))

-- the first word that is told to be START's
pub start_found : (t : List ℕ) (l : Layout) → parse t ≡ some l → {F : Type 0} (g : Mut F (Bor Heard × Unit {0}) Bool) (f : F)
    → ((x : Heard) (q : F) → CalledAt g f x false q → (q ≡ f) × (x.what ≡ Opens → ⊥)) → ((x : Heard) (q : F) → CalledAt g f x true q → x.what ≡ Opens)
    → (s u : TokenIter) (r : Answer Heard)
    → (xs : List Heard) × (j : F) × YieldsThen Gives s xs r u × FoldsTo (λ p x q. CalledAt g p x false q) f xs j × MatchOption r ⊤ (λ x. (h : F) × CalledAt g j x true h)
    → s.text.now ≡ t → ((z : ℕ) → of_said z (start_in (source_in l.pieces).nonterminals) (mode_of s.mode) (placed_from t s.at) ≡ start_of (source_in l.pieces).nonterminals (source_in l.pieces).starts)
    → MatchOption r (0 ≡ start_of (source_in l.pieces).nonterminals (source_in l.pieces).starts)
    (λ x. (x.what ≡ Opens) × (number_in (source_in l.pieces).nonterminals (id_at t x.lexeme.word x.lexeme.from x.lexeme.past) ≡ start_of (source_in l.pieces).nonterminals (source_in l.pieces).starts))
start_found t l e {F} g f miss hit s u r d n first =
    let ns : List Known = (source_in l.pieces).nonterminals in
    let start : ℕ = start_of ns (source_in l.pieces).starts in
    first_found t g f (λ (x : Heard). x.what ≡ Opens → ⊥) miss
    (λ (m : Mode) (at : ℕ). (z : ℕ) → of_said z (start_in ns) m (placed_from t at) ≡ start)
    (λ s x u R o i. rw R.at (start_turn t s.at (mode_of s.mode) ns start i x.what x.lexeme.word x.lexeme.from x.lexeme.past R.leads (x.says ∙ ap (λ (m : Mode). said_in m x.lexeme.word) R.in_mode) o (mode_of u.mode) R.mode))
    (λ o. MatchOption o (0 ≡ start) (λ x. (x.what ≡ Opens) × (number_in ns (id_at t x.lexeme.word x.lexeme.from x.lexeme.past) ≡ start))) s u r d n first
    (λ v x w h R k i. (hit x h k, start_here t v.at (mode_of v.mode) ns start i x.what x.lexeme.word x.lexeme.from x.lexeme.past R.leads (x.says ∙ ap (λ (m : Mode). said_in m x.lexeme.word) R.in_mode) (hit x h k)))
    (λ v P i. sym (start_none ns) ∙ said_ends 0 t v.at (mode_of v.mode) (start_in ns) start (i 0) P)

-- an id that is not known has the number behind the last
number-none : (ks : List Known) (x : Id) → is_known ks x ≡ false → number_in ks x ≡ length ks
unfolding number_in
number-none [] x f = refl
number-none (k ∷ ks) x f =
    cases (same_id x k.id)
    (λ y. clash (is_known (k ∷ ks) x) (known_cons k ks x ∙ ap (λ (b : Bool). b || is_known ks x) y) f)
    (λ n. number_there k ks x n ∙ ap suc (number-none ks x (sym (known_cons k ks x ∙ ap (λ (b : Bool). b || is_known ks x) n) ∙ f)))

pub number_known : (ks : List Known) (x : Id) (j : ℕ) → suc j ≡ place_in ks x → j ≡ number_in ks x
number_known ks x j p = cases (is_known ks x) (λ y. let q = p ∙ place-yes ks x y in omega (arith, q)) (λ f. let q = p ∙ place_no ks x f in absurd (omega (arith, q)))

pub number_unknown : (ks : List Known) (x : Id) (n : ℕ) → 0 ≡ place_in ks x → n ≡ length ks → n ≡ number_in ks x
number_unknown ks x n p c = cases (is_known ks x) (λ y. let q = p ∙ place-yes ks x y in absurd (omega (arith, q))) (λ f. c ∙ sym (number-none ks x f))
