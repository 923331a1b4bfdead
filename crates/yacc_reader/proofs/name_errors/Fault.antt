-- 21 has a token at fault; the turns of the loop that looks for it.
use Prim.Native.Nat.{ℕ}
use mathlib.Core.Bool.{Bool, true, false, ◌||◌, not, or-false}
use mathlib.Core.Path.{◌≡◌, refl, sym, ap, ◌∙◌}
use mathlib.Core.List.{List, [], ◌∷◌, ◌++◌, map}
use mathlib.Core.Option.{Option, none, some}
use Rattle.lr1_base.specs.repr.Lists.{some?, joined}
use Rattle.lr1_base.proofs.repr.Lists.{cases, clash}
use Rattle.lr1_base.proofs.repr.Tests.{some?-nil, some?-yes, some?_no, some?-cons, some?-append}
use Rattle.yacc_syntax.specs.text.Grammar.{Id, Token, Layout, spell}
use Rattle.yacc_syntax.specs.text.Places.{Placed, placed, placed_in, placed_from}
use Rattle.yacc_syntax.specs.text.Parse.{parse}
use Rattle.yacc_syntax.specs.text.Lex.{lex}
use Rattle.yacc_syntax.specs.text.Forward.{Mode, top, move}
use Rattle.yacc_syntax.proofs.text.Lexing.{lex-complete}
use Rattle.yacc_syntax.proofs.text.Exact.{parse_sound}
use Rattle.yacc_reader.specs.parsed_file.Events.{Event, lists, opens, defines, uses, shuts, event_of, events}
use Rattle.yacc_reader.specs.parsed_file.Source.{same_id, is_known, left_side, start_use, Use, alternative, alternatives_from, Source, source_of}
use Rattle.yacc_reader.specs.parsed_file.Outcome.{nowhere, undefined_use, named_both_ways, undefined_start, misnamed, source_in}
use Rattle.yacc_reader.proofs.parsed_file.Known.{same_id_eq, known_cons, known_none, known_entered}
use Rattle.yacc_syntax.specs.lexer.Steps.{token_at, front, Leads}
use Rattle.yacc_syntax.specs.declared.lexer.Word.{Word}
use Rattle.yacc_reader.specs.events.Said.{said_in, id_at, events_of}
use Rattle.yacc_reader.specs.declared.events.Saying.{Saying}
use Rattle.yacc_reader.specs.declared.events.Saying.TheVariants.{Lists, Opens, Defines, Uses, Shuts, Nothing}
use Rattle.yacc_reader.proofs.events.Laws.{said_event}
use Rattle.yacc_reader.proofs.events.Along.{first_found}
use Rattle.yacc_reader.specs.declared.events.Token.{Token as Heard}
use Rattle.yacc_reader.specs.declared.events.TokenIter.{TokenIter}
use Rattle.yacc_reader.specs.events.Tokens.{Gives}
use Rattle.yacc_syntax.specs.recognizer.Accepted.{mode_of}
use Rattle.std.specs.Prelude.{Option as Answered}
use Rattle.std.specs.Bool.{⊤}
use Rattle.std.specs.Option.{MatchOption}
use Rattle.std.specs.List.{FoldsTo}
use Rattle.std.specs.Fn.{CalledAt}
use Rattle.std.specs.Iterator.{YieldsThen}
use denote.Param.Members.{Mut}
use denote.Ref.{Bor}
use Rattle.yacc_reader.specs.name_errors.Fault.{faulty, fault_from}
use Rattle.yacc_reader.proofs.name_errors.Laws.{none_both}

-- a test that none passes
pub none-cons {ℓ} : {A : Type ℓ} (t : A → Bool) (x : A) (xs : List A) → some? t (x ∷ xs) ≡ false → (t x ≡ false) × (some? t xs ≡ false)
none-cons t x xs e =
    cases (t x)
    (λ y. clash (some? t (x ∷ xs)) (some?-yes t x xs y) e)
    (λ n. (n, sym (some?_no t x xs n) ∙ e))

module _ (S : Source) where
  -- where nothing is at fault, no id of a body is nowhere
  none_ids : (us : List Use) (x : Id) (from past : ℕ) → some? (nowhere S) (map (λ u. u.id) us) ≡ false → nowhere S x ≡ false → some? (nowhere S) (map (λ u. u.id) (us ++ (record { id = x; from = from; past = past } ∷ []))) ≡ false
  none_ids [] x from past e n = some?_no (nowhere S) x [] n ∙ some?-nil (nowhere S)
  none_ids (u ∷ us) x from past e n =
      let r = none-cons (nowhere S) u.id (map (λ v. v.id) us) e in
      some?_no (nowhere S) u.id (map (λ v. v.id) (us ++ (record { id = x; from = from; past = past } ∷ []))) r.0 ∙ none_ids us x from past r.1 n

  none-used : (es : List Event) (l : Id) (us : List Use) → some? (faulty S) es ≡ false → some? (nowhere S) (map (λ u. u.id) us) ≡ false → some? (λ a. some? (nowhere S) a.ids) (alternatives_from l us es) ≡ false
  unfolding alternatives_from alternative faulty
  none-used [] l us f n = some?-nil _
  none-used (lists x at ∷ es) l us f n = none-used es l us (none-cons (faulty S) (lists x at) es f).1 n
  none-used (opens x ∷ es) l us f n = none-used es l us (none-cons (faulty S) (opens x) es f).1 n
  none-used (defines x at ∷ es) l us f n = none-used es x [] (none-cons (faulty S) (defines x at) es f).1 (some?-nil (nowhere S))
  none-used (uses x from past ∷ es) l us f n =
      let r = none-cons (faulty S) (uses x from past) es f in
      none-used es l (us ++ (record { id = x; from = from; past = past } ∷ [])) r.1 (none_ids us x from past n r.0)
  none-used (shuts at ∷ es) l us f n = some?_no (λ a. some? (nowhere S) a.ids) (alternative l us at) (alternatives_from l [] es) n ∙ none-used es l [] (none-cons (faulty S) (shuts at) es f).1 (some?-nil (nowhere S))

  -- no left side is a token
  none_left : (es : List Event) (x : Id) → some? (faulty S) es ≡ false → is_known (joined left_side es) x ≡ true → is_known S.terminals x ≡ false
  unfolding joined left_side faulty
  none_left [] x f h = clash (is_known [] x) h (known_none x)
  none_left (lists y at ∷ es) x f h = none_left es x (none-cons (faulty S) (lists y at) es f).1 h
  none_left (opens y ∷ es) x f h = none_left es x (none-cons (faulty S) (opens y) es f).1 h
  none_left (defines y at ∷ es) x f h =
      let r = none-cons (faulty S) (defines y at) es f in
      cases (same_id x y)
      (λ e. ap (is_known S.terminals) (same_id_eq x y e) ∙ r.0)
      (λ e. none_left es x r.1 (ap (λ (b : Bool). b || is_known (joined left_side es) x) (sym e) ∙ sym (known_cons (record { id = y; at = at }) (joined left_side es) x) ∙ h))
  none_left (uses y from past ∷ es) x f h = none_left es x (none-cons (faulty S) (uses y from past) es f).1 h
  none_left (shuts at ∷ es) x f h = none_left es x (none-cons (faulty S) (shuts at) es f).1 h

  -- no START id is on no left side
  none-start : (es : List Event) → some? (faulty S) es ≡ false → some? (λ x. not (is_known S.nonterminals x)) (joined start_use es) ≡ false
  unfolding joined start_use faulty
  none-start [] f = some?-nil (λ (x : Id). not (is_known S.nonterminals x))
  none-start (lists y at ∷ es) f = none-start es (none-cons (faulty S) (lists y at) es f).1
  none-start (opens y ∷ es) f =
      let r = none-cons (faulty S) (opens y) es f in
      some?_no (λ (x : Id). not (is_known S.nonterminals x)) y (joined start_use es) r.0 ∙ none-start es r.1
  none-start (defines y at ∷ es) f = none-start es (none-cons (faulty S) (defines y at) es f).1
  none-start (uses y from past ∷ es) f = none-start es (none-cons (faulty S) (uses y from past) es f).1
  none-start (shuts at ∷ es) f = none-start es (none-cons (faulty S) (shuts at) es f).1

-- so 21 has a token at fault
none-misnamed : (es : List Event) → some? (faulty (source_of es)) es ≡ false → misnamed (source_of es) ≡ false
unfolding misnamed undefined_use named_both_ways undefined_start source_of
none-misnamed es f =
    ap (λ (b : Bool). b || (named_both_ways (source_of es) || undefined_start (source_of es))) (none-used (source_of es) es _ [] f (some?-nil (nowhere (source_of es))))
    ∙ ap (λ (b : Bool). b || undefined_start (source_of es)) (none_both (source_of es).terminals (source_of es).nonterminals (λ x h. none_left (source_of es) es x f (ap (λ (b : Bool). b || is_known (joined left_side es) x) (sym (known_none x)) ∙ sym (known_entered (joined left_side es) [] x) ∙ h)))
    ∙ none-start (source_of es) es f

pub misnamed-faulty : (es : List Event) → misnamed (source_of es) ≡ true → some? (faulty (source_of es)) es ≡ true
misnamed-faulty es e = cases (some? (faulty (source_of es)) es) (λ y. y) (λ n. clash (misnamed (source_of es)) e (none-misnamed es n))

-- the first token at fault
module _ (S : Source) (m : Mode) (p : Placed) (ps : List Placed) where
  pub fault_here : some? (faulty S) (event_of m p.token p.from p.past) ≡ true → fault_from S m (p ∷ ps) ≡ some p.from
  unfolding fault_from
  fault_here e = rw (e, fault_from)

  pub fault-goes : some? (faulty S) (event_of m p.token p.from p.past) ≡ false → fault_from S m (p ∷ ps) ≡ fault_from S (move m p.token) ps
  unfolding fault_from
  fault-goes e = rw (e, fault_from)

pub fault-found : (S : Source) (ps : List Placed) (m : Mode) → some? (faulty S) (events m ps) ≡ true → (k : ℕ) × (fault_from S m ps ≡ some k)
unfolding events
fault-found S [] m e = clash (some? (faulty S) []) e (some?-nil (faulty S))
fault-found S (p ∷ ps) m e =
    let a = some?-append (faulty S) (event_of m p.token p.from p.past) (events (move m p.token) ps) in
    cases (some? (faulty S) (event_of m p.token p.from p.past))
    (λ y. (p.from, fault_here S m p ps y))
    (λ n. let r = fault-found S ps (move m p.token) (ap (λ (b : Bool). b || some? (faulty S) (events (move m p.token) ps)) (sym n) ∙ sym a ∙ e) in (r.0, fault-goes S m p ps n ∙ r.1))

-- 21: the place of its token
pub misnamed-fault : (l : Layout) → misnamed (source_in l.pieces) ≡ true → (k : ℕ) × (fault_from (source_in l.pieces) (top false) (placed 0 l.pieces) ≡ some k)
unfolding source_in
misnamed-fault l e = fault-found (source_in l.pieces) (placed 0 l.pieces) (top false) (misnamed-faulty (events (top false) (placed 0 l.pieces)) e)

-- `is_fault`
module _ (S : Source) (t : List ℕ) (m : Mode) (w : Word) (from past : ℕ) (s : Saying) (e : s ≡ said_in m w) where
  said-fault : some? (faulty S) (events_of s (id_at t w from past) from past) ≡ some? (faulty S) (event_of m (token_at t w from past) from past)
  said-fault =
      ap (λ (k : Saying). some? (faulty S) (events_of k (id_at t w from past) from past)) e
      ∙ ap (some? (faulty S)) (sym (said_event m w t from past))

  said_one : (v : Event) → events_of s (id_at t w from past) from past ≡ v ∷ [] → faulty S v ≡ some? (faulty S) (event_of m (token_at t w from past) from past)
  said_one v q =
      sym (ap (some? (faulty S)) q ∙ some?-cons (faulty S) v [] ∙ ap (λ (c : Bool). faulty S v || c) (some?-nil (faulty S)) ∙ or-false (faulty S v))
      ∙ said-fault

  pub fault-lists : s ≡ Lists → false ≡ some? (faulty S) (event_of m (token_at t w from past) from past)
  unfolding events_of faulty
  fault-lists q = said_one (lists (id_at t w from past) from) (ap (λ (k : Saying). events_of k (id_at t w from past) from past) q)

  pub fault-opens : s ≡ Opens → (b : Bool) → b ≡ not (is_known S.nonterminals (id_at t w from past)) → b ≡ some? (faulty S) (event_of m (token_at t w from past) from past)
  unfolding events_of faulty
  fault-opens q b p = p ∙ said_one (opens (id_at t w from past)) (ap (λ (k : Saying). events_of k (id_at t w from past) from past) q)

  pub fault-defines : s ≡ Defines → (b : Bool) → b ≡ is_known S.terminals (id_at t w from past) → b ≡ some? (faulty S) (event_of m (token_at t w from past) from past)
  unfolding events_of faulty
  fault-defines q b p = p ∙ said_one (defines (id_at t w from past) from) (ap (λ (k : Saying). events_of k (id_at t w from past) from past) q)

  pub fault-uses : s ≡ Uses → (b : Bool) → b ≡ nowhere S (id_at t w from past) → b ≡ some? (faulty S) (event_of m (token_at t w from past) from past)
  unfolding events_of faulty
  fault-uses q b p = p ∙ said_one (uses (id_at t w from past) from past) (ap (λ (k : Saying). events_of k (id_at t w from past) from past) q)

  pub fault-shuts : s ≡ Shuts → false ≡ some? (faulty S) (event_of m (token_at t w from past) from past)
  unfolding events_of faulty
  fault-shuts q = said_one (shuts from) (ap (λ (k : Saying). events_of k (id_at t w from past) from past) q)

  pub fault-nothing : s ≡ Nothing → false ≡ some? (faulty S) (event_of m (token_at t w from past) from past)
  unfolding events_of
  fault-nothing q = sym (ap (λ (k : Saying). some? (faulty S) (events_of k (id_at t w from past) from past)) q ∙ some?-nil (faulty S)) ∙ said-fault

pub fault-other : (S : Source) (t : List ℕ) (m : Mode) (w : Word) (from past : ℕ) (s : Saying) → s ≡ said_in m w → (s ≡ Opens → ⊥) → (s ≡ Defines → ⊥) → (s ≡ Uses → ⊥) → false ≡ some? (faulty S) (event_of m (token_at t w from past) from past)
fault-other S t m w from past Lists e a b c = fault-lists S t m w from past Lists e refl
fault-other S t m w from past Opens e a b c = absurd (a refl)
fault-other S t m w from past Defines e a b c = absurd (b refl)
fault-other S t m w from past Uses e a b c = absurd (c refl)
fault-other S t m w from past Shuts e a b c = fault-shuts S t m w from past Shuts e refl
fault-other S t m w from past Nothing e a b c = fault-nothing S t m w from past Nothing e refl

-- `fault_place`: tokens are left, and the first at fault is still the text's
abbrev pub Rests : Source → Mode → Option (List Placed) → Option ℕ → Type 0
Rests S m o F = (ps : List Placed) × (o ≡ some ps) × (fault_from S m ps ≡ F)

pub text_placed : (t : List ℕ) (l : Layout) → parse t ≡ some l → placed_from t 0 ≡ some (placed 0 l.pieces)
unfolding placed_from placed_in spell
text_placed t l e =
    let s = parse_sound t l e in
    ap (λ (k : List ℕ). placed_in 0 (lex k)) (sym s.1) ∙ ap (placed_in 0) (lex-complete l.pieces s.0.fit)

pub rests_first : (t : List ℕ) (l : Layout) → parse t ≡ some l → Rests (source_in l.pieces) (top false) (placed_from t 0) (fault_from (source_in l.pieces) (top false) (placed 0 l.pieces))
rests_first t l e = (placed 0 l.pieces, text_placed t l e, refl)

pub never {ℓ} : {P : Type ℓ} {A : Type 0} (x : A) → ◌≡◌ {A = Option A} none (some x) → P
never {A} x e = clash false (ap (λ (o : Option A). elim o [ none ↦ false | some c ↦ true ]) e) refl

front-some : (k : Token) (from past : ℕ) (o : Option (List Placed)) (ps : List Placed) → front k from past o ≡ some ps → (qs : List Placed) × (o ≡ some qs) × (ps ≡ record { token = k; from = from; past = past } ∷ qs)
unfolding front
front-some k from past none ps e = never ps e
front-some k from past (some qs) ps e = (qs, refl, cc)

module _ (S : Source) (t : List ℕ) (at : ℕ) (m : Mode) (F : Option ℕ) (R : Rests S m (placed_from t at) F) where
  module _ (w : Word) (from past : ℕ) (L : Leads t at w from past) (b : Bool) (q : b ≡ some? (faulty S) (event_of m (token_at t w from past) from past)) where
    rests_front : (qs : List Placed) × (placed_from t past ≡ some qs) × (R.0 ≡ record { token = token_at t w from past; from = from; past = past } ∷ qs)
    rests_front = front-some (token_at t w from past) from past (placed_from t past) R.0 (sym L.is ∙ R.1)

    pub rests_turn : b ≡ false → (n : Mode) → n ≡ move m (token_at t w from past) → Rests S n (placed_from t past) F
    rests_turn f n e = (
      rests_front.0,
      rests_front.1,
      ap (λ (k : Mode). fault_from S k rests_front.0) e
          ∙ sym (fault-goes S m (record { token = token_at t w from past; from = from; past = past }) rests_front.0 (sym q ∙ f))
          ∙ ap (fault_from S m) (sym rests_front.2)
          ∙ R.2,
    )

    pub rests_here : b ≡ true → F ≡ some from
    rests_here y =
        sym R.2
        ∙ ap (fault_from S m) rests_front.2
        ∙ fault_here S m (record { token = token_at t w from past; from = from; past = past }) rests_front.0 (sym q ∙ y)

  pub rests_ends : placed_from t at ≡ some [] → F ≡ none
  unfolding fault_from
  rests_ends p =
      let i : some [] ≡ some R.0 = sym p ∙ R.1 in
      let j : [] ≡ R.0 = cc in
      sym R.2 ∙ ap (fault_from S m) (sym j)

-- the first word that is told to be at fault
pub fault_found : (t : List ℕ) (l : Layout) → parse t ≡ some l → {F : Type 0} (g : Mut F (Bor Heard × Unit {0}) Bool) (f : F)
    → ((x : Heard) (b : Bool) (q : F) → CalledAt g f x b q → (q ≡ f) × (b ≡ some? (faulty (source_in l.pieces)) (event_of (mode_of x.mode) (token_at t x.lexeme.word x.lexeme.from x.lexeme.past) x.lexeme.from x.lexeme.past)))
    → (s u : TokenIter) (r : Answered Heard)
    → (xs : List Heard) × (j : F) × YieldsThen Gives s xs r u × FoldsTo (λ p x q. CalledAt g p x false q) f xs j × MatchOption r ⊤ (λ x. (h : F) × CalledAt g j x true h)
    → s.text.now ≡ t → Rests (source_in l.pieces) (mode_of s.mode) (placed_from t s.at) (fault_from (source_in l.pieces) (top false) (placed 0 l.pieces))
    → MatchOption r (none ≡ fault_from (source_in l.pieces) (top false) (placed 0 l.pieces)) (λ x. some x.lexeme.from ≡ fault_from (source_in l.pieces) (top false) (placed 0 l.pieces))
fault_found t l e {F} g f told s u r d n R =
    let S = source_in l.pieces in
    let first : Option ℕ = fault_from S (top false) (placed 0 l.pieces) in
    first_found t g f
    (λ (x : Heard). false ≡ some? (faulty S) (event_of (mode_of x.mode) (token_at t x.lexeme.word x.lexeme.from x.lexeme.past) x.lexeme.from x.lexeme.past))
    (λ x q c. told x false q c)
    (λ (m : Mode) (at : ℕ). Rests S m (placed_from t at) first)
    (λ s x u L z i. rw L.at (rests_turn S t s.at (mode_of s.mode) first i x.lexeme.word x.lexeme.from x.lexeme.past L.leads false (rw L.in_mode at z) refl (mode_of u.mode) L.mode))
    (λ o. MatchOption o (none ≡ first) (λ x. some x.lexeme.from ≡ first)) s u r d n R
    (λ v x w h L k i. sym (rests_here S t v.at (mode_of v.mode) first i x.lexeme.word x.lexeme.from x.lexeme.past L.leads true (rw L.in_mode at (told x true h k).1) refl))
    (λ v P i. sym (rests_ends S t v.at (mode_of v.mode) first i P))
