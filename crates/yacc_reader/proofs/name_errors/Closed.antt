-- The other way round: a token at fault makes a text of the grammar misnamed, since each of its bodies ends.
use Prim.Native.Nat.{ℕ}
use mathlib.Core.Bool.{Bool, true, false, ◌&&◌, ◌||◌, not, or-true}
use mathlib.Core.Path.{◌≡◌, refl, sym, ap, ◌∙◌}
use mathlib.Core.List.{List, [], ◌∷◌, ◌++◌, map}
use mathlib.Core.Option.{Option, none, some}
use Rattle.std.proofs.Common.{Option as Answer, Some, None}
use Rattle.std.specs.Option.{is_some}
use Rattle.lr1_base.specs.repr.Lists.{some?, joined}
use Rattle.yacc_syntax.specs.lexer.Steps.{found_at}
use Rattle.lr1_base.proofs.repr.Lists.{cases, clash}
use Rattle.lr1_base.proofs.repr.Tests.{some?-nil, some?_no, some?-append}
use Rattle.yacc_syntax.specs.text.Grammar.{Id, Token, ident, token, start, mark, colon, bar, semi, Layout}
use Rattle.yacc_syntax.specs.text.Places.{Placed, placed}
use Rattle.yacc_syntax.specs.text.Parse.{parse}
use Rattle.yacc_syntax.specs.text.Forward.{Mode, top, wanted, listed, starting, ruled, sided, bodied, done, dead, move, last, accepts}
use Rattle.yacc_syntax.specs.recognizer.Accepted.{judged, is_grammar_text}
use Rattle.yacc_syntax.proofs.recognizer.Laws.{judged-whole}
use Rattle.yacc_reader.specs.parsed_file.Events.{Event, lists, opens, defines, uses, shuts, event_of, events}
use Rattle.yacc_reader.specs.parsed_file.Source.{same_id, Known, is_known, left_side, start_use, Use, alternative, alternatives_from, no_id, Source, source_of}
use Rattle.yacc_reader.specs.parsed_file.Outcome.{nowhere, undefined_use, named_both_ways, undefined_start, misnamed, source_in}
use Rattle.yacc_reader.proofs.parsed_file.Known.{same_id_lem, known_cons, known_none, known_entered}
use Rattle.yacc_reader.specs.name_errors.Fault.{faulty, fault_from}
use Rattle.yacc_reader.proofs.name_errors.Laws.{known_both}
use Rattle.yacc_reader.proofs.name_errors.Fault.{none-cons, never, fault-goes, misnamed-fault, text_placed}
use Rattle.lr1_base.proofs.laws.Bools.{or-none}
use Rattle.yacc_reader.proofs.symbol_table.Laws.{dead-tokens}

-- behind each id of a body stands what ends it; o: such an id came before
closed : Bool → List Event → Bool
closed o [] = not o
closed o (lists x at ∷ es) = closed o es
closed o (opens x ∷ es) = closed o es
closed o (defines x at ∷ es) = not o && closed false es
closed o (uses x from past ∷ es) = closed true es
closed o (shuts at ∷ es) = closed false es

closed-more : (es : List Event) → closed true es ≡ true → closed false es ≡ true
unfolding closed
closed-more [] e = refl
closed-more (lists x at ∷ es) e = closed-more es e
closed-more (opens x ∷ es) e = closed-more es e
closed-more (defines x at ∷ es) e = clash false e refl
closed-more (uses x from past ∷ es) e = e
closed-more (shuts at ∷ es) e = e

closed_none : (o : Bool) (es : List Event) → closed o es ≡ true → closed false es ≡ true
closed_none true es e = closed-more es e
closed_none false es e = e

-- the events of a text are so
in_body : Mode → Bool
in_body m = elim m [ top s ↦ false | wanted s ↦ false | listed s ↦ false | starting ↦ false | ruled ↦ false | sided ↦ false | bodied ↦ true | done ↦ false | dead ↦ false ]

of_ident : (t : Token) (f : Id → Event) (es : List Event) → ((x : Id) → closed false (f x ∷ es) ≡ closed false es) → closed false ((elim t as (λ k. List Event) [ ident x ↦ f x ∷ [] | token ↦ [] | start ↦ [] | mark ↦ [] | colon ↦ [] | bar ↦ [] | semi ↦ [] ]) ++ es) ≡ closed false es
of_ident (ident x) f es h = h x
of_ident token f es h = refl
of_ident start f es h = refl
of_ident mark f es h = refl
of_ident colon f es h = refl
of_ident bar f es h = refl
of_ident semi f es h = refl

closed-step : (m : Mode) (t : Token) (from past : ℕ) (ts : List Token) (es : List Event) → accepts (move m t) ts ≡ true → closed (in_body (move m t)) es ≡ true → closed (in_body m) (event_of m t from past ++ es) ≡ true
unfolding in_body event_of move closed
closed-step (top s) t from past ts es a c = closed_none (in_body (move (top s) t)) es c
closed-step (wanted s) t from past ts es a c = of_ident t (λ x. lists x from) es (λ x. refl) ∙ closed_none (in_body (move (wanted s) t)) es c
closed-step (listed s) t from past ts es a c = of_ident t (λ x. lists x from) es (λ x. refl) ∙ closed_none (in_body (move (listed s) t)) es c
closed-step starting t from past ts es a c = of_ident t (λ x. opens x) es (λ x. refl) ∙ closed_none (in_body (move starting t)) es c
closed-step ruled t from past ts es a c = of_ident t (λ x. defines x from) es (λ x. refl) ∙ closed_none (in_body (move ruled t)) es c
closed-step sided t from past ts es a c = closed_none (in_body (move sided t)) es c
closed-step bodied (ident x) from past ts es a c = c
closed-step bodied token from past ts es a c = clash (accepts dead ts) a (dead-tokens ts)
closed-step bodied start from past ts es a c = clash (accepts dead ts) a (dead-tokens ts)
closed-step bodied mark from past ts es a c = clash (accepts dead ts) a (dead-tokens ts)
closed-step bodied colon from past ts es a c = clash (accepts dead ts) a (dead-tokens ts)
closed-step bodied bar from past ts es a c = closed_none true es c
closed-step bodied semi from past ts es a c = c
closed-step done t from past ts es a c = of_ident t (λ x. defines x from) es (λ x. refl) ∙ closed_none (in_body (move done t)) es c
closed-step dead t from past ts es a c = clash (accepts dead ts) a (dead-tokens ts)

ends-closed : (m : Mode) → last m ≡ true → not (in_body m) ≡ true
unfolding last in_body
ends-closed (top s) e = refl
ends-closed (wanted s) e = refl
ends-closed (listed s) e = refl
ends-closed starting e = refl
ends-closed ruled e = refl
ends-closed sided e = refl
ends-closed bodied e = clash false e refl
ends-closed done e = refl
ends-closed dead e = refl

closed-events : (ps : List Placed) (m : Mode) → accepts m (map (λ p. p.token) ps) ≡ true → closed (in_body m) (events m ps) ≡ true
unfolding accepts events closed
closed-events [] m a = ends-closed m a
closed-events (p ∷ ps) m a = closed-step m p.token p.from p.past (map (λ q. q.token) ps) (events (move m p.token) ps) a (closed-events ps (move m p.token) a)

-- where no alternative has an id that is nowhere, no body has
module _ (S : Source) where
  used : Event → Bool
  used (lists x at) = false
  used (opens x) = false
  used (defines x at) = false
  used (uses x from past) = nowhere S x
  used (shuts at) = false

  ids_none : (us : List Use) (x : Id) (from past : ℕ) → some? (nowhere S) (map (λ u. u.id) (us ++ (record { id = x; from = from; past = past } ∷ []))) ≡ false → (some? (nowhere S) (map (λ u. u.id) us) ≡ false) × (nowhere S x ≡ false)
  ids_none [] x from past e = (some?-nil (nowhere S), (none-cons (nowhere S) x [] e).0)
  ids_none (u ∷ us) x from past e =
      let r = none-cons (nowhere S) u.id (map (λ v. v.id) (us ++ (record { id = x; from = from; past = past } ∷ []))) e in
      let q = ids_none us x from past r.1 in
      (some?_no (nowhere S) u.id (map (λ v. v.id) us) r.0 ∙ q.0, q.1)

  used-none : (es : List Event) (l : Id) (us : List Use) (o : Bool) → closed o es ≡ true → (o ≡ false → some? (nowhere S) (map (λ u. u.id) us) ≡ false) → some? (λ a. some? (nowhere S) a.ids) (alternatives_from l us es) ≡ false → (some? (nowhere S) (map (λ u. u.id) us) ≡ false) × (some? used es ≡ false)
  unfolding closed alternatives_from alternative used
  used-none [] l us true c n a = clash false c refl
  used-none [] l us false c n a = (n refl, some?-nil used)
  used-none (lists x at ∷ es) l us o c n a = let r = used-none es l us o c n a in (r.0, some?_no used (lists x at) es refl ∙ r.1)
  used-none (opens x ∷ es) l us o c n a = let r = used-none es l us o c n a in (r.0, some?_no used (opens x) es refl ∙ r.1)
  used-none (defines x at ∷ es) l us true c n a = clash false c refl
  used-none (defines x at ∷ es) l us false c n a = let r = used-none es x [] false c (λ e. some?-nil (nowhere S)) a in (n refl, some?_no used (defines x at) es refl ∙ r.1)
  used-none (uses x from past ∷ es) l us o c n a =
      let r = used-none es l (us ++ (record { id = x; from = from; past = past } ∷ [])) true c (λ e. clash true refl e) a in
      let q = ids_none us x from past r.0 in
      (q.0, some?_no used (uses x from past) es q.1 ∙ r.1)
  used-none (shuts at ∷ es) l us o c n a =
      let p = none-cons (λ b. some? (nowhere S) b.ids) (alternative l us at) (alternatives_from l [] es) a in
      let r = used-none es l [] false c (λ e. some?-nil (nowhere S)) p.1 in
      (p.0, some?_no used (shuts at) es refl ∙ r.1)

  -- nothing is at fault
  faulty-none : (es : List Event) → some? used es ≡ false → ((x : Id) → is_known (joined left_side es) x ≡ true → is_known S.terminals x ≡ false) → some? (λ x. not (is_known S.nonterminals x)) (joined start_use es) ≡ false → some? (faulty S) es ≡ false
  unfolding joined left_side start_use used faulty
  faulty-none [] u d s = some?-nil (faulty S)
  faulty-none (lists x at ∷ es) u d s = some?_no (faulty S) (lists x at) es refl ∙ faulty-none es (none-cons used (lists x at) es u).1 d s
  faulty-none (opens x ∷ es) u d s =
      let r = none-cons (λ (y : Id). not (is_known S.nonterminals y)) x (joined start_use es) s in
      some?_no (faulty S) (opens x) es r.0 ∙ faulty-none es (none-cons used (opens x) es u).1 d r.1
  faulty-none (defines x at ∷ es) u d s =
      let k : Known = record { id = x; at = at } in
      some?_no (faulty S) (defines x at) es (d x (known_cons k (joined left_side es) x ∙ ap (λ (b : Bool). b || is_known (joined left_side es) x) (same_id_lem x)))
      ∙ faulty-none es (none-cons used (defines x at) es u).1 (λ y h. d y (known_cons k (joined left_side es) y ∙ ap (λ (b : Bool). same_id y x || b) h ∙ or-true (same_id y x))) s
  faulty-none (uses x from past ∷ es) u d s =
      let r = none-cons used (uses x from past) es u in
      some?_no (faulty S) (uses x from past) es r.0 ∙ faulty-none es r.1 d s
  faulty-none (shuts at ∷ es) u d s = some?_no (faulty S) (shuts at) es refl ∙ faulty-none es (none-cons used (shuts at) es u).1 d s

named_none : (es : List Event) → closed false es ≡ true → misnamed (source_of es) ≡ false → some? (faulty (source_of es)) es ≡ false
unfolding misnamed undefined_use named_both_ways undefined_start source_of
named_none es c e =
    let p = or-none (undefined_use (source_of es)) (named_both_ways (source_of es) || undefined_start (source_of es)) e in
    let q = or-none (named_both_ways (source_of es)) (undefined_start (source_of es)) p.1 in
    faulty-none (source_of es) es
    (used-none (source_of es) es no_id [] false c (λ i. some?-nil (nowhere (source_of es))) p.0).1
    (λ x h. cases (is_known (source_of es).terminals x) (λ y. clash (named_both_ways (source_of es)) (known_both (source_of es).terminals (source_of es).nonterminals x (known_entered (joined left_side es) [] x ∙ ap (λ (b : Bool). b || is_known (joined left_side es) x) (known_none x) ∙ h) y) q.0) (λ n. n))
    q.1

-- a fault is found only where there is one
found-faulty : (S : Source) (ps : List Placed) (m : Mode) (k : ℕ) → fault_from S m ps ≡ some k → some? (faulty S) (events m ps) ≡ true
unfolding events fault_from
found-faulty S [] m k e = never k e
found-faulty S (p ∷ ps) m k e =
    let a = some?-append (faulty S) (event_of m p.token p.from p.past) (events (move m p.token) ps) in
    cases (some? (faulty S) (event_of m p.token p.from p.past))
    (λ y. a ∙ ap (λ (b : Bool). b || some? (faulty S) (events (move m p.token) ps)) y)
    (λ n. a ∙ ap (λ (b : Bool). b || some? (faulty S) (events (move m p.token) ps)) n ∙ found-faulty S ps (move m p.token) k (sym (fault-goes S m p ps n) ∙ e))

pub fault-misnamed : (t : List ℕ) (l : Layout) (k : ℕ) → parse t ≡ some l → fault_from (source_in l.pieces) (top false) (placed 0 l.pieces) ≡ some k → misnamed (source_in l.pieces) ≡ true
unfolding source_in is_grammar_text judged in_body
fault-misnamed t l k e f =
    let p = placed 0 l.pieces in
    let g : is_grammar_text t ≡ true = ap (λ (o : Option Layout). elim o as (λ x. Bool) [ none ↦ false | some y ↦ true ]) e in
    let a : accepts (top false) (map (λ q. q.token) p) ≡ true = sym (ap (judged (top false)) (text_placed t l e)) ∙ judged-whole t ∙ g in
    cases (misnamed (source_in l.pieces))
    (λ y. y)
    (λ n. clash (some? (faulty (source_in l.pieces)) (events (top false) p)) (found-faulty (source_in l.pieces) p (top false) k f) (named_none (events (top false) p) (closed-events p (top false) a) n))

-- `is_misnamed`: so 21 refuses exactly where a place is found
pub fault_told : (t : List ℕ) (l : Layout) → parse t ≡ some l → (o : Answer ℕ) → found_at o ≡ fault_from (source_in l.pieces) (top false) (placed 0 l.pieces) → is_some o ≡ misnamed (source_in l.pieces)
unfolding found_at
fault_told t l p None e = cases (misnamed (source_in l.pieces)) (λ y. let k = misnamed-fault l y in never k.0 (e ∙ k.1)) (λ n. sym n)
fault_told t l p (Some k) e = sym (fault-misnamed t l k p (sym e))
