-- What the tokens of a file say, without places, is what the file says: its alternatives are the file's.
use Prim.Native.Nat.{ℕ, ◌≤◌}
use native.Mathlib.Omega.{arith}
use mathlib.Core.Bool.{Bool, true, false}
use mathlib.Core.Path.{◌≡◌, refl, sym, ap, ◌∙◌, subst}
use mathlib.Core.List.{List, [], ◌∷◌, ◌++◌, map, append_assoc, append-nil}
use lib.ListN.{length, get_or}
use Rattle.lr1_base.specs.repr.Lists.{joined}
use Rattle.lr1_base.specs.repr.Meaning.{All}
use Rattle.lr1_base.proofs.repr.Lists.{length_mapped}
use Rattle.yacc_syntax.specs.text.Grammar.{Id, named, Token, ident, token, start, mark, colon, bar, semi, Rule, rule, Def, starts, tokens, File, ids_to, alts_to, rule_to, rules_to, def_to, defs_to, tokens_of, no_start, one_start, Layout, Sound}
use Rattle.yacc_syntax.specs.text.Places.{Placed, placed}
use Rattle.yacc_syntax.specs.text.Forward.{Mode, top, wanted, listed, starting, ruled, sided, bodied, done, dead, begins, sides, move}
use Rattle.yacc_syntax.proofs.recognizer.Laws.{tokens-placed}
use Rattle.yacc_reader.specs.parsed_file.Events.{Event, lists, opens, defines, uses, shuts, event_of, events}
use Rattle.yacc_reader.specs.parsed_file.Source.{Known, is_known, entered, left_side, Use, Alternative, alternative, alternatives_from, no_id, source_of}
use Rattle.yacc_reader.specs.parsed_file.Files.{Bare, bare_of, rule_bares, file_bares}
use Rattle.yacc_reader.specs.parsed_file.Outcome.{source_in}
use Rattle.yacc_reader.proofs.parsed_file.Known.{entered_all}

-- an event without its places
abbrev pub said : Event → Event
said (lists x at) = lists x 0
said (opens x) = opens x
said (defines x at) = defines x 0
said (uses x from past) = uses x 0 0
said (shuts at) = shuts 0

-- the same of tokens alone
abbrev said_from : Mode → List Token → List Event
said_from m [] = []
said_from m (t ∷ ts) = event_of m t 0 0 ++ said_from (move m t) ts

-- a test of every mode
abbrev modes : List Mode
modes = top true ∷ top false ∷ wanted true ∷ wanted false ∷ listed true ∷ listed false ∷ starting ∷ ruled ∷ sided ∷ bodied ∷ done ∷ dead ∷ []

at_mode : (f g : Mode → List Event) → map f modes ≡ map g modes → (m : Mode) → f m ≡ g m
at_mode f g e (top true) = ap (λ (l : List (List Event)). get_or l 0 []) e
at_mode f g e (top false) = ap (λ (l : List (List Event)). get_or l 1 []) e
at_mode f g e (wanted true) = ap (λ (l : List (List Event)). get_or l 2 []) e
at_mode f g e (wanted false) = ap (λ (l : List (List Event)). get_or l 3 []) e
at_mode f g e (listed true) = ap (λ (l : List (List Event)). get_or l 4 []) e
at_mode f g e (listed false) = ap (λ (l : List (List Event)). get_or l 5 []) e
at_mode f g e starting = ap (λ (l : List (List Event)). get_or l 6 []) e
at_mode f g e ruled = ap (λ (l : List (List Event)). get_or l 7 []) e
at_mode f g e sided = ap (λ (l : List (List Event)). get_or l 8 []) e
at_mode f g e bodied = ap (λ (l : List (List Event)). get_or l 9 []) e
at_mode f g e done = ap (λ (l : List (List Event)). get_or l 10 []) e
at_mode f g e dead = ap (λ (l : List (List Event)). get_or l 11 []) e

each_token : (t : Token) (a b : ℕ) → map (λ m. map said (event_of m t a b)) modes ≡ map (λ m. event_of m t 0 0) modes
unfolding event_of
each_token (ident x) a b = refl
each_token token a b = refl
each_token start a b = refl
each_token mark a b = refl
each_token colon a b = refl
each_token bar a b = refl
each_token semi a b = refl

map-append : (f : Event → Event) (xs ys : List Event) → map f (xs ++ ys) ≡ map f xs ++ map f ys
map-append f [] ys = refl
map-append f (x ∷ xs) ys = ap (λ (l : List Event). f x ∷ l) (map-append f xs ys)

events-said : (m : Mode) (ps : List Placed) → map said (events m ps) ≡ said_from m (map (λ p. p.token) ps)
unfolding events
events-said m [] = refl
events-said m (p ∷ ps) =
    map-append said (event_of m p.token p.from p.past) (events (move m p.token) ps)
    ∙ ap (λ (l : List Event). l ++ map said (events (move m p.token) ps)) (at_mode (λ k. map said (event_of k p.token p.from p.past)) (λ k. event_of k p.token 0 0) (each_token p.token p.from p.past) m)
    ∙ ap (λ (l : List Event). event_of m p.token 0 0 ++ l) (events-said (move m p.token) ps)

-- a file's events, each in front of those that follow
abbrev pub uses_to : List Id → List Event → List Event
uses_to [] k = k
uses_to (x ∷ xs) k = uses x 0 0 ∷ uses_to xs k

abbrev pub bodies_to : List Id → List (List Id) → List Event → List Event
bodies_to b [] k = uses_to b (shuts 0 ∷ k)
bodies_to b (c ∷ cs) k = uses_to b (shuts 0 ∷ bodies_to c cs k)

abbrev pub defines_to : Rule → List Event → List Event
defines_to (rule n ns b cs) k = defines (named n ns) 0 ∷ bodies_to b cs k

abbrev pub all_to : List Rule → List Event
all_to [] = []
all_to (r ∷ rs) = defines_to r (all_to rs)

abbrev pub lists_to : List Id → List Event → List Event
lists_to [] k = k
lists_to (x ∷ xs) k = lists x 0 ∷ lists_to xs k

abbrev pub declares_to : List Def → List Event → List Event
declares_to [] k = k
declares_to (starts x ∷ ds) k = opens x ∷ declares_to ds k
declares_to (tokens x xs ∷ ds) k = lists x 0 ∷ lists_to xs (declares_to ds k)

ids_said : (xs : List Id) (k : List Token) → said_from bodied (ids_to xs k) ≡ uses_to xs (said_from bodied k)
unfolding ids_to event_of move
ids_said [] k = refl
ids_said (x ∷ xs) k = ap (λ (l : List Event). uses x 0 0 ∷ l) (ids_said xs k)

bodies_said : (b : List Id) (cs : List (List Id)) (k : List Token) → said_from bodied (alts_to b cs k) ≡ bodies_to b cs (said_from done k)
unfolding alts_to event_of move
bodies_said b [] k = ids_said b (semi ∷ k)
bodies_said b (c ∷ cs) k = ids_said b (bar ∷ alts_to c cs k) ∙ ap (λ (l : List Event). uses_to b (shuts 0 ∷ l)) (bodies_said c cs k)

rule-said : (r : Rule) (k : List Token) → said_from done (rule_to r k) ≡ defines_to r (said_from done k)
unfolding rule_to event_of move sides
rule-said (rule n ns b cs) k = ap (λ (l : List Event). defines (named n ns) 0 ∷ l) (bodies_said b cs k)

first_said : (r : Rule) (k : List Token) → said_from ruled (rule_to r k) ≡ defines_to r (said_from done k)
unfolding rule_to event_of move sides
first_said (rule n ns b cs) k = ap (λ (l : List Event). defines (named n ns) 0 ∷ l) (bodies_said b cs k)

rules_said : (rs : List Rule) → said_from done (rules_to rs) ≡ all_to rs
unfolding rules_to
rules_said [] = refl
rules_said (r ∷ rs) = rule-said r (rules_to rs) ∙ ap (defines_to r) (rules_said rs)

lists-said : (s : Bool) (xs : List Id) (k : List Token) → said_from (listed s) (ids_to xs k) ≡ lists_to xs (said_from (listed s) k)
unfolding ids_to event_of move
lists-said s [] k = refl
lists-said s (x ∷ xs) k = ap (λ (l : List Event). lists x 0 ∷ l) (lists-said s xs k)

-- between definitions, behind a list or not
abbrev between : Bool → Bool → Mode
between true s = listed s
between false s = top s

abbrev left : Bool → List Def → Bool
left true ds = no_start ds
left false ds = one_start ds

no_start_lem : {A : Type 0} → ◌≡◌ {A = Bool} false true → A
no_start_lem e = let o : ◌≡◌ {A = ℕ} 0 1 = cc in absurd (omega arith)

defs_said : (ds : List Def) (b s : Bool) (k : List Token) → left s ds ≡ true → said_from (between b s) (defs_to ds (mark ∷ k)) ≡ declares_to ds (said_from ruled k)
unfolding defs_to def_to event_of move begins no_start one_start
defs_said [] true s k e = refl
defs_said [] false s k e = refl
defs_said (starts x ∷ ds) true true k e = no_start_lem e
defs_said (starts x ∷ ds) false true k e = no_start_lem e
defs_said (starts x ∷ ds) true false k e = ap (λ (l : List Event). opens x ∷ l) (defs_said ds false true k e)
defs_said (starts x ∷ ds) false false k e = ap (λ (l : List Event). opens x ∷ l) (defs_said ds false true k e)
defs_said (tokens x xs ∷ ds) true true k e = ap (λ (l : List Event). lists x 0 ∷ l) (lists-said true xs (defs_to ds (mark ∷ k)) ∙ ap (lists_to xs) (defs_said ds true true k e))
defs_said (tokens x xs ∷ ds) true false k e = ap (λ (l : List Event). lists x 0 ∷ l) (lists-said false xs (defs_to ds (mark ∷ k)) ∙ ap (lists_to xs) (defs_said ds true false k e))
defs_said (tokens x xs ∷ ds) false true k e = ap (λ (l : List Event). lists x 0 ∷ l) (lists-said true xs (defs_to ds (mark ∷ k)) ∙ ap (lists_to xs) (defs_said ds true true k e))
defs_said (tokens x xs ∷ ds) false false k e = ap (λ (l : List Event). lists x 0 ∷ l) (lists-said false xs (defs_to ds (mark ∷ k)) ∙ ap (lists_to xs) (defs_said ds true false k e))

file_said : (f : File) → one_start f.defs ≡ true → said_from (top false) (tokens_of f) ≡ declares_to f.defs (defines_to f.first (all_to f.more))
unfolding tokens_of
file_said f e =
    defs_said f.defs false false (rule_to f.first (rules_to f.more)) e
    ∙ ap (declares_to f.defs) (first_said f.first (rules_to f.more) ∙ ap (defines_to f.first) (rules_said f.more))

-- the events of a text, without places, are its file's
pub events_file : (l : Layout) → Sound l → map said (events (top false) (placed 0 l.pieces)) ≡ declares_to l.file.defs (defines_to l.file.first (all_to l.file.more))
events_file l S =
    events-said (top false) (placed 0 l.pieces)
    ∙ ap (said_from (top false)) (tokens-placed 0 l.pieces ∙ S.written)
    ∙ file_said l.file S.once

-- what an event says of ids alone is the file's
joined_said : (g : Event → List Id) → ((e : Event) → g (said e) ≡ g e) → (es : List Event) → joined g (map said es) ≡ joined g es
unfolding joined
joined_said g h [] = refl
joined_said g h (e ∷ es) = ap (λ (k : List Id). k ++ joined g (map said es)) (h e) ∙ ap (λ (k : List Id). g e ++ k) (joined_said g h es)

pub joined_file : (g : Event → List Id) → ((e : Event) → g (said e) ≡ g e) → (l : Layout) → Sound l
    → joined g (events (top false) (placed 0 l.pieces)) ≡ joined g (declares_to l.file.defs (defines_to l.file.first (all_to l.file.more)))
joined_file g h l S = sym (joined_said g h (events (top false) (placed 0 l.pieces))) ∙ ap (joined g) (events_file l S)

-- the body so far, without places
abbrev ids_of : List Use → List Id
ids_of us = map (λ u. u.id) us

ids_more : (us : List Use) (u : Use) → ids_of (us ++ (u ∷ [])) ≡ ids_of us ++ (u.id ∷ [])
ids_more [] u = refl
ids_more (v ∷ us) u = ap (λ (l : List Id). v.id ∷ l) (ids_more us u)

-- alternatives without spans hang on the events without places
bare-said : (l : Id) (us vs : List Use) (es : List Event) → ids_of us ≡ ids_of vs → map bare_of (alternatives_from l us es) ≡ map bare_of (alternatives_from l vs (map said es))
unfolding alternatives_from alternative
bare-said l us vs [] e = refl
bare-said l us vs (lists x at ∷ es) e = bare-said l us vs es e
bare-said l us vs (opens x ∷ es) e = bare-said l us vs es e
bare-said l us vs (defines x at ∷ es) e = bare-said x [] [] es refl
bare-said l us vs (uses x from past ∷ es) e =
    bare-said l (us ++ (record { id = x; from = from; past = past } ∷ [])) (vs ++ (record { id = x; from = 0; past = 0 } ∷ [])) es
    (ids_more us (record { id = x; from = from; past = past }) ∙ ap (λ (k : List Id). k ++ (x ∷ [])) e ∙ sym (ids_more vs (record { id = x; from = 0; past = 0 })))
bare-said l us vs (shuts at ∷ es) e =
    ap (λ (k : List Id). record { left = l; ids = k } ∷ map bare_of (alternatives_from l [] es)) e
    ∙ ap (λ (k : List Bare). record { left = l; ids = ids_of vs } ∷ k) (bare-said l [] [] es refl)

abbrev plain : List Id → List Use
plain xs = map (λ x. record { id = x; from = 0; past = 0 }) xs

plain_ids : (xs : List Id) → ids_of (plain xs) ≡ xs
plain_ids [] = refl
plain_ids (x ∷ xs) = ap (λ (l : List Id). x ∷ l) (plain_ids xs)

uses-read : (l : Id) (us : List Use) (xs : List Id) (k : List Event) → alternatives_from l us (uses_to xs k) ≡ alternatives_from l (us ++ plain xs) k
unfolding alternatives_from
uses-read l us [] k = ap (λ (u : List Use). alternatives_from l u k) (sym (append-nil us))
uses-read l us (x ∷ xs) k =
    uses-read l (us ++ (record { id = x; from = 0; past = 0 } ∷ [])) xs k
    ∙ ap (λ (u : List Use). alternatives_from l u k) (append_assoc us (record { id = x; from = 0; past = 0 } ∷ []) (plain xs))

body-read : (l : Id) (b : List Id) (k : List Event) → map bare_of (alternatives_from l [] (uses_to b (shuts 0 ∷ k))) ≡ record { left = l; ids = b } ∷ map bare_of (alternatives_from l [] k)
unfolding alternatives_from alternative
body-read l b k =
    ap (map bare_of) (uses-read l [] b (shuts 0 ∷ k))
    ∙ ap (λ (x : List Id). record { left = l; ids = x } ∷ map bare_of (alternatives_from l [] k)) (plain_ids b)

bodies_read : (l : Id) (b : List Id) (cs : List (List Id)) (k : List Event)
    → map bare_of (alternatives_from l [] (bodies_to b cs k)) ≡ record { left = l; ids = b } ∷ (map (λ c. record { left = l; ids = c }) cs ++ map bare_of (alternatives_from l [] k))
bodies_read l b [] k = body-read l b k
bodies_read l b (c ∷ cs) k = body-read l b (bodies_to c cs k) ∙ ap (λ (x : List Bare). record { left = l; ids = b } ∷ x) (bodies_read l c cs k)

rules_read : (rs : List Rule) (l : Id) (us : List Use) → map bare_of (alternatives_from l us (all_to rs)) ≡ joined rule_bares rs
unfolding alternatives_from joined rule_bares
rules_read [] l us = refl
rules_read (rule n ns b cs ∷ rs) l us =
    bodies_read (named n ns) b cs (all_to rs)
    ∙ ap (λ (x : List Bare). record { left = named n ns; ids = b } ∷ (map (λ c. record { left = named n ns; ids = c }) cs ++ x)) (rules_read rs (named n ns) [])

lists-read : (l : Id) (us : List Use) (xs : List Id) (k : List Event) → alternatives_from l us (lists_to xs k) ≡ alternatives_from l us k
unfolding alternatives_from
lists-read l us [] k = refl
lists-read l us (x ∷ xs) k = lists-read l us xs k

defs_read : (l : Id) (us : List Use) (ds : List Def) (k : List Event) → alternatives_from l us (declares_to ds k) ≡ alternatives_from l us k
unfolding alternatives_from
defs_read l us [] k = refl
defs_read l us (starts x ∷ ds) k = defs_read l us ds k
defs_read l us (tokens x xs ∷ ds) k = lists-read l us xs (declares_to ds k) ∙ defs_read l us ds k

all_rules : (r : Rule) (rs : List Rule) → joined rule_bares (r ∷ rs) ≡ rule_bares r ++ joined rule_bares rs
unfolding joined
all_rules r rs = refl

-- the alternatives that are read are the file's
pub read_alternatives : (l : Layout) → Sound l → map bare_of (source_in l.pieces).alternatives ≡ file_bares l.file
unfolding source_in source_of file_bares
read_alternatives l S =
    bare-said no_id [] [] (events (top false) (placed 0 l.pieces)) refl
    ∙ ap (λ (es : List Event). map bare_of (alternatives_from no_id [] es)) (events_file l S)
    ∙ ap (map bare_of) (defs_read no_id [] l.file.defs (all_to (l.file.first ∷ l.file.more)))
    ∙ rules_read (l.file.first ∷ l.file.more) no_id []
    ∙ all_rules l.file.first l.file.more

-- every left side that an alternative has is one that was defined; K are the nonterminals
abbrev Defined : List Known → List Event → Type 0
Defined K [] = Unit {0}
Defined K (lists x at ∷ es) = Defined K es
Defined K (opens x ∷ es) = Defined K es
Defined K (defines x at ∷ es) = (is_known K x ≡ true) × Defined K es
Defined K (uses x from past ∷ es) = Defined K es
Defined K (shuts at ∷ es) = Defined K es

abbrev Sided : List Known → Id → List Event → Type 0
Sided K l [] = Unit {0}
Sided K l (lists x at ∷ es) = Sided K l es
Sided K l (opens x ∷ es) = Sided K l es
Sided K l (defines x at ∷ es) = Sided K x es
Sided K l (uses x from past ∷ es) = Sided K l es
Sided K l (shuts at ∷ es) = (is_known K l ≡ true) × Sided K l es

module _ (K : List Known) where
  defined_said : (es : List Event) → Defined K es → Defined K (map said es)
  defined_said [] D = tt
  defined_said (lists x at ∷ es) D = defined_said es D
  defined_said (opens x ∷ es) D = defined_said es D
  defined_said (defines x at ∷ es) D = (D.0, defined_said es D.1)
  defined_said (uses x from past ∷ es) D = defined_said es D
  defined_said (shuts at ∷ es) D = defined_said es D

  sided-back : (l : Id) (es : List Event) → Sided K l (map said es) → Sided K l es
  sided-back l [] D = tt
  sided-back l (lists x at ∷ es) D = sided-back l es D
  sided-back l (opens x ∷ es) D = sided-back l es D
  sided-back l (defines x at ∷ es) D = sided-back x es D
  sided-back l (uses x from past ∷ es) D = sided-back l es D
  sided-back l (shuts at ∷ es) D = (D.0, sided-back l es D.1)

  defined_uses : (xs : List Id) (k : List Event) → Defined K (uses_to xs k) → Defined K k
  defined_uses [] k D = D
  defined_uses (x ∷ xs) k D = defined_uses xs k D

  defined_bodies : (b : List Id) (cs : List (List Id)) (k : List Event) → Defined K (bodies_to b cs k) → Defined K k
  defined_bodies b [] k D = defined_uses b (shuts 0 ∷ k) D
  defined_bodies b (c ∷ cs) k D = defined_bodies c cs k (defined_uses b (shuts 0 ∷ bodies_to c cs k) D)

  sided-uses : (l : Id) (xs : List Id) (k : List Event) → Sided K l k → Sided K l (uses_to xs k)
  sided-uses l [] k D = D
  sided-uses l (x ∷ xs) k D = sided-uses l xs k D

  sided_bodies : (l : Id) (b : List Id) (cs : List (List Id)) (k : List Event) → is_known K l ≡ true → Sided K l k → Sided K l (bodies_to b cs k)
  sided_bodies l b [] k e D = sided-uses l b (shuts 0 ∷ k) (e, D)
  sided_bodies l b (c ∷ cs) k e D = sided-uses l b (shuts 0 ∷ bodies_to c cs k) (e, sided_bodies l c cs k e D)

  sided_rules : (rs : List Rule) (l : Id) → Defined K (all_to rs) → Sided K l (all_to rs)
  sided_rules [] l D = tt
  sided_rules (rule n ns b cs ∷ rs) l D = sided_bodies (named n ns) b cs (all_to rs) D.0 (sided_rules rs (named n ns) (defined_bodies b cs (all_to rs) D.1))

  defined_lists : (xs : List Id) (k : List Event) → Defined K (lists_to xs k) → Defined K k
  defined_lists [] k D = D
  defined_lists (x ∷ xs) k D = defined_lists xs k D

  defined_defs : (ds : List Def) (k : List Event) → Defined K (declares_to ds k) → Defined K k
  defined_defs [] k D = D
  defined_defs (starts x ∷ ds) k D = defined_defs ds k D
  defined_defs (tokens x xs ∷ ds) k D = defined_defs ds k (defined_lists xs (declares_to ds k) D)

  sided-lists : (l : Id) (xs : List Id) (k : List Event) → Sided K l k → Sided K l (lists_to xs k)
  sided-lists l [] k D = D
  sided-lists l (x ∷ xs) k D = sided-lists l xs k D

  sided_defs : (l : Id) (ds : List Def) (k : List Event) → Sided K l k → Sided K l (declares_to ds k)
  sided_defs l [] k D = D
  sided_defs l (starts x ∷ ds) k D = sided_defs l ds k D
  sided_defs l (tokens x xs ∷ ds) k D = sided-lists l xs (declares_to ds k) (sided_defs l ds k D)

  sided_lefts : (l : Id) (us : List Use) (es : List Event) → Sided K l es → All (λ (a : Alternative). is_known K a.left ≡ true) (alternatives_from l us es)
  unfolding All alternatives_from alternative
  sided_lefts l us [] D = tt
  sided_lefts l us (lists x at ∷ es) D = sided_lefts l us es D
  sided_lefts l us (opens x ∷ es) D = sided_lefts l us es D
  sided_lefts l us (defines x at ∷ es) D = sided_lefts x [] es D
  sided_lefts l us (uses x from past ∷ es) D = sided_lefts l (us ++ (record { id = x; from = from; past = past } ∷ [])) es D
  sided_lefts l us (shuts at ∷ es) D = (D.0, sided_lefts l [] es D.1)

defined_all : (K : List Known) (es : List Event) → All (λ (o : Known). is_known K o.id ≡ true) (joined left_side es) → Defined K es
unfolding All joined left_side
defined_all K [] A = tt
defined_all K (lists x at ∷ es) A = defined_all K es A
defined_all K (opens x ∷ es) A = defined_all K es A
defined_all K (defines x at ∷ es) A = (A.0, defined_all K es A.1)
defined_all K (uses x from past ∷ es) A = defined_all K es A
defined_all K (shuts at ∷ es) A = defined_all K es A

pub lefts_known : (l : Layout) → Sound l → All (λ (a : Alternative). is_known (source_in l.pieces).nonterminals a.left ≡ true) (source_in l.pieces).alternatives
unfolding source_in source_of
lefts_known l S =
    let es = events (top false) (placed 0 l.pieces) in
    let K = entered [] (joined left_side es) in
    let rs = l.file.first ∷ l.file.more in
    let D : Defined K (declares_to l.file.defs (all_to rs)) = subst (Defined K) (events_file l S) (defined_said K es (defined_all K es (entered_all (joined left_side es) []))) in
    let B : Sided K no_id (map said es) = subst (Sided K no_id) (sym (events_file l S)) (sided_defs K no_id l.file.defs (all_to rs) (sided_rules K rs no_id (defined_defs K l.file.defs (all_to rs) D))) in
    sided_lefts K no_id [] es (sided-back K no_id es B)

-- a file has a rule, so there is an alternative
first-bare : (n : ℕ) (ns : List ℕ) (b : List Id) (cs : List (List Id)) (k : List Bare) → 1 ≤ length (rule_bares (rule n ns b cs) ++ k)
unfolding rule_bares
first-bare n ns b cs k = omega arith

some-bare : (f : File) → 1 ≤ length (file_bares f)
unfolding file_bares
some-bare f = by f.first (joined rule_bares f.more)
  where
    by : (r : Rule) (k : List Bare) → 1 ≤ length (rule_bares r ++ k)
    by (rule n ns b cs) k = first-bare n ns b cs k

pub some-alternative : (l : Layout) → Sound l → 1 ≤ length (source_in l.pieces).alternatives
some-alternative l S =
    let e = ap length (read_alternatives l S) in
    let m = length_mapped bare_of (source_in l.pieces).alternatives in
    let o = some-bare l.file in
    omega arith
