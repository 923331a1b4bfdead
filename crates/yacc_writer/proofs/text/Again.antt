-- What is written is read back: the same counts, owners, symbols and chains, start 0; and written again it is the same bytes.
use Prim.Native.Nat.{ℕ, zero, suc, ◌+◌, ◌≤◌, ◌<◌}
use native.Mathlib.Omega.{arith}
use mathlib.Core.Bool.{Bool, true, false, ◌&&◌}
use mathlib.Core.Path.{◌≡◌, refl, sym, ap, ◌∙◌, subst}
use mathlib.Core.List.{List, [], ◌∷◌, ◌++◌, map, append-nil}
use lib.Dec.{eqb, leb}
use lib.ListN.{length, get_or}
use borrow.Author.Tests.{eqb-true, eq-eqb, leb-true, lt-ltb, ltb-true}
use Rattle.lr1_base.specs.repr.Lists.{up_from, below, mem, keep, some?, joined}
use Rattle.lr1_base.specs.repr.Meaning.{Symbol, nonterminal, terminal, is_same_symbol, Production, Table, no_production, production_at, SymbolFits, All, ProductionFits, TableFits}
use Rattle.lr1_base.proofs.repr.Lists.{cases, clash, length_mapped, length-map-below, get_d_map, mem-nil, mem-cons_here, mem_below, mem-keep, mem_index, keep-yes, keep_no}
use Rattle.lr1_base.proofs.repr.Tests.{All_at, some?_no, some?-nil}
use Rattle.table_rewrite.specs.spelling.Spelled.{owns, Ordered}
use Rattle.table_rewrite.proofs.spelling.Rising.{Rising, rising_wider, rising_from}
use Rattle.yacc_syntax.specs.text.Grammar.{Id, named, quoted, Token, mark, colon, semi, spell_all}
use Rattle.yacc_syntax.specs.text.Places.{placed}
use Rattle.yacc_syntax.specs.text.Forward.{top}
use Rattle.yacc_reader.specs.parsed_file.Events.{Event, lists, opens, defines, uses, shuts, events}
use Rattle.yacc_reader.specs.parsed_file.Source.{same_id, Known, is_known, number_in, left_side, literal_use, token_use, start_use, Alternative, Source, source_of}
use Rattle.yacc_reader.specs.parsed_file.Files.{Bare, bare_of, rule_bares, file_bares}
use Rattle.yacc_reader.specs.parsed_file.Meaning.{symbol_of, production_of, productions_of, table_of, start_of}
use Rattle.yacc_reader.specs.parsed_file.Outcome.{source_in}
use Rattle.yacc_reader.proofs.parsed_file.Said.{said, uses_to, defines_to, all_to, lists_to, declares_to, joined_file, read_alternatives}
use Rattle.yacc_reader.proofs.parsed_file.Ids.{ids_of, known_id, number_id, entered_ids, known_ids, number_ids, entered_ids_lem, joined-ids}
use Rattle.yacc_writer.specs.text.Text.{ascending, name_of, name_token, token_line, production_line, lines, line, pieces_of, text_of}
use Rattle.yacc_writer.specs.text.Files.{rule_of, defs_of, file_of, layout_of}
use Rattle.yacc_writer.proofs.text.Names.{number_of}
use Rattle.yacc_writer.proofs.text.Sound.{layout_sound, token_small}
use Rattle.yacc_writer.proofs.text.Order.{names_differ, known_below, number-below_is, Follows, entered_follows, Firsts, follows}
use Rattle.lr1_base.proofs.laws.Bools.{and-true}

-- first productions that ascend
head_or : List ℕ → ℕ
head_or [] = 0
head_or (x ∷ xs) = x

asc_low : (ns : List (List ℕ)) (lo a : ℕ) → ascending lo ns ≡ true → a < length ns → lo ≤ head_or (get_or ns a [])
unfolding ascending head_or
asc_low [] lo a e h = absurd (omega arith)
asc_low ([] ∷ ns) lo a e h = clash false e refl
asc_low ((q ∷ qs) ∷ ns) lo zero e h = leb-true lo q (and-true (leb lo q) (ascending (suc q) ns) e).0
asc_low ((q ∷ qs) ∷ ns) lo (suc a) e h =
    let s = and-true (leb lo q) (ascending (suc q) ns) e in
    let l = leb-true lo q s.0 in
    let i = asc_low ns (suc q) a s.1 (omega arith) in
    omega arith

asc_rise : (ns : List (List ℕ)) (lo a b : ℕ) → ascending lo ns ≡ true → a < b → b < length ns → head_or (get_or ns a []) < head_or (get_or ns b [])
unfolding ascending head_or
asc_rise [] lo a b e g h = absurd (omega arith)
asc_rise ([] ∷ ns) lo a b e g h = clash false e refl
asc_rise ((q ∷ qs) ∷ ns) lo a zero e g h = absurd (omega arith)
asc_rise ((q ∷ qs) ∷ ns) lo zero (suc b) e g h = asc_low ns (suc q) b (and-true (leb lo q) (ascending (suc q) ns) e).1 (omega arith)
asc_rise ((q ∷ qs) ∷ ns) lo (suc a) (suc b) e g h = asc_rise ns (suc q) a b (and-true (leb lo q) (ascending (suc q) ns) e).1 (omega arith) (omega arith)

asc_some : (ns : List (List ℕ)) (lo a : ℕ) → ascending lo ns ≡ true → a < length ns → mem (head_or (get_or ns a [])) (get_or ns a []) ≡ true
unfolding ascending head_or
asc_some [] lo a e h = absurd (omega arith)
asc_some ([] ∷ ns) lo a e h = clash false e refl
asc_some ((q ∷ qs) ∷ ns) lo zero e h = mem-cons_here q qs
asc_some ((q ∷ qs) ∷ ns) lo (suc a) e h = asc_some ns (suc q) a (and-true (leb lo q) (ascending (suc q) ns) e).1 (omega arith)

keep_rising : (t : ℕ → Bool) (k lo : ℕ) → Rising lo (keep t (up_from lo k))
unfolding Rising keep up_from
keep_rising t zero lo = tt
keep_rising t (suc k) lo =
    cases (t lo) (λ e. subst (Rising lo) (sym (keep-yes t lo (up_from (suc lo) k) e)) (omega arith, keep_rising t k (suc lo)))
    (λ e. subst (Rising lo) (sym (keep_no t lo (up_from (suc lo) k) e)) (rising_wider lo (suc lo) (keep t (up_from (suc lo) k)) (omega arith) (keep_rising t k (suc lo))))

head-least : (xs : List ℕ) (q : ℕ) → Rising 0 xs → mem q xs ≡ true → head_or xs ≤ q
unfolding Rising head_or
head-least [] q R m = clash (mem q []) m (mem-nil q)
head-least (x ∷ xs) q R m = rising_from x q (x ∷ xs) (omega arith, R.1) m

-- the table's owners, and the first production of each
abbrev owners : Table → List ℕ
owners T = map (λ q. q.nonterminal) T.productions

abbrev first_of : Table → ℕ → ℕ
first_of T a = head_or (get_or T.nonterminals a [])

module _ (T : Table) (F : TableFits T) (O : Ordered T) (A : ascending 0 T.nonterminals ≡ true) where
  owner_at : (q : ℕ) → q < length T.productions → get_or (owners T) q 0 ≡ (production_at T q).nonterminal
  owner_at q h = get_d_map (λ x. x.nonterminal) T.productions q no_production 0 h

  first_in : (a : ℕ) → a < length T.nonterminals → (first_of T a < length T.productions) × ((production_at T (first_of T a)).nonterminal ≡ a)
  unfolding owns
  first_in a h =
      let m : mem (first_of T a) (keep (owns T a) (below (length T.productions))) ≡ true = subst (λ (l : List ℕ). mem (first_of T a) l ≡ true) (O.lists a h) (asc_some T.nonterminals 0 a A h) in
      let s = and-true (mem (first_of T a) (below (length T.productions))) (owns T a (first_of T a)) (sym (mem-keep (owns T a) (first_of T a) (below (length T.productions))) ∙ m) in
      (ltb-true (first_of T a) (length T.productions) (sym (mem_below (first_of T a) (length T.productions)) ∙ s.0), eqb-true (production_at T (first_of T a)).nonterminal a s.1)

  owner_small : (q : ℕ) → q < length T.productions → (production_at T q).nonterminal < length T.nonterminals
  owner_small q h = (All_at (ProductionFits T) T.productions q no_production F.productions h).owner

  first-least : (q : ℕ) → q < length T.productions → first_of T (production_at T q).nonterminal ≤ q
  unfolding owns below
  first-least q h =
      let a = (production_at T q).nonterminal in
      let e = O.lists a (owner_small q h) in
      let m : mem q (keep (owns T a) (below (length T.productions))) ≡ true =
      mem-keep (owns T a) q (below (length T.productions))
      ∙ ap (λ (x : Bool). x && owns T a q) (mem_below q (length T.productions) ∙ lt-ltb q (length T.productions) h)
      ∙ eq-eqb a a refl in
      subst (λ (l : List ℕ). head_or l ≤ q) (sym e) (head-least (keep (owns T a) (below (length T.productions))) q (keep_rising (owns T a) (length T.productions) 0) m)

  table_firsts : Firsts (owners T) (length T.nonterminals) (first_of T)
  table_firsts =
      let c = length_mapped (λ (x : Production). x.nonterminal) T.productions in
      record {
        inside = λ a h. let i = (first_in a h).0 in omega arith;
        owner = λ a h. let i = first_in a h in owner_at (first_of T a) i.0 ∙ i.1;
        least = λ q h. let k : q < length T.productions = omega arith in subst (λ (x : ℕ). first_of T x ≤ q) (sym (owner_at q k)) (first-least q k);
        rising = λ a b g h. asc_rise T.nonterminals 0 a b A g h;
        small = λ q h. let k : q < length T.productions = omega arith in subst (λ (x : ℕ). x < length T.nonterminals) (sym (owner_at q k)) (owner_small q k);
      }

-- the ids of what is read back
left_ids : Event → List Id
left_ids e = ids_of (left_side e)

token_ids : Event → List Id
token_ids e = ids_of (token_use e)

left-said : (e : Event) → left_ids (said e) ≡ left_ids e
unfolding left_ids left_side
left-said (lists x at) = refl
left-said (opens x) = refl
left-said (defines x at) = refl
left-said (uses x from past) = refl
left-said (shuts at) = refl

literal_said : (x : Id) (a b : ℕ) → ids_of (literal_use x a) ≡ ids_of (literal_use x b)
unfolding literal_use
literal_said (named n ns) a b = refl
literal_said (quoted c) a b = refl

token-said : (e : Event) → token_ids (said e) ≡ token_ids e
unfolding token_ids token_use
token-said (lists x at) = refl
token-said (opens x) = refl
token-said (defines x at) = refl
token-said (uses x from past) = literal_said x 0 from
token-said (shuts at) = refl

start-said : (e : Event) → start_use (said e) ≡ start_use e
unfolding start_use
start-said (lists x at) = refl
start-said (opens x) = refl
start-said (defines x at) = refl
start-said (uses x from past) = refl
start-said (shuts at) = refl

-- a function of events that says nothing of names in bodies and of their ends
module _ (g : Event → List Id) (unused : (s : Symbol) → g (uses (name_of s) 0 0) ≡ []) (shut : g (shuts 0) ≡ []) where
  body_silent : (ss : List Symbol) (k : List Event) → joined g (uses_to (map name_of ss) (shuts 0 ∷ k)) ≡ joined g k
  unfolding joined
  body_silent [] k = ap (λ (l : List Id). l ++ joined g k) shut
  body_silent (s ∷ ss) k = ap (λ (l : List Id). l ++ joined g (uses_to (map name_of ss) (shuts 0 ∷ k))) (unused s) ∙ body_silent ss k

  rule_silent : (q : Production) (k : List Event) → joined g (defines_to (rule_of q) k) ≡ g (defines (name_of (nonterminal q.nonterminal)) 0) ++ joined g k
  unfolding joined rule_of name_of
  rule_silent q k = ap (λ (l : List Id). g (defines (name_of (nonterminal q.nonterminal)) 0) ++ l) (body_silent q.symbols k)

  rules_silent : (qs : List Production) → joined g (all_to (map rule_of qs)) ≡ joined (λ q. g (defines (name_of (nonterminal q.nonterminal)) 0)) qs
  unfolding joined
  rules_silent [] = refl
  rules_silent (q ∷ qs) = rule_silent q (all_to (map rule_of qs)) ∙ ap (λ (l : List Id). g (defines (name_of (nonterminal q.nonterminal)) 0) ++ l) (rules_silent qs)

lists-none : (g : Event → List Id) → ((x : Id) → g (lists x 0) ≡ []) → (xs : List Id) (k : List Event) → joined g (lists_to xs k) ≡ joined g k
unfolding joined
lists-none g h [] k = refl
lists-none g h (x ∷ xs) k = ap (λ (l : List Id). l ++ joined g (lists_to xs k)) (h x) ∙ lists-none g h xs k

defs_none : (g : Event → List Id) → ((x : Id) → g (lists x 0) ≡ []) → (n : ℕ) (k : List Event) → joined g (declares_to (defs_of n) k) ≡ joined g k
unfolding defs_of joined
defs_none g h zero k = refl
defs_none g h (suc n) k = ap (λ (l : List Id). l ++ joined g (lists_to (map (λ t. name_of (terminal t)) (up_from 1 n)) k)) (h (name_of (terminal 0))) ∙ lists-none g h (map (λ t. name_of (terminal t)) (up_from 1 n)) k

lists_each : (xs : List Id) (k : List Event) → joined token_ids (lists_to xs k) ≡ xs ++ joined token_ids k
unfolding joined token_ids token_use
lists_each [] k = refl
lists_each (x ∷ xs) k = ap (λ (l : List Id). x ∷ l) (lists_each xs k)

defs_each : (n : ℕ) (k : List Event) → joined token_ids (declares_to (defs_of n) k) ≡ map (λ t. name_of (terminal t)) (below n) ++ joined token_ids k
unfolding defs_of joined token_ids token_use below up_from
defs_each zero k = refl
defs_each (suc n) k = ap (λ (l : List Id). name_of (terminal 0) ∷ l) (lists_each (map (λ t. name_of (terminal t)) (up_from 1 n)) k)

token_silent : (s : Symbol) → token_ids (uses (name_of s) 0 0) ≡ []
unfolding token_ids token_use literal_use name_of
token_silent (nonterminal n) = refl
token_silent (terminal n) = refl

nothing : (qs : List Production) → joined (λ q. token_ids (defines (name_of (nonterminal q.nonterminal)) 0)) qs ≡ []
unfolding joined token_ids token_use
nothing [] = refl
nothing (q ∷ qs) = nothing qs

no_start_lem : (qs : List Production) → joined (λ q. start_use (defines (name_of (nonterminal q.nonterminal)) 0)) qs ≡ []
unfolding joined start_use
no_start_lem [] = refl
no_start_lem (q ∷ qs) = no_start_lem qs

each_left : (qs : List Production) → joined (λ q. left_ids (defines (name_of (nonterminal q.nonterminal)) 0)) qs ≡ map (λ n. name_of (nonterminal n)) (map (λ q. q.nonterminal) qs)
unfolding joined left_ids left_side
each_left [] = refl
each_left (q ∷ qs) = ap (λ (l : List Id). name_of (nonterminal q.nonterminal) ∷ l) (each_left qs)

left_silent : (s : Symbol) → left_ids (uses (name_of s) 0 0) ≡ []
unfolding left_ids left_side
left_silent s = refl

left_shut : left_ids (shuts 0) ≡ []
unfolding left_ids left_side
left_shut = refl

left-lists : (x : Id) → left_ids (lists x 0) ≡ []
unfolding left_ids left_side
left-lists x = refl

token_shut : token_ids (shuts 0) ≡ []
unfolding token_ids token_use
token_shut = refl

start_silent : (s : Symbol) → start_use (uses (name_of s) 0 0) ≡ []
unfolding start_use
start_silent s = refl

start_shut : start_use (shuts 0) ≡ []
unfolding start_use
start_shut = refl

start-lists : (x : Id) → start_use (lists x 0) ≡ []
unfolding start_use
start-lists x = refl

abbrev events_of : Table → List Event
events_of T = events (top false) (placed 0 (pieces_of T))

module _ (T : Table) (p : Production) (ps : List Production) (F : TableFits T) (e : T.productions ≡ p ∷ ps) where
  as_file : (g : Event → List Id) → ((x : Event) → g (said x) ≡ g x) → joined g (events_of T) ≡ joined g (declares_to (defs_of T.terminals) (all_to (map rule_of T.productions)))
  unfolding layout_of file_of
  as_file g h = joined_file g h (layout_of T p ps) (layout_sound T p ps F e) ∙ ap (λ (qs : List Production). joined g (declares_to (defs_of T.terminals) (all_to (map rule_of qs)))) (sym e)

  lefts_back : joined left_ids (events_of T) ≡ map (λ n. name_of (nonterminal n)) (owners T)
  lefts_back = as_file left_ids left-said ∙ defs_none left_ids left-lists T.terminals (all_to (map rule_of T.productions)) ∙ rules_silent left_ids left_silent left_shut T.productions ∙ each_left T.productions

  tokens-back : joined token_ids (events_of T) ≡ map (λ t. name_of (terminal t)) (below T.terminals)
  tokens-back =
      as_file token_ids token-said
      ∙ defs_each T.terminals (all_to (map rule_of T.productions))
      ∙ ap (λ (l : List Id). map (λ t. name_of (terminal t)) (below T.terminals) ++ l) (rules_silent token_ids token_silent token_shut T.productions ∙ nothing T.productions)
      ∙ append-nil (map (λ t. name_of (terminal t)) (below T.terminals))

  -- no START
  pub starts-back : (source_in (pieces_of T)).starts ≡ []
  unfolding source_in source_of
  starts-back = as_file start_use start-said ∙ defs_none start_use start-lists T.terminals (all_to (map rule_of T.productions)) ∙ rules_silent start_use start_silent start_shut T.productions ∙ no_start_lem T.productions

-- numbered as before
abbrev pub N_name : ℕ → Id
N_name n = name_of (nonterminal n)

abbrev pub T_name : ℕ → Id
T_name t = name_of (terminal t)

small_N : (a : ℕ) → a < 63 → number_of (nonterminal a) < 63
unfolding number_of
small_N a h = h

pub N_differ : (a b : ℕ) → a < 63 → b < 63 → same_id (N_name a) (N_name b) ≡ eqb a b
unfolding is_same_symbol
N_differ a b g h = names_differ (nonterminal a) (nonterminal b) (small_N a g) (small_N b h)

pub T_differ : (a b : ℕ) → a < 63 → b < 63 → same_id (T_name a) (T_name b) ≡ eqb a b
unfolding is_same_symbol
T_differ a b g h = names_differ (terminal a) (terminal b) (token_small a g) (token_small b h)

pub N-T : (a b : ℕ) → a < 63 → b < 63 → same_id (N_name a) (T_name b) ≡ false
unfolding is_same_symbol
N-T a b g h = names_differ (nonterminal a) (terminal b) (small_N a g) (token_small b h)

T-N : (a b : ℕ) → a < 63 → b < 63 → same_id (T_name a) (N_name b) ≡ false
unfolding is_same_symbol
T-N a b g h = names_differ (terminal a) (nonterminal b) (token_small a g) (small_N b h)

follows_up : (k c : ℕ) → Follows c (up_from c k) (c + k)
unfolding Follows up_from
follows_up zero c = omega arith
follows_up (suc k) c = (
  omega arith,
  (let z : suc c + k ≡ c + suc k = omega arith in
      rw (eq-eqb c c refl) (subst (λ (n : ℕ). Follows (suc c) (up_from (suc c) k) n) z (follows_up k (suc c)))),
)

-- a test that fails of each name
pub none_up : (t : Id → Bool) (f : ℕ → Id) (k from : ℕ) → ((b : ℕ) → b < from + k → t (f b) ≡ false) → some? t (map f (up_from from k)) ≡ false
unfolding up_from
none_up t f zero from h = some?-nil t
none_up t f (suc k) from h = some?_no t (f from) (map f (up_from (suc from) k)) (h from (omega arith)) ∙ none_up t f k (suc from) (λ b l. h b (omega arith))

none_known : (k from a : ℕ) → a < 63 → from + k ≤ 63 → known_id (map N_name (up_from from k)) (T_name a) ≡ false
unfolding known_id
none_known k from a g h = none_up (λ y. same_id (T_name a) y) N_name k from (λ b l. T-N a b g (omega arith))

-- a production's alternative
abbrev pub mk : Production → Bare
mk q = record { left = N_name q.nonterminal; ids = map name_of q.symbols }

bares : (qs : List Production) → joined rule_bares (map rule_of qs) ≡ map mk qs
unfolding joined rule_bares rule_of name_of
bares [] = refl
bares (q ∷ qs) = ap (λ (l : List Bare). mk q ∷ l) (bares qs)

whole_file : (n : ℕ) (p : Production) (ps : List Production) → file_bares (file_of n p ps) ≡ joined rule_bares (map rule_of (p ∷ ps))
unfolding file_bares file_of joined
whole_file n p ps = refl

pub table_terminals : (S : Source) → (table_of S).terminals ≡ length S.terminals
unfolding table_of
table_terminals S = refl

-- lines hang on owners and symbols alone
same_lines : (ps qs : List Production) → map (λ q. q.nonterminal) ps ≡ map (λ q. q.nonterminal) qs → map (λ q. q.symbols) ps ≡ map (λ q. q.symbols) qs → map production_line ps ≡ map production_line qs
unfolding production_line
same_lines [] [] a b = refl
same_lines [] (q ∷ qs) a b = let z : ◌≡◌ {A = ℕ} 0 1 = cc in absurd (omega arith)
same_lines (p ∷ ps) [] a b = let z : ◌≡◌ {A = ℕ} 0 1 = cc in absurd (omega arith)
same_lines (p ∷ ps) (q ∷ qs) a b =
    let o : p.nonterminal ≡ q.nonterminal = cc in
    let s : p.symbols ≡ q.symbols = cc in
    let c : map (λ (x : Production). x.nonterminal) ps ≡ map (λ (x : Production). x.nonterminal) qs = cc in
    let d : map (λ (x : Production). x.symbols) ps ≡ map (λ (x : Production). x.symbols) qs = cc in
    ap (λ (n : ℕ). (name_token (nonterminal n) ∷ colon ∷ (map name_token p.symbols ++ (semi ∷ []))) ∷ map production_line ps) o
    ∙ ap (λ (l : List Symbol). (name_token (nonterminal q.nonterminal) ∷ colon ∷ (map name_token l ++ (semi ∷ []))) ∷ map production_line ps) s
    ∙ ap (λ (l : List (List Token)). production_line q ∷ l) (same_lines ps qs c d)

module _ (T : Table) (p : Production) (ps : List Production) (F : TableFits T) (e : T.productions ≡ p ∷ ps) (O : Ordered T) (A : ascending 0 T.nonterminals ≡ true) where
  abbrev Q : Source
  Q = source_in (pieces_of T)

  owner_member : (i : ℕ) → mem i (owners T) ≡ true → i < length T.nonterminals
  owner_member i m =
      let x = mem_index i (owners T) 0 m in
      let s = (table_firsts T F O A).small x.0 x.1 in
      subst (λ (j : ℕ). j < length T.nonterminals) x.2 s

  pub ids_N : ids_of Q.nonterminals ≡ map N_name (below (length T.nonterminals))
  unfolding source_in source_of left_ids below up_from
  ids_N =
      let f = F.few_nonterminals in
      entered_ids_lem (joined left_side (events_of T)) []
      ∙ ap (entered_ids []) (joined-ids left_side (events_of T) ∙ lefts_back T p ps F e)
      ∙ entered_follows N_name N_differ (owners T) 0 (length T.nonterminals) (omega arith) (omega arith) (follows (owners T) (length T.nonterminals) (first_of T) (table_firsts T F O A)) owner_member

  pub ids_T : ids_of Q.terminals ≡ map T_name (below T.terminals)
  unfolding source_in source_of token_ids below up_from
  ids_T =
      let z : 0 + T.terminals ≡ T.terminals = omega arith in
      let f = F.few_terminals in
      entered_ids_lem (joined token_use (events_of T)) []
      ∙ ap (entered_ids []) (joined-ids token_use (events_of T) ∙ tokens-back T p ps F e)
      ∙ entered_follows T_name T_differ (below T.terminals) 0 T.terminals f (omega arith) (subst (λ (n : ℕ). Follows 0 (up_from 0 T.terminals) n) z (follows_up T.terminals 0)) (λ i m. ltb-true i T.terminals (sym (mem_below i T.terminals) ∙ m))

  -- the same counts
  pub nonterminals-back : length Q.nonterminals ≡ length T.nonterminals
  nonterminals-back = sym (length_mapped (λ (k : Known). k.id) Q.nonterminals) ∙ ap length ids_N ∙ length-map-below N_name (length T.nonterminals)

  pub terminals-back : length Q.terminals ≡ T.terminals
  terminals-back = sym (length_mapped (λ (k : Known). k.id) Q.terminals) ∙ ap length ids_T ∙ length-map-below T_name T.terminals

  -- the same symbols
  pub known_N : (x : Id) → is_known Q.nonterminals x ≡ known_id (map N_name (below (length T.nonterminals))) x
  known_N x = known_ids Q.nonterminals x ∙ ap (λ (l : List Id). known_id l x) ids_N

  number-N : (n : ℕ) → n < length T.nonterminals → number_in Q.nonterminals (N_name n) ≡ n
  number-N n h =
      let f = F.few_nonterminals in
      number_ids Q.nonterminals (N_name n) ∙ ap (λ (l : List Id). number_id l (N_name n)) ids_N ∙ number-below_is N_name N_differ (length T.nonterminals) n h (omega arith)

  symbol-N : (n : ℕ) → n < length T.nonterminals → symbol_of Q (N_name n) ≡ nonterminal n
  unfolding symbol_of
  symbol-N n h =
      let f = F.few_nonterminals in
      let k : is_known Q.nonterminals (N_name n) ≡ true = known_N (N_name n) ∙ known_below N_name N_differ (length T.nonterminals) n (omega arith) (omega arith) ∙ lt-ltb n (length T.nonterminals) h in
      rw (k, symbol_of) (ap nonterminal (number-N n h))

  symbol-T : (n : ℕ) → n < T.terminals → symbol_of Q (T_name n) ≡ terminal n
  unfolding symbol_of below
  symbol-T n h =
      let f = F.few_nonterminals in
      let g = F.few_terminals in
      let k : is_known Q.nonterminals (T_name n) ≡ false = known_N (T_name n) ∙ none_known (length T.nonterminals) 0 n (omega arith) (omega arith) in
      rw (k, symbol_of) (ap terminal (number_ids Q.terminals (T_name n) ∙ ap (λ (l : List Id). number_id l (T_name n)) ids_T ∙ number-below_is T_name T_differ T.terminals n h g))

  symbol-back : (s : Symbol) → SymbolFits T s → symbol_of Q (name_of s) ≡ s
  unfolding SymbolFits
  symbol-back (nonterminal n) h = symbol-N n h
  symbol-back (terminal n) h = symbol-T n h

  symbols_list : (ss : List Symbol) → All (SymbolFits T) ss → map (symbol_of Q) (map name_of ss) ≡ ss
  unfolding All
  symbols_list [] h = refl
  symbols_list (s ∷ ss) h = ap (λ (x : Symbol). x ∷ map (symbol_of Q) (map name_of ss)) (symbol-back s h.0) ∙ ap (λ (l : List Symbol). s ∷ l) (symbols_list ss h.1)

  pub alternatives_back : map bare_of Q.alternatives ≡ map mk T.productions
  unfolding layout_of
  alternatives_back =
      read_alternatives (layout_of T p ps) (layout_sound T p ps F e)
      ∙ whole_file T.terminals p ps
      ∙ bares (p ∷ ps)
      ∙ ap (map mk) (sym e)

  owners_of : (xs : List Alternative) → map (λ q. q.nonterminal) (map (production_of Q) xs) ≡ map (λ b. number_in Q.nonterminals b.left) (map bare_of xs)
  unfolding production_of
  owners_of [] = refl
  owners_of (a ∷ xs) = ap (λ (l : List ℕ). number_in Q.nonterminals a.left ∷ l) (owners_of xs)

  owners_named : (qs : List Production) → All (ProductionFits T) qs → map (λ b. number_in Q.nonterminals b.left) (map mk qs) ≡ map (λ q. q.nonterminal) qs
  unfolding All
  owners_named [] h = refl
  owners_named (q ∷ qs) h = ap (λ (n : ℕ). n ∷ map (λ (b : Bare). number_in Q.nonterminals b.left) (map mk qs)) (number-N q.nonterminal h.0.owner) ∙ ap (λ (l : List ℕ). q.nonterminal ∷ l) (owners_named qs h.1)

  -- the same owners
  pub owners_back : map (λ q. q.nonterminal) (table_of Q).productions ≡ owners T
  unfolding table_of productions_of
  owners_back = owners_of Q.alternatives ∙ ap (map (λ b. number_in Q.nonterminals b.left)) alternatives_back ∙ owners_named T.productions F.productions

  symbols_of_lem : (xs : List Alternative) → map (λ q. q.symbols) (map (production_of Q) xs) ≡ map (λ b. map (symbol_of Q) b.ids) (map bare_of xs)
  unfolding production_of
  symbols_of_lem [] = refl
  symbols_of_lem (a ∷ xs) = ap (λ (l : List (List Symbol)). map (symbol_of Q) a.ids ∷ l) (symbols_of_lem xs)

  symbols-named : (qs : List Production) → All (ProductionFits T) qs → map (λ b. map (symbol_of Q) b.ids) (map mk qs) ≡ map (λ q. q.symbols) qs
  unfolding All
  symbols-named [] h = refl
  symbols-named (q ∷ qs) h =
      ap (λ (x : List Symbol). x ∷ map (λ (b : Bare). map (symbol_of Q) b.ids) (map mk qs)) (symbols_list q.symbols h.0.symbols) ∙ ap (λ (l : List (List Symbol)). q.symbols ∷ l) (symbols-named qs h.1)

  -- the same symbols
  pub symbols-back : map (λ q. q.symbols) (table_of Q).productions ≡ map (λ q. q.symbols) T.productions
  unfolding table_of productions_of
  symbols-back = symbols_of_lem Q.alternatives ∙ ap (map (λ b. map (symbol_of Q) b.ids)) alternatives_back ∙ symbols-named T.productions F.productions

  -- start 0
  pub start_back : start_of Q.nonterminals Q.starts ≡ 0
  unfolding start_of
  start_back = ap (start_of Q.nonterminals) (starts-back T p ps F e)

  -- written again, the same bytes
  pub written_again : text_of (table_of Q) ≡ text_of T
  unfolding text_of pieces_of lines
  written_again =
      ap (λ (n : ℕ). spell_all (joined line (token_line n ++ ((mark ∷ []) ∷ map production_line (table_of Q).productions)))) tokens_count
      ∙ ap (λ (l : List (List Token)). spell_all (joined line (token_line T.terminals ++ ((mark ∷ []) ∷ l)))) (same_lines (table_of Q).productions T.productions owners_back symbols-back)
    where
      tokens_count : (table_of Q).terminals ≡ T.terminals
      tokens_count = table_terminals Q ∙ terminals-back
