-- The loop's turns: before each token the closed alternatives stand packed, in the end all.
use Prim.Native.Nat.{ℕ, suc, ◌+◌, ◌*◌, ◌≤◌, ◌<◌}
use native.Mathlib.Omega.{arith}
use mathlib.Core.Bool.{Bool, true, false, ◌&&◌, ◌||◌, not}
use mathlib.Core.Path.{◌≡◌, refl, sym, ap, ◌∙◌, subst}
use mathlib.Core.List.{List, [], ◌∷◌, ◌++◌, map, map-append, append_assoc, append-nil}
use mathlib.Core.Option.{Option, none, some}
use lib.ListN.{length, get_or, take, drop, set, length-append, length-set}
use lib.Seq.{get_or-append_seam, take-set-le}
use lib.Dec.{eqb}
use borrow.Author.Tests.{eqb-true, eqb-false, not-false}
use Rattle.lr1_base.specs.repr.Sizes.{nonterminal_limit, terminal_limit, production_limit, production_place, grammar_room}
use Rattle.lr1_base.specs.repr.Lists.{some?}
use Rattle.lr1_base.specs.repr.Meaning.{Symbol, nonterminal, terminal, Production, no_production, production_at, ProductionFits, TableFits}
use Rattle.lr1_base.specs.repr.Packed.{production_in, productions_in}
use Rattle.lr1_base.proofs.repr.Lists.{cases, clash, get_d_map, length_mapped}
use Rattle.lr1_base.proofs.repr.Tests.{some?-cons, some?-append, some?_intro, All_at}
use Rattle.table.specs.Quads.{put_quad}
use Rattle.table_rewrite.specs.spelling.Spelled.{kind_of, number_of}
use Rattle.table_rewrite.proofs.spelling.Meaning.{map-below-is}
use Rattle.table_rewrite.specs.grammar_records.Target.{PackedAs}
use Rattle.yacc_syntax.specs.text.Grammar.{Id, Layout}
use Rattle.yacc_syntax.specs.text.Places.{Placed, placed_from}
use Rattle.yacc_syntax.specs.text.Forward.{Mode, top, wanted, listed, starting, ruled, sided, bodied, done, dead, begins, sides, move}
use Rattle.yacc_syntax.specs.text.Parse.{parse}
use Rattle.yacc_syntax.proofs.text.Exact.{parse_sound}
use Rattle.yacc_syntax.specs.lexer.Steps.{token_at, Leads}
use Rattle.yacc_syntax.specs.declared.lexer.Word.{Word}
use Rattle.yacc_syntax.specs.declared.lexer.Word.TheVariants.{Name, Literal, Token, Start, Mark, Colon, Bar, Semi}
use Rattle.yacc_reader.specs.parsed_file.Events.{Event, events}
use Rattle.yacc_reader.specs.parsed_file.Source.{Known, is_known, number_in, no_id, Use, span_start, span_end, Alternative, alternative, alternatives_from, Source, source_of}
use Rattle.yacc_reader.specs.parsed_file.Meaning.{symbol_of, production_of, productions_of, table_of}
use Rattle.yacc_reader.specs.parsed_file.Outcome.{nowhere, undefined_use, named_both_ways, undefined_start, misnamed, source_in}
use Rattle.yacc_reader.proofs.parsed_file.Known.{number-below}
use Rattle.yacc_reader.proofs.parsed_file.Said.{lefts_known, some-alternative}
use Rattle.yacc_reader.proofs.parsed_file.Fits.{Good, count_nonterminals, table_fits}
use Rattle.yacc_reader.specs.events.Said.{id_said, end_said, said_in, id_at, events_of, of_said}
use Rattle.yacc_reader.specs.declared.events.Saying.{Saying}
use Rattle.yacc_reader.specs.declared.events.Saying.TheVariants.{Lists, Opens, Defines, Uses, Shuts, Nothing}
use Rattle.yacc_reader.proofs.events.Laws.{said_turn, said_ends, said-whole}
use Rattle.yacc_reader.specs.numbers.Numbers.{place_in}
use Rattle.std.proofs.Common.{Option as Answer, Some, None, IfSome}
use Rattle.std.specs.Option.{unwrap_or}
use Rattle.yacc_reader.specs.names.Names.{held}
use Rattle.yacc_reader.specs.symbols.Symbols.{IsSymbol}
use Rattle.lr1_base.specs.declared.repr.Symbol.{Symbol as Symbol'}
use Rattle.lr1_base.specs.repr.Symbols.{meant}
use Rattle.yacc_reader.specs.productions.Readable.{Readable, Whole}
use Rattle.yacc_reader.specs.productions.Turn.{in_rule, pairs, begun_at, ended_at, ids_of, symbol_place, Added, Closed, Stored, Opened, Turn}
use Rattle.yacc_reader.specs.declared.productions.Body.{Body}
use Rattle.yacc_reader.proofs.productions.Words.{pairs_snoc, fits-pairs, stored_front, head-front, stored_new}
use Rattle.lr1_base.proofs.laws.Bools.{or-none, and_left, and_right}
use Rattle.table.proofs.Written.{put_two}

implied : (a b : Bool) → (not a || b) ≡ true → a ≡ true → b ≡ true
implied true b e h = e
implied false b e h = clash false h refl

none-one {ℓ} : {A : Type ℓ} (f : A → Bool) (x : A) → some? f (x ∷ []) ≡ false → f x ≡ false
none-one f x e = (or-none (f x) (some? f []) (sym (some?-cons f x []) ∙ e)).0

-- `left_number`
module _ (ks : List Known) (x : Id) (p : ℕ) (e : p ≡ place_in ks x) (y : is_known ks x ≡ true) where
  pub place-number : p ≡ suc (number_in ks x)
  unfolding place_in
  place-number = e ∙ ap (λ (b : Bool). elim b [ true ↦ suc (number_in ks x) | false ↦ 0 ]) y

pub known_number : (ks : List Known) (x : Id) (o : Answer ℕ) → held o ≡ place_in ks x → is_known ks x ≡ true → unwrap_or o 0 ≡ number_in ks x
known_number ks x None e y = let q = place-number ks x 0 e y in absurd (omega (arith, q))
known_number ks x (Some j) e y = let q : suc j ≡ suc (number_in ks x) = place-number ks x (suc j) e y in omega (arith, q)

-- `add`: the span's front
pub begun_is : (o : Answer (ℕ × ℕ)) (from past : ℕ) → (unwrap_or o (from, past)).0 ≡ (unwrap_or o (from, from)).0
begun_is None from past = refl
begun_is (Some s) from past = refl

pub span_small : (o : Answer (ℕ × ℕ)) (a c : ℕ) → IfSome o (λ s. (s.0 < 65536) × (s.1 < 65536)) → a < 65536 → c < 65536 → ((unwrap_or o (a, c)).0 < 65536) × ((unwrap_or o (a, c)).1 < 65536)
span_small None a c h x y = (x, y)
span_small (Some s) a c h x y = h

-- spans
start-more : (us : List Use) (x : Id) (from past at : ℕ) → span_start us from ≡ span_start (us ++ record { id = x; from = from; past = past } ∷ []) at
unfolding span_start
start-more [] x from past at = refl
start-more (u ∷ us) x from past at = refl

end_more : (us : List Use) (x : Id) (from past at : ℕ) → past ≡ span_end (us ++ record { id = x; from = from; past = past } ∷ []) at
unfolding span_end
end_more [] x from past at = refl
end_more (u ∷ us) x from past at = end_more us x from past u.past

-- modes: a body follows a left side, and ends in its rule
unfoldable rule_from : Saying → Mode → Bool
rule_from s m = elim s [ Lists ↦ in_rule m | Opens ↦ in_rule m | Defines ↦ true | Uses ↦ in_rule m | Shuts ↦ in_rule m | Nothing ↦ in_rule m ]

unfoldable shut_from : Saying → Mode → Bool
shut_from s m = elim s [ Lists ↦ true | Opens ↦ true | Defines ↦ true | Uses ↦ true | Shuts ↦ in_rule m | Nothing ↦ true ]

abbrev KeepsRule : List ℕ → ℕ → ℕ → Word → Mode → Type 0
KeepsRule t from past w m = (not (in_rule (move m (token_at t w from past))) || rule_from (said_in m w) m) && shut_from (said_in m w) m ≡ true

begun : (s : Bool) → (not (in_rule (begins s)) || false) && true ≡ true
unfolding begins in_rule
begun true = refl
begun false = refl

each_rule : (w : Word) (m : Mode) (t : List ℕ) (from past : ℕ) → KeepsRule t from past w m
unfolding move sides token_at said_in id_said end_said in_rule rule_from shut_from
each_rule Name m t from past = elim m as (KeepsRule t from past Name) [ top s ↦ refl | wanted s ↦ refl | listed s ↦ refl | starting ↦ refl | ruled ↦ refl | sided ↦ refl | bodied ↦ refl | done ↦ refl | dead ↦ refl ]
each_rule Literal m t from past = elim m as (KeepsRule t from past Literal) [ top s ↦ refl | wanted s ↦ refl | listed s ↦ refl | starting ↦ refl | ruled ↦ refl | sided ↦ refl | bodied ↦ refl | done ↦ refl | dead ↦ refl ]
each_rule Token m t from past = elim m as (KeepsRule t from past Token) [ top s ↦ refl | wanted s ↦ refl | listed s ↦ refl | starting ↦ refl | ruled ↦ refl | sided ↦ refl | bodied ↦ refl | done ↦ refl | dead ↦ refl ]
each_rule Start m t from past = elim m as (KeepsRule t from past Start) [ top s ↦ begun s | wanted s ↦ refl | listed s ↦ begun s | starting ↦ refl | ruled ↦ refl | sided ↦ refl | bodied ↦ refl | done ↦ refl | dead ↦ refl ]
each_rule Mark m t from past = elim m as (KeepsRule t from past Mark) [ top s ↦ refl | wanted s ↦ refl | listed s ↦ refl | starting ↦ refl | ruled ↦ refl | sided ↦ refl | bodied ↦ refl | done ↦ refl | dead ↦ refl ]
each_rule Colon m t from past = elim m as (KeepsRule t from past Colon) [ top s ↦ refl | wanted s ↦ refl | listed s ↦ refl | starting ↦ refl | ruled ↦ refl | sided ↦ refl | bodied ↦ refl | done ↦ refl | dead ↦ refl ]
each_rule Bar m t from past = elim m as (KeepsRule t from past Bar) [ top s ↦ refl | wanted s ↦ refl | listed s ↦ refl | starting ↦ refl | ruled ↦ refl | sided ↦ refl | bodied ↦ refl | done ↦ refl | dead ↦ refl ]
each_rule Semi m t from past = elim m as (KeepsRule t from past Semi) [ top s ↦ refl | wanted s ↦ refl | listed s ↦ refl | starting ↦ refl | ruled ↦ refl | sided ↦ refl | bodied ↦ refl | done ↦ refl | dead ↦ refl ]

-- words that say nothing of the alternatives
unfoldable pub quiet : Saying → Bool
quiet s = elim s [ Lists ↦ true | Opens ↦ true | Defines ↦ false | Uses ↦ false | Shuts ↦ false | Nothing ↦ true ]

pub quiet_other : (s : Saying) → (s ≡ Defines → ⊥) → (s ≡ Uses → ⊥) → (s ≡ Shuts → ⊥) → quiet s ≡ true
unfolding quiet
quiet_other Lists a b c = refl
quiet_other Opens a b c = refl
quiet_other Defines a b c = absurd (a refl)
quiet_other Uses a b c = absurd (b refl)
quiet_other Shuts a b c = absurd (c refl)
quiet_other Nothing a b c = refl

quiet_rule : (s : Saying) (m : Mode) → quiet s ≡ true → rule_from s m ≡ true → in_rule m ≡ true
unfolding quiet rule_from
quiet_rule Lists m q r = r
quiet_rule Opens m q r = r
quiet_rule Defines m q r = clash false q refl
quiet_rule Uses m q r = clash false q refl
quiet_rule Shuts m q r = clash false q refl
quiet_rule Nothing m q r = r

quiet_said : (s : Saying) (l : Id) (us : List Use) (x : Id) (from past : ℕ) (es : List Event) → quiet s ≡ true → alternatives_from l us es ≡ alternatives_from l us (events_of s x from past ++ es)
unfolding quiet alternatives_from events_of
quiet_said Lists l us x from past es q = refl
quiet_said Opens l us x from past es q = refl
quiet_said Defines l us x from past es q = clash false q refl
quiet_said Uses l us x from past es q = clash false q refl
quiet_said Shuts l us x from past es q = clash false q refl
quiet_said Nothing l us x from past es q = refl

defines-said : (s : Saying) (l : Id) (us : List Use) (x : Id) (from past : ℕ) (es : List Event) → s ≡ Defines → alternatives_from x [] es ≡ alternatives_from l us (events_of s x from past ++ es)
unfolding alternatives_from events_of
defines-said s l us x from past es d = sym (ap (λ (k : Saying). alternatives_from l us (events_of k x from past ++ es)) d)

uses-said : (s : Saying) (l : Id) (us : List Use) (x : Id) (from past : ℕ) (es : List Event) → s ≡ Uses → alternatives_from l (us ++ (record { id = x; from = from; past = past } ∷ [])) es ≡ alternatives_from l us (events_of s x from past ++ es)
unfolding alternatives_from events_of
uses-said s l us x from past es d = sym (ap (λ (k : Saying). alternatives_from l us (events_of k x from past ++ es)) d)

shuts-said : (s : Saying) (l : Id) (us : List Use) (x : Id) (from past : ℕ) (es : List Event) → s ≡ Shuts → alternative l us from ∷ alternatives_from l [] es ≡ alternatives_from l us (events_of s x from past ++ es)
unfolding alternatives_from events_of
shuts-said s l us x from past es d = sym (ap (λ (k : Saying). alternatives_from l us (events_of k x from past ++ es)) d)

-- what is known of a whole source
module _ (S : Source) (W : Whole S) where
  good : Good S
  good = record { lefts = W.lefts; some_one = W.some_one; named = W.readable.named; few = W.readable.few; short = W.readable.short }

  in_range : TableFits (table_of S)
  in_range = table_fits S good

  few_left : length S.nonterminals ≤ nonterminal_limit
  few_left = let c = count_nonterminals S in let f = in_range.few_nonterminals in omega (arith, c, f)

  few_terminals : length S.terminals ≤ terminal_limit
  unfolding table_of
  few_terminals = in_range.few_terminals

  left_small : (x : Id) → is_known S.nonterminals x ≡ true → number_in S.nonterminals x < 65536
  left_small x k = let b = number-below S.nonterminals x k in let f = few_left in omega (arith, b, f)

  symbol_small : (x : Id) → nowhere S x ≡ false → (kind_of (symbol_of S x) < 65536) × (number_of (symbol_of S x) < 65536)
  unfolding nowhere symbol_of kind_of number_of
  symbol_small x e = by (is_known S.nonterminals x) refl e
    where
      by : (b : Bool) → is_known S.nonterminals x ≡ b → (not b && not (is_known S.terminals x)) ≡ false → (kind_of (elim b [ true ↦ nonterminal (number_in S.nonterminals x) | false ↦ terminal (number_in S.terminals x) ]) < 65536) × (number_of (elim b [ true ↦ nonterminal (number_in S.nonterminals x) | false ↦ terminal (number_in S.terminals x) ]) < 65536)
      by true k f = (omega arith, left_small x k)
      by false k f = let b = number-below S.terminals x (not-false (is_known S.terminals x) f) in let t = few_terminals in (omega arith, omega (arith, b, t))

  -- an alternative of it
  module _ (p : ℕ) (a : Alternative) (cs more : List Alternative) (e : (cs ++ a ∷ []) ++ more ≡ S.alternatives) (z : p ≡ length cs) where
    inside : p < length S.alternatives
    inside = let l = ap length e in let m = length-append (cs ++ a ∷ []) more in let n = length-append cs (a ∷ []) in omega (arith, l, m, n, z)

    here : get_or S.alternatives p a ≡ a
    here =
        ap (λ (k : ℕ). get_or S.alternatives k a) z
        ∙ ap (λ (l : List Alternative). get_or l (length cs) a) (sym e ∙ append_assoc cs (a ∷ []) more)
        ∙ get_or-append_seam cs a more a

    left_known : is_known S.nonterminals a.left ≡ true
    left_known = rw here at (All_at (λ (b : Alternative). is_known S.nonterminals b.left ≡ true) S.alternatives p a W.lefts inside)

    all_named : some? (nowhere S) a.ids ≡ false
    unfolding misnamed undefined_use
    all_named =
        cases (some? (nowhere S) a.ids)
        (λ y. clash (undefined_use S) (some?_intro (λ (b : Alternative). some? (nowhere S) b.ids) S.alternatives p a inside (ap (λ (b : Alternative). some? (nowhere S) b.ids) here ∙ y)) (or-none (undefined_use S) (named_both_ways S || undefined_start S) W.readable.named).0)
        (λ n. n)

    pub production_is : production_at (table_of S) p ≡ production_of S a
    unfolding table_of productions_of
    production_is = get_d_map (production_of S) S.alternatives p a no_production inside ∙ ap (production_of S) here

    production-inside : p < length (table_of S).productions
    unfolding table_of productions_of
    production-inside = let l = length_mapped (production_of S) S.alternatives in let i = inside in omega (arith, l, i)

    fits_here : ProductionFits (table_of S) (production_of S a)
    fits_here = rw production_is at (All_at (ProductionFits (table_of S)) (table_of S).productions p no_production in_range.productions production-inside)

    few_here : p < production_limit
    few_here = let i = production-inside in let f = in_range.few_productions_lem in omega (arith, i, f)

-- what is said behind some alternatives gives more of them
behind : (ks : List Alternative) (f : List Event → List Alternative) (all : List Alternative) (m : Mode) (o : Option (List Placed)) → of_said none (λ es. some (ks ++ f es)) m o ≡ some all → (more : List Alternative) × (ks ++ more ≡ all)
unfolding of_said
behind ks f all m none e = let z : ◌≡◌ {A = ℕ} 0 1 = cc in absurd (omega (arith, z))
behind ks f all m (some ps) e = (f (events m ps), cc)

-- one symbol more in the open body
opened-more : (S : Source) (g : List ℕ) (b : Body) (us : List Use) → Opened S g b us → symbol_place b + 1 < length g → (x : Id) (kind number from past : ℕ) → kind ≡ kind_of (symbol_of S x) → number ≡ number_of (symbol_of S x)
    → Opened S (set (set g (symbol_place b) kind) (symbol_place b + 1) number) (record { production = b.production; owner = b.owner; symbols = b.symbols + 1; span = Some (begun_at b from, past) }) (us ++ record { id = x; from = from; past = past } ∷ [])
opened-more S g b us O l x kind number from past k n =
    let u : Use = record { id = x; from = from; past = past } in
    let r : Body = record { production = b.production; owner = b.owner; symbols = b.symbols + 1; span = Some (begun_at b from, past) } in
    let a = length-append us (u ∷ []) in
    let m = O.many in
    let two : 2 * (b.symbols + 1) ≡ 2 * b.symbols + 2 = omega arith in
    let ids : map (symbol_of S) (ids_of (us ++ u ∷ [])) ≡ map (symbol_of S) (ids_of us) ++ symbol_of S x ∷ [] = ap (map (symbol_of S)) (map-append (λ (v : Use). v.id) us (u ∷ [])) ∙ map-append (symbol_of S) (ids_of us) (x ∷ []) in
    let words : List ℕ = set (set g (symbol_place b) kind) (symbol_place b + 1) number in
    record {
      many = omega (arith, a, m);
      words =
          ap (λ (j : ℕ). take j (drop (production_place b.production + 4) words)) two
          ∙ put_two g (production_place b.production + 4) (2 * b.symbols) kind number l
          ∙ ap (λ (l : List ℕ). l ++ kind ∷ number ∷ []) O.words
          ∙ ap (λ (j : ℕ). pairs (map (symbol_of S) (ids_of us)) ++ j ∷ number ∷ []) k
          ∙ ap (λ (j : ℕ). pairs (map (symbol_of S) (ids_of us)) ++ kind_of (symbol_of S x) ∷ j ∷ []) n
          ∙ sym (ap pairs ids ∙ pairs_snoc (map (symbol_of S) (ids_of us)) (symbol_of S x));
      start = λ at. O.start from ∙ start-more us x from past at;
      end = λ at. end_more us x from past at;
    }

-- an empty body
opened-none : (S : Source) (g : List ℕ) (p o : ℕ) → Opened S g (record { production = p; owner = o; symbols = 0; span = None }) []
unfolding pairs span_start span_end
opened-none S g p o = record { many = refl; words = refl; start = λ at. refl; end = λ at. refl }

made : (a c : ℕ) (ss : List Symbol) (s u e v : ℕ) → a ≡ c → s ≡ u → e ≡ v → ◌≡◌ {A = Production} (record { nonterminal = a; symbols = ss; start = s; end = e }) (record { nonterminal = c; symbols = ss; start = u; end = v })
made a c ss s u e v p q r =
    ap (λ (k : ℕ). record { nonterminal = k; symbols = ss; start = s; end = e }) p
    ∙ ap (λ (k : ℕ). record { nonterminal = c; symbols = ss; start = k; end = e }) q
    ∙ ap (λ (k : ℕ). record { nonterminal = c; symbols = ss; start = u; end = k }) r

pub zero_body : (b : Body) → (b.production ≡ 0) × ((b.owner ≡ 0) × ((b.symbols ≡ 0) × (b.span ≡ None))) → b ≡ record { production = 0; owner = 0; symbols = 0; span = None }
zero_body b z =
    ap (λ (n : ℕ). record { production = n; owner = b.owner; symbols = b.symbols; span = b.span }) z.0
    ∙ ap (λ (n : ℕ). record { production = 0; owner = n; symbols = b.symbols; span = b.span }) z.1.0
    ∙ ap (λ (n : ℕ). record { production = 0; owner = 0; symbols = n; span = b.span }) z.1.1.0
    ∙ ap (λ (o : Answer (ℕ × ℕ)). record { production = 0; owner = 0; symbols = 0; span = o }) z.1.1.1

-- the turns
pub turn_first : (S : Source) (t g : List ℕ) → of_said none (λ es. some (alternatives_from no_id [] es)) (top false) (placed_from t 0) ≡ some S.alternatives → Turn S t g (record { production = 0; owner = 0; symbols = 0; span = None }) (top false) 0
unfolding in_rule
turn_first S t g e = record {
  closed = [];
  left = no_id;
  us = [];
  rest = e;
  many = refl;
  stored = λ q h. absurd (omega (arith, h));
  owner = λ y k. clash false y refl;
  body = λ F. opened-none S g 0 0;
}

module _ (S : Source) (t g : List ℕ) (b : Body) (m : Mode) (at : ℕ) (T : Turn S t g b m at) (s : Saying) (w : Word) (from past : ℕ) (n : Mode) (L : Leads t at w from past) (e : s ≡ said_in m w) (q : n ≡ move m (token_at t w from past)) where
  goes_on : (ks : List Alternative) (l : Id) (us : List Use) → ((es : List Event) → ks ++ alternatives_from l us es ≡ T.closed ++ alternatives_from T.left T.us (events_of s (id_at t w from past) from past ++ es)) → of_said none (λ es. some (ks ++ alternatives_from l us es)) n (placed_from t past) ≡ some S.alternatives
  goes_on ks l us f =
      said_turn none t at m (λ es. some (T.closed ++ alternatives_from T.left T.us es)) (some S.alternatives) T.rest (λ es. some (ks ++ alternatives_from l us es)) w from past n L q
      (λ es. ap some (f es ∙ ap (λ (k : Saying). T.closed ++ alternatives_from T.left T.us (events_of k (id_at t w from past) from past ++ es)) e))

  rule-kept : (not (in_rule n) || rule_from s m) && shut_from s m ≡ true
  rule-kept =
      ap (λ (k : Mode). (not (in_rule k) || rule_from s m) && shut_from s m) q
      ∙ ap (λ (k : Saying). (not (in_rule (move m (token_at t w from past))) || rule_from k m) && shut_from k m) e
      ∙ each_rule w m t from past

  rule-from : in_rule n ≡ true → rule_from s m ≡ true
  rule-from = implied (in_rule n) (rule_from s m) (and_left (not (in_rule n) || rule_from s m) (shut_from s m) rule-kept)

  pub turn_quiet : quiet s ≡ true → Turn S t g b n past
  turn_quiet y = record {
    closed = T.closed;
    left = T.left;
    us = T.us;
    rest = goes_on T.closed T.left T.us (λ es. ap (λ (l : List Alternative). T.closed ++ l) (quiet_said s T.left T.us (id_at t w from past) from past es y));
    many = T.many;
    stored = T.stored;
    owner = λ i. T.owner (quiet_rule s m y (rule-from i));
    body = T.body;
  }

  pub turn_defines : s ≡ Defines → (o : ℕ) → (is_known S.nonterminals (id_at t w from past) ≡ true → o ≡ number_in S.nonterminals (id_at t w from past)) → Turn S t g (record { production = b.production; owner = o; symbols = 0; span = None }) n past
  turn_defines d o f = record {
    closed = T.closed;
    left = id_at t w from past;
    us = [];
    rest = goes_on T.closed (id_at t w from past) [] (λ es. ap (λ (l : List Alternative). T.closed ++ l) (defines-said s T.left T.us (id_at t w from past) from past es d));
    many = T.many;
    stored = T.stored;
    owner = λ i k. f k;
    body = λ F. opened-none S g b.production o;
  }

  pub turn_uses : s ≡ Uses → Whole S → length g ≡ grammar_room → (z : Symbol') → IsSymbol S (id_at t w from past) z → (g' : List ℕ) (r : Body) → Added g g' b r (kind_of (meant z)) (number_of (meant z)) from past → Turn S t g' r n past
  unfolding rule_from
  turn_uses d W long z I g' r A =
      let x = id_at t w from past in
      let u : Use = record { id = x; from = from; past = past } in
      let p = A.production in
      record {
        closed = T.closed;
        left = T.left;
        us = T.us ++ u ∷ [];
        rest = goes_on T.closed T.left (T.us ++ u ∷ []) (λ es. ap (λ (l : List Alternative). T.closed ++ l) (uses-said s T.left T.us x from past es d));
        many = p ∙ T.many;
        stored = λ j k. let k' : j < b.production = omega (arith, k, p) in stored_front (table_of S) g g' b.production j A.front k' (T.stored j k');
        owner = λ i k. A.owner ∙ T.owner (sym (ap (λ (v : Saying). rule_from v m) d) ∙ rule-from i) k;
        body =
            λ F.
            let a = length-append T.us (u ∷ []) in
            let short = F.short in
            let few = F.few in
            let few' : b.production < production_limit = omega (arith, few, p) in
            let o = or-none (some? (nowhere S) (ids_of T.us)) (some? (nowhere S) (x ∷ [])) (sym (ap (some? (nowhere S)) (map-append (λ (v : Use). v.id) T.us (u ∷ [])) ∙ some?-append (nowhere S) (ids_of T.us) (x ∷ [])) ∙ F.named) in
            let O = T.body (record { few = few'; short = omega (arith, a, short); named = o.0 }) in
            let c = O.many in
            let named : nowhere S x ≡ false = none-one (nowhere S) x o.1 in
            let e = I.is named in
            let i : (kind_of (meant z) ≡ kind_of (symbol_of S x)) × (number_of (meant z) ≡ number_of (symbol_of S x)) = (ap kind_of e, ap number_of e) in
            let y = symbol_small S W x named in
            let M = A.more few' (omega (arith, a, short, c)) (rw i.0 y.0) (rw i.1 y.1) in
            rw (M.0, M.1) (opened-more S g b T.us O (omega (arith, a, short, c, few', long)) x (kind_of (meant z)) (number_of (meant z)) from past i.0 i.1);
      }

  pub turn_shuts : s ≡ Shuts → Whole S → length g ≡ grammar_room → (g' : List ℕ) (r : Body) → Closed g g' b r from → Turn S t g' r n past
  unfolding rule_from shut_from alternative production_of
  turn_shuts d W long g' r C =
      let a : Alternative = alternative T.left T.us from in
      let ks : List Alternative = T.closed ++ a ∷ [] in
      let on : of_said none (λ es. some (ks ++ alternatives_from T.left [] es)) n (placed_from t past) ≡ some S.alternatives =
      goes_on ks T.left []
      (λ es. append_assoc T.closed (a ∷ []) (alternatives_from T.left [] es) ∙ ap (λ (l : List Alternative). T.closed ++ l) (shuts-said s T.left T.us (id_at t w from past) from past es d)) in
      let B = behind ks (alternatives_from T.left []) S.alternatives n (placed_from t past) on in
      let p = b.production in
      let c = length-append T.closed (a ∷ []) in
      let z = T.many in
      let few = few_here S W p a T.closed B.0 B.1 z in
      let F = fits_here S W p a T.closed B.0 B.1 z in
      let known = left_known S W p a T.closed B.0 B.1 z in
      let i = length_mapped (symbol_of S) a.ids in
      let j = length_mapped (λ (v : Use). v.id) T.us in
      let sh = F.short in
      let O = T.body (record { few = few; short = omega (arith, i, j, sh); named = all_named S W p a T.closed B.0 B.1 z }) in
      let v = O.many in
      let owner = T.owner (sym (ap (λ (k : Saying). shut_from k m) d) ∙ and_right (not (in_rule n) || rule_from s m) (shut_from s m) rule-kept) known in
      let is : production_at (table_of S) p ≡ record { nonterminal = b.owner; symbols = map (symbol_of S) (ids_of T.us); start = begun_at b from; end = ended_at b from } =
      production_is S W p a T.closed B.0 B.1 z
      ∙ sym (made b.owner (number_in S.nonterminals T.left) (map (symbol_of S) (ids_of T.us)) (begun_at b from) (span_start T.us from) (ended_at b from) (span_end T.us from) owner (O.start from) (O.end from)) in
      let fits = fits-pairs (table_of S) (in_range S W).few_nonterminals (in_range S W).few_terminals (map (symbol_of S) (ids_of T.us)) F.symbols in
      let N = stored_new g p b.owner b.symbols (begun_at b from) (ended_at b from) few long (table_of S) (map (symbol_of S) (ids_of T.us)) O.words (omega (arith, v, i, j, sh)) fits is in
      let M = C.is few in
      rw (M.0, M.1)
      (record {
        closed = ks;
        left = T.left;
        us = [];
        rest = on;
        many = omega (arith, c, z);
        stored =
            λ k l.
            cases (eqb k p)
            (λ y. subst (Stored (table_of S) (put_quad g (p * 9) b.owner b.symbols (begun_at b from) (ended_at b from))) (sym (eqb-true k p y)) N)
            (λ y. let ne = eqb-false k p y in let l' : k < p = omega (arith, l, ne) in stored_front (table_of S) g (put_quad g (p * 9) b.owner b.symbols (begun_at b from) (ended_at b from)) p k (head-front g p b.owner b.symbols (begun_at b from) (ended_at b from)) l' (T.stored k l'));
        owner = λ y k. owner;
        body = λ _. opened-none S (put_quad g (p * 9) b.owner b.symbols (begun_at b from) (ended_at b from)) (p + 1) b.owner;
      })

-- in the end
module _ (S : Source) (t g : List ℕ) (b : Body) (m : Mode) (at : ℕ) (T : Turn S t g b m at) (D : placed_from t at ≡ some []) where
  turn_all : T.closed ≡ S.alternatives
  unfolding alternatives_from
  turn_all =
      let q : some (T.closed ++ []) ≡ some S.alternatives = said_ends none t at m (λ es. some (T.closed ++ alternatives_from T.left T.us es)) (some S.alternatives) T.rest D in
      sym (append-nil T.closed) ∙ cc

  pub turn_last : Whole S → length g ≡ grammar_room → (b.production ≡ length S.alternatives) × PackedAs (table_of S) g b.production
  unfolding table_of productions_of productions_in production_in
  turn_last W long =
      let many : b.production ≡ length S.alternatives = T.many ∙ ap length turn_all in
      let F = in_range S W in
      let l = length_mapped (production_of S) S.alternatives in (
        many,
        record {
          packed = record {
            long = long;
            few = let f = F.few_productions_lem in omega (arith, many, f, l);
            owner =
                λ q k.
                let i : get_or g (production_place q) 0 ≡ (production_at (table_of S) q).nonterminal = ap (λ (p : Production). p.nonterminal) (T.stored q k).is in
                let o = (All_at (ProductionFits (table_of S)) (table_of S).productions q no_production F.productions (omega (arith, many, k, l))).owner in
                let f = F.few_nonterminals in
                omega (arith, i, o, f);
            short = λ q k. (T.stored q k).short;
            fits = λ q k. (T.stored q k).fits;
          };
          same = map-below-is (production_in g) b.production (table_of S).productions no_production (omega (arith, many, l)) (λ q k. (T.stored q (omega (arith, many, k, l))).is);
        },
      )

-- a text's source
pub whole_of : (t : List ℕ) (l : Layout) → parse t ≡ some l → Readable (source_in l.pieces) → Whole (source_in l.pieces)
whole_of t l e R = let S = (parse_sound t l e).0 in record { readable = R; lefts = lefts_known l S; some_one = some-alternative l S }

pub said_all : (t : List ℕ) (l : Layout) → parse t ≡ some l → of_said none (λ es. some (alternatives_from no_id [] es)) (top false) (placed_from t 0) ≡ some (source_in l.pieces).alternatives
unfolding source_in source_of
said_all t l e = said-whole none (λ es. some (alternatives_from no_id [] es)) t l e

-- `add` where there is room
pub added_is : (g : List ℕ) (b : Body) (kind number k n from past s : ℕ) → (kind < 65536 → k ≡ kind) → (number < 65536 → n ≡ number) → s ≡ begun_at b from → Added g (set (set g (symbol_place b) k) (symbol_place b + 1) n) b (record { production = b.production; owner = b.owner; symbols = b.symbols + 1; span = Some (s, past) }) kind number from past
added_is g b kind number k n from past s f j e = record {
  production = refl;
  owner = refl;
  long = simp length-set;
  front = take-set-le (production_place b.production) (set g (symbol_place b) k) (symbol_place b + 1) n (omega arith) ∙ take-set-le (production_place b.production) g (symbol_place b) k (omega arith);
  more = λ h i x y. (rw (f x, j y), rw e);
}
