-- The tally of a text is the counts of its alternatives; the loop's turns.
use Prim.Native.Nat.{ℕ, suc, ◌+◌, ◌≤◌, ◌<◌}
use native.Mathlib.Omega.{arith}
use native.Mathlib.Numerals.{add-one}
use mathlib.Core.Bool.{true, false}
use mathlib.Core.Path.{◌≡◌, refl, sym, ap, ◌∙◌}
use mathlib.Core.List.{List, [], ◌∷◌, ◌++◌, map}
use mathlib.Core.Option.{none, some}
use lib.Dec.{ltb}
use lib.ListN.{length, length-append}
use Rattle.lr1_base.specs.repr.Sizes.{symbol_limit}
use Rattle.lr1_base.proofs.repr.Lists.{cases, length_mapped}
use Rattle.table_rewrite.specs.spelling.Spelled.{size_of}
use Rattle.yacc_syntax.specs.text.Grammar.{Id, text_limit}
use Rattle.yacc_syntax.specs.text.Places.{placed_from}
use Rattle.yacc_syntax.specs.text.Forward.{Mode, top, move}
use Rattle.yacc_syntax.specs.lexer.Steps.{token_at, Leads}
use Rattle.yacc_syntax.specs.declared.lexer.Word.{Word}
use Rattle.yacc_reader.specs.parsed_file.Events.{Event, lists, opens, defines, uses, shuts}
use Rattle.yacc_reader.specs.parsed_file.Source.{no_id, Use, Alternative, alternative, alternatives_from}
use Rattle.yacc_reader.specs.parsed_file.Outcome.{too_long}
use Rattle.yacc_reader.specs.events.Said.{said_in, id_at, events_of, of_said}
use Rattle.yacc_reader.specs.declared.events.Saying.{Saying}
use Rattle.yacc_reader.specs.declared.events.Saying.TheVariants.{Lists, Opens, Defines, Uses, Shuts, Nothing}
use Rattle.yacc_reader.proofs.events.Laws.{said_same, said_turn}
use Rattle.std.specs.Prelude.{Option as Answered, Some, None, IfSome}
use Rattle.yacc_reader.specs.counts.Counted.{long_of, counts_of, no_counts, counts_in, longer, closed, tallied, Within, Roomy}
use Rattle.yacc_reader.specs.declared.counts.Counts.{Counts}
use Rattle.yacc_reader.specs.declared.counts.Tally.{Tally}

abbrev pub no_tally : Tally
no_tally = record { counts = no_counts; body = 0 }

-- all that is said, one after the other
unfoldable pub tally_all : Tally → List Event → Counts
tally_all y [] = y.counts
tally_all y (lists x at ∷ es) = tally_all y es
tally_all y (opens x ∷ es) = tally_all y es
tally_all y (defines x at ∷ es) = tally_all (tallied y Defines) es
tally_all y (uses x from past ∷ es) = tally_all (tallied y Uses) es
tally_all y (shuts at ∷ es) = tally_all (closed y) es

pub tally_nil : (y : Tally) → tally_all y [] ≡ y.counts
unfolding tally_all
tally_nil y = refl

tally_said : (s : Saying) (y : Tally) (x : Id) (from past : ℕ) (es : List Event) → tally_all (tallied y s) es ≡ tally_all y (events_of s x from past ++ es)
unfolding tally_all tallied events_of
tally_said Lists y x from past es = refl
tally_said Opens y x from past es = refl
tally_said Defines y x from past es = refl
tally_said Uses y x from past es = refl
tally_said Shuts y x from past es = refl
tally_said Nothing y x from past es = refl

-- alternatives one after the other
unfoldable added : ℕ → ℕ → Answered ℕ → List Alternative → Counts
added a s k [] = record { alternatives = a; symbols = s; long = k }
added a s k (x ∷ xs) = added (a + 1) (s + length x.ids) (longer k a (length x.ids)) xs

tally_added : (es : List Event) (a s : ℕ) (k : Answered ℕ) (n : ℕ) (l : Id) (us : List Use) → n ≡ length us → tally_all (record { counts = record { alternatives = a; symbols = s; long = k }; body = n }) es ≡ added a s k (alternatives_from l us es)
unfolding tally_all tallied closed alternative alternatives_from added
tally_added [] a s k n l us e = refl
tally_added (lists x at ∷ es) a s k n l us e = tally_added es a s k n l us e
tally_added (opens x ∷ es) a s k n l us e = tally_added es a s k n l us e
tally_added (defines x at ∷ es) a s k n l us e = tally_added es a s k 0 x [] refl
tally_added (uses x from past ∷ es) a s k n l us e =
    let u : Use = record { id = x; from = from; past = past } in
    let q = length-append us (u ∷ []) in
    tally_added es a s k (n + 1) l (us ++ (u ∷ [])) (omega (arith, q, e))
tally_added (shuts at ∷ es) a s k n l us e =
    tally_added es (a + 1) (s + n) (longer k a n) 0 l [] refl
    ∙ ap (λ (m : ℕ). added (a + 1) (s + m) (longer k a m) (alternatives_from l [] es)) (e ∙ sym (length_mapped (λ u. u.id) us))

same_counts : (a b s t : ℕ) (k l : Answered ℕ) → a ≡ b → s ≡ t → k ≡ l → ◌≡◌ {A = Counts} (record { alternatives = a; symbols = s; long = k }) (record { alternatives = b; symbols = t; long = l })
same_counts a b s t k l p q r =
    ap (λ (x : ℕ). record { alternatives = x; symbols = s; long = k }) p
    ∙ ap (λ (x : ℕ). record { alternatives = b; symbols = x; long = k }) q
    ∙ ap (λ (x : Answered ℕ). record { alternatives = b; symbols = t; long = x }) r

pub zero_counts : (c : Counts) → (c.alternatives ≡ 0) × ((c.symbols ≡ 0) × (c.long ≡ None)) → c ≡ no_counts
zero_counts c z = same_counts c.alternatives 0 c.symbols 0 c.long None z.0 z.1.0 z.1.1

pub zero_tally : (y : Tally) → ((y.counts.alternatives ≡ 0) × ((y.counts.symbols ≡ 0) × (y.counts.long ≡ None))) × (y.body ≡ 0) → y ≡ no_tally
zero_tally y z = ap (λ (c : Counts). record { counts = c; body = y.body }) (zero_counts y.counts z.0) ∙ ap (λ (n : ℕ). record { counts = no_counts; body = n }) z.1

abbrev sizes : List Alternative → ℕ
sizes xs = size_of (map (λ a. a.ids) xs)

-- behind one that is too long
added_past : (xs : List Alternative) (a s p : ℕ) → added a s (Some p) xs ≡ record { alternatives = a + length xs; symbols = s + sizes xs; long = Some p }
unfolding added longer size_of
added_past [] a s p = same_counts a (a + 0) s (s + 0) (Some p) (Some p) (omega arith) (omega arith) refl
added_past (x ∷ xs) a s p =
    added_past xs (a + 1) (s + length x.ids) p
    ∙ same_counts (a + 1 + length xs) (a + suc (length xs)) (s + length x.ids + sizes xs) (s + (length x.ids + sizes xs)) (Some p) (Some p) (omega arith) (omega arith) refl

-- in front of it
unfoldable long_from : ℕ → List Alternative → Answered ℕ
long_from a xs = elim (too_long a xs) [ none ↦ None | some p ↦ Some p ]

long_stops : (x : Alternative) (xs : List Alternative) (a : ℕ) → ltb symbol_limit (length x.ids) ≡ true → (longer None a (length x.ids) ≡ Some a) × (long_from a (x ∷ xs) ≡ Some a)
unfolding longer long_from too_long
long_stops x xs a e = (rw (e, longer) refl, rw (e, long_from, too_long) refl)

long_more : (x : Alternative) (xs : List Alternative) (a : ℕ) → ltb symbol_limit (length x.ids) ≡ false → (longer None a (length x.ids) ≡ None) × (long_from a (x ∷ xs) ≡ long_from (a + 1) xs)
unfolding longer long_from too_long
long_more x xs a e = (rw (e, longer) refl, rw (e, long_from, too_long) (ap (λ (k : ℕ). long_from k xs) (sym (add-one a))))

added_first : (xs : List Alternative) (a s : ℕ) → added a s None xs ≡ record { alternatives = a + length xs; symbols = s + sizes xs; long = long_from a xs }
unfolding added size_of long_from too_long
added_first [] a s = same_counts a (a + 0) s (s + 0) None None (omega arith) (omega arith) refl
added_first (x ∷ xs) a s =
    let n = length x.ids in
    let p : a + 1 + length xs ≡ a + suc (length xs) = omega arith in
    let q : s + n + sizes xs ≡ s + (n + sizes xs) = omega arith in
    cases (ltb symbol_limit n)
    (λ e. let l = long_stops x xs a e in
    ap (λ (k : Answered ℕ). added (a + 1) (s + n) k xs) l.0
    ∙ added_past xs (a + 1) (s + n) a
    ∙ same_counts (a + 1 + length xs) (a + suc (length xs)) (s + n + sizes xs) (s + (n + sizes xs)) (Some a) (long_from a (x ∷ xs)) p q (sym l.1))
    (λ e. let l = long_more x xs a e in
    ap (λ (k : Answered ℕ). added (a + 1) (s + n) k xs) l.0
    ∙ added_first xs (a + 1) (s + n)
    ∙ same_counts (a + 1 + length xs) (a + suc (length xs)) (s + n + sizes xs) (s + (n + sizes xs)) (long_from (a + 1) xs) (long_from a (x ∷ xs)) p q (sym l.1))

added-whole : (xs : List Alternative) → added 0 0 None xs ≡ counts_of xs
unfolding counts_of long_of long_from
added-whole xs = added_first xs 0 0 ∙ same_counts (0 + length xs) (length xs) (0 + sizes xs) (sizes xs) (long_from 0 xs) (long_of xs) (omega arith) (omega arith) refl

pub tally_whole : (t : List ℕ) → of_said no_counts (tally_all no_tally) (top false) (placed_from t 0) ≡ counts_in t
unfolding counts_in
tally_whole t = said_same no_counts (tally_all no_tally) (λ es. counts_of (alternatives_from no_id [] es)) (λ es. tally_added es 0 0 None 0 no_id [] refl ∙ added-whole (alternatives_from no_id [] es)) (top false) (placed_from t 0)

-- the loop's turns
pub tally_turn : (t : List ℕ) (at : ℕ) (m : Mode) (y : Tally) (r : Counts) → of_said no_counts (tally_all y) m (placed_from t at) ≡ r → (v : Tally) (s : Saying) (w : Word) (from past : ℕ) (n : Mode) → Leads t at w from past → s ≡ said_in m w → v ≡ tallied y s → n ≡ move m (token_at t w from past) → of_said no_counts (tally_all v) n (placed_from t past) ≡ r
tally_turn t at m y r inv v s w from past n L e q f =
    said_turn no_counts t at m (tally_all y) r inv (tally_all v) w from past n L f
    (λ es. ap (λ (k : Tally). tally_all k es) q ∙ tally_said s y (id_at t w from past) from past es ∙ ap (λ (k : Saying). tally_all y (events_of k (id_at t w from past) from past ++ es)) e)

-- its numbers stay small
longer_low : (k : Answered ℕ) (a n : ℕ) → IfSome k (λ p. p < a) → IfSome (longer k a n) (λ p. p < a + 1)
unfolding longer
longer_low (Some p) a n h = omega (arith, h)
longer_low None a n h = cases (ltb symbol_limit n) (λ e. rw (e, longer) (omega arith)) (λ e. rw (e, longer) tt)

within_more : (y : Tally) (at past : ℕ) → at ≤ past → Within y at → Within y past
within_more y at past h W =
    let a = W.alternatives in
    let s = W.symbols in
    record { alternatives = omega (arith, h, a); symbols = omega (arith, h, s); long = W.long }

pub roomy : (y : Tally) (at n : ℕ) → at ≤ n → n ≤ text_limit → Within y at → Roomy y
roomy y at n h l W = within_more y at text_limit (omega (arith, h, l)) W

within-said : (s : Saying) (y : Tally) (at past : ℕ) → at < past → Within y at → Within (tallied y s) past
unfolding tallied closed
within-said Lists y at past h W = within_more y at past (omega (arith, h)) W
within-said Opens y at past h W = within_more y at past (omega (arith, h)) W
within-said Defines y at past h W =
    let a = W.alternatives in
    let s = W.symbols in
    record { alternatives = omega (arith, h, a); symbols = omega (arith, h, s); long = W.long }
within-said Uses y at past h W =
    let a = W.alternatives in
    let s = W.symbols in
    record { alternatives = omega (arith, h, a); symbols = omega (arith, h, s); long = W.long }
within-said Shuts y at past h W =
    let a = W.alternatives in
    let s = W.symbols in
    record { alternatives = omega (arith, h, a); symbols = omega (arith, h, s); long = longer_low y.counts.long y.counts.alternatives y.body W.long }
within-said Nothing y at past h W = within_more y at past (omega (arith, h)) W

pub within_turn : (v y : Tally) (s : Saying) (t : List ℕ) (at : ℕ) (w : Word) (from past : ℕ) → Leads t at w from past → v ≡ tallied y s → Within y at → Within v past
within_turn v y s t at w from past L e W =
    let o = L.order in
    let d = L.wide in
    rw e (within-said s y at past (omega (arith, o, d)) W)
