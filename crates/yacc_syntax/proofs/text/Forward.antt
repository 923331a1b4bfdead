-- The loop from the front accepts exactly the token lists that `run` gives a file for.
use mathlib.Core.Bool.{Bool, true, false}
use mathlib.Core.Path.{◌≡◌, refl, sym, ap, ◌∙◌}
use mathlib.Core.List.{List, [], ◌∷◌, map}
use mathlib.Core.Option.{Option, none, some}
use lib.ListN.{get_or}
use Rattle.yacc_syntax.specs.text.Grammar.{Id, named, quoted, Token, ident, token, start, mark, colon, bar, semi, Rule, Def, File, no_start, one_start}
use Rattle.yacc_syntax.specs.text.Parse.{State, behind, body, left, head, bad, left_side, marked, declared, begun, step, run, whole, file_of}
use Rattle.yacc_syntax.specs.text.Forward.{Mode, top, wanted, listed, starting, ruled, sided, bodied, done, dead, begins, sides, move, last, accepts}

-- a mode of what stands before a place goes with a state of what stands behind it
starts_left : Bool → List Def → Bool
starts_left true ds = no_start ds
starts_left false ds = one_start ds

none? : List Id → Bool → Bool
none? [] t = t
none? (x ∷ xs) t = false

some? : List Id → Bool → Bool
some? [] t = false
some? (x ∷ xs) t = t

one? : List Id → Bool → Bool
one? [] t = false
one? (x ∷ xs) t = none? xs t

rule? : List Rule → Bool
rule? [] = false
rule? (r ∷ rs) = true

with : Mode → State → Bool
with m (behind rs) = elim m [ top s ↦ false | wanted s ↦ false | listed s ↦ false | starting ↦ false | ruled ↦ rule? rs | sided ↦ false | bodied ↦ false | done ↦ true | dead ↦ false ]
with m (body b cs rs) = elim m [ top s ↦ false | wanted s ↦ false | listed s ↦ false | starting ↦ false | ruled ↦ false | sided ↦ false | bodied ↦ true | done ↦ false | dead ↦ false ]
with m (left b cs rs) = elim m [ top s ↦ false | wanted s ↦ false | listed s ↦ false | starting ↦ false | ruled ↦ false | sided ↦ true | bodied ↦ false | done ↦ false | dead ↦ false ]
with m (head xs ds r rs) = elim m [ top s ↦ none? xs (starts_left s ds) | wanted s ↦ some? xs (starts_left s ds) | listed s ↦ starts_left s ds | starting ↦ one? xs (no_start ds) | ruled ↦ false | sided ↦ false | bodied ↦ false | done ↦ false | dead ↦ false ]
with m bad = false

-- a test of every mode
abbrev modes : List Mode
modes = top true ∷ top false ∷ wanted true ∷ wanted false ∷ listed true ∷ listed false ∷ starting ∷ ruled ∷ sided ∷ bodied ∷ done ∷ dead ∷ []

at_mode : (f g : Mode → Bool) → map f modes ≡ map g modes → (m : Mode) → f m ≡ g m
at_mode f g e (top true) = ap (λ (l : List Bool). get_or l 0 false) e
at_mode f g e (top false) = ap (λ (l : List Bool). get_or l 1 false) e
at_mode f g e (wanted true) = ap (λ (l : List Bool). get_or l 2 false) e
at_mode f g e (wanted false) = ap (λ (l : List Bool). get_or l 3 false) e
at_mode f g e (listed true) = ap (λ (l : List Bool). get_or l 4 false) e
at_mode f g e (listed false) = ap (λ (l : List Bool). get_or l 5 false) e
at_mode f g e starting = ap (λ (l : List Bool). get_or l 6 false) e
at_mode f g e ruled = ap (λ (l : List Bool). get_or l 7 false) e
at_mode f g e sided = ap (λ (l : List Bool). get_or l 8 false) e
at_mode f g e bodied = ap (λ (l : List Bool). get_or l 9 false) e
at_mode f g e done = ap (λ (l : List Bool). get_or l 10 false) e
at_mode f g e dead = ap (λ (l : List Bool). get_or l 11 false) e

-- for each token and state every mode computes
each : (t : Token) (s : State) → map (λ m. with (move m t) s) modes ≡ map (λ m. with m (step t s)) modes
unfolding with starts_left none? some? one? rule? move begins sides step left_side marked declared begun no_start one_start
each (ident (named n ns)) (behind []) = refl
each (ident (named n ns)) (behind (r ∷ rs)) = refl
each (ident (named n ns)) (body b cs rs) = refl
each (ident (named n ns)) (left b cs rs) = refl
each (ident (named n ns)) (head [] ds r rs) = refl
each (ident (named n ns)) (head (x ∷ []) ds r rs) = refl
each (ident (named n ns)) (head (x ∷ y ∷ xs) ds r rs) = refl
each (ident (named n ns)) bad = refl
each (ident (quoted q)) (behind []) = refl
each (ident (quoted q)) (behind (r ∷ rs)) = refl
each (ident (quoted q)) (body b cs rs) = refl
each (ident (quoted q)) (left b cs rs) = refl
each (ident (quoted q)) (head [] ds r rs) = refl
each (ident (quoted q)) (head (x ∷ []) ds r rs) = refl
each (ident (quoted q)) (head (x ∷ y ∷ xs) ds r rs) = refl
each (ident (quoted q)) bad = refl
each token (behind []) = refl
each token (behind (r ∷ rs)) = refl
each token (body b cs rs) = refl
each token (left b cs rs) = refl
each token (head [] ds r rs) = refl
each token (head (x ∷ []) ds r rs) = refl
each token (head (x ∷ y ∷ xs) ds r rs) = refl
each token bad = refl
each start (behind []) = refl
each start (behind (r ∷ rs)) = refl
each start (body b cs rs) = refl
each start (left b cs rs) = refl
each start (head [] ds r rs) = refl
each start (head (x ∷ []) ds r rs) = refl
each start (head (x ∷ y ∷ xs) ds r rs) = refl
each start bad = refl
each mark (behind []) = refl
each mark (behind (r ∷ rs)) = refl
each mark (body b cs rs) = refl
each mark (left b cs rs) = refl
each mark (head [] ds r rs) = refl
each mark (head (x ∷ []) ds r rs) = refl
each mark (head (x ∷ y ∷ xs) ds r rs) = refl
each mark bad = refl
each colon (behind []) = refl
each colon (behind (r ∷ rs)) = refl
each colon (body b cs rs) = refl
each colon (left b cs rs) = refl
each colon (head [] ds r rs) = refl
each colon (head (x ∷ []) ds r rs) = refl
each colon (head (x ∷ y ∷ xs) ds r rs) = refl
each colon bad = refl
each bar (behind []) = refl
each bar (behind (r ∷ rs)) = refl
each bar (body b cs rs) = refl
each bar (left b cs rs) = refl
each bar (head [] ds r rs) = refl
each bar (head (x ∷ []) ds r rs) = refl
each bar (head (x ∷ y ∷ xs) ds r rs) = refl
each bar bad = refl
each semi (behind []) = refl
each semi (behind (r ∷ rs)) = refl
each semi (body b cs rs) = refl
each semi (left b cs rs) = refl
each semi (head [] ds r rs) = refl
each semi (head (x ∷ []) ds r rs) = refl
each semi (head (x ∷ y ∷ xs) ds r rs) = refl
each semi bad = refl

with_move : (m : Mode) (t : Token) (s : State) → with (move m t) s ≡ with m (step t s)
with_move m t s = at_mode (λ m. with (move m t) s) (λ m. with m (step t s)) (each t s) m

with_last : (m : Mode) → last m ≡ with m (behind [])
unfolding last with rule?
with_last m = at_mode last (λ m. with m (behind [])) refl m

accepts_with : (ts : List Token) (m : Mode) → accepts m ts ≡ with m (run ts)
unfolding accepts run
accepts_with [] m = with_last m
accepts_with (t ∷ ts) m = accepts_with ts (move m t) ∙ with_move m t (run ts)

abbrev found : Option File → Bool
found o = elim o [ none ↦ false | some f ↦ true ]

found-whole : (ds : List Def) (r : Rule) (rs : List Rule) (o : Bool) → one_start ds ≡ o → found (whole [] ds r rs) ≡ o
unfolding whole
found-whole ds r rs true e = rw (e, whole)
found-whole ds r rs false e = rw (e, whole)

found_with : (s : State) → with (top false) s ≡ found (file_of s)
unfolding with file_of whole starts_left none?
found_with (behind rs) = refl
found_with (body b cs rs) = refl
found_with (left b cs rs) = refl
found_with (head [] ds r rs) = sym (found-whole ds r rs (one_start ds) refl)
found_with (head (x ∷ xs) ds r rs) = refl
found_with bad = refl

pub accepts-found : (ts : List Token) → accepts (top false) ts ≡ found (file_of (run ts))
accepts-found ts = accepts_with ts (top false) ∙ found_with (run ts)
