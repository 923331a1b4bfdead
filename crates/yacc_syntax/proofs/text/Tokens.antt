-- The tokens: `run` gives back the file whose tokens they are, and no other.
use Prim.Native.Nat.{ℕ}
use native.Mathlib.Omega.{arith}
use mathlib.Core.Bool.{Bool, true, false}
use mathlib.Core.Path.{◌≡◌, refl, sym, ap, ◌∙◌}
use mathlib.Core.List.{List, [], ◌∷◌}
use mathlib.Core.Option.{Option, none, some}
use Rattle.yacc_syntax.specs.text.Grammar.{Id, named, quoted, Token, ident, token, start, mark, colon, bar, semi, Rule, rule, Def, starts, tokens, File, one_start, ids_to, alts_to, rule_to, rules_to, def_to, defs_to, tokens_of}
use Rattle.yacc_syntax.specs.text.Parse.{State, behind, body, left, head, bad, left_side, marked, declared, begun, step, run, whole, file_of}

-- from the file to the state
ids_body : (xs : List Id) (k : List Token) (cs : List (List Id)) (rs : List Rule) → run k ≡ body [] cs rs → run (ids_to xs k) ≡ body xs cs rs
unfolding ids_to run step
ids_body [] k cs rs e = e
ids_body (x ∷ xs) k cs rs e = ap (step (ident x)) (ids_body xs k cs rs e)

alts_run : (b : List Id) (cs : List (List Id)) (k : List Token) (rs : List Rule) → run k ≡ behind rs → run (alts_to b cs k) ≡ body b cs rs
unfolding alts_to run step
alts_run b [] k rs e = ids_body b (semi ∷ k) [] rs (ap (step semi) e)
alts_run b (c ∷ cs) k rs e = ids_body b (bar ∷ alts_to c cs k) (c ∷ cs) rs (ap (step bar) (alts_run c cs k rs e))

rule-run : (r : Rule) (k : List Token) (rs : List Rule) → run k ≡ behind rs → run (rule_to r k) ≡ behind (r ∷ rs)
unfolding rule_to run step left_side
rule-run (rule n ns b cs) k rs e = ap (λ (s : State). step (ident (named n ns)) (step colon s)) (alts_run b cs k rs e)

rules_run : (rs : List Rule) → run (rules_to rs) ≡ behind rs
unfolding rules_to run
rules_run [] = refl
rules_run (r ∷ rs) = rule-run r (rules_to rs) rs (rules_run rs)

ids_head : (xs : List Id) (k : List Token) (ds : List Def) (r : Rule) (rs : List Rule) → run k ≡ head [] ds r rs → run (ids_to xs k) ≡ head xs ds r rs
unfolding ids_to run step
ids_head [] k ds r rs e = e
ids_head (x ∷ xs) k ds r rs e = ap (step (ident x)) (ids_head xs k ds r rs e)

def_run : (d : Def) (k : List Token) (ds : List Def) (r : Rule) (rs : List Rule) → run k ≡ head [] ds r rs → run (def_to d k) ≡ head [] (d ∷ ds) r rs
unfolding def_to run step declared begun
def_run (starts x) k ds r rs e = ap (λ (s : State). step start (step (ident x) s)) e
def_run (tokens x xs) k ds r rs e = ap (λ (s : State). step token (step (ident x) s)) (ids_head xs k ds r rs e)

defs_run : (ds : List Def) (k : List Token) (r : Rule) (rs : List Rule) → run k ≡ head [] [] r rs → run (defs_to ds k) ≡ head [] ds r rs
unfolding defs_to
defs_run [] k r rs e = e
defs_run (d ∷ ds) k r rs e = def_run d (defs_to ds k) ds r rs (defs_run ds k r rs e)

pub tokens-run : (f : File) → run (tokens_of f) ≡ head [] f.defs f.first f.more
unfolding tokens_of run step marked
tokens-run f = defs_run f.defs (mark ∷ rule_to f.first (rules_to f.more)) f.first f.more (ap (step mark) (rule-run f.first (rules_to f.more) f.more (rules_run f.more)))

whole_one : (ds : List Def) (r : Rule) (rs : List Rule) → one_start ds ≡ true → whole [] ds r rs ≡ some (record { defs = ds; first = r; more = rs })
unfolding whole
whole_one ds r rs e = rw (e, whole)

pub file_complete : (f : File) → one_start f.defs ≡ true → file_of (run (tokens_of f)) ≡ some f
unfolding file_of
file_complete f e = ap file_of (tokens-run f) ∙ whole_one f.defs f.first f.more e

-- from the state to the file: what a state stands for
abbrev Good : State → List Token → Type 0
Good (behind rs) ts = rules_to rs ≡ ts
Good (body b cs rs) ts = alts_to b cs (rules_to rs) ≡ ts
Good (left b cs rs) ts = colon ∷ alts_to b cs (rules_to rs) ≡ ts
Good (head xs ds r rs) ts = ids_to xs (defs_to ds (mark ∷ rule_to r (rules_to rs))) ≡ ts
Good bad ts = Unit {0}

good_behind : (t : Token) (rs : List Rule) (ts : List Token) → Good (behind rs) ts → Good (step t (behind rs)) (t ∷ ts)
unfolding step marked alts_to ids_to rules_to defs_to
good_behind (ident x) rs ts g = tt
good_behind token rs ts g = tt
good_behind start rs ts g = tt
good_behind mark [] ts g = tt
good_behind mark (r ∷ rs) ts g = ap (λ (k : List Token). mark ∷ k) g
good_behind colon rs ts g = tt
good_behind bar rs ts g = tt
good_behind semi rs ts g = ap (λ (k : List Token). semi ∷ k) g

alts_cons : (x : Id) (b : List Id) (cs : List (List Id)) (k : List Token) → alts_to (x ∷ b) cs k ≡ ident x ∷ alts_to b cs k
unfolding alts_to ids_to
alts_cons x b [] k = refl
alts_cons x b (c ∷ cs) k = refl

good_body : (t : Token) (b : List Id) (cs : List (List Id)) (rs : List Rule) (ts : List Token) → Good (body b cs rs) ts → Good (step t (body b cs rs)) (t ∷ ts)
unfolding step alts_to ids_to
good_body (ident x) b cs rs ts g = alts_cons x b cs (rules_to rs) ∙ ap (λ (k : List Token). ident x ∷ k) g
good_body token b cs rs ts g = tt
good_body start b cs rs ts g = tt
good_body mark b cs rs ts g = tt
good_body colon b cs rs ts g = ap (λ (k : List Token). colon ∷ k) g
good_body bar b cs rs ts g = ap (λ (k : List Token). bar ∷ k) g
good_body semi b cs rs ts g = tt

good_left : (t : Token) (b : List Id) (cs : List (List Id)) (rs : List Rule) (ts : List Token) → Good (left b cs rs) ts → Good (step t (left b cs rs)) (t ∷ ts)
unfolding step left_side rules_to rule_to
good_left (ident (named n ns)) b cs rs ts g = ap (λ (k : List Token). ident (named n ns) ∷ k) g
good_left (ident (quoted q)) b cs rs ts g = tt
good_left token b cs rs ts g = tt
good_left start b cs rs ts g = tt
good_left mark b cs rs ts g = tt
good_left colon b cs rs ts g = tt
good_left bar b cs rs ts g = tt
good_left semi b cs rs ts g = tt

good_declared : (xs : List Id) (ds : List Def) (r : Rule) (rs : List Rule) (ts : List Token) → Good (head xs ds r rs) ts → Good (declared xs ds r rs) (token ∷ ts)
unfolding declared ids_to defs_to def_to
good_declared [] ds r rs ts g = tt
good_declared (x ∷ xs) ds r rs ts g = ap (λ (k : List Token). token ∷ k) g

good_begun : (xs : List Id) (ds : List Def) (r : Rule) (rs : List Rule) (ts : List Token) → Good (head xs ds r rs) ts → Good (begun xs ds r rs) (start ∷ ts)
unfolding begun ids_to defs_to def_to
good_begun [] ds r rs ts g = tt
good_begun (x ∷ []) ds r rs ts g = ap (λ (k : List Token). start ∷ k) g
good_begun (x ∷ y ∷ xs) ds r rs ts g = tt

good_head : (t : Token) (xs : List Id) (ds : List Def) (r : Rule) (rs : List Rule) (ts : List Token) → Good (head xs ds r rs) ts → Good (step t (head xs ds r rs)) (t ∷ ts)
unfolding step ids_to
good_head (ident x) xs ds r rs ts g = ap (λ (k : List Token). ident x ∷ k) g
good_head token xs ds r rs ts g = good_declared xs ds r rs ts g
good_head start xs ds r rs ts g = good_begun xs ds r rs ts g
good_head mark xs ds r rs ts g = tt
good_head colon xs ds r rs ts g = tt
good_head bar xs ds r rs ts g = tt
good_head semi xs ds r rs ts g = tt

good_step : (t : Token) (s : State) (ts : List Token) → Good s ts → Good (step t s) (t ∷ ts)
unfolding step
good_step t (behind rs) ts g = good_behind t rs ts g
good_step t (body b cs rs) ts g = good_body t b cs rs ts g
good_step t (left b cs rs) ts g = good_left t b cs rs ts g
good_step t (head xs ds r rs) ts g = good_head t xs ds r rs ts g
good_step t bad ts g = tt

good_run : (ts : List Token) → Good (run ts) ts
unfolding run rules_to
good_run [] = refl
good_run (t ∷ ts) = good_step t (run ts) ts (good_run ts)

none-some : (f : File) → ◌≡◌ {A = Option File} none (some f) → ⊥
none-some f q = let w : ◌≡◌ {A = ℕ} 0 1 = ap (λ (o : Option File). elim o [ none ↦ 0 | some c ↦ 1 ]) q in omega arith

whole_sound : (xs : List Id) (ds : List Def) (r : Rule) (rs : List Rule) (ts : List Token) (f : File) → Good (head xs ds r rs) ts → whole xs ds r rs ≡ some f → (ts ≡ tokens_of f) × (one_start f.defs ≡ true)
unfolding whole ids_to tokens_of
whole_sound [] ds r rs ts f g e = by (one_start ds) refl e
  where
    by : (o : Bool) → one_start ds ≡ o → elim o [ true ↦ some (record { defs = ds; first = r; more = rs }) | false ↦ none ] ≡ some f → (ts ≡ tokens_of f) × (one_start f.defs ≡ true)
    by true o e =
        let i : record { defs = ds; first = r; more = rs } ≡ f = cc in
        (sym g ∙ ap tokens_of i, ap (λ (h : File). one_start h.defs) (sym i) ∙ o)
    by false o e = absurd (none-some f e)
whole_sound (x ∷ xs) ds r rs ts f g e = absurd (none-some f e)

state_sound : (s : State) (ts : List Token) (f : File) → Good s ts → file_of s ≡ some f → (ts ≡ tokens_of f) × (one_start f.defs ≡ true)
unfolding file_of
state_sound (behind rs) ts f g e = absurd (none-some f e)
state_sound (body b cs rs) ts f g e = absurd (none-some f e)
state_sound (left b cs rs) ts f g e = absurd (none-some f e)
state_sound (head xs ds r rs) ts f g e = whole_sound xs ds r rs ts f g e
state_sound bad ts f g e = absurd (none-some f e)

pub file_sound : (ts : List Token) (f : File) → file_of (run ts) ≡ some f → (ts ≡ tokens_of f) × (one_start f.defs ≡ true)
file_sound ts f e = state_sound (run ts) ts f (good_run ts) e
