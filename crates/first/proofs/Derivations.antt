-- Derivations of specs/Derives: one after the other, inside a context, and a production's own.
use mathlib.Core.Path.{◌≡◌, refl, ap, ◌∙◌, subst}
use mathlib.Core.List.{List, [], ◌∷◌, ◌++◌, append_assoc, append-nil, Memᴰ}
use Rattle.lr1_base.specs.repr.Meaning.{Symbol, nonterminal, Production}
use Rattle.first.specs.Derives.{Derives, done, step}

pub derives_trans : {ps : List Production} {xs ys zs : List Symbol} → Derives ps xs ys → Derives ps ys zs → Derives ps xs zs
derives_trans done k = k
derives_trans (step us vs p m e d) k = step us vs p m e (derives_trans d k)

-- the same lists by other names
pub derives_from : {ps : List Production} {xs xs' ys : List Symbol} → xs ≡ xs' → Derives ps xs ys → Derives ps xs' ys
derives_from {ps} {ys = ys} e d = subst (λ (l : List Symbol). Derives ps l ys) e d

pub derives_to : {ps : List Production} {xs ys ys' : List Symbol} → ys ≡ ys' → Derives ps xs ys → Derives ps xs ys'
derives_to {ps} {xs} e d = subst (λ (l : List Symbol). Derives ps xs l) e d

-- between us and vs
pub derives_between : {ps : List Production} (us vs : List Symbol) {xs ys : List Symbol} → Derives ps xs ys → Derives ps (us ++ (xs ++ vs)) (us ++ (ys ++ vs))
derives_between us vs done = done
derives_between us vs (step ls bs p m e d) =
    step (us ++ ls) (bs ++ vs) p m (ap (λ (l : List Symbol). us ++ (l ++ vs)) e ∙ place (nonterminal p.nonterminal ∷ bs)) (derives_from inner (derives_between us vs d))
  where
    place : (cs : List Symbol) → us ++ ((ls ++ cs) ++ vs) ≡ (us ++ ls) ++ (cs ++ vs)
    place cs = simp append_assoc

    inner : us ++ ((ls ++ (p.symbols ++ bs)) ++ vs) ≡ (us ++ ls) ++ (p.symbols ++ (bs ++ vs))
    inner = simp append_assoc

pub derives_before : {ps : List Production} (vs : List Symbol) {xs ys : List Symbol} → Derives ps xs ys → Derives ps (xs ++ vs) (ys ++ vs)
derives_before vs d = derives_between [] vs d

pub derives_after : {ps : List Production} (us : List Symbol) {xs ys : List Symbol} → Derives ps xs ys → Derives ps (us ++ xs) (us ++ ys)
derives_after us {xs} {ys} d =
    derives_from (ap (λ (l : List Symbol). us ++ l) (append-nil xs)) (derives_to (ap (λ (l : List Symbol). us ++ l) (append-nil ys)) (derives_between us [] d))

-- a production's nonterminal derives its symbols
pub derives_production : {ps : List Production} (p : Production) → Memᴰ p ps → Derives ps (nonterminal p.nonterminal ∷ []) p.symbols
derives_production p m = step [] [] p m refl (derives_to (append-nil p.symbols) done)
