-- Functions of a list that is gone over from its front: what is left of it gives what the whole gives.
use Rattle.std.proofs.Common.{◌≡◌, ℕ, ◌+◌, ◌<◌, Bool, true, false, cond, List, ◌∷◌, length, get_or, drop, ◌∙◌, ap, Option, Some, None}
use Rattle.std.specs.Prelude.{option_and_then}
use Rattle.std.specs.List.{find}
use Rattle.std.proofs.lemmas.List.{at_drop_more}
use Rattle.grammar.specs.declared.symbol.Symbol.{Symbol}
use Rattle.grammar.specs.declared.symbol.Symbol.TheVariants.{Terminal, Nonterminal}
use Rattle.automaton.specs.declared.automaton.Transition.{Transition}
use Rattle.automaton.specs.declared.automaton.Automaton.{Automaton}
use Rattle.automaton.specs.Targets.{same_symbol, target_in}
use Rattle.automaton.specs.States.{target_of, walk}
use Rattle.automaton.specs.Precedence.{last_terminal}

pub target_found : (ts : List Transition) (i : ℕ) (d : Transition) (x : Symbol) → i < length ts → same_symbol (get_or ts i d).symbol x ≡ true
    → target_in (drop i ts) x ≡ Some (get_or ts i d).to
target_found ts i d x l e =
    at_drop_more (λ (l : List Transition). target_in l x) ts i d l ∙ ap (λ b. cond b (Some (get_or ts i d).to) (target_in (drop (i + 1) ts) x)) e

pub target_next : (ts : List Transition) (i : ℕ) (d : Transition) (x : Symbol) → i < length ts → same_symbol (get_or ts i d).symbol x ≡ false
    → target_in (drop i ts) x ≡ target_in (drop (i + 1) ts) x
target_next ts i d x l e =
    at_drop_more (λ (l : List Transition). target_in l x) ts i d l ∙ ap (λ b. cond b (Some (get_or ts i d).to) (target_in (drop (i + 1) ts) x)) e

pub find_found : (p : ℕ → Bool) (xs : List ℕ) (i d : ℕ) → i < length xs → p (get_or xs i d) ≡ true → find p (drop i xs) ≡ Some (get_or xs i d)
find_found p xs i d l e =
    at_drop_more (find p) xs i d l ∙ ap (λ b. cond b (Some (get_or xs i d)) (find p (drop (i + 1) xs))) e

pub find_next : (p : ℕ → Bool) (xs : List ℕ) (i d : ℕ) → i < length xs → p (get_or xs i d) ≡ false → find p (drop i xs) ≡ find p (drop (i + 1) xs)
find_next p xs i d l e =
    at_drop_more (find p) xs i d l ∙ ap (λ b. cond b (Some (get_or xs i d)) (find p (drop (i + 1) xs))) e

pub walk_next : (a : Automaton) (xs : List Symbol) (i : ℕ) (d : Symbol) (s to : ℕ) → i < length xs → target_of a s (get_or xs i d) ≡ Some to
    → walk a (drop i xs) s ≡ walk a (drop (i + 1) xs) to
walk_next a xs i d s to l e =
    at_drop_more (λ (l : List Symbol). walk a l s) xs i d l ∙ ap (λ o. option_and_then (λ n. walk a (drop (i + 1) xs) n) o) e

pub walk_stops : (a : Automaton) (xs : List Symbol) (i : ℕ) (d : Symbol) (s : ℕ) → i < length xs → target_of a s (get_or xs i d) ≡ None
    → walk a (drop i xs) s ≡ None
walk_stops a xs i d s l e =
    at_drop_more (λ (l : List Symbol). walk a l s) xs i d l ∙ ap (λ o. option_and_then (λ n. walk a (drop (i + 1) xs) n) o) e

pub last_at_terminal : (before : Option ℕ) (xs : List Symbol) (i t : ℕ) (d : Symbol) → i < length xs → get_or xs i d ≡ Terminal t
    → last_terminal before (drop i xs) ≡ last_terminal (Some t) (drop (i + 1) xs)
last_at_terminal before xs i t d l e =
    at_drop_more (last_terminal before) xs i d l ∙ ap (λ x. last_terminal before (x ∷ drop (i + 1) xs)) e

pub last_at_nonterminal : (before : Option ℕ) (xs : List Symbol) (i n : ℕ) (d : Symbol) → i < length xs → get_or xs i d ≡ Nonterminal n
    → last_terminal before (drop i xs) ≡ last_terminal before (drop (i + 1) xs)
last_at_nonterminal before xs i n d l e =
    at_drop_more (last_terminal before) xs i d l ∙ ap (λ x. last_terminal before (x ∷ drop (i + 1) xs)) e
