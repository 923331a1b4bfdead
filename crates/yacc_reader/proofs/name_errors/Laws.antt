-- An id looked up is known exactly if its word is not 0; ids that are known in two lists; words that are ids.
use Prim.Native.Nat.{ℕ, suc}
use native.Mathlib.Omega.{arith}
use mathlib.Core.Bool.{Bool, true, false, ◌&&◌, ◌||◌, not}
use mathlib.Core.Path.{◌≡◌, refl, sym, ap, ◌∙◌}
use mathlib.Core.List.{List, [], ◌∷◌}
use lib.Dec.{eqb}
use borrow.Author.Tests.{eq-eqb, ne_eqb}
use Rattle.lr1_base.specs.repr.Lists.{some?}
use Rattle.lr1_base.proofs.repr.Lists.{cases, clash}
use Rattle.lr1_base.proofs.repr.Tests.{some?-nil, some?-yes, some?_no, some?-cons}
use Rattle.yacc_syntax.specs.text.Grammar.{Id}
use Rattle.yacc_syntax.specs.text.Forward.{Mode, top, wanted, listed, starting, ruled, sided, bodied, done, dead}
use Rattle.yacc_syntax.specs.declared.lexer.Word.{Word}
use Rattle.yacc_syntax.specs.declared.lexer.Word.TheVariants.{Name, Literal, Token, Start, Mark, Colon, Bar, Semi}
use Rattle.yacc_reader.specs.parsed_file.Source.{same_id, Known, is_known, number_in, Source}
use Rattle.yacc_reader.specs.parsed_file.Outcome.{nowhere}
use Rattle.yacc_reader.proofs.parsed_file.Known.{same_id_lem, same_id_eq, known_cons, known_none}
use Rattle.yacc_reader.specs.events.Said.{end_said, said_in}
use Rattle.yacc_reader.specs.declared.events.Saying.{Saying}
use Rattle.yacc_reader.specs.declared.events.Saying.TheVariants.{Lists, Opens, Defines, Uses, Shuts, Nothing}
use Rattle.std.proofs.Common.{Option as Answer, Some, None}
use Rattle.std.specs.Option.{is_some}
use Rattle.yacc_reader.specs.names.Names.{held}
use Rattle.yacc_reader.specs.numbers.Numbers.{place_in}
use Rattle.yacc_reader.specs.symbol_table.Ids.{is_id}
use Rattle.lr1_base.proofs.laws.Bools.{or_second}

-- Booleans
not-not : (b : Bool) → not (not b) ≡ b
not-not true = refl
not-not false = refl

-- an id that is known in both
pub known_both : (ts ks : List Known) (x : Id) → is_known ks x ≡ true → is_known ts x ≡ true → some? (λ k. is_known ts k.id) ks ≡ true
known_both ts [] x h y = clash (is_known [] x) h (known_none x)
known_both ts (k ∷ ks) x h y =
    cases (same_id x k.id)
    (λ e. some?-yes (λ j. is_known ts j.id) k ks (ap (is_known ts) (sym (same_id_eq x k.id e)) ∙ y))
    (λ e. some?-cons (λ j. is_known ts j.id) k ks ∙ or_second (is_known ts k.id) (some? (λ j. is_known ts j.id) ks) (known_both ts ks x (sym (known_cons k ks x ∙ ap (λ (b : Bool). b || is_known ks x) e) ∙ h) y))

pub none_both : (ts ks : List Known) → ((x : Id) → is_known ks x ≡ true → is_known ts x ≡ false) → some? (λ k. is_known ts k.id) ks ≡ false
none_both ts [] f = some?-nil (λ (j : Known). is_known ts j.id)
none_both ts (k ∷ ks) f =
    some?_no (λ j. is_known ts j.id) k ks (f k.id (known_cons k ks k.id ∙ ap (λ (b : Bool). b || is_known ks k.id) (same_id_lem k.id)))
    ∙ none_both ts ks (λ x h. f x (known_cons k ks x ∙ or_second (same_id x k.id) (is_known ks x) h))

-- a word that holds the place of an id
by_word : (b : Bool) (n w : ℕ) → w ≡ elim b [ true ↦ suc n | false ↦ 0 ] → b ≡ not (eqb w 0)
by_word true n w e = sym (ap not (ne_eqb w 0 (λ z. omega (arith, e, z))))
by_word false n w e = sym (ap not (eq-eqb w 0 e))

pub placed_known : (ks : List Known) (x : Id) (w : ℕ) → w ≡ place_in ks x → is_known ks x ≡ not (eqb w 0)
unfolding place_in
placed_known ks x w e = by_word (is_known ks x) (number_in ks x) w e

-- an id is known exactly if its number is found
pub found_known : (ks : List Known) (x : Id) (o : Answer ℕ) → held o ≡ place_in ks x → is_some o ≡ is_known ks x
found_known ks x None e = sym (placed_known ks x 0 e)
found_known ks x (Some j) e = sym (placed_known ks x (suc j) e ∙ ap not (ne_eqb (suc j) 0 (λ z. omega (arith, z))))

pub none_known : (ks : List Known) (x : Id) (o : Answer ℕ) (b : Bool) → held o ≡ place_in ks x → is_some o ≡ not b → b ≡ not (is_known ks x)
none_known ks x o b e q = sym (not-not b) ∙ ap not (sym q ∙ found_known ks x o e)

-- `is_nowhere`
pub nowhere_by : (S : Source) (x : Id) (a b : Bool) → a ≡ not (is_known S.nonterminals x) → b ≡ not (is_known S.terminals x) → (a && b) ≡ nowhere S x
unfolding nowhere
nowhere_by S x a b p q = ap (λ (c : Bool). c && b) p ∙ ap (λ (c : Bool). not (is_known S.nonterminals x) && c) q

pub nowhere_no : (S : Source) (x : Id) → false ≡ not (is_known S.nonterminals x) → false ≡ nowhere S x
unfolding nowhere
nowhere_no S x p = ap (λ (c : Bool). c && not (is_known S.terminals x)) p

-- words that are ids
unfoldable of_id : Saying → Bool
of_id s = elim s [ Lists ↦ true | Opens ↦ true | Defines ↦ true | Uses ↦ true | Shuts ↦ false | Nothing ↦ false ]

end_silent : (m : Mode) → of_id (end_said m) ≡ false
unfolding of_id end_said
end_silent (top s) = refl
end_silent (wanted s) = refl
end_silent (listed s) = refl
end_silent starting = refl
end_silent ruled = refl
end_silent sided = refl
end_silent bodied = refl
end_silent done = refl
end_silent dead = refl

id_word : (m : Mode) (w : Word) → of_id (said_in m w) ≡ true → is_id w ≡ true
unfolding is_id said_in of_id
id_word m Name e = refl
id_word m Literal e = refl
id_word m Token e = clash false e refl
id_word m Start e = clash false e refl
id_word m Mark e = clash false e refl
id_word m Colon e = clash false e refl
id_word m Bar e = clash (of_id (end_said m)) e (end_silent m)
id_word m Semi e = clash (of_id (end_said m)) e (end_silent m)

pub use_word : (m : Mode) (w : Word) (s : Saying) → s ≡ said_in m w → s ≡ Uses → is_id w ≡ true
unfolding of_id
use_word m w s e q = id_word m w (sym (ap of_id e) ∙ ap of_id q)

pub lists-word : (m : Mode) (w : Word) (s : Saying) → s ≡ said_in m w → s ≡ Lists → is_id w ≡ true
unfolding of_id
lists-word m w s e q = id_word m w (sym (ap of_id e) ∙ ap of_id q)

pub start_word : (m : Mode) (w : Word) (s : Saying) → s ≡ said_in m w → s ≡ Opens → is_id w ≡ true
unfolding of_id
start_word m w s e q = id_word m w (sym (ap of_id e) ∙ ap of_id q)

pub define_word : (m : Mode) (w : Word) (s : Saying) → s ≡ said_in m w → s ≡ Defines → is_id w ≡ true
unfolding of_id
define_word m w s e q = id_word m w (sym (ap of_id e) ∙ ap of_id q)
