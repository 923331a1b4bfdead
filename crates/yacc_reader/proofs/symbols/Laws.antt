-- The places of ids that are looked up.
use Prim.Native.Nat.{ℕ, suc}
use native.Mathlib.Omega.{arith}
use mathlib.Core.Bool.{Bool, true, false, ◌&&◌, not}
use mathlib.Core.Path.{◌≡◌, refl, sym, ap, ◌∙◌}
use mathlib.Core.List.{List}
use Rattle.lr1_base.specs.repr.Meaning.{nonterminal, terminal}
use Rattle.lr1_base.proofs.repr.Lists.{cases, clash}
use Rattle.lr1_base.specs.declared.repr.Symbol.TheVariants.{Nonterminal, Terminal}
use Rattle.yacc_syntax.specs.text.Grammar.{Id}
use Rattle.yacc_reader.specs.parsed_file.Source.{Known, is_known, number_in, Source}
use Rattle.yacc_reader.specs.parsed_file.Meaning.{symbol_of}
use Rattle.yacc_reader.specs.parsed_file.Outcome.{nowhere}
use Rattle.std.proofs.Common.{Option as Answer, Some, None}
use Rattle.std.specs.Option.{unwrap_or}
use Rattle.yacc_reader.specs.names.Names.{held}
use Rattle.yacc_reader.proofs.symbol_table.Lookup.{no_place}
use Rattle.yacc_reader.specs.numbers.Numbers.{place_in}
use Rattle.yacc_reader.specs.symbols.Symbols.{IsSymbol}

place_is : (ks : List Known) (x : Id) (p : ℕ) → p ≡ place_in ks x → (p ≡ 0 → ⊥) → (is_known ks x ≡ true) × (p ≡ suc (number_in ks x))
unfolding place_in
place_is ks x p e n =
    cases (is_known ks x)
    (λ y. (y, e ∙ ap (λ (b : Bool). elim b [ true ↦ suc (number_in ks x) | false ↦ 0 ]) y))
    (λ f. absurd (n (e ∙ sym (no_place ks x f))))

place_no : (ks : List Known) (x : Id) (p : ℕ) → p ≡ place_in ks x → p ≡ 0 → is_known ks x ≡ false
unfolding place_in
place_no ks x p e z =
    cases (is_known ks x)
    (λ y. let q : p ≡ suc (number_in ks x) = e ∙ ap (λ (b : Bool). elim b [ true ↦ suc (number_in ks x) | false ↦ 0 ]) y in absurd (omega (arith, q, z)))
    (λ f. f)

-- symbols by places
module _ (S : Source) (x : Id) where
  left_is : is_known S.nonterminals x ≡ true → symbol_of S x ≡ nonterminal (number_in S.nonterminals x)
  unfolding symbol_of
  left_is y = ap (λ (b : Bool). elim b [ true ↦ nonterminal (number_in S.nonterminals x) | false ↦ terminal (number_in S.terminals x) ]) y

  token_is : is_known S.nonterminals x ≡ false → symbol_of S x ≡ terminal (number_in S.terminals x)
  unfolding symbol_of
  token_is f = ap (λ (b : Bool). elim b [ true ↦ nonterminal (number_in S.nonterminals x) | false ↦ terminal (number_in S.terminals x) ]) f

  pub symbol-left : (j : ℕ) → suc j ≡ place_in S.nonterminals x → IsSymbol S x (Nonterminal (record { 0 = j }))
  symbol-left j e =
      let k = place_is S.nonterminals x (suc j) e (λ z. omega (arith, z)) in
      let q : suc j ≡ suc (number_in S.nonterminals x) = k.1 in
      let i = left_is k.0 in
      let r : j ≡ number_in S.nonterminals x = omega (arith, q) in
      record { is = λ f. ap nonterminal r ∙ sym i }

  nowhere-both : is_known S.nonterminals x ≡ false → is_known S.terminals x ≡ false → nowhere S x ≡ true
  unfolding nowhere
  nowhere-both f g = ap (λ (b : Bool). not b && not (is_known S.terminals x)) f ∙ ap not g

  pub symbol-token : 0 ≡ place_in S.nonterminals x → (o : Answer ℕ) → held o ≡ place_in S.terminals x → IsSymbol S x (Terminal (unwrap_or o 0))
  symbol-token z None e = record { is = λ g. clash (nowhere S x) (nowhere-both (place_no S.nonterminals x 0 z refl) (place_no S.terminals x 0 e refl)) g }
  symbol-token z (Some j) e =
      let k = (place_is S.terminals x (suc j) e (λ q. omega (arith, q))).1 in
      let i = token_is (place_no S.nonterminals x 0 z refl) in
      let r : j ≡ number_in S.terminals x = omega (arith, k) in
      record { is = λ g. ap terminal r ∙ sym i }
