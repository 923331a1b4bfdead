-- The numbers of ids that are looked up.
use Prim.Native.Nat.{ℕ, suc, ◌+◌, ◌-◌, ◌≤◌, ◌<◌}
use native.Mathlib.Omega.{arith}
use mathlib.Core.Bool.{Bool, true, false}
use mathlib.Core.Path.{◌≡◌, refl, sym, ap, ◌∙◌}
use mathlib.Core.List.{List}
use mathlib.Core.Option.{Option, none, some}
use lib.ListN.{length, get_or}
use lib.Seq.{slice}
use Rattle.lr1_base.proofs.repr.Lists.{clash}
use Rattle.yacc_syntax.specs.text.Grammar.{Id, quoted, Layout, byte_limit}
use Rattle.yacc_syntax.specs.text.Parse.{parse}
use Rattle.yacc_syntax.specs.declared.lexer.Word.{Word}
use Rattle.yacc_syntax.specs.declared.lexer.Word.TheVariants.{Name, Literal, Token, Start, Mark, Colon, Bar, Semi}
use Rattle.yacc_syntax.specs.recognizer.Accepted.{is_grammar_text}
use Rattle.yacc_reader.specs.parsed_file.Source.{Known, is_known, number_in}
use Rattle.yacc_reader.specs.events.Said.{id_at}
use Rattle.yacc_reader.specs.names.Names.{is_name, latest}
use Rattle.yacc_reader.proofs.names.Laws.{latest_low}
use Rattle.yacc_reader.specs.numbers.Numbers.{place_in}
use Rattle.yacc_reader.specs.declared.symbol_table.Ids.{Ids}
use Rattle.yacc_reader.specs.symbol_table.Ids.{name_id, Held, Kept, Named, is_id}
use Rattle.yacc_reader.proofs.symbol_table.Laws.{quoted_no_name, token_literal, token_name, name_found, name_apart, token-apart}

-- names entered, with words for their numbers, in a text of the grammar
pub kept_of : (t starts pasts ix lefts tokens : List ℕ) (ids : Ids) → is_grammar_text t ≡ true → Named t starts pasts ix lefts tokens ids → Kept t starts pasts ix lefts tokens ids
unfolding is_grammar_text
kept_of t starts pasts ix lefts tokens ids g N = go (parse t) refl g
  where
    go : (o : Option Layout) → parse t ≡ o → elim o [ none ↦ false | some l ↦ true ] ≡ true → Kept t starts pasts ix lefts tokens ids
    go none e y = clash false y refl
    go (some l) e y = let H = N.held l e in record { names = H.names; left = H.nonterminals.numbers.long; token = H.terminals.numbers.long }

pub no_place : (ks : List Known) (x : Id) → is_known ks x ≡ false → 0 ≡ place_in ks x
unfolding place_in
no_place ks x e = sym (ap (λ (b : Bool). elim b [ true ↦ suc (number_in ks x) | false ↦ 0 ]) e)

-- a word that is no id
pub no_id : (w : Word) → (w ≡ Name → ⊥) → (w ≡ Literal → ⊥) → is_id w ≡ true → ⊥
unfolding is_id
no_id Name n l i = n refl
no_id Literal n l i = l refl
no_id Token n l i = clash false i refl
no_id Start n l i = clash false i refl
no_id Mark n l i = clash false i refl
no_id Colon n l i = clash false i refl
no_id Bar n l i = clash false i refl
no_id Semi n l i = clash false i refl

-- the number of an id by its kind
pub place_at : (t : List ℕ) (ks : List Known) (from past p : ℕ) (k v : Word) → k ≡ v → p ≡ place_in ks (id_at t v from past) → p ≡ place_in ks (id_at t k from past)
place_at t ks from past p k v e q = q ∙ sym (ap (λ (j : Word). place_in ks (id_at t j from past)) e)

module _ (t starts pasts ix lefts tokens : List ℕ) (ids : Ids) (ns ts : List Known) (H : Held t starts pasts ix lefts tokens ids ns ts) where
  pub literal_left : (b : ℕ) → is_known ns (quoted b) ≡ false
  unfolding name_id
  literal_left b = H.nonterminals.whole (quoted b) (λ i h e. quoted_no_name t b (get_or starts i 0) (get_or pasts i 0) e)

  module _ (from past : ℕ) where
    -- an id that is no name
    pub left_other : (k : Word) → (k ≡ Name → ⊥) → is_id k ≡ true → 0 ≡ place_in ns (id_at t k from past)
    unfolding is_id id_at
    left_other Name n i = absurd (n refl)
    left_other Literal n i = no_place ns (quoted (get_or t (from + 1) 0)) (literal_left (get_or t (from + 1) 0))
    left_other Token n i = clash false i refl
    left_other Start n i = clash false i refl
    left_other Mark n i = clash false i refl
    left_other Colon n i = clash false i refl
    left_other Bar n i = clash false i refl
    left_other Semi n i = clash false i refl

    pub token_quoted : (k : Word) → k ≡ Literal → (b w : ℕ) → (b ≡ get_or t (from + 1) 0) × (b < byte_limit) → w ≡ get_or tokens b 0 → w ≡ place_in ts (id_at t k from past)
    unfolding id_at
    token_quoted k e b w B q =
        let h : b < byte_limit = B.1 in
        place_at t ts from past w k Literal e (q ∙ H.terminals.numbers.place b (omega (arith, h)) ∙ ap (place_in ts) (token_literal t starts pasts b h ∙ ap quoted B.0))

    -- a name
    module _ (wide : from < past) (fit : past ≤ length t) (k : Word) (e : k ≡ Name) where
      pub left_none : 0 ≡ latest (is_name t starts pasts (slice from past t)) ids.names → 0 ≡ place_in ns (id_at t k from past)
      left_none z = place_at t ns from past 0 k Name e (no_place ns (id_at t Name from past) (H.nonterminals.whole (id_at t Name from past) (λ i h q. name_apart t starts pasts ix lefts tokens ids ns ts H from past wide fit (sym z) i h (sym q))))

      pub token_none : 0 ≡ latest (is_name t starts pasts (slice from past t)) ids.names → 0 ≡ place_in ts (id_at t k from past)
      token_none z = place_at t ts from past 0 k Name e (no_place ts (id_at t Name from past) (H.terminals.whole (id_at t Name from past) (λ i h q. token-apart t starts pasts ix lefts tokens ids ns ts H from past wide fit (sym z) i h (sym q))))

      module _ (j : ℕ) (f : suc j ≡ latest (is_name t starts pasts (slice from past t)) ids.names) where
        found : (j < ids.names) × (name_id t starts pasts j ≡ id_at t Name from past)
        found = name_found t starts pasts ix lefts tokens ids ns ts H from past wide fit j (sym f)

        pub left_some : (w : ℕ) → w ≡ get_or lefts j 0 → w ≡ place_in ns (id_at t k from past)
        left_some w q = place_at t ns from past w k Name e (q ∙ H.nonterminals.numbers.place j found.0 ∙ ap (place_in ns) found.1)

        pub token_some : (w : ℕ) → w ≡ get_or tokens (byte_limit + j) 0 → w ≡ place_in ts (id_at t k from past)
        token_some w q =
            let h = found.0 in
            let s : byte_limit + j - byte_limit ≡ j = omega arith in
            place_at t ts from past w k Name e
            (q
            ∙ H.terminals.numbers.place (byte_limit + j) (omega (arith, h))
            ∙ ap (place_in ts) (token_name t starts pasts (byte_limit + j) (omega arith) ∙ ap (name_id t starts pasts) s ∙ found.1))

pub found_low : (u : ℕ → Bool) (k j : ℕ) → suc j ≡ latest u k → j < k
found_low u k j e = (latest_low u k j (sym e)).0
