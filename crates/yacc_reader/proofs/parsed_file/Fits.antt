-- What the refusals leave of a text is a table whose numbers are in range: its spelling is accepted and means it again.
use Prim.Native.Nat.{ℕ, suc, ◌+◌, ◌*◌, ◌≤◌}
use native.Mathlib.Omega.{arith}
use mathlib.Core.Bool.{Bool, true, false, ◌&&◌, ◌||◌, not}
use mathlib.Core.Path.{◌≡◌, refl, sym, ap, ◌∙◌, subst}
use mathlib.Core.List.{List, [], ◌∷◌, map}
use mathlib.Core.Option.{none, some}
use lib.Dec.{ltb}
use lib.ListN.{length}
use borrow.Author.Tests.{ltb-false, not-false}
use Rattle.lr1_base.specs.repr.Sizes.{record_limit, symbol_limit}
use Rattle.lr1_base.specs.repr.Lists.{some?}
use Rattle.lr1_base.specs.repr.Meaning.{nonterminal, terminal, SymbolFits, All, Production, ProductionFits, StateFits, TableFits}
use Rattle.lr1_base.proofs.repr.Lists.{cases, length_mapped, length-map-below, get_d_map-below}
use Rattle.lr1_base.proofs.repr.Tests.{some?-cons, All_at}
use Rattle.table.specs.Checked.{Accepted}
use Rattle.table.specs.Decoded.{meaning}
use Rattle.table.specs.Refusals.{check_of}
use Rattle.table_rewrite.specs.spelling.Spelled.{size_of, states_at, productions_at, symbols_at, items_place, edges_at, records_of, owns, spell, Ordered}
use Rattle.table_rewrite.proofs.spelling.Accepted.{spell_accepted}
use Rattle.table_rewrite.proofs.spelling.Meaning.{spell-meaning}
use Rattle.yacc_syntax.specs.text.Grammar.{Id}
use Rattle.yacc_reader.specs.parsed_file.Source.{is_known, number_in, Alternative, Source, no_id}
use Rattle.yacc_reader.specs.parsed_file.Meaning.{symbol_of, production_of, productions_of, owned, table_of}
use Rattle.yacc_reader.specs.parsed_file.Outcome.{nowhere, undefined_use, misnamed, too_many, too_long}
use Rattle.yacc_reader.proofs.parsed_file.Known.{number-below}
use Rattle.lr1_base.proofs.laws.Bools.{or-none}

-- what 20, 21, 2 and 5 leave
pub record Good (Q : Source) : Type 0 where
  pub lefts : All (λ (a : Alternative). is_known Q.nonterminals a.left ≡ true) Q.alternatives
  pub some_one : 1 ≤ length Q.alternatives
  pub named : misnamed Q ≡ false
  pub few : too_many Q ≡ false
  pub short : too_long 0 Q.alternatives ≡ none

tokens_few : (Q : Source) → length Q.terminals ≤ 63 → (table_of Q).terminals ≤ 63
unfolding table_of
tokens_few Q h = h

single_state : (Q : Source) → (1 ≤ length (table_of Q).states) × (length (table_of Q).states ≤ 128)
unfolding table_of
single_state Q = (omega arith, omega arith)

records_are : (Q : Source) → records_of (table_of Q) ≡ 2 + length (table_of Q).nonterminals + length (table_of Q).productions + size_of (map (λ p. p.symbols) (table_of Q).productions)
unfolding records_of edges_at items_place symbols_at productions_at states_at size_of table_of
records_are Q = omega arith

-- the numbers of nonterminals and productions
module _ (Q : Source) where
  pub count_nonterminals : length (table_of Q).nonterminals ≡ length Q.nonterminals
  unfolding table_of
  count_nonterminals = length-map-below (owned (productions_of Q)) (length Q.nonterminals)

  count_productions : length (table_of Q).productions ≡ length Q.alternatives
  unfolding table_of productions_of
  count_productions = length_mapped (production_of Q) Q.alternatives

  -- a symbol in range
  not-nowhere : (a b : Bool) → not a && not b ≡ false → a ≡ false → b ≡ true
  not-nowhere true b e f = let o : ◌≡◌ {A = ℕ} 0 1 = cc in absurd (omega arith)
  not-nowhere false b e f = not-false b e

  symbol-left : (x : Id) → is_known Q.nonterminals x ≡ true → symbol_of Q x ≡ nonterminal (number_in Q.nonterminals x)
  unfolding symbol_of
  symbol-left x e = rw (e, symbol_of)

  symbol-token : (x : Id) → is_known Q.nonterminals x ≡ false → symbol_of Q x ≡ terminal (number_in Q.terminals x)
  unfolding symbol_of
  symbol-token x e = rw (e, symbol_of)

  nonterminal-fits : (x : Id) → is_known Q.nonterminals x ≡ true → SymbolFits (table_of Q) (nonterminal (number_in Q.nonterminals x))
  unfolding SymbolFits
  nonterminal-fits x e = let n = number-below Q.nonterminals x e in let c = count_nonterminals in omega arith

  terminal-fits : (x : Id) → is_known Q.terminals x ≡ true → SymbolFits (table_of Q) (terminal (number_in Q.terminals x))
  unfolding SymbolFits table_of
  terminal-fits x e = number-below Q.terminals x e

  symbol_fits : (x : Id) → nowhere Q x ≡ false → SymbolFits (table_of Q) (symbol_of Q x)
  unfolding nowhere
  symbol_fits x h =
      cases (is_known Q.nonterminals x)
      (λ e. subst (SymbolFits (table_of Q)) (sym (symbol-left x e)) (nonterminal-fits x e))
      (λ e. subst (SymbolFits (table_of Q)) (sym (symbol-token x e)) (terminal-fits x (not-nowhere (is_known Q.nonterminals x) (is_known Q.terminals x) h e)))

  symbols_fit_lem : (xs : List Id) → some? (nowhere Q) xs ≡ false → All (SymbolFits (table_of Q)) (map (symbol_of Q) xs)
  unfolding All
  symbols_fit_lem [] h = tt
  symbols_fit_lem (x ∷ xs) h =
      let o = or-none (nowhere Q x) (some? (nowhere Q) xs) (sym (some?-cons (nowhere Q) x xs) ∙ h) in
      (symbol_fits x o.0, symbols_fit_lem xs o.1)

  -- a production in range
  not_long : (p : ℕ) (a : Alternative) (xs : List Alternative) → too_long p (a ∷ xs) ≡ none → (length a.ids ≤ symbol_limit) × (too_long (suc p) xs ≡ none)
  unfolding too_long
  not_long p a xs e =
      cases (ltb symbol_limit (length a.ids))
      (λ t. let s : some p ≡ none = rw (t, too_long) at e in let o : ◌≡◌ {A = ℕ} 0 1 = cc in absurd (omega arith))
      (λ f. (ltb-false symbol_limit (length a.ids) f, rw (f, too_long) at e))

  production-fits : (a : Alternative) → is_known Q.nonterminals a.left ≡ true → length a.ids ≤ symbol_limit → some? (nowhere Q) a.ids ≡ false → ProductionFits (table_of Q) (production_of Q a)
  unfolding production_of
  production-fits a k s n = record {
    owner = let b = number-below Q.nonterminals a.left k in let c = count_nonterminals in omega arith;
    short = let m = length_mapped (symbol_of Q) a.ids in omega arith;
    symbols = symbols_fit_lem a.ids n;
  }

  productions_fit : (p : ℕ) (xs : List Alternative) → All (λ (a : Alternative). is_known Q.nonterminals a.left ≡ true) xs → too_long p xs ≡ none → some? (λ (a : Alternative). some? (nowhere Q) a.ids) xs ≡ false
      → All (ProductionFits (table_of Q)) (map (production_of Q) xs)
  unfolding All
  productions_fit p [] A l n = tt
  productions_fit p (a ∷ xs) A l n =
      let s = not_long p a xs l in
      let o = or-none (some? (nowhere Q) a.ids) (some? (λ (b : Alternative). some? (nowhere Q) b.ids) xs) (sym (some?-cons (λ (b : Alternative). some? (nowhere Q) b.ids) a xs) ∙ n) in
      (production-fits a A.0 s.0 o.0, productions_fit (suc p) xs A.1 s.1 o.1)

  -- how many records
  sizes_small : (ps : List Production) → All (ProductionFits (table_of Q)) ps → size_of (map (λ p. p.symbols) ps) ≤ symbol_limit * length ps
  unfolding All size_of
  sizes_small [] A = omega arith
  sizes_small (p ∷ ps) A = let s = A.0.short in let i = sizes_small ps A.1 in omega arith

  pub ordered : Ordered (table_of Q)
  unfolding table_of owns owned
  ordered = record {
    lists = λ n h. get_d_map-below (owned (productions_of Q)) (length Q.nonterminals) n [] (let c = length-map-below (owned (productions_of Q)) (length Q.nonterminals) in omega arith);
  }

  module _ (G : Good Q) where
    unnamed : some? (λ (a : Alternative). some? (nowhere Q) a.ids) Q.alternatives ≡ false
    unfolding misnamed undefined_use
    unnamed = (or-none (undefined_use Q) _ G.named).0

    counts : (length Q.nonterminals ≤ 32) × (length Q.terminals ≤ 63) × (length Q.alternatives ≤ 128)
    unfolding too_many
    counts =
        let a = or-none (ltb 32 (length Q.nonterminals)) (ltb 63 (length Q.terminals) || ltb 128 (length Q.alternatives)) G.few in
        let b = or-none (ltb 63 (length Q.terminals)) (ltb 128 (length Q.alternatives)) a.1 in
        (ltb-false 32 (length Q.nonterminals) a.0, ltb-false 63 (length Q.terminals) b.0, ltb-false 128 (length Q.alternatives) b.1)

    all_fit : All (ProductionFits (table_of Q)) (table_of Q).productions
    unfolding table_of productions_of
    all_fit = productions_fit 0 Q.alternatives G.lefts G.short unnamed

    states_fit : All (StateFits (table_of Q)) (table_of Q).states
    unfolding table_of All
    states_fit = (record { items = tt; edges = tt }, tt)

    pub table_fits : TableFits (table_of Q)
    table_fits = record {
      some-nonterminal =
          let k = All_at (λ (a : Alternative). is_known Q.nonterminals a.left ≡ true) Q.alternatives 0 (record { left = no_id; ids = []; start = 0; end = 0 }) G.lefts G.some_one in
          let b = number-below Q.nonterminals _ k in
          let c = count_nonterminals in
          omega arith;
      few_nonterminals = let c = count_nonterminals in let n = counts.0 in omega arith;
      few_terminals = few_tokens;
      some_state = one_state.0;
      few_states = one_state.1;
      few_productions_lem = let c = count_productions in let n = counts.2 in omega arith;
      productions = all_fit;
      states = states_fit;
    }
      where
        few_tokens : (table_of Q).terminals ≤ 63
        few_tokens = tokens_few Q counts.1

        one_state : (1 ≤ length (table_of Q).states) × (length (table_of Q).states ≤ 128)
        one_state = single_state Q

    pub few_records : records_of (table_of Q) ≤ record_limit
    few_records =
        let r = records_are Q in
        let c = count_nonterminals in
        let d = count_productions in
        let n = counts.0 in
        let p = counts.2 in
        let s = sizes_small (table_of Q).productions all_fit in
        omega arith

    -- the words that are read pass the check, and mean the table
    pub read_accepted : check_of (spell (table_of Q)) ≡ Accepted
    read_accepted = spell_accepted (table_of Q) table_fits few_records

    pub read-meaning : meaning (spell (table_of Q)) ≡ table_of Q
    read-meaning = spell-meaning (table_of Q) table_fits ordered

    -- and are their own spelling
    pub read_spelling : spell (meaning (spell (table_of Q))) ≡ spell (table_of Q)
    read_spelling = ap spell read-meaning
