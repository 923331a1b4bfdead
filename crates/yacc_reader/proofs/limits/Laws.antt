-- The ways through `check_counts`.
use Prim.Native.Nat.{ℕ, ◌+◌, ◌*◌, ◌/◌, ◌≤◌, ◌<◌}
use native.Mathlib.Omega.{arith}
use mathlib.Core.Bool.{true, false}
use mathlib.Core.Path.{◌≡◌, sym, ap, ◌∙◌}
use mathlib.Core.List.{List, map}
use lib.ListN.{length}
use Rattle.lr1_base.specs.repr.Sizes.{nonterminal_limit, terminal_limit, production_limit, symbol_limit}
use Rattle.lr1_base.specs.repr.Reply.{answered, refused}
use Rattle.table_rewrite.specs.spelling.Spelled.{size_of}
use Rattle.yacc_reader.specs.parsed_file.Outcome.{unchanged, too_many, room, counted_of}
use Rattle.std.specs.Prelude.{Some, None}
use Rattle.yacc_reader.specs.counts.Counted.{long_of, counts_of}
use Rattle.yacc_reader.specs.declared.counts.Counts.{Counts}
use Rattle.yacc_reader.proofs.counts.Limits.{many_nonterminals, many_terminals, many_productions, few, few_symbols, long_inside, table_narrow, places_narrow, roomy_both, counted_many, counted_long, counted_narrow, counted-written}
use Rattle.yacc_reader.specs.limits.Limited.{Meant, limited_of}

module _ (n m : ℕ) (c : Counts) (w : Meant n m c) where
  all_is : c.alternatives ≡ length w.source.alternatives
  unfolding counts_of
  all_is = ap (λ (k : Counts). k.alternatives) w.counts

  size_is : c.symbols ≡ size_of (map (λ a. a.ids) w.source.alternatives)
  unfolding counts_of
  size_is = ap (λ (k : Counts). k.symbols) w.counts

  long_is : c.long ≡ long_of w.source.alternatives
  unfolding counts_of
  long_is = ap (λ (k : Counts). k.long) w.counts

  -- the first that is too long is an alternative
  pub low : (p : ℕ) → c.long ≡ Some p → p < c.alternatives
  low p e = let a = all_is in let l = long_inside w.source.alternatives p (sym long_is ∙ e) in omega (arith, a, l)

  -- the sum of the records is small
  pub small : c.alternatives ≤ production_limit → c.long ≡ None → c.symbols ≤ symbol_limit * production_limit
  small h n =
      let a = all_is in
      let b = size_is in
      let f = few_symbols w.source (sym long_is ∙ n) in
      omega (arith, a, b, f, h)

  module _ (table places : List ℕ) where
    refused_many : too_many w.source ≡ true → counted_of w.source table places ≡ limited_of w.source (refused 2 0) table places
    unfolding limited_of
    refused_many e = counted_many w.source table places e

    pub limit_nonterminals : nonterminal_limit < n → counted_of w.source table places ≡ limited_of w.source (refused 2 0) table places
    limit_nonterminals h = let a = w.nonterminals in refused_many (many_nonterminals w.source (omega (arith, a, h)))

    module _ (n₁ : n ≤ nonterminal_limit) where
      few_left : length w.source.nonterminals ≤ nonterminal_limit
      few_left = let a = w.nonterminals in omega (arith, a, n₁)

      pub limit_terminals : terminal_limit < m → counted_of w.source table places ≡ limited_of w.source (refused 2 0) table places
      limit_terminals h = let a = w.terminals in refused_many (many_terminals w.source few_left (omega (arith, a, h)))

      module _ (m₁ : m ≤ terminal_limit) where
        few_tokens : length w.source.terminals ≤ terminal_limit
        few_tokens = let a = w.terminals in omega (arith, a, m₁)

        pub limit_productions : production_limit < c.alternatives → counted_of w.source table places ≡ limited_of w.source (refused 2 0) table places
        limit_productions h = let a = all_is in refused_many (many_productions w.source few_left few_tokens (omega (arith, a, h)))

        module _ (p₁ : c.alternatives ≤ production_limit) where
          few_all : too_many w.source ≡ false
          few_all = let a = all_is in few w.source few_left few_tokens (omega (arith, a, p₁))

          pub limit_long : (p : ℕ) → c.long ≡ Some p → counted_of w.source table places ≡ limited_of w.source (refused 5 (2 + n + p)) table places
          unfolding limited_of
          limit_long p e =
              let b = w.nonterminals in
              let q : 2 + length w.source.nonterminals + p ≡ 2 + n + p = omega (arith, b) in
              counted_long w.source table places few_all p (sym long_is ∙ e) ∙ ap (λ (k : ℕ). unchanged 5 k table places) q

          module _ (s₁ : c.long ≡ None) where
            none_long : long_of w.source.alternatives ≡ None
            none_long = sym long_is ∙ s₁

            refused_narrow : room w.source table places ≡ false → counted_of w.source table places ≡ limited_of w.source (refused 17 0) table places
            unfolding limited_of
            refused_narrow e = counted_narrow w.source table places few_all none_long e

            pub limit_table : length table / 4 < 2 + n + c.alternatives + c.symbols → counted_of w.source table places ≡ limited_of w.source (refused 17 0) table places
            limit_table h =
                let a = all_is in
                let b = size_is in
                let d = w.nonterminals in
                refused_narrow (table_narrow w.source table places (omega (arith, a, b, d, h)))

            module _ (t₁ : 2 + n + c.alternatives + c.symbols ≤ length table / 4) where
              long_table : 2 + length w.source.nonterminals + length w.source.alternatives + size_of (map (λ a. a.ids) w.source.alternatives) ≤ length table / 4
              long_table = let a = all_is in let b = size_is in let d = w.nonterminals in omega (arith, a, b, d, t₁)

              pub limit_places : length places < n + m → counted_of w.source table places ≡ limited_of w.source (refused 17 0) table places
              limit_places h =
                  let a = w.nonterminals in
                  let b = w.terminals in
                  refused_narrow (places_narrow w.source table places long_table (omega (arith, a, b, h)))

              pub limit_none : n + m ≤ length places → counted_of w.source table places ≡ limited_of w.source (answered tt) table places
              unfolding limited_of
              limit_none h =
                  let a = w.nonterminals in
                  let b = w.terminals in
                  counted-written w.source table places few_all none_long (roomy_both w.source table places long_table (omega (arith, a, b, h)))
