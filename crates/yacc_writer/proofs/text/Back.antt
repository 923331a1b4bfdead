-- The chains of what is written and read back are the table's.
use Prim.Native.Nat.{ℕ, ◌<◌}
use native.Mathlib.Omega.{arith}
use mathlib.Core.Bool.{Bool, true}
use mathlib.Core.Path.{◌≡◌, sym, ap, ◌∙◌}
use mathlib.Core.List.{List, [], ◌∷◌}
use lib.Dec.{eqb}
use lib.ListN.{length, get_or}
use lib.Seq.{ext_get_or}
use borrow.Author.Tests.{ltb-true}
use Rattle.lr1_base.specs.repr.Lists.{below, mem, keep}
use Rattle.lr1_base.specs.repr.Meaning.{Production, Table, no_production, production_at, TableFits}
use Rattle.lr1_base.proofs.repr.Lists.{cases, length_mapped, get_d_map, mem-cons_here, mem-cons_there, mem_below, keep-nil, keep-yes, keep_no}
use Rattle.table_rewrite.specs.spelling.Spelled.{owns, Ordered}
use Rattle.yacc_reader.specs.parsed_file.Source.{Source}
use Rattle.yacc_reader.specs.parsed_file.Meaning.{table_of}
use Rattle.yacc_reader.specs.parsed_file.Outcome.{source_in}
use Rattle.yacc_reader.proofs.parsed_file.Fits.{ordered, count_nonterminals}
use Rattle.yacc_writer.specs.text.Text.{ascending, pieces_of}
use Rattle.yacc_writer.proofs.text.Again.{owners_back, nonterminals-back}

keep_same : (t u : ℕ → Bool) (xs : List ℕ) → ((x : ℕ) → mem x xs ≡ true → t x ≡ u x) → keep t xs ≡ keep u xs
keep_same t u [] h = keep-nil t ∙ sym (keep-nil u)
keep_same t u (x ∷ xs) h =
    let e = h x (mem-cons_here x xs) in
    let i = keep_same t u xs (λ y m. h y (mem-cons_there y x xs m)) in
    cases (t x) (λ a. keep-yes t x xs a ∙ ap (λ (l : List ℕ). x ∷ l) i ∙ sym (keep-yes u x xs (sym e ∙ a))) (λ a. keep_no t x xs a ∙ i ∙ sym (keep_no u x xs (sym e ∙ a)))

module _ (T : Table) (p : Production) (ps : List Production) (F : TableFits T) (e : T.productions ≡ p ∷ ps) (O : Ordered T) (A : ascending 0 T.nonterminals ≡ true) where
  abbrev Q : Source
  Q = source_in (pieces_of T)

  same_count : length (table_of Q).productions ≡ length T.productions
  same_count = sym (length_mapped (λ (q : Production). q.nonterminal) (table_of Q).productions) ∙ ap length (owners_back T p ps F e O A) ∙ length_mapped (λ (q : Production). q.nonterminal) T.productions

  same_owner : (q : ℕ) → q < length T.productions → (production_at (table_of Q) q).nonterminal ≡ (production_at T q).nonterminal
  same_owner q h =
      let c = same_count in
      sym (get_d_map (λ (x : Production). x.nonterminal) (table_of Q).productions q no_production 0 (omega arith))
      ∙ ap (λ (l : List ℕ). get_or l q 0) (owners_back T p ps F e O A)
      ∙ get_d_map (λ (x : Production). x.nonterminal) T.productions q no_production 0 h

  same_owned : (n : ℕ) → keep (owns (table_of Q) n) (below (length (table_of Q).productions)) ≡ keep (owns T n) (below (length T.productions))
  unfolding owns
  same_owned n =
      ap (λ (k : ℕ). keep (owns (table_of Q) n) (below k)) same_count
      ∙ keep_same (owns (table_of Q) n) (owns T n) (below (length T.productions))
      (λ q m. ap (λ (o : ℕ). eqb o n) (same_owner q (ltb-true q (length T.productions) (sym (mem_below q (length T.productions)) ∙ m))))

  -- the same chains
  pub chains_back : (table_of Q).nonterminals ≡ T.nonterminals
  chains_back =
      let c : length (table_of Q).nonterminals ≡ length T.nonterminals = count_nonterminals Q ∙ nonterminals-back T p ps F e O A in
      ext_get_or [] (table_of Q).nonterminals T.nonterminals c (λ n h. (ordered Q).lists n h ∙ same_owned n ∙ sym (O.lists n (omega arith)))
