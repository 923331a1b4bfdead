use Rattle.table_check.proofs.mark.Marks.pass_to.Goals as goal

pub returns-clause-reaching : goal.returns-clause-reaching
returns-clause-reaching g c = λ t w n R.
    record {
      symbols = c.mark_next.ensures.by_index _ _ _ _ w n R.symbols;
      items = c.mark_next-2.ensures.by_index _ _ _ _ w n R.items;
      edges = c.mark_next-3.ensures.by_index _ _ _ _ w n R.edges;
    }
