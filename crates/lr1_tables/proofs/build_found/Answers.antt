use Rattle.std.proofs.Common.{◌∙◌, arith}
use Rattle.std.proofs.lemmas.Result.{err_from_is_err_and}
use Rattle.table.proofs.Decoding.{fits}
use Rattle.lr1_tables.proofs.Found.{ready, halts-answer, ended}
use Rattle.lr1_tables.proofs.build_found.Goals as goal

pub new-sets-requires : goal.new-sets-requires
new-sets-requires c = rw c.counts.ensures.terminals (fits _ c.args.table.accepted).few_terminals

pub sizes_of-sizes-requires : goal.sizes_of-sizes-requires
sizes_of-sizes-requires c = record { same = (c.read_grammar-grammar.ensures.0, c.read_grammar-grammar.ensures.1) }

pub search_states-requires : goal.search_states-requires
search_states-requires c = record {
  ready = ready _ _ (fits _ c.args.table.accepted) c.sizes_of-sizes.ensures c.read_grammar-grammar.ensures.0 (c.new-sets.ensures.terminals ∙ c.counts.ensures.terminals)
      c.read_grammar-grammar.ensures.1 (rw c.new-sets.ensures.terminals c.new-sets.ensures.is) c.requires.start_value.0;
  front = (omega arith, c.requires.start_value.1, c.new-begins.ensures.1 0, c.new-edges.ensures.1 0);
}

pub returns-in_err-search_states : goal.returns-in_err-search_states
returns-in_err-search_states c =
    let q = err_from_is_err_and c.from_residual.result c.from_residual.ensures.1 in
    λ S. rw (q.1, q.2.0, q.2.1)
    (halts-answer _ _ (fits _ c.args.table.accepted) c.sizes_of-sizes.ensures c.read_grammar-grammar.ensures.0 (c.new-sets.ensures.terminals ∙ c.counts.ensures.terminals)
    c.read_grammar-grammar.ensures.1 (rw c.new-sets.ensures.terminals c.new-sets.ensures.is) c.requires.start_value.0
    _ _ _ _ _ c.search_states.ensures c.in_err-search_states.was _ S)

pub write_found-requires : goal.write_found-requires
write_found-requires c = (
  _,
  ended _ _ (fits _ c.args.table.accepted) c.sizes_of-sizes.ensures c.read_grammar-grammar.ensures.0 (c.new-sets.ensures.terminals ∙ c.counts.ensures.terminals)
      c.read_grammar-grammar.ensures.1 (rw c.new-sets.ensures.terminals c.new-sets.ensures.is) c.requires.start_value.0 _ _ _ c.search_states.ensures c.in_ok-search_states.was,
)

pub returns : goal.returns
returns c = c.write_found.ensures _ (ended _ _ (fits _ c.args.table.accepted) c.sizes_of-sizes.ensures c.read_grammar-grammar.ensures.0 (c.new-sets.ensures.terminals ∙ c.counts.ensures.terminals)
    c.read_grammar-grammar.ensures.1 (rw c.new-sets.ensures.terminals c.new-sets.ensures.is) c.requires.start_value.0 _ _ _ c.search_states.ensures c.in_ok-search_states.was)
