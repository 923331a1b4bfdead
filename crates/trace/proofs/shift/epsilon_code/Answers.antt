use Rattle.trace.proofs.edge_codes.Answered.{on_ok, on_err}
use Rattle.table.specs.Decoded.{meaning}
use Rattle.table.proofs.Decoding.{fits}
use Rattle.trace.proofs.Adding.{epsilon_way}
use Rattle.trace.proofs.Passing.{edge_small}
use Rattle.trace.proofs.shift.epsilon_code.Goals as goal

pub to_nonterminal-requires : goal.to_nonterminal-requires
to_nonterminal-requires c = edge_small c.args.tracer.working _ c.requires

pub returns : goal.returns
returns c = let T = meaning c.args.tracer.table.words.now in let F = fits c.args.tracer.table.words.now c.args.tracer.working.accepted in let W = c.args.tracer.working in record { coded = on_ok c.to_nonterminal.result c.to_nonterminal.ensures.coded (λ r n l can es C. rw (← epsilon_way T (record { production = c.args.item.production; index = c.args.item.index }) n) (r T F W.least n l c.requires can es C)); full = on_err c.to_nonterminal.result c.to_nonterminal.ensures.full (λ r n l can es C. rw (← epsilon_way T (record { production = c.args.item.production; index = c.args.item.index }) n) (r T F W.least n l c.requires can es C)); same = c.to_nonterminal.ensures.same }
