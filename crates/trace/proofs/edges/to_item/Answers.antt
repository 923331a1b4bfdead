use Rattle.trace.proofs.edge_codes.Answered.{on_ok, on_err}
use Rattle.std.proofs.Common.{refl}
use Rattle.lr1_base.specs.repr.Meaning.{Item}
use Rattle.trace.proofs.Adding.{first_traced, first_code}
use Rattle.trace.proofs.edges.to_item.Goals as goal

pub returns : goal.returns
returns c = let i : Item = record { production = c.args.item.production; index = c.args.item.index } in record { coded = on_ok c.insert.result c.insert.ensures.coded (λ r T F L h es C. r T F L h.production es _ C (first_traced T F i h) (first_code T F i h _ refl refl)); full = on_err c.insert.result c.insert.ensures.full (λ r T F L h es C. r T F L h.production es _ C (first_traced T F i h) (first_code T F i h _ refl refl)); same = c.insert.ensures.same }
