use Rattle.trace.proofs.edge_codes.Answered.{on_ok, on_err}
use Rattle.std.proofs.Common.{refl}
use Rattle.lr1_base.specs.repr.Meaning.{Item}
use Rattle.trace.proofs.Adding.{way_traced, code_way}
use Rattle.trace.proofs.edges.to_nonterminal.Goals as goal

pub returns : goal.returns
returns c = let i : Item = record { production = c.args.item.production; index = c.args.item.index } in record { coded = on_ok c.insert.result c.insert.ensures.coded (λ r T F L n l h can es C. r T F L h.production es _ C (way_traced T F i n l h can c.args.on) (code_way T F i n l h can c.args.on _ c.kind_on-kind.ensures refl)); full = on_err c.insert.result c.insert.ensures.full (λ r T F L n l h can es C. r T F L h.production es _ C (way_traced T F i n l h can c.args.on) (code_way T F i n l h can c.args.on _ c.kind_on-kind.ensures refl)); same = c.insert.ensures.same }
