use Rattle.std.proofs.Common.{ℕ, ap, ◌∙◌, arith}
use Rattle.table.specs.Decoded.{meaning}
use Rattle.table.proofs.Decoding.{fits}
use Rattle.lr1_base.specs.bits.Bits.{bit_at}
use Rattle.trace.proofs.edge_codes.Keys.{label_small}
use Rattle.trace.proofs.reduce.ends_at.Goals as goal

pub place-requires : goal.place-requires
place-requires c = let sm = label_small (meaning c.args.over.tracer.table.words.now) (fits c.args.over.tracer.table.words.now c.args.over.tracer.table.accepted) _ c.requires in (sm.0, sm.1)

pub is_set-requires : goal.is_set-requires
is_set-requires c = omega (arith, c.place.ensures.within, c.args.over.suffixes.long)

pub returns : goal.returns
returns c = c.is_set.ensures ∙ ap (λ (k : ℕ). bit_at c.args.over.ends.now k) c.place.ensures.is ∙ c.args.over.suffixes.exact (record { production = c.args.item.production; index = c.args.item.index }) c.requires
