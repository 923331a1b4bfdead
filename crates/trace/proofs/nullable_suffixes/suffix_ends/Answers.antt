use Rattle.std.proofs.Common.{ℕ, refl, ◌∙◌, arith}
use lib.ListN.{length-replicate}
use Rattle.lr1_base.specs.repr.Sizes.{item_flags}
use Rattle.trace.proofs.EndsLaws.{ends-none, ends-all}
use Rattle.trace.proofs.nullable_suffixes.suffix_ends.Goals as goal

pub loop-production-init : goal.loop-production-init
loop-production-init c = (length-replicate {A = ℕ} item_flags 0, omega arith, λ T ep et. ends-none T _ refl)

pub production_ends-requires : goal.production_ends-requires
production_ends-requires c = record { map_value = c.requires.map_value; production_lt_productions = (c.loop-production-test.true, c.loop-production.invariant.0) }

pub loop-production-preserved : goal.loop-production-preserved
loop-production-preserved c = (c.production_ends.auto.ends ∙ c.loop-production.invariant.0, omega arith, λ T ep et. c.production_ends.ensures T ep et (c.loop-production.invariant.2 T ep et))

pub returns : goal.returns
returns c = λ T ep et. ends-all _ _ c.args.grammar.packed T ep _ _ (omega arith) (c.loop-production.invariant.2 T ep et)
