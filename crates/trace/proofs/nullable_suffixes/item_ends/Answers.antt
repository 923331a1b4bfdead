use Rattle.trace.proofs.EndsLaws.{suffix-fits, ends_is}
use Rattle.trace.proofs.nullable_suffixes.item_ends.Goals as goal

pub suffix-rest-requires : goal.suffix-rest-requires
suffix-rest-requires c = record { within = (c.requires.within.0); index_in_bounds = c.requires.within.1 }

pub first0-requires : goal.first0-requires
first0-requires c = suffix-fits _ _ _ c.args.grammar.packed c.requires.within.0 c.args.item.index _ c.suffix-rest.ensures.0

pub returns : goal.returns
returns c = λ T ep et. ends_is _ _ _ c.args.grammar.packed c.requires.within.0 T _ _ _ _ _ ep et c.requires.map_value c.suffix-rest.ensures.1 c.first0.ensures
