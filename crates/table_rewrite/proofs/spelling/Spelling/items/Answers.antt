use Rattle.std.proofs.Common.{refl}
use Rattle.table_rewrite.proofs.spelling.Areas.{spelled}
use Rattle.table_rewrite.proofs.spelling.Spelling.items.Goals as goal

pub returns : goal.returns
returns c = let S = spelled _ _ c.args.self.table.accepted c.args.self.of in (S.states, (S.productions, refl))
