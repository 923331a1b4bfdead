use Rattle.std.proofs.Common.{◌≡◌, get_or, rules, tests}
use Rattle.std.proofs.lemmas.Iterator.{first_from_Range}
use Rattle.lr1_base.specs.repr.Sizes.{production_place}
use Rattle.table_rewrite.proofs.grammar_records.Owned.{owned_first}
use Rattle.table_rewrite.proofs.grammar_records.next_owned.Goals as goal

pub returns : goal.returns
returns c =
    let g = c.args.grammar.words.now in
    owned_first g _ c.args.owner _ c.args.grammar.packed _ (first_from_Range _ _ _ _ (λ p. get_or g (production_place p) 0 ≡ c.args.owner) (λ p. get_or g (production_place p) 0 ≡ c.args.owner → ⊥) c.find.ensures.ran
    (λ x q k. search (rules, tests))
    (λ x q k. (search rules, search (rules, tests))))
