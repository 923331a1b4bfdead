-- Names in range, throughout a file.
use Rattle.std.specs.Prelude.{ℕ, ◌<◌, All}
use Rattle.std.specs.Option.{ForSome}
use Rattle.yacc_file.specs.Words.{NameFits}
use Rattle.yacc_file.specs.declared.file.Alias.{Alias}
use Rattle.yacc_file.specs.declared.file.Alternative.{Alternative}
use Rattle.yacc_file.specs.declared.file.Group.{Group}
use Rattle.yacc_file.specs.declared.file.Item.{Item}
use Rattle.yacc_file.specs.declared.file.Rule.{Rule}

abbrev pub AliasFits : ℕ → Alias → Type 0
AliasFits names alias = (alias.text.id < names) × (alias.token.id < names)

abbrev pub GroupFits : ℕ → Group → Type 0
GroupFits names group = All (NameFits names) group.names.items

abbrev pub ItemFits : ℕ → Item → Type 0
ItemFits names item = item.name.id < names

pub record AlternativeFits (names : ℕ) (alternative : Alternative) : Type 0 where
  pub items : All (ItemFits names) alternative.items.items
  pub precedence : ForSome alternative.precedence (NameFits names)

pub record RuleFits (names : ℕ) (rule : Rule) : Type 0 where
  pub left : rule.left.id < names
  pub alternatives : All (AlternativeFits names) rule.alternatives.items
