-- The symbol of an id.
use Rattle.std.specs.Prelude.{false, ◌≡◌}
use Rattle.lr1_base.specs.repr.Symbols.{meant}
use Rattle.lr1_base.specs.declared.repr.Symbol.{Symbol}
use Rattle.yacc_syntax.specs.text.Grammar.{Id}
use Rattle.yacc_reader.specs.parsed_file.Source.{Source}
use Rattle.yacc_reader.specs.parsed_file.Meaning.{symbol_of}
use Rattle.yacc_reader.specs.parsed_file.Outcome.{nowhere}

-- of an id that 21 does not refuse
pub record IsSymbol (S : Source) (x : Id) (r : Symbol) : Type 0 where
  pub is : nowhere S x ≡ false → meant r ≡ symbol_of S x
