-- What it is to be the grammar of a file.
use Rattle.std.specs.Prelude.{◌≡◌, ℕ, List, [], ◌∷◌, ◌++◌, Option, None, Some, All, Contains, MatchBool, map, option_map, slice_get, slice_index, string_bytes}
use Rattle.grammar.specs.Symbols.{name_of}
use Rattle.grammar.specs.declared.grammar.Grammar.{Grammar}
use Rattle.grammar.specs.declared.symbol.Symbol.{Symbol}
use Rattle.grammar.specs.declared.symbol.Symbol.TheVariants.{Terminal, Nonterminal}
use Rattle.yacc_file.specs.declared.file.Alias.{Alias}
use Rattle.yacc_file.specs.declared.file.Alternative.{Alternative}
use Rattle.yacc_file.specs.declared.file.File.{File}
use Rattle.yacc_file.specs.declared.file.Item.{Item}
use Rattle.yacc_file.specs.declared.file.Rule.{Rule}
use Rattle.yacc_file.specs.declared.word.Name.{Name}
use Rattle.yacc_grammar.specs.declared.start.Start.{Start}
use Rattle.yacc_grammar.specs.declared.start.Start.TheVariants.{Found, Missing, Unknown}
use Rattle.yacc_grammar.specs.Symbols.{entry_of, symbol_of, item_symbol, forms_of, forms_of_rules, forms_of_actions, actions_of}

-- the file's name of this number is spelled so
abbrev pub IsSpelled : File → ℕ → List ℕ → Type 0
IsSpelled file id text = option_map string_bytes (slice_get file.names.keys id) ≡ Some text

-- a name is called as it is spelled, or as the token that it stands for
pub data IsCalled (file : File) : ℕ → List ℕ → Type 0 where
  as_spelled : (id : ℕ) (text : List ℕ) → IsSpelled file id text → IsCalled file id text
  as_token : (alias : Alias) (text : List ℕ) → Contains file.aliases.items alias → IsCalled file alias.token.id text → IsCalled file alias.text.id text

abbrev pub name_in : Grammar → Symbol → List ℕ
name_in grammar symbol = name_of (map string_bytes grammar.terminals.items) (map string_bytes grammar.nonterminals.items) symbol

abbrev pub IsNonterminal : Symbol → Type 0
IsNonterminal (Terminal t) = ⊥
IsNonterminal (Nonterminal n) = Unit {0}

-- if the symbol is a nonterminal, it is of this name alone: `owners` has the name of each nonterminal
abbrev pub IsOwn : List ℕ → ℕ → Symbol → Type 0
IsOwn owners id (Terminal t) = Unit {0}
IsOwn owners id (Nonterminal n) = slice_index owners n ≡ id

-- a name has a symbol in the grammar, which is called as the name is
pub record IsNamed (file : File) (symbols : List (Option Symbol)) (owners : List ℕ) (grammar : Grammar) (id : ℕ) : Type 0 where
  pub symbol : Symbol
  pub known : entry_of symbols id ≡ Some symbol
  pub called : IsCalled file id (name_in grammar symbol)
  pub own : IsOwn owners id symbol

-- an action has a nonterminal of its own
pub record ActionHasOwn (symbols : List (Option Symbol)) (owners : List ℕ) (id : ℕ) : Type 0 where
  pub nonterminal : IsNonterminal (symbol_of symbols id)
  pub own : IsOwn owners id (symbol_of symbols id)

abbrev pub ItemIsNamed : File → List (Option Symbol) → List ℕ → Grammar → Item → Type 0
ItemIsNamed file symbols owners grammar item = MatchBool item.is_action (ActionHasOwn symbols owners item.name.id) (IsNamed file symbols owners grammar item.name.id)

abbrev pub AlternativeIsNamed : File → List (Option Symbol) → List ℕ → Grammar → Alternative → Type 0
AlternativeIsNamed file symbols owners grammar alternative = All (ItemIsNamed file symbols owners grammar) alternative.items.items

-- a rule's name is a nonterminal's, and all names in its alternatives have their symbols
pub record RuleIsNamed (file : File) (symbols : List (Option Symbol)) (owners : List ℕ) (grammar : Grammar) (rule : Rule) : Type 0 where
  pub left : IsNamed file symbols owners grammar rule.left.id
  pub nonterminal : IsNonterminal (symbol_of symbols rule.left.id)
  pub alternatives : All (AlternativeIsNamed file symbols owners grammar) rule.alternatives.items

-- the grammar of a file that begins with the name `start`, where `symbols` has the symbol of each name:
-- `$accept : START $end` comes first, then each alternative in the order of the file, and last an empty
-- production for each action among symbols
pub record IsGrammarOf (file : File) (start : ℕ) (symbols : List (Option Symbol)) (grammar : Grammar) : Type 0 where
  pub productions : forms_of grammar.productions.items
      ≡ (Nonterminal 0 ∷ symbol_of symbols start ∷ Terminal 0 ∷ []) ∷ (forms_of_rules symbols file.rules.items ++ forms_of_actions symbols (actions_of file.rules.items))
  pub begins : IsNonterminal (symbol_of symbols start)
  pub owners : List ℕ
  pub named : All (RuleIsNamed file symbols owners grammar) file.rules.items

abbrev pub first_rule : List Rule → Option ℕ
first_rule [] = None
first_rule (r ∷ rs) = Some r.left.id

abbrev pub first_of : List Name → List Rule → Option ℕ
first_of [] rules = first_rule rules
first_of (n ∷ ns) rules = Some n.id

-- what `%start` names, or else the first rule's name
abbrev pub start_of : File → Option ℕ
start_of file = first_of file.starts.items file.rules.items

-- if a start was found, it is this name
abbrev pub IsFoundAs : Option ℕ → Start → Type 0
IsFoundAs wanted (Found name) = wanted ≡ Some name.id
IsFoundAs wanted Missing = Unit {0}
IsFoundAs wanted (Unknown u) = Unit {0}
