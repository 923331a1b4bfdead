-- What the names of a file stand for.
use Rattle.std.specs.Prelude.{ℕ, ◌<◌, List, [], ◌∷◌, Option, None, Some, map, filter, unwrap_or, slice_index_or}
use Rattle.std.specs.List.{flat_map}
use Rattle.std.specs.Option.{ForSome}
use Rattle.grammar.specs.Symbols.{SymbolFits}
use Rattle.grammar.specs.declared.symbol.Symbol.{Symbol}
use Rattle.grammar.specs.declared.symbol.Symbol.TheVariants.{Terminal, Nonterminal}
use Rattle.grammar.specs.declared.symbol.Production.{Production}
use Rattle.yacc_file.specs.declared.file.Alternative.{Alternative}
use Rattle.yacc_file.specs.declared.file.Item.{Item}
use Rattle.yacc_file.specs.declared.file.Rule.{Rule}

abbrev pub EntryFits : ℕ → ℕ → Option Symbol → Type 0
EntryFits terminals nonterminals entry = ForSome entry (SymbolFits terminals nonterminals)

-- the symbol of a name, by its number, if it has one
abbrev pub entry_of : List (Option Symbol) → ℕ → Option Symbol
entry_of symbols id = slice_index_or symbols id None

-- the symbol of a name; of one that has none, the end of the input
abbrev pub symbol_of : List (Option Symbol) → ℕ → Symbol
symbol_of symbols id = unwrap_or (entry_of symbols id) (Terminal 0)

abbrev pub item_symbol : List (Option Symbol) → Item → Symbol
item_symbol symbols item = symbol_of symbols item.name.id

-- the symbols of an alternative, in its order
abbrev pub right_of : List (Option Symbol) → Alternative → List Symbol
right_of symbols alternative = map (item_symbol symbols) alternative.items.items

-- a production as one list: its nonterminal before the symbols that it stands for
abbrev pub form_of : Production → List Symbol
form_of p = Nonterminal p.left ∷ p.right.items

abbrev pub forms_of : List Production → List (List Symbol)
forms_of ps = map form_of ps

-- the productions of a rule, one for each of its alternatives; none where its name is a terminal's
abbrev pub forms_under : List (Option Symbol) → List Alternative → Symbol → List (List Symbol)
forms_under symbols alternatives (Terminal t) = []
forms_under symbols alternatives (Nonterminal n) = map (λ (a : Alternative). Nonterminal n ∷ right_of symbols a) alternatives

abbrev pub rule_forms : List (Option Symbol) → Rule → List (List Symbol)
rule_forms symbols rule = forms_under symbols rule.alternatives.items (symbol_of symbols rule.left.id)

-- the same of all rules, in the order of the file
abbrev pub forms_of_rules : List (Option Symbol) → List Rule → List (List Symbol)
forms_of_rules symbols rules = flat_map (rule_forms symbols) rules

-- the actions that stand among the symbols of the alternatives, in the order of the file
abbrev pub alternative_actions : Alternative → List Item
alternative_actions alternative = filter (λ (item : Item). item.is_action) alternative.items.items

abbrev pub rule_actions : Rule → List Item
rule_actions rule = flat_map alternative_actions rule.alternatives.items

abbrev pub actions_of : List Rule → List Item
actions_of rules = flat_map rule_actions rules

-- the production of such an action, whose symbol stands for nothing
abbrev pub empty_under : Symbol → List (List Symbol)
empty_under (Terminal t) = []
empty_under (Nonterminal n) = (Nonterminal n ∷ []) ∷ []

abbrev pub action_forms : List (Option Symbol) → Item → List (List Symbol)
action_forms symbols item = empty_under (item_symbol symbols item)

abbrev pub forms_of_actions : List (Option Symbol) → List Item → List (List Symbol)
forms_of_actions symbols items = flat_map (action_forms symbols) items
