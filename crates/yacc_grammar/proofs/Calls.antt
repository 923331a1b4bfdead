-- A name that stands for a token is called as the token.
use Rattle.std.proofs.Common.{◌≡◌, ℕ, ◌<◌, List, Contains, length, get_or, subst, sym}
use Rattle.std.proofs.lemmas.List.Elements.{Contains-get_or}
use Rattle.yacc_file.specs.declared.file.Alias.{Alias}
use Rattle.yacc_file.specs.declared.file.File.{File}
use Rattle.yacc_grammar.specs.GrammarOf.{IsCalled, as_token}

pub called_as_token : (file : File) (i id : ℕ) (alias : Alias) → i < length file.aliases.items → alias ≡ get_or file.aliases.items i alias → alias.text.id ≡ id
    → (text : List ℕ) → IsCalled file alias.token.id text → IsCalled file id text
called_as_token file i id alias h is same text called =
    let M : Alias → Type 0 = λ a. Contains file.aliases.items a in
    let member = subst M (sym is) (Contains-get_or file.aliases.items i alias h) in
    let P : ℕ → Type 0 = λ n. IsCalled file n text in subst P same (as_token alias text member called)
