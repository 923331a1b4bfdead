-- What two readings show of a fork: before a token a parser may reduce by a production, or take another action.
use Rattle.std.specs.Prelude.{◌≡◌, ◌≢◌, ℕ, List, [], ◌∷◌, ◌++◌, All, length}
use Rattle.grammar.specs.declared.symbol.Symbol.{Symbol}
use Rattle.grammar.specs.declared.symbol.Symbol.TheVariants.{Terminal, Nonterminal}
use Rattle.grammar.specs.declared.symbol.Production.{Production}
use Rattle.certificate.specs.declared.reading.Action.{Action}
use Rattle.certificate.specs.declared.reading.Action.TheVariants.{Reduce}
use Rattle.certificate.specs.declared.judging.Fork.{Fork}
use Rattle.certificate.specs.declared.judging.Certificate.{Certificate}
use Rattle.certificate.specs.Readings.{IsReading, Parses, shifts_of}
use Rattle.certificate.specs.Sentences.{DerivesSentence, IsInReach}

-- Two readings do the same until n symbols are read. There the first reduces by the fork's production, and the second
-- takes the other action.
pub record PartAt (fork : Fork) (first second : List Action) (n : ℕ) : Type 0 where
  pub before : List Action
  pub rest : List Action
  pub other_rest : List Action
  pub one : first ≡ before ++ (Reduce fork.production ∷ rest)
  pub two : second ≡ before ++ (fork.other ∷ other_rest)
  pub different : fork.other ≢ Reduce fork.production
  pub point : shifts_of before ≡ n

-- Two inputs, the same up to the fork's token and with it, have parses that part before that token.
pub record ArePartedParses (ps : List Production) (fork : Fork) (read tail other_tail : List ℕ) : Type 0 where
  pub first : List Action
  pub second : List Action
  pub one : Parses ps first (read ++ (fork.token ∷ tail))
  pub two : Parses ps second (read ++ (fork.token ∷ other_tail))
  pub part : PartAt fork first second (length read)

-- One input has two parses, which part at the fork: the grammar is ambiguous.
abbrev pub HasTwoParses : List Production → Fork → Type 0
HasTwoParses ps fork = (read : List ℕ) × (tail : List ℕ) × ArePartedParses ps fork read tail tail

-- Two inputs, the same up to the token and with it, have parses that part at the fork: what is read, and this token,
-- do not say which action is right.
abbrev pub HasTwoInputs : List Production → Fork → Type 0
HasTwoInputs ps fork =
    (read : List ℕ) × (tail : List ℕ) × (other_tail : List ℕ) × ArePartedParses ps fork read tail other_tail

-- what stands before a token, the token, and what stands behind it
abbrev pub form_of : List Symbol → ℕ → List Symbol → List Symbol
form_of front token tail = front ++ (Terminal token ∷ tail)

-- A certificate's forms have readings as its root that part at the fork. The root stands in sentences, and each symbol
-- of the forms derives one.
pub record IsShown (ps : List Production) (fork : Fork) (c : Certificate) : Type 0 where
  pub one : IsReading ps c.first.items (form_of c.front.items fork.token c.tail.items) (Nonterminal c.root)
  pub two : IsReading ps c.second.items (form_of c.front.items fork.token c.other_tail.items) (Nonterminal c.root)
  pub part : PartAt fork c.first.items c.second.items (length c.front.items)
  pub reach : IsInReach ps c.root
  pub front : All (DerivesSentence ps) c.front.items
  pub tail : All (DerivesSentence ps) c.tail.items
  pub other_tail : All (DerivesSentence ps) c.other_tail.items
