-- The productions in turn, while nothing is new.
use Rattle.std.proofs.Common.{◌≡◌, ℕ, ◌+◌, ◌<◌, List, length, get_or, take, subst, sym, All}
use Rattle.std.proofs.lemmas.List.Elements.{All-more, All-weaker}
use Rattle.grammar.specs.declared.symbol.Symbol.{Symbol}
use Rattle.grammar.specs.declared.symbol.Symbol.TheVariants.{Terminal, Nonterminal}
use Rattle.grammar.specs.declared.symbol.Production.{Production}
use Rattle.certificate.specs.declared.set.NonterminalSet.{NonterminalSet}
use Rattle.certificate.specs.Sets.{SymbolIn, IsClosedFor, PassesOn, StandsAt, IsIn}

-- two sets of the same members
in_same : (s u : NonterminalSet) → u.members ≡ s.members → (n : ℕ) → IsIn s n → IsIn u n
in_same s u same n h = rw same h

symbol_same : (s u : NonterminalSet) → u.members ≡ s.members → (x : Symbol) → SymbolIn s x → SymbolIn u x
symbol_same s u same (Terminal t) h = tt
symbol_same s u same (Nonterminal n) h = rw same h

closed_same : (s u : NonterminalSet) → u.members ≡ s.members → (p : Production) → IsClosedFor s p → IsClosedFor u p
closed_same s u same p c all = in_same s u same p.left (c (All-weaker (SymbolIn u) (SymbolIn s) (symbol_same u s (sym same)) p.right.items all))

pub closed_more : (ps : List Production) (s u : NonterminalSet) → u.members ≡ s.members → (i : ℕ) → i < length ps → (p : Production) → p ≡ get_or ps i p → IsClosedFor u p
    → All (IsClosedFor s) (take i ps) → All (IsClosedFor u) (take (i + 1) ps)
closed_more ps s u same i within p at closed all =
    All-more (IsClosedFor u) ps i p within (All-weaker (IsClosedFor s) (IsClosedFor u) (closed_same s u same) (take i ps) all) (subst (IsClosedFor u) at closed)

passes_same : (productive s u : NonterminalSet) → u.members ≡ s.members → (p : Production) → PassesOn productive s p → PassesOn productive u p
passes_same productive s u same p c marked i n stands = in_same s u same n (c (in_same u s (sym same) p.left marked) i n stands)

pub passes_more : (ps : List Production) (productive s u : NonterminalSet) → u.members ≡ s.members → (i : ℕ) → i < length ps → (p : Production) → p ≡ get_or ps i p → PassesOn productive u p
    → All (PassesOn productive s) (take i ps) → All (PassesOn productive u) (take (i + 1) ps)
passes_more ps productive s u same i within p at closed all =
    All-more (PassesOn productive u) ps i p within (All-weaker (PassesOn productive s) (PassesOn productive u) (passes_same productive s u same) (take i ps) all)
    (subst (PassesOn productive u) at closed)
