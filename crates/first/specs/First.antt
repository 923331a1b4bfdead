-- FIRST (docs/RULES.md, "FIRST"; lr1/first): a set of terminals, and whether the list is nullable. A set of tokens
-- is a number (specs/lookahead/Tokens of lr1_base); e is the end of input. Only the sets of the nonterminals and `marked_at_end`, which makes them, have e in them, as their
-- mark of "nullable": that is no answer.
use Rattle.std.specs.Prelude.{ℕ, zero, suc, ◌*◌, ◌^◌, Bool, true, false, ◌&&◌, ◌||◌, not, List, [], ◌∷◌, get_or, set, replicate, eqb}
use Rattle.lr1_base.specs.repr.Sizes.{nonterminal_limit}
use Rattle.lr1_base.specs.words.Same.{same_words}
use Rattle.lr1_base.specs.repr.Meaning.{Symbol, nonterminal, terminal, Production, Table}
use Rattle.lr1_base.specs.lookahead.Tokens.{has, single, union, meet, without}
use Rattle.first.specs.declared.Answer.{Answer}

-- marked_at_end sets of two joined lists: what the first gives, and where it is nullable what the second gives
unfoldable pub join : ℕ → ℕ → ℕ → ℕ
join e a b = elim (has a e) [ true ↦ union (without a e) b | false ↦ a ]

-- of one symbol, by the sets of the nonterminals
unfoldable pub first_of : List ℕ → Symbol → ℕ
first_of sets (terminal t) = single t
first_of sets (nonterminal n) = get_or sets n 0

-- of a list: terminals and nonterminals' tokens up to the first that is not nullable; e is in it exactly if all are nullable
unfoldable pub marked_at_end : ℕ → List ℕ → List Symbol → ℕ
marked_at_end e sets [] = single e
marked_at_end e sets (x ∷ xs) = join e (first_of sets x) (marked_at_end e sets xs)

-- the answer: the mark told apart from the terminals
unfoldable pub unmarked : ℕ → ℕ → Answer
unmarked e s = record { tokens = record { 0 = without s e }; nullable = has s e }

unfoldable pub first0 : ℕ → List ℕ → List Symbol → Answer
first0 e sets xs = unmarked e (marked_at_end e sets xs)

-- a list that a token of the lookahead follows
unfoldable pub followed : Answer → ℕ → ℕ
followed a ahead = elim a.nullable [ true ↦ union a.tokens.0 ahead | false ↦ a.tokens.0 ]

-- FIRST of two joined lists from their answers: what the first gives, and where it is nullable what the second gives
unfoldable pub join_answers : Answer → Answer → Answer
join_answers a b = record { tokens = record { 0 = followed a b.tokens.0 }; nullable = a.nullable && b.nullable }

-- FIRST of nothing
unfoldable pub empty_answer : Answer
empty_answer = record { tokens = record { 0 = 0 }; nullable = true }

unfoldable pub first1 : ℕ → List ℕ → List Symbol → ℕ → ℕ
first1 e sets xs ahead = followed (first0 e sets xs) ahead

-- a lookahead meets an answer: in a terminal, or in end where the list is nullable
unfoldable pub meets_ahead : ℕ → Answer → ℕ → Bool
meets_ahead e a ahead = not (eqb (meet a.tokens.0 ahead) 0) || (a.nullable && has ahead e)

-- two answers are disjoint: no terminal is in both, and not both lists are nullable
unfoldable pub disjoint : Answer → Answer → Bool
disjoint a b = eqb (meet a.tokens.0 b.tokens.0) 0 && not (a.nullable && b.nullable)

-- the nonterminal's set with what one production gives, and so for all productions in turn
unfoldable pub grown : ℕ → List ℕ → Production → List ℕ
grown e sets p = set sets p.nonterminal (union (get_or sets p.nonterminal 0) (marked_at_end e sets p.symbols))

unfoldable pub round : ℕ → List ℕ → List Production → List ℕ
round e sets [] = sets
round e sets (p ∷ ps) = round e (grown e sets p) ps

-- round after round until one changes nothing. f bounds the rounds: `settled` of proofs/Least shows that `rounds` never cuts, since a round that changes
-- a set makes the sum of 32 numbers below 2 ^ 64 larger
unfoldable pub settle : ℕ → ℕ → List ℕ → List Production → List ℕ
settle zero e sets ps = sets
settle (suc f) e sets ps = elim (same_words (round e sets ps) sets) [ true ↦ sets | false ↦ settle f e (round e sets ps) ps ]

abbrev pub rounds : ℕ
rounds = nonterminal_limit * 2 ^ 64

-- the least solution over all productions, a set for each nonterminal number; a nonterminal without productions has the empty set
unfoldable pub sets_of_first : ℕ → List Production → List ℕ
sets_of_first e ps = settle rounds e (replicate nonterminal_limit 0) ps

-- FIRST of a list of symbols of a table
unfoldable pub FIRST : Table → List Symbol → Answer
FIRST T xs = first0 T.terminals (sets_of_first T.terminals T.productions) xs

-- "nullable" is asked through this one test
unfoldable pub nullable : Table → List Symbol → Bool
nullable T xs = (FIRST T xs).nullable
