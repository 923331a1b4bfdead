-- Choosing which tokens of a conflict to report (`report_errors` without messages; docs/RULES.md, "Choosing").
use Rattle.std.specs.Prelude.{ℕ, zero, suc, ◌^◌, Bool, true, false, not, ◌&&◌, List, [], ◌∷◌, length, take, ◌==◌, nat_le, nat_lt}
use Rattle.lr1_base.specs.repr.Sizes.{classify_scratch}
use Rattle.lr1_base.specs.words.Lent.{zeroed}
use Rattle.lr1_base.specs.repr.Lists.{keep}
use Rattle.lr1_base.specs.repr.Meaning.{Table}
use Rattle.table.specs.Checked.{Checked, Accepted, Refused as NotAccepted}
use Rattle.table.specs.Decoded.{meaning}
use Rattle.table.specs.Refusals.{check_of}
use Rattle.lr1_base.specs.lookahead.Tokens.{has, members}
use Rattle.conflict_sides.specs.declared.conflict.Conflict.{Conflict}
use Rattle.conflict_sides.specs.conflict.Numbers.{number_of_class, values_of_class}
use Rattle.conflict_sides.specs.conflict.Sides.{Gathered, sides, halted, gather}
use Rattle.conflict_sides.specs.conflict.Judge.{Judged, judged}
use Rattle.conflict_sides.specs.conflict.Outcome.{place_is_fit}

-- a token with its class and the class's own values
pub record Entry : Type 0 where
  pub token : ℕ
  pub class : ℕ
  pub values : List ℕ

pub data Choice : Type 0 where
  chosen : List Entry → Choice
  refused : ℕ → ℕ → Choice

pub data Outcome : Type 0 where
  outcome : Choice → List ℕ → Outcome

-- the conflict of one token of the set
unfoldable pub at_token : Conflict → ℕ → Conflict
at_token c k = record { state = c.state; production = c.production; action = c.action; operand = c.operand; token = k }

unfoldable pub entry_of : ℕ → Judged → Entry
entry_of k j = record { token = k; class = number_of_class j.class; values = values_of_class j.class }

-- the classes of the tokens in order; the first token that meets 12 to 14 refuses the whole
pub data Entries : Type 0 where
  entries : List Entry → Entries
  halts : ℕ → Entries

unfoldable pub then : Table → Conflict → ℕ → Gathered → Entries → Entries
then T c k (halted n) rest = halts n
then T c k (sides as' m rs n) (halts x) = halts x
then T c k (sides as' m rs n) (entries es) = entries (entry_of k (judged T (at_token c k) as' rs) ∷ es)

unfoldable pub classes_of : Table → Conflict → List ℕ → Entries
classes_of T c [] = entries []
classes_of T c (k ∷ ks) = then T c k (gather T (at_token c k)) (classes_of T c ks)

unfoldable pub is_better : Entry → Bool
is_better e = not (e.class == 0)

-- of naive ones: all of a shift, of a reduce/reduce only the first
unfoldable pub naive_ones : ℕ → List Entry → List Entry
naive_ones zero es = es
naive_ones (suc k) es = take 1 es

-- the better classes if there are any, else the naive ones
unfoldable pub choice_from : ℕ → List Entry → List Entry → List Entry
choice_from action es [] = naive_ones action es
choice_from action es (b ∷ bs) = b ∷ bs

unfoldable pub choice_of : ℕ → Entries → Choice
choice_of action (halts n) = refused n 0
choice_of action (entries es) = chosen (choice_from action es (keep is_better es))

-- 9 and 10 over the whole set first; an empty set chooses none only after 1 to 11 hold
unfoldable pub set_fits : Table → Conflict → ℕ → Bool
set_fits T c set = place_is_fit T c && nat_lt set (2 ^ suc T.terminals)

unfoldable pub set_shifts_end : Table → Conflict → ℕ → Bool
set_shifts_end T c set = c.action == 0 && has set T.terminals

-- over W words of scratch, as in specs/conflict/Outcome
module _ (W : ℕ) where
  unfoldable pub choose_in_with : Conflict → ℕ → List ℕ → Table → Outcome
  choose_in_with c set scratch T = elim (set_fits T c set) [
    | false ↦ outcome (refused 9 0) scratch
    | true ↦ elim (set_shifts_end T c set) [
      | true ↦ outcome (refused 10 0) scratch
      | false ↦ elim (nat_le W (length scratch)) [
        | false ↦ outcome (refused 11 0) scratch
        | true ↦ outcome (choice_of c.action (classes_of T c (members set))) (zeroed W scratch)
      ]
    ]
  ]

  unfoldable pub choose_by_with : List ℕ → Conflict → ℕ → List ℕ → Checked → Outcome
  choose_by_with t c set scratch (NotAccepted n r) = outcome (refused n r) scratch
  choose_by_with t c set scratch Accepted = choose_in_with c set scratch (meaning t)

  -- the conflict's token is not looked at; the set stands for it
  unfoldable pub choose_with : List ℕ → Conflict → ℕ → List ℕ → Outcome
  choose_with t c set scratch = choose_by_with t c set scratch (check_of t)

-- over those of docs/RULES.md, "Lent words"; `choose_of` is `choose`
abbrev pub chosen_in : Conflict → ℕ → List ℕ → Table → Outcome
chosen_in = choose_in_with classify_scratch

abbrev pub choose_by : List ℕ → Conflict → ℕ → List ℕ → Checked → Outcome
choose_by = choose_by_with classify_scratch

abbrev pub choose_of : List ℕ → Conflict → ℕ → List ℕ → Outcome
choose_of = choose_with classify_scratch
