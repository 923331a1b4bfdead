-- How the conflicts of a clash come out, when precedence is asked of each production in turn,
-- ascending (as bison does).
use Rattle.std.specs.Prelude.{ℕ, ◌≡◌, ◌⊎◌, ◌-◌, ◌&&◌, Contains, nat_lt, if◌then◌else◌, Bool, true, false, not, List, Option, Some, None, is_none, map, sum_by, count_by}
use Rattle.std.specs.List.{find, flat_map}
use Rattle.grammar.specs.declared.grammar.Grammar.{Grammar}
use Rattle.automaton.specs.declared.conflict.Clash.{Clash}
use Rattle.automaton.specs.declared.conflict.Conflict.{Conflict}
use Rattle.automaton.specs.declared.conflict.Other.{Other}
use Rattle.automaton.specs.declared.conflict.Other.TheVariants.{Shift, Reduce}
use Rattle.automaton.specs.declared.precedence.Choice.{Choice}
use Rattle.automaton.specs.declared.precedence.Choice.TheVariants.{KeepShift, KeepReduction, KeepNeither, Undecided}
use Rattle.automaton.specs.declared.resolution.Resolution.{Resolution}
use Rattle.automaton.specs.declared.resolution.Resolution.TheVariants.{Open, ShiftKept, ReductionKept, NeitherKept, ShiftGone, ReductionGone}
use Rattle.automaton.specs.declared.resolution.Resolved.{Resolved}
use Rattle.automaton.specs.Precedence.{choice_of, production_terminal}
use Rattle.automaton.specs.Conflicts.{conflicts_of}

-- what precedence says of a production of a clash; nothing, where precedence is not used
abbrev pub choice_in : Grammar → Bool → Clash → ℕ → Choice
choice_in g used c p = if used then choice_of g p c.token else Undecided

-- whether the choice takes the shift away
abbrev pub takes_shift : Choice → Bool
takes_shift KeepShift = false
takes_shift KeepReduction = true
takes_shift KeepNeither = true
takes_shift Undecided = false

-- the first production that takes the shift away; those behind it meet no shift
abbrev pub taker_of : Grammar → Bool → Clash → Option ℕ
taker_of g used c = find (λ p. takes_shift (choice_in g used c p)) c.reductions.items

-- as the choice says, or else as it was
abbrev pub decided : Choice → Resolution → Resolution
decided KeepShift else' = ShiftKept
decided KeepReduction else' = ReductionKept
decided KeepNeither else' = NeitherKept
decided Undecided else' = else'

abbrev pub against_shift : Option ℕ → Choice → ℕ → Resolution
against_shift None choice p = decided choice Open
against_shift (Some q) choice p = if nat_lt q p then ShiftGone q else decided choice (ShiftGone q)

-- a production against the shift
abbrev pub shift_resolution : Grammar → Bool → Clash → ℕ → Resolution
shift_resolution g used c p = against_shift (taker_of g used c) (choice_in g used c p) p

-- whether the production is gone then
abbrev pub loses : Resolution → Bool
loses Open = false
loses ShiftKept = true
loses ReductionKept = false
loses NeitherKept = true
loses (ShiftGone q) = false
loses (ReductionGone q) = false

abbrev pub is_lost : Grammar → Bool → Clash → ℕ → Bool
is_lost g used c p = c.shifts && loses (shift_resolution g used c p)

-- two productions: open if both are left
abbrev pub resolution_of : Grammar → Bool → Clash → ℕ → Other → Resolution
resolution_of g used c p Shift = shift_resolution g used c p
resolution_of g used c p (Reduce q) =
    if is_lost g used c p then ReductionGone p
    else (if is_lost g used c q then ReductionGone q else Open)

abbrev pub resolved : Grammar → Bool → Clash → Conflict → Resolved
resolved g used c x = record { conflict = x; resolution = resolution_of g used c x.production x.other }

-- each conflict, in order, with its resolution
abbrev pub resolved_of : Grammar → Bool → Clash → List Resolved
resolved_of g used c = map (resolved g used c) (conflicts_of c)

abbrev pub resolved_in : Grammar → Bool → List Clash → List Resolved
resolved_in g used cs = flat_map (resolved_of g used) cs

-- precedence itself says how it comes out
abbrev pub is_by_precedence : Resolution → Bool
is_by_precedence Open = false
is_by_precedence ShiftKept = true
is_by_precedence ReductionKept = true
is_by_precedence NeitherKept = true
is_by_precedence (ShiftGone q) = false
is_by_precedence (ReductionGone q) = false

-- it does so by the terminal: the token, or the one that the production has its precedence of
pub record Uses (g : Grammar) (t : ℕ) (r : Resolved) : Type 0 where
  pub settled : is_by_precedence r.resolution ≡ true
  pub terminal : (r.conflict.token ≡ t) ⊎ (production_terminal g r.conflict.production ≡ Some t)

-- one of the conflicts does
pub record IsUsed (g : Grammar) (list : List Resolved) (t : ℕ) : Type 0 where
  pub resolved : Resolved
  pub listed : Contains list resolved
  pub uses : Uses g t resolved

-- ---- counted as bison counts

-- the reductions that are left
abbrev pub left_count : Grammar → Bool → Clash → ℕ
left_count g used c = count_by (λ p. not (is_lost g used c p)) c.reductions.items

-- a shift and a reduction are left
abbrev pub is_shift_reduce : Grammar → Bool → Clash → Bool
is_shift_reduce g used c =
    (c.shifts && is_none (taker_of g used c)) && nat_lt 0 (left_count g used c)

abbrev pub shift_reduce_count : Grammar → Bool → List Clash → ℕ
shift_reduce_count g used cs = count_by (is_shift_reduce g used) cs

-- one less than the reductions that are left
abbrev pub reduce_reduce_count : Grammar → Bool → List Clash → ℕ
reduce_reduce_count g used cs = sum_by (λ (c : Clash). left_count g used c - 1) cs
