-- What opening and `advance` answer and leave (docs/RULES.md, "Listing").
use Rattle.std.specs.Prelude.{ℕ, zero, suc, ◌-◌, ◌^◌, Bool, true, false, not, ◌&&◌, List, length, ◌==◌, nat_le, nat_lt}
use Rattle.std.proofs.Math.Option.{Option, none, some}
use Rattle.lr1_base.specs.repr.Reply.{Reply, answered, refused}
use Rattle.lr1_base.specs.repr.Sizes.{graph_room, scratch_words, trial_limit}
use Rattle.lr1_base.specs.words.Lent.{in_front, zeroed}
use Rattle.lr1_base.specs.repr.Meaning.{Item, Table}
use Rattle.table.specs.Checked.{Checked, Accepted, Refused as NotAccepted}
use Rattle.table.specs.Decoded.{meaning}
use Rattle.table.specs.Refusals.{check_of}
use Rattle.trace_graph.specs.Graph.{at_item, TraceEdge, is_node_of}
use Rattle.trace_graph.specs.Words.{edges_in}
use Rattle.trace_graph.specs.Fits.{item_is_fit, graph_fits}
use Rattle.enumerator.specs.trials.Trials.{Path, ends_of, trials}
use Rattle.enumerator.specs.trials.Lister.{enough, hands, says, Found, hit, out, over, search}
use Rattle.enumerator.specs.trials.Words.{words_of, path_in, has_trial, after}
use Rattle.enumerator.specs.trials.Lookahead.{Lookahead}
use Rattle.std.specs.Prelude.{None, Some}
use Rattle.enumerator.specs.declared.trials.Listing.{Listing}
use Rattle.enumerator.specs.declared.trials.Advanced.{Advanced}
use Rattle.enumerator.specs.declared.trials.Advanced.TheVariants.{Example, End}

-- answer, listing, scratch words and buffer words after a call
pub data Outcome : Type 0 where
  outcome : Reply Advanced → Listing → List ℕ → List ℕ → Outcome

-- the number of what an advance answers that is not refused
unfoldable pub number_of_advanced : Advanced → ℕ
number_of_advanced Example = 0
number_of_advanced End = 16

unfoldable pub set_of : Lookahead → Option ℕ
set_of None = none
set_of (Some s) = some s.0

unfoldable pub start_of : Listing → Item
start_of l = record { production = l.production.0; index = l.index }

-- refusal 9 before the words are asked: the start item, the lookahead, and the graph if it is long enough
unfoldable pub ahead_fits : Table → Option ℕ → Bool
ahead_fits T none = true
ahead_fits T (some s) = nat_lt s (2 ^ suc T.terminals)

unfoldable pub lent_graph_fits : Table → List ℕ → Bool
lent_graph_fits T g = elim (nat_le graph_room (length g)) [ true ↦ graph_fits (length T.nonterminals) T.productions g | false ↦ true ]

unfoldable pub asked : Table → Item → Option ℕ → List ℕ → Bool
asked T i ahead g = item_is_fit T.productions i.production i.index && (ahead_fits T ahead && lent_graph_fits T g)

-- the listing moved on
unfoldable pub moved : Listing → ℕ → Bool → Listing
moved l n o = record { production = l.production; index = l.index; lookahead = l.lookahead; count = n; is_open = o }

unfoldable pub found_outcome : Table → List TraceEdge → Listing → List ℕ → List ℕ → Found → Outcome
found_outcome T es l scratch buffer (hit n p) = outcome (answered Example) (moved l n true) (in_front (words_of p) scratch) (in_front (says T es p) buffer)
found_outcome T es l scratch buffer (out n) = outcome (answered End) (moved l n false) (zeroed scratch_words scratch) buffer
found_outcome T es l scratch buffer over = outcome (refused 13 0) (moved l trial_limit false) (zeroed scratch_words scratch) buffer

-- where an open listing goes on: at count 0 before all trials, whatever the words hold; else after the words' trial
unfoldable pub rest_of : ℕ → List ℕ → List Path → List Path
rest_of zero ws ts = ts
rest_of (suc c) ws ts = after (path_in ws) ts

-- an open listing past count 0 over words that hold no example's trial
unfoldable pub lost : List TraceEdge → Listing → List ℕ → Bool
lost es l scratch = l.is_open && (not (l.count == 0) && not (has_trial (ends_of es) (at_item (start_of l)) scratch))

unfoldable pub advance_in : List ℕ → Listing → List ℕ → List ℕ → Table → Outcome
advance_in g l scratch buffer T =
    let es = edges_in g in
    elim (asked T (start_of l) (set_of l.lookahead) g) [
      | false ↦ outcome (refused 9 0) l scratch buffer
      | true ↦ elim (enough (record { graph = length g; scratch = length scratch; buffer = length buffer })) [
        | false ↦ outcome (refused 11 0) l scratch buffer
        | true ↦ elim (lost es l scratch) [
          | true ↦ outcome (refused 9 0) l scratch buffer
          | false ↦ elim (is_node_of (at_item (start_of l)) es) [
            | false ↦ outcome (refused 15 0) l scratch buffer
            | true ↦ elim l.is_open [
              | false ↦ outcome (answered End) l scratch buffer
              | true ↦ found_outcome T es l scratch buffer (search (hands T es (set_of l.lookahead)) (trial_limit - l.count) l.count (rest_of l.count scratch (trials (ends_of es) (at_item (start_of l)))))
            ]
          ]
        ]
      ]
    ]

unfoldable pub advance_by : List ℕ → Listing → List ℕ → List ℕ → List ℕ → Checked → Outcome
advance_by t l g scratch buffer (NotAccepted n r) = outcome (refused n r) l scratch buffer
advance_by t l g scratch buffer Accepted = advance_in g l scratch buffer (meaning t)

-- `advance`: listing, table, graph, scratch, buffer
unfoldable pub advance_of : Listing → List ℕ → List ℕ → List ℕ → List ℕ → Outcome
advance_of l t g scratch buffer = advance_by t l g scratch buffer (check_of t)

-- opening: a fresh listing has count 0 and is open
unfoldable pub open_in : Item → Lookahead → List ℕ → Table → Reply Listing
open_in i ahead g T = elim (asked T i (set_of ahead) g) [
  | false ↦ refused 9 0
  | true ↦ elim (nat_le graph_room (length g)) [
    | false ↦ refused 11 0
    | true ↦ elim (is_node_of (at_item i) (edges_in g)) [
      | false ↦ refused 15 0
      | true ↦ answered (record { production = record { 0 = i.production }; index = i.index; lookahead = ahead; count = 0; is_open = true })
    ]
  ]
]

unfoldable pub open_by : List ℕ → Item → Lookahead → List ℕ → Checked → Reply Listing
open_by t i ahead g (NotAccepted n r) = refused n r
open_by t i ahead g Accepted = open_in i ahead g (meaning t)

-- `lr0_examples` with `None`, `lr1_examples` with a set
unfoldable pub open_of : List ℕ → Item → Lookahead → List ℕ → Reply Listing
open_of t i ahead g = open_by t i ahead g (check_of t)
