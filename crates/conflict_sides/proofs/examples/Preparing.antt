-- `prepare`: what it makes is what classifying reads of the table (specs/examples/Reads).
use Rattle.std.specs.Prelude.{◌≡◌, ℕ, ◌<◌, List, length, get_or}
use mathlib.Core.Path.{sym, ◌∙◌, subst}
use Rattle.lr1_base.specs.repr.Sizes.{production_limit}
use Rattle.lr1_base.specs.repr.Meaning.{Production, Table}
use Rattle.lr1_base.specs.repr.Packed.{Packed, productions_in}
use Rattle.table.specs.Checked.{Accepted}
use Rattle.table.specs.Decoded.{meaning}
use Rattle.table.specs.Refusals.{check_of}
use Rattle.first.specs.First.{sets_of_first}
use Rattle.trace.specs.Ends.{Ends}
use Rattle.trace.specs.edge_codes.Coded.{Leasts}
use Rattle.conflict_sides.specs.examples.Reads.{Reads}

pub prepared : (t g : List ℕ) (productions terminals : ℕ) (sets least ends : List ℕ) → check_of t ≡ Accepted → productions ≡ length (meaning t).productions → (end : ℕ) → terminals ≡ end → end ≡ (meaning t).terminals
    → Packed g (length (meaning t).productions) × (productions_in g (length (meaning t).productions) ≡ (meaning t).productions)
    → sets ≡ sets_of_first end (productions_in g productions)
    → Leasts (productions_in g productions) least × ((p : ℕ) → p < production_limit → get_or least p 0 < production_limit)
    → ((T : Table) → T.productions ≡ productions_in g productions → T.terminals ≡ terminals → Ends T ends)
    → Reads t g productions terminals sets least ends
prepared t g productions terminals sets least ends a en end es et P e L E =
    let same : productions_in g productions ≡ (meaning t).productions = rw en P.1 in
    record {
      accepted = a;
      packed = rw en P.0;
      same = same;
      many = en;
      tokens = es ∙ et;
      firsts = e ∙ (λ j. sets_of_first (et j) (same j));
      leasts = subst (λ (ps : List Production). Leasts ps least) same L.0;
      small = L.1;
      suffixes = E (meaning t) (sym same) (sym (es ∙ et));
    }
