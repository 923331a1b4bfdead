-- What holds of whole lists of calls (docs/RULES.md, "Listing"), as one record: of the listing l that opening gave, over any scratch and any list of calls, refused ones included.
use Rattle.std.specs.Prelude.{◌≡◌, ℕ, true, List, map}
use Rattle.lr1_base.specs.repr.Meaning.{Item}
use Rattle.table.specs.Decoded.{meaning}
use Rattle.trace_graph.specs.Words.{edges_in}
use Rattle.enumerator.specs.trials.Lister.{plain_lister}
use Rattle.enumerator.specs.trials.Advance.{set_of}
use Rattle.enumerator.specs.trials.Calls.{Lent, calls, listing_after, scratch_after, lengths, left_all}
use Rattle.enumerator.specs.trials.Told.{count_after, open_after, Handed}
use Rattle.enumerator.specs.trials.Behind.{Behind}
use Rattle.enumerator.specs.trials.Lookahead.{Lookahead}
use Rattle.enumerator.specs.declared.trials.Listing.{Listing}

pub record Demand (t : List ℕ) (i : Item) (ahead : Lookahead) (g : List ℕ) (l : Listing) (scratch : List ℕ) (cs : List Lent) : Type 0 where
  -- the calls, through the definition that `advance` is equated with, answer and leave what the plain lister says
  pub same : calls t g l scratch cs ≡ left_all cs (plain_lister (meaning t) (edges_in g) i (set_of ahead) (map (lengths g scratch) cs))
  -- and that is the paths, in order: all of them once the listing ends without 13, else a beginning
  pub handed : Handed (meaning t) (edges_in g) i (set_of ahead) (map (lengths g scratch) cs)
  -- the listing and the scratch after the calls: the count is that of the last answer, the end and 13 close the listing
  pub behind : Behind i ahead g scratch (count_after 0 (plain_lister (meaning t) (edges_in g) i (set_of ahead) (map (lengths g scratch) cs)))
      (open_after true (plain_lister (meaning t) (edges_in g) i (set_of ahead) (map (lengths g scratch) cs))) (listing_after t g l scratch cs) (scratch_after t g l scratch cs)
