-- The lists of a view of no edge. Owners are put before they are read, so of them the length alone is said, which the type gives: another crate does not learn it from there.
use Rattle.std.specs.Prelude.{◌≡◌, length, replicate}
use Rattle.lr1_base.specs.repr.Sizes.{edge_limit}
use Rattle.enumerator.specs.graph_view.View.{latest_room}
use Rattle.enumerator.specs.declared.graph_view.making.ViewLists.{ViewLists}

abbrev pub Blank : ViewLists → Type 0
Blank l = (l.sources ≡ replicate edge_limit 0) × (l.older ≡ replicate edge_limit 0) × (l.latest ≡ replicate latest_room 0) × (length l.owners ≡ edge_limit)
