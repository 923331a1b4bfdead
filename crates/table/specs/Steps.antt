-- A step of an iterator over a chain of an accepted table's records: it reads the record that it is at and goes on to the next, and at 0 it ends.
use Rattle.std.specs.Prelude.{Option, MatchOption, ◌≡◌, ◌≢◌}
use Rattle.table.specs.Index.{ItemRead, EdgeRead, ProductionRead}
use Rattle.table.specs.declared.ItemRecord.{ItemRecord}
use Rattle.table.specs.declared.EdgeRecord.{EdgeRecord}
use Rattle.table.specs.declared.ProductionRecord.{ProductionRecord}
use Rattle.table.specs.declared.iter.ItemIter.{ItemIter}
use Rattle.table.specs.declared.iter.EdgeIter.{EdgeIter}
use Rattle.table.specs.declared.iter.ProductionIter.{ProductionIter}

abbrev pub ItemStep : ItemIter → Option ItemRecord → ItemIter → Type 0
ItemStep s r u = (u.table.words.now ≡ s.table.words.now) × MatchOption r (s.at ≡ 0) (λ x. (s.at ≢ 0) × (x.at ≡ s.at) × ItemRead s.table.words.now s.at u.at x.production x.index)

abbrev pub EdgeStep : EdgeIter → Option EdgeRecord → EdgeIter → Type 0
EdgeStep s r u = (u.table.words.now ≡ s.table.words.now) × MatchOption r (s.at ≡ 0) (λ x. (s.at ≢ 0) × EdgeRead s.table.words.now s.at u.at x.kind x.number x.target)

abbrev pub ProductionStep : ProductionIter → Option ProductionRecord → ProductionIter → Type 0
ProductionStep s r u = (u.table.words.now ≡ s.table.words.now) × MatchOption r (s.at ≡ 0) (λ x. (s.at ≢ 0) × ProductionRead s.table.words.now s.at u.at x.production)
