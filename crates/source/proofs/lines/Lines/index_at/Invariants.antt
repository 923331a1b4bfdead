use Rattle.std.proofs.Common.{◌-◌, ◌<◌, ◌≤◌, vec_len, get_or}
use Rattle.source.proofs.lines.Lines.index_at.Given as goal

abbrev pub invariant-loop-high : goal.invariant-loop-high
invariant-loop-high l = record {
  apart : l.low < l.high;
  within : l.high ≤ vec_len l.self.starts;
  behind : get_or l.self.starts.items l.low 0 ≤ l.at;
  before : l.high < vec_len l.self.starts → l.at < get_or l.self.starts.items l.high 0;
}

abbrev pub decreases-loop-high : goal.decreases-loop-high
decreases-loop-high l = l.high - l.low
