use Rattle.std.proofs.Common.{ℕ, ◌≤◌, ◌==◌, take, vec_len, get_or, arith}
use Rattle.std.proofs.lemmas.List.{get_or_read}
use Rattle.source.proofs.Newlines.{count_grows, few_at, none_between}
use Rattle.source.specs.Lines.{newlines}
use Rattle.source.proofs.lines.Lines.place.Goals as goal

pub returns-clause-line : goal.returns-clause-line
returns-clause-line c =
    let self = c.args.self.now in
    let start : ℕ → ℕ = λ k. get_or self.starts.items k 0 in
    let inside = c.index_at-index.ensures in
    let few = few_at self.text.now (vec_len self.starts) c.index_at-index.result c.args.at start self.all inside.within c.requires self.begins inside.before in
    let line = self.begins c.index_at-index.result inside.within in
    let many = count_grows (λ b. b == 10) self.text.now (start c.index_at-index.result) c.args.at inside.behind in
    omega (arith, line.counted)

pub returns-clause-one_line : goal.returns-clause-one_line
returns-clause-one_line c k low high =
    let self = c.args.self.now in
    let start : ℕ → ℕ = λ k. get_or self.starts.items k 0 in
    let inside = c.index_at-index.ensures in
    let few = few_at self.text.now (vec_len self.starts) c.index_at-index.result c.args.at start self.all inside.within c.requires self.begins inside.before in
    let line = self.begins c.index_at-index.result inside.within in
    let read = get_or_read self.starts.items c.index_at-index.result c.index.result.now (omega (arith, self.starts.ok.0)) c.index.ensures 0 in
    let fewer : newlines (take c.args.at self.text.now) ≤ newlines (take (start c.index_at-index.result) self.text.now) = omega (arith, line.counted) in
    none_between self.text.now (start c.index_at-index.result) c.args.at k fewer c.requires (omega arith) high
