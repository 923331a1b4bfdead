use Rattle.std.proofs.Common.{arith, rules, ap, ◌∙◌}
use Rattle.parse_words.specs.Text.{line_continued}
use Rattle.parse_words.specs.Bytes.{reader_of}
use Rattle.parse_words.proofs.Steps.{step_line, step-comment, step_space, step_hash, step-digit, step_none}
use Rattle.parse_words.proofs.Reader.feed.Goals as goal
use Rattle.parse_words.proofs.Reader.feed.Goals.{in_default, in-35, in-32, in-10, in-9-1, in-10-1, in_default+else-in_comment+in-10-1, in_default+else-byte-lt9+then-byte-lt14}

pub returns-in-48-to-57 : goal.returns-in-48-to-57
returns-in-48-to-57 c = c.add_digit.ensures ∙ step-digit c.args.self c.args.byte (λ e. absurd (omega arith)) (cc) (λ e. absurd (omega arith)) (λ h. omega arith) (λ e. absurd (omega arith)) (omega arith) (omega arith)

pub returns-in_default-2 : goal.returns-in_default-2
returns-in_default-2 c = step_none c.args.self c.args.byte (λ e. absurd (omega arith)) (cc) (λ e. absurd (omega arith)) (λ h. omega arith) (λ e. absurd (omega arith)) (λ h. omega arith)

pub returns-in_default-2-2 : goal.returns-in_default-2-2
returns-in_default-2-2 c = step_none c.args.self c.args.byte (λ e. absurd (omega arith)) (cc) (grind arith) (λ h. omega arith) (search rules) (λ h. omega arith)

pub returns-in_default-2-3 : goal.returns-in_default-2-3
returns-in_default-2-3 c = step_none c.args.self c.args.byte (λ e. absurd (omega arith)) (cc) (λ e. absurd (omega arith)) (λ h. omega arith) (λ e. absurd (omega arith)) (λ h. omega arith)

pub returns : goal.returns
unfolding line_continued
returns c = rw c.word.ensures (elim c.match-byte.branch [
  | in_default w ↦ step-comment c.args.self c.args.byte (λ e. absurd (omega arith)) _ (cc) (ap reader_of (w.reader-is ∙ w.next_column-reader.ensures))
  | in-35 w ↦ step_hash c.args.self c.args.byte (λ e. absurd (omega arith)) (cc) (λ e. absurd (omega arith)) (λ h. omega arith) _ (omega arith) (ap reader_of (w.reader-is ∙ w.next_column-reader-in-35.ensures))
  | in-32 w ↦
      let at = ap reader_of (w.reader-is ∙ w.next_column-reader-in-32.ensures) in
      elim w.in-32-1.branch [
        | in-9-1 v ↦ step_space c.args.self c.args.byte (λ e. absurd (omega arith)) (cc) _ (λ n. omega arith) (λ n. omega arith) at
        | in_default+else-byte-lt9+then-byte-lt14 v ↦ step_space c.args.self c.args.byte (λ e. absurd (omega arith)) (cc) _ (λ n. omega arith) (λ n. omega arith) at
      ]
  | in-10 w ↦ step_line c.args.self c.args.byte _ (elim w.in-10-1.branch [ in-10-1 v ↦ omega arith | in_default+else-in_comment+in-10-1 v ↦ omega arith ]) (ap reader_of w.reader-is ∙ w.next_line-reader.ensures)
])
