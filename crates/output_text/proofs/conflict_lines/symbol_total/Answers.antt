use Rattle.std.proofs.Common.{rules, ◌≡◌, ◌∙◌, ◌/◌, ℕ, List, length, get_or, not, nat_eq}
use Rattle.std.specs.List.{count_by}
use Rattle.std.specs.Simd.{first_chunks}
use Rattle.output_text.proofs.conflict_lines.Texts.{total_pairs}
use Rattle.output_text.proofs.conflict_lines.symbol_total.Goals as goal

pub returns : goal.returns
returns c =
    let e : c.count.result ≡ count_by (λ (pair : List ℕ). not (nat_eq (get_or pair 0 0) 2)) (first_chunks 2 (length c.args.words.now / 2) c.args.words.now) = search rules in
    e ∙ total_pairs c.args.words.now
