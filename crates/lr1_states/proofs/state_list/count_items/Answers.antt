use Rattle.std.proofs.Common.{◌≡◌, ℕ, not, eqb, ◌∙◌, sym, rules, arith}
use Rattle.std.specs.List.{count_by}
use Rattle.std.proofs.lemmas.List.Sums.{count_by-le-length}
use Rattle.lr1_states.proofs.state_list.Kept.{count-packed}
use Rattle.lr1_states.proofs.state_list.count_items.Goals as goal

pub returns : goal.returns
returns c =
    let e : c.count.result ≡ count_by (λ (x : ℕ). not (eqb x 0)) c.args.state.now = search rules in
    (e ∙ sym (count-packed c.args.state.now), omega (arith, e, count_by-le-length (λ (x : ℕ). not (eqb x 0)) c.args.state.now, c.requires))
