use Rattle.std.proofs.Common.{◌≡◌, ◌/◌, true, false, length, tests, rules}
use Rattle.std.proofs.lemmas.Iterator.{first_from_Range}
use Rattle.lr1_states.specs.stored_item.Stored.{entries, is_same_kernel}
use Rattle.lr1_states.specs.state_list.Kept.{state_in}
use Rattle.lr1_states.proofs.state_list.Kept.{found_first}
use Rattle.lr1_states.proofs.state_list.find.Goals as goal

pub returns : goal.returns
unfolding state_in
returns c =
    let ks = entries c.args.kernel.now 0 (length c.args.kernel.now / 5) in
    let ws = c.args.words.now in
    let bs = c.args.begins.now.items in
    found_first ks ws bs _ _ (first_from_Range _ _ _ _ (λ k. is_same_kernel (state_in ws bs k) ks ≡ true) (λ k. is_same_kernel (state_in ws bs k) ks ≡ false) c.find.ensures.ran
    (λ x q k. search (rules, tests))
    (λ x q k. (search rules, search (rules, tests))))
