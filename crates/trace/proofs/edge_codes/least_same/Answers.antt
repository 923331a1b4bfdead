use Rattle.std.proofs.Common.{◌≡◌, true, false, arith, tests, rules}
use Rattle.std.proofs.lemmas.Iterator.{first_from_Range}
use Rattle.lr1_base.specs.repr.Packed.{productions_in}
use Rattle.trace.specs.edge_codes.Codes.{is_same_production}
use Rattle.trace.proofs.edge_codes.Least.{least_of}
use Rattle.trace.proofs.edge_codes.least_same.Goals as goal
use Rattle.lr1_base.proofs.repr.Packed.{productions_long}

pub returns : goal.returns
returns c =
    let ps = productions_in c.args.grammar.words.now c.args.grammar.productions in
    let m = productions_long c.args.grammar.words.now c.args.grammar.productions in
    let h = least_of ps c.args.p c.find.result (omega (arith, m, c.requires))
    (first_from_Range _ _ _ _ (λ q. is_same_production ps q c.args.p ≡ true) (λ q. is_same_production ps q c.args.p ≡ false) c.find.ensures.ran
    (λ x q k. search (rules, tests))
    (λ x q k. (search rules, search (rules, tests)))) in
    rw c.unwrap_or.ensures (h.0, omega (arith, h.1, c.requires, c.args.grammar.packed.few))
