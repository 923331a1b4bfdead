use Rattle.std.proofs.Common.{◌∷◌, sym, ap, ◌∙◌, length, take, drop, ◌-◌, arith}
use Rattle.lr1_base.specs.repr.Meaning.{Symbol}
use Rattle.lr1_base.specs.repr.Listed.{listed}
use Rattle.lr1_base.proofs.repr.FrontSymbol.{listed_short, listed_two, fits_behind}
use Rattle.lr1_base.proofs.repr.SymbolIterIterator.next.Goals as goal

pub invariant_of-self : goal.invariant_of-self
invariant_of-self c = record { fits = fits_behind c.args.self.now.words.now c.in-len2-up.len_at_least c.args.self.now.fits }

pub returns-in_default-clause-steps : goal.returns-in_default-clause-steps
returns-in_default-clause-steps c = let e = listed_short c.args.self.now.words.now c.in_default.len_below in (e, e)

pub returns-in-len2-up-clause-steps : goal.returns-in-len2-up-clause-steps
returns-in-len2-up-clause-steps c =
    let ws = c.args.self.now.words.now in
    listed_two ws c.in-len2-up.len_at_least ∙ ap (λ (s : Symbol). s ∷ listed (take (length ws - 2) (drop 2 ws))) (sym c.of.ensures)

pub returns-in-len2-up-clause-goes : goal.returns-in-len2-up-clause-goes
returns-in-len2-up-clause-goes c =
    let fewer = ap length (listed_two c.args.self.now.words.now c.in-len2-up.len_at_least) in
    record { on = λ f. (tt, tt, omega (arith, fewer)); keeps = tt; rests = λ f. tt }
