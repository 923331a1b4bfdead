use Rattle.std.proofs.Common.{◌≡◌, true, false, inl, inr, sym, ◌∙◌, arith}
use Rattle.std.proofs.lemmas.Bool.{cases_lt, cases_eq}
use Rattle.first_sets.proofs.Textbook.{place_of}
use Rattle.automaton.proofs.closure.add_first.Goals as goal

pub returns-then-not-may_be_empty-clause-adds : goal.returns-then-not-may_be_empty-clause-adds
returns-then-not-may_be_empty-clause-adds c t f =
    let i = c.loop-symbol.symbol-index in
    let p = place_of c.args.first.now c.args.symbols.now t f in
    elim (cases_lt p.index i) [
      | inl l ↦ c.add_symbol.ensures.keeps c.args.row t (c.loop-symbol.invariant.covered p.index l t p.first)
      | inr l ↦
          elim (cases_eq p.index i) [
            | inl e ↦ c.add_symbol.ensures.adds t (rw e at p.first)
            | inr n ↦ let bad : false ≡ true = sym c.if-not-may_be_empty.true ∙ c.may_be_empty.ensures.1 (p.before i (omega arith)) in cc
          ]
    ]

pub returns-clause-adds : goal.returns-clause-adds
returns-clause-adds c t f =
    let p = place_of c.args.first.now c.args.symbols.now t f in
    let within = p.within in
    c.loop-symbol.invariant.covered p.index (omega arith) t p.first
