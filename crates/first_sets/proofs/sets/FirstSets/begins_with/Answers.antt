use Rattle.std.proofs.Common.{◌≡◌, true, false, refl, sym, ◌∙◌, inl, inr, arith}
use Rattle.std.proofs.lemmas.Bool.{cases_lt, cases_eq}
use Rattle.first_sets.proofs.Textbook.{first_at, place_of, first_exact}
use Rattle.first_sets.proofs.sets.FirstSets.begins_with.Goals as goal

pub returns-then-has : goal.returns-then-has
returns-then-has c ps are =
    let s = c.args.self.now in let xs = c.args.symbols.now in (
      λ h. (first_exact ps s are xs c.args.terminal).0
          (first_at s xs c.args.terminal c.loop-symbol.symbol-index (omega arith) c.loop-symbol.invariant.null (c.has.ensures.0 c.if-has.true)),
      λ b. refl,
    )

pub returns-then-not-may_be_empty : goal.returns-then-not-may_be_empty
returns-then-not-may_be_empty c ps are =
    let s = c.args.self.now in let xs = c.args.symbols.now in let i = c.loop-symbol.symbol-index in (
      λ (h : false ≡ true). cc,
      λ b.
          let p = place_of s xs c.args.terminal ((first_exact ps s are xs c.args.terminal).1 b) in
          elim (cases_lt p.index i) [
            | inl l ↦ absurd (c.loop-symbol.invariant.none p.index l p.first)
            | inr l ↦
                elim (cases_eq p.index i) [
                  | inl e ↦ sym c.if-has.false ∙ c.has.ensures.1 (rw e at p.first)
                  | inr n ↦ sym c.if-not-may_be_empty.true ∙ c.may_be_empty.ensures.1 (p.before i (omega arith))
                ]
          ],
    )

pub returns : goal.returns
returns c ps are =
    let s = c.args.self.now in let xs = c.args.symbols.now in (
      λ (h : false ≡ true). cc,
      λ b.
          let p = place_of s xs c.args.terminal ((first_exact ps s are xs c.args.terminal).1 b) in
          let l = p.within in
          absurd (c.loop-symbol.invariant.none p.index (omega arith) p.first),
    )
