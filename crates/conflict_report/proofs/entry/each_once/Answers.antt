use Rattle.std.proofs.Common.{eqb, Contains, sym, subst}
use Rattle.std.proofs.lemmas.List.Filters.{dedup_is}
use Rattle.std.proofs.lemmas.List.Kept.{Contains-dedup_nat, Contains-from_dedup}
use Rattle.std.proofs.lemmas.List.Sorted.{Contains-permutation, IsPermutation-sym}
use Rattle.conflict_report.proofs.entry.each_once.Goals as goal

pub returns : goal.returns
returns c =
    let numbers = c.args.numbers.items in
    let sorted = c.sort_unstable.new.self.items in
    let moved = c.sort_unstable.ensures.permutation in
    let is = dedup_is eqb sorted c.dedup.new.self.items c.dedup.ensures.filtered in
    λ n. (
      (λ h. Contains-permutation sorted numbers n (IsPermutation-sym numbers sorted moved)
          (Contains-from_dedup eqb sorted n (subst (λ l. Contains l n) is h))),
      (λ h. subst (λ l. Contains l n) (sym is) (Contains-dedup_nat sorted n (Contains-permutation numbers sorted n moved h))),
    )
