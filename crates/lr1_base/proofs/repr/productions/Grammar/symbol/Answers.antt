use Rattle.std.proofs.Common.{suc, ◌∷◌, drop, sym, ap, ◌∙◌, arith}
use Rattle.lr1_base.specs.repr.Meaning.{Symbol}
use Rattle.lr1_base.specs.repr.Listed.{listed}
use Rattle.lr1_base.specs.repr.Packed.{symbol_words}
use Rattle.lr1_base.proofs.repr.Parts.{symbol_here, symbols_long}
use Rattle.lr1_base.proofs.repr.FrontSymbol.{here_in_range}
use Rattle.lr1_base.proofs.repr.productions.Grammar.symbol.Goals as goal

pub overflow_mul-at-2 : goal.overflow_mul-at-2
overflow_mul-at-2 c = let P = c.args.self.packed in let s = P.short _ c.requires.within in let l = symbols_long _ _ _ P c.requires.within in omega arith

pub overflow_add-at-2 : goal.overflow_add-at-2
overflow_add-at-2 c = let P = c.args.self.packed in let s = P.short _ c.requires.within in let l = symbols_long _ _ _ P c.requires.within in omega arith

pub offset_bounds-self-at : goal.offset_bounds-self-at
offset_bounds-self-at c = let P = c.args.self.packed in let s = P.short _ c.requires.within in let l = symbols_long _ _ _ P c.requires.within in omega arith

pub bounds-self-at : goal.bounds-self-at
bounds-self-at c = let P = c.args.self.packed in let s = P.short _ c.requires.within in let l = symbols_long _ _ _ P c.requires.within in omega arith

pub overflow_add-at-3 : goal.overflow_add-at-3
overflow_add-at-3 c = let P = c.args.self.packed in let s = P.short _ c.requires.within in let l = symbols_long _ _ _ P c.requires.within in omega arith

pub offset_bounds-self-at-2 : goal.offset_bounds-self-at-2
offset_bounds-self-at-2 c = let P = c.args.self.packed in let s = P.short _ c.requires.within in let l = symbols_long _ _ _ P c.requires.within in omega arith

pub bounds-self-at-2 : goal.bounds-self-at-2
bounds-self-at-2 c = let P = c.args.self.packed in let s = P.short _ c.requires.within in let l = symbols_long _ _ _ P c.requires.within in omega arith

pub returns : goal.returns
returns c =
    let P = c.args.self.packed in
    let rest = drop (suc c.args.index) (listed (symbol_words c.args.self.words.now c.args.production)) in
    let e = symbol_here _ _ _ _ P c.requires.within c.requires.index_in_bounds ∙ ap (λ (s : Symbol). s ∷ rest) (sym c.of.ensures) in
    record { is = e; in_range = here_in_range _ _ _ _ _ _ P c.requires.within e }
