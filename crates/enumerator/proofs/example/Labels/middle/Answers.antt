use Rattle.std.proofs.Common.{◌∙◌, arith}
use Rattle.lr1_base.specs.repr.Packed.{productions_in}
use Rattle.enumerator.proofs.example.LabelList.{some_label}
use Rattle.enumerator.proofs.example.Walk.{not_empty, empty, two_words, middle_one, middle-words, middle-none, mark-one, mark-words}
use Rattle.enumerator.proofs.example.Labels.middle.Goals as goal

pub bounds-symbol-1 : goal.bounds-symbol-1
bounds-symbol-1 c =
    let ps = productions_in c.args.self.grammar.words.now c.args.self.grammar.productions in
    let ws = c.args.self.words.now in
    omega (arith, (middle_one ps ws (some_label ws c.args.self.fit) _ c.cursor-symbol.ensures (not_empty _ c.is_empty.ensures c.if-not-is_empty.true)).1)

pub returns-then-not-is_empty : goal.returns-then-not-is_empty
returns-then-not-is_empty c =
    let ps = productions_in c.args.self.grammar.words.now c.args.self.grammar.productions in
    let ws = c.args.self.words.now in
    let h = some_label ws c.args.self.fit in
    let l = not_empty _ c.is_empty.ensures c.if-not-is_empty.true in
    let one = middle_one ps ws h _ c.cursor-symbol.ensures l in
    (one.0, middle-words ps ws h _ c.cursor-symbol.ensures l ∙ two_words _ one.1)

pub returns-then-is_empty : goal.returns-then-is_empty
returns-then-is_empty c =
    let ps = productions_in c.args.self.grammar.words.now c.args.self.grammar.productions in
    let ws = c.args.self.words.now in
    let h = some_label ws c.args.self.fit in
    let n = empty _ c.is_empty.ensures c.if-not-is_empty.false in
    let l = empty _ c.is_empty-else-not-is_empty.ensures c.if-is_empty.true in
    (mark-one ps ws h _ c.cursor-symbol.ensures n _ c.prefix.ensures l, mark-words ps ws h _ c.cursor-symbol.ensures n _ c.prefix.ensures l)

pub returns-else-is_empty : goal.returns-else-is_empty
returns-else-is_empty c =
    let ps = productions_in c.args.self.grammar.words.now c.args.self.grammar.productions in
    let ws = c.args.self.words.now in
    let h = some_label ws c.args.self.fit in
    let n = empty _ c.is_empty.ensures c.if-not-is_empty.false in
    middle-none ps ws h _ c.cursor-symbol.ensures n _ c.prefix.ensures (not_empty _ c.is_empty-else-not-is_empty.ensures c.if-is_empty.false)
