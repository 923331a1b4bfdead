use Rattle.std.proofs.Common.{ℕ, [], length, sym, refl, ap, ◌∙◌, append-nil, arith}
use Rattle.lr1_base.specs.repr.Lists.{joined}
use Rattle.lr1_base.specs.repr.Packed.{productions_in}
use Rattle.enumerator.specs.example.Example.{prefixes, suffixes, middle, symbols, symbol_words, example_words}
use Rattle.enumerator.specs.example.Labels.{labels_in}
use Rattle.enumerator.specs.example.Written.{words_of, around_words}
use Rattle.enumerator.proofs.example.LabelList.{few_labels}
use Rattle.lr1_base.proofs.words.Put.{put_front, turn_start, turn_room, turn_more, turn_next, turn_end}
use Rattle.enumerator.proofs.example.Reductions.{around-length}
use Rattle.enumerator.proofs.example.Walk.{around_few, words_1158, example-parts, after_counts, after_prefixes, after_middle, after_suffixes}
use Rattle.enumerator.proofs.example.Labels.write_example.Goals as goal

pub put_three-requires : goal.put_three-requires
put_three-requires c = let ps = productions_in c.args.self.grammar.words.now c.args.self.grammar.productions in
    let ws = c.args.self.words.now in
    let few = around_few c.args.self.grammar.words.now c.args.self.grammar.productions c.args.self.grammar.packed ws c.args.self.fit in (
      omega (arith, c.requires),
      omega (arith, c.symbol_count-places.ensures.1),
      omega (arith, c.prefix_total-cursor.ensures, few),
      omega (arith, c.count.ensures.0, few_labels ws c.args.self.fit),
    )

pub write_prefixes-middle-requires : goal.write_prefixes-middle-requires
write_prefixes-middle-requires c = let ps = productions_in c.args.self.grammar.words.now c.args.self.grammar.productions in
    let ws = c.args.self.words.now in
    let ls = labels_in ws in
    let few = words_1158 c.args.self.grammar.words.now c.args.self.grammar.productions c.args.self.grammar.packed ws c.args.self.fit in
    let t₀ = turn_start 0 (example_words ps ls) c.args.buffer.now _ refl (omega (arith, few, c.requires)) in
    let t₁ = turn_next t₀ _ (after_counts ps ls) (example-parts ps ls _ _ _ c.symbol_count-places.ensures.0 c.prefix_total-cursor.ensures c.count.ensures.0) _ c.put_three.ensures 3 refl in turn_room t₁ (words_of (prefixes ps ls)) (after_prefixes ps ls) refl

pub write_middle-after-requires : goal.write_middle-after-requires
write_middle-after-requires c = let ps = productions_in c.args.self.grammar.words.now c.args.self.grammar.productions in
    let ws = c.args.self.words.now in
    let ls = labels_in ws in
    let few = words_1158 c.args.self.grammar.words.now c.args.self.grammar.productions c.args.self.grammar.packed ws c.args.self.fit in
    let t₀ = turn_start 0 (example_words ps ls) c.args.buffer.now _ refl (omega (arith, few, c.requires)) in
    let t₁ = turn_next t₀ _ (after_counts ps ls) (example-parts ps ls _ _ _ c.symbol_count-places.ensures.0 c.prefix_total-cursor.ensures c.count.ensures.0) _ c.put_three.ensures 3 refl in
    let t₂ = turn_next t₁ (words_of (prefixes ps ls)) (after_prefixes ps ls) refl _ c.write_prefixes-middle.ensures.0 _ c.write_prefixes-middle.ensures.1 in turn_room t₂ (joined symbol_words (middle ps ls)) (after_middle ps ls) refl

pub write_suffixes-end-requires : goal.write_suffixes-end-requires
write_suffixes-end-requires c = let ps = productions_in c.args.self.grammar.words.now c.args.self.grammar.productions in
    let ws = c.args.self.words.now in
    let ls = labels_in ws in
    let few = words_1158 c.args.self.grammar.words.now c.args.self.grammar.productions c.args.self.grammar.packed ws c.args.self.fit in
    let t₀ = turn_start 0 (example_words ps ls) c.args.buffer.now _ refl (omega (arith, few, c.requires)) in
    let t₁ = turn_next t₀ _ (after_counts ps ls) (example-parts ps ls _ _ _ c.symbol_count-places.ensures.0 c.prefix_total-cursor.ensures c.count.ensures.0) _ c.put_three.ensures 3 refl in
    let t₂ = turn_next t₁ (words_of (prefixes ps ls)) (after_prefixes ps ls) refl _ c.write_prefixes-middle.ensures.0 _ c.write_prefixes-middle.ensures.1 in
    let t₃ = turn_next t₂ (joined symbol_words (middle ps ls)) (after_middle ps ls) refl _ c.write_middle-after.ensures.0 _ c.write_middle-after.ensures.1 in turn_room t₃ (words_of (suffixes ps ls)) (after_suffixes ps ls) refl

pub write_reductions-requires : goal.write_reductions-requires
write_reductions-requires c = let ps = productions_in c.args.self.grammar.words.now c.args.self.grammar.productions in
    let ws = c.args.self.words.now in
    let ls = labels_in ws in
    let few = words_1158 c.args.self.grammar.words.now c.args.self.grammar.productions c.args.self.grammar.packed ws c.args.self.fit in
    let t₀ = turn_start 0 (example_words ps ls) c.args.buffer.now _ refl (omega (arith, few, c.requires)) in
    let t₁ = turn_next t₀ _ (after_counts ps ls) (example-parts ps ls _ _ _ c.symbol_count-places.ensures.0 c.prefix_total-cursor.ensures c.count.ensures.0) _ c.put_three.ensures 3 refl in
    let t₂ = turn_next t₁ (words_of (prefixes ps ls)) (after_prefixes ps ls) refl _ c.write_prefixes-middle.ensures.0 _ c.write_prefixes-middle.ensures.1 in
    let t₃ = turn_next t₂ (joined symbol_words (middle ps ls)) (after_middle ps ls) refl _ c.write_middle-after.ensures.0 _ c.write_middle-after.ensures.1 in
    let t₄ = turn_next t₃ (words_of (suffixes ps ls)) (after_suffixes ps ls) refl _ c.write_suffixes-end.ensures.0 _ c.write_suffixes-end.ensures.1 in
    let r = turn_room t₄ (after_suffixes ps ls) [] (sym (append-nil (after_suffixes ps ls))) in
    let k = around-length ps (length (symbols ps ls)) ls in record { places_value = (c.symbol_count-places.ensures.0, c.symbol_count-places.ensures.1); labels_in_bounds = omega (arith, r, k) }

pub returns : goal.returns
returns c = let ps = productions_in c.args.self.grammar.words.now c.args.self.grammar.productions in
    let ws = c.args.self.words.now in
    let ls = labels_in ws in
    let few = words_1158 c.args.self.grammar.words.now c.args.self.grammar.productions c.args.self.grammar.packed ws c.args.self.fit in
    let t₀ = turn_start 0 (example_words ps ls) c.args.buffer.now _ refl (omega (arith, few, c.requires)) in
    let t₁ = turn_next t₀ _ (after_counts ps ls) (example-parts ps ls _ _ _ c.symbol_count-places.ensures.0 c.prefix_total-cursor.ensures c.count.ensures.0) _ c.put_three.ensures 3 refl in
    let t₂ = turn_next t₁ (words_of (prefixes ps ls)) (after_prefixes ps ls) refl _ c.write_prefixes-middle.ensures.0 _ c.write_prefixes-middle.ensures.1 in
    let t₃ = turn_next t₂ (joined symbol_words (middle ps ls)) (after_middle ps ls) refl _ c.write_middle-after.ensures.0 _ c.write_middle-after.ensures.1 in
    let t₄ = turn_next t₃ (words_of (suffixes ps ls)) (after_suffixes ps ls) refl _ c.write_suffixes-end.ensures.0 _ c.write_suffixes-end.ensures.1 in
    let k = c.symbol_count-places.result in
    let e = sym (append-nil (around_words ps k ls) ∙ ap (λ (n : ℕ). around_words ps n ls) c.symbol_count-places.ensures.0) in
    let t₅ = turn_more t₄ (around_words ps k ls) [] e _ c.write_reductions.ensures in
    (turn_end t₅ refl).0 ∙ put_front (example_words ps ls) c.args.buffer.now
