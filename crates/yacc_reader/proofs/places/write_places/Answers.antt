use Rattle.std.proofs.Common.{arith, ℕ, ap, ◌∙◌, drop}
use Rattle.yacc_reader.proofs.events.Laws.{read_in, says_in, ends_in}
use Rattle.yacc_reader.proofs.places.Laws.{placing-first, placing-next, placing-last}
use Rattle.yacc_reader.proofs.places.write_places.Goals as goal

pub loop-token-init : goal.loop-token-init
loop-token-init c =
    let n = c.new-token-items.ensures in
    rw (c.into_iter-token-iterator.ensures.into_iter_gives, n.mode, n.at) (n.text, λ l p. placing-first c.args.symbols.now.ids.text.now l p _ _)

pub left_said-left-requires : goal.left_said-left-requires
left_said-left-requires c = (read_in _ c.loop-token.token-iterator c.loop-token.invariant.0 _ _ c.in-Some.ensures.steps).leads.inside

pub token_said-right-requires : goal.token_said-right-requires
token_said-right-requires c = (read_in _ c.loop-token.token-iterator c.loop-token.invariant.0 _ _ c.in-Some.ensures.steps).leads.inside

pub write_place-n-requires : goal.write_place-n-requires
write_place-n-requires c =
    let L = (read_in _ c.loop-token.token-iterator c.loop-token.invariant.0 _ _ c.in-Some.ensures.steps).leads in
    let w = L.wide in
    let i = L.inside in
    let s = c.requires.short in
    omega (arith, w, i, s)

pub write_place-m-requires : goal.write_place-m-requires
write_place-m-requires c =
    let L = (read_in _ c.loop-token.token-iterator c.loop-token.invariant.0 _ _ c.in-Some.ensures.steps).leads in
    let w = L.wide in
    let i = L.inside in
    let s = c.requires.short in
    omega (arith, w, i, s)

pub loop-token-preserved : goal.loop-token-preserved
loop-token-preserved c =
    let i = c.loop-token.invariant in
    let R = read_in _ c.loop-token.token-iterator i.0 _ _ c.in-Some.ensures.steps in
    let e = says_in _ c.loop-token.token-iterator i.0 _ _ R in
    let parts = c.split_at_mut-lefts.ensures in
    let same = c.loop-token.auto in (
      R.text,
      λ l p.
          let H = c.args.symbols.now.named.held l p in
          let a = H.nonterminals.numbers.count in
          let b = H.terminals.numbers.count in
          let r = c.requires.room in
          rw R.at (placing-next _ _ _ _ _ _ _ _ _ (i.1 l p) (omega (arith, a, same.lefts, parts.front_len)) (omega (arith, a, b, r, same.tokens, parts.back_len)) _ _ _ _ _ R.leads e R.mode _ _ (c.left_said-left.ensures _ _ H) (c.token_said-right.ensures _ _ H) _ _ _ _ c.write_place-n.ensures.places_after c.write_place-n.ensures.value c.write_place-m.ensures.places_after c.write_place-m.ensures.value),
    )

pub returns : goal.returns
returns c =
    let i = c.loop-token.invariant in
    let parts = c.split_at_mut-lefts.ensures in
    let same = c.loop-token.auto in
    λ l p.
    let H = c.args.symbols.now.named.held l p in
    let a = H.nonterminals.numbers.count in
    let b = H.terminals.numbers.count in
    let r = c.requires.room in
    placing-last _ _ _ _ _ _ _ _ _ (i.1 l p) (ends_in _ _ i.0 _ c.in-None.ensures.steps) (omega (arith, a, same.lefts, parts.front_len)) same.tokens (omega (arith, a, b, r, parts.back_len)) _ (parts.back ∙ ap (λ (k : ℕ). drop k c.args.places.now) a)
