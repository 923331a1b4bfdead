use mathlib.Core.Path.{sym}
use Rattle.table_rewrite.proofs.start_production.Ways.{read-packed, read_grammar, own_inside, own_way, many_nonterminals, many_productions, few_productions_lem, more_grammar, more_way}
use native.Mathlib.Omega.{arith}
use Rattle.table_rewrite.proofs.start_production.with_start.Goals as goal
use Rattle.table_rewrite.proofs.start_production.with_start.Goals.{then-nonterminals-eq-LIMIT-via-then-nonterminals-eq-LIMIT, then-nonterminals-eq-LIMIT-via-else-nonterminals-eq-LIMIT+then-productions-eq-LIMIT}

pub invariant_of-grammar : goal.invariant_of-grammar
invariant_of-grammar c = record { packed = (read-packed _ _ _ _ _ _ c.counts-counts.ensures c.requires _ c.read_productions.ensures).packed }

pub invariant_of-grammar-2 : goal.invariant_of-grammar-2
invariant_of-grammar-2 c = record { packed = c.append.ensures.0 }

pub returns-then-nonterminals-eq-LIMIT : goal.returns-then-nonterminals-eq-LIMIT
returns-then-nonterminals-eq-LIMIT c =
    let none = sym (c.in_default.ensures _ (read-packed _ _ _ _ _ _ c.counts-counts.ensures c.requires _ c.read_productions.ensures)) in
    elim c.then-nonterminals-eq-LIMIT.branch [
      | then-nonterminals-eq-LIMIT-via-then-nonterminals-eq-LIMIT w ↦ many_nonterminals _ _ _ _ _ _ c.counts-counts.ensures c.requires none _ w.if-nonterminals-eq-LIMIT.true
      | then-nonterminals-eq-LIMIT-via-else-nonterminals-eq-LIMIT+then-productions-eq-LIMIT w ↦ many_productions _ _ _ _ _ _ c.counts-counts.ensures c.requires none _ w.if-productions-eq-LIMIT.true
    ]

pub append-requires : goal.append-requires
append-requires c = record { packed = ((read-packed _ _ _ _ _ _ c.counts-counts.ensures c.requires _ c.read_productions.ensures).packed, omega (arith, c.if-productions-eq-LIMIT.false, c.counts-counts.ensures.productions, c.counts-counts.ensures.fits.few_productions_lem)); owner_lt_nonterminal_limit = (omega (arith, c.if-nonterminals-eq-LIMIT.false, c.counts-counts.ensures.nonterminals, c.counts-counts.ensures.fits.few_nonterminals), omega (arith, c.requires.inside, c.counts-counts.ensures.fits.few_nonterminals)) }

pub write_started-requires : goal.write_started-requires
write_started-requires c = let e = c.in-Some.ensures _ (read-packed _ _ _ _ _ _ c.counts-counts.ensures c.requires _ c.read_productions.ensures) in record { grammar_of = (_, read_grammar _ _ _ _ _ _ c.counts-counts.ensures c.requires _ c.read_productions.ensures); production_lt_production_limit = omega (arith, own_inside _ _ _ _ _ _ c.counts-counts.ensures c.requires _ c.read_productions.ensures _ e.1 e.0, c.counts-counts.ensures.productions, c.counts-counts.ensures.fits.few_productions_lem) }

pub returns-in-Some : goal.returns-in-Some
returns-in-Some c = let e = c.in-Some.ensures _ (read-packed _ _ _ _ _ _ c.counts-counts.ensures c.requires _ c.read_productions.ensures) in
    own_way _ _ _ _ _ _ c.counts-counts.ensures c.requires _ c.read_productions.ensures _ e.1 e.0 _ _ (c.write_started.ensures _ (read_grammar _ _ _ _ _ _ c.counts-counts.ensures c.requires _ c.read_productions.ensures))

pub write_started-requires-2 : goal.write_started-requires-2
write_started-requires-2 c = record { grammar_of = (_, more_grammar _ _ _ _ _ _ c.counts-counts.ensures c.requires c.if-nonterminals-eq-LIMIT.false c.if-productions-eq-LIMIT.false _ _ c.read_productions.ensures c.append.ensures); production_lt_production_limit = few_productions_lem _ _ _ _ _ _ c.counts-counts.ensures c.requires c.if-nonterminals-eq-LIMIT.false c.if-productions-eq-LIMIT.false }

pub returns : goal.returns
returns c = more_way _ _ _ _ _ _ c.counts-counts.ensures c.requires (sym (c.in_default.ensures _ (read-packed _ _ _ _ _ _ c.counts-counts.ensures c.requires _ c.read_productions.ensures))) _ c.if-nonterminals-eq-LIMIT.false c.if-productions-eq-LIMIT.false _ (c.write_started-2.ensures _ (more_grammar _ _ _ _ _ _ c.counts-counts.ensures c.requires c.if-nonterminals-eq-LIMIT.false c.if-productions-eq-LIMIT.false _ _ c.read_productions.ensures c.append.ensures))
