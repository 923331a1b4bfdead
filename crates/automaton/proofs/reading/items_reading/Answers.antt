use Rattle.std.proofs.Common.{◌≡◌, ◌≤◌, [], true, false, sym, ◌∙◌, arith, length}
use Rattle.std.proofs.lemmas.List.{take_all}
use Rattle.automaton.specs.States.{kernel_of}
use Rattle.automaton.proofs.Readings.{none_entry, none_of, entry_push, entry_skip, of_more, reading}
use Rattle.automaton.proofs.reading.items_reading.Goals as goal
use Rattle.automaton.proofs.reading.items_reading.Goals.{then-reads+in_ok-push, else-reads}

pub loop-entry-init : goal.loop-entry-init
loop-entry-init c = rw c.new-found.ensures.items (none_entry c.args.grammar.now c.args.token [])

pub loop-entry-preserved : goal.loop-entry-preserved
loop-entry-preserved c =
    let g = c.args.grammar.now in
    let kernel = c.kernel-kernel.result.now in
    let i = c.loop-entry.entry-index in
    elim c.if-reads.branch [
      | then-reads+in_ok-push w ↦
          rw (w.found-is, w.in_ok-push.ensures.items) (entry_push g c.args.token kernel i _ (omega arith) (c.reads.ensures.0 w.if-reads.true) c.loop-entry.invariant)
      | else-reads w ↦
          rw w.found-is
          (entry_skip g c.args.token kernel i _ (omega arith) (λ r. let bad : false ≡ true = sym w.if-reads.false ∙ c.reads.ensures.1 r in cc) c.loop-entry.invariant)
    ]

pub loop-n-init : goal.loop-n-init
loop-n-init c = none_of c.args.grammar.now c.args.alternatives.now c.args.token c.loop-entry.found.items

pub loop-n-preserved : goal.loop-n-preserved
loop-n-preserved c =
    of_more c.args.grammar.now c.args.alternatives.now c.args.token c.deref-n-items.result.now c.loop-n.n-index (omega arith) (rw c.of.ensures at c.in_ok-add_reading.ensures) c.loop-n.invariant

pub returns : goal.returns
returns c =
    let kernel = c.kernel-kernel.ensures in
    let entries : length c.kernel-kernel.result.now ≤ c.loop-entry.entry-index = omega arith in
    let nonterminals : length c.deref-n-items.result.now ≤ c.loop-n.n-index = omega arith in
    reading c.args.grammar.now c.args.alternatives.now (kernel_of c.args.automaton.now c.args.state) c.in_ok-starts.starts.items c.in_ok-reached.reached.items c.requires
    (rw kernel at c.in_ok-starts.ensures.exact) (rw c.as_slice.ensures.value at c.in_ok-reached.ensures.exact) c.args.token c.loop-entry.found.items c.loop-n.found.items
    (rw kernel at (rw take_all at c.loop-entry.invariant)) (rw c.deref-n-items.ensures.value at (rw take_all at c.loop-n.invariant))
