use Rattle.std.proofs.Common.{◌<◌, ◌≤◌, ◌∙◌, arith, length}
use Rattle.std.proofs.lemmas.List.{take_all}
use Rattle.std.proofs.lemmas.List.Elements.{All-push}
use Rattle.automaton.specs.declared.automaton.Entry.{Entry}
use Rattle.automaton.proofs.Covers.{no_row, load_more}
use Rattle.automaton.proofs.closure.load.Goals as goal
use Rattle.automaton.proofs.closure.load.Goals.{then-entry-tokens, else-entry-tokens}

pub loop-i-preserved : goal.loop-i-preserved
loop-i-preserved c =
    let i = c.loop-i.i in
    let inv = c.loop-i.invariant in
    elim c.if-entry-tokens.branch [
      | then-entry-tokens w ↦
          record {
            shape = rw w.table-is (record { rows = w.add_row_of.ensures.shape.rows ∙ inv.shape.rows; columns = w.add_row_of.ensures.shape.columns ∙ inv.shape.columns });
            in_range = rw c.in_ok-push.ensures.items (All-push (λ (e : Entry). e.tokens < c.args.table.now.rows) c.loop-i.entries.items _ inv.in_range (omega arith));
            lists = rw (w.table-is, c.in_ok-push.ensures.items)
                (load_more c.args.tokens.now c.loop-i.table w.add_row_of.new.self c.args.kernel.now c.loop-i.entries.items i _ _ (omega arith)
                w.add_row_of.ensures.keeps w.add_row_of.ensures.adds inv.lists);
          }
      | else-entry-tokens w ↦
          record {
            shape = rw w.table-is inv.shape;
            in_range = rw c.in_ok-push.ensures.items (All-push (λ (e : Entry). e.tokens < c.args.table.now.rows) c.loop-i.entries.items _ inv.in_range (omega arith));
            lists = rw (w.table-is, c.in_ok-push.ensures.items)
                (load_more c.args.tokens.now c.loop-i.table c.loop-i.table c.args.kernel.now c.loop-i.entries.items i _ _ (omega arith)
                (λ r k h. h) (λ t h. absurd (no_row c.args.tokens.now _ t w.if-entry-tokens.false h)) inv.lists);
          }
    ]

pub returns-clause-lists : goal.returns-clause-lists
returns-clause-lists c = let enough : length c.args.kernel.now ≤ c.loop-i.i = omega arith in rw take_all at c.loop-i.invariant.lists
