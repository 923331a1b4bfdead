use mathlib.Core.Path.{ap, ◌∙◌}
use mathlib.Core.Bool.{not}
use borrow.Author.Tests.{eq-eqb}
use Rattle.enumerator.proofs.advance.Finding.{lost-closed, lost-fresh, lost-past}
use Rattle.enumerator.proofs.advance.lost.Goals as goal

pub returns-then-listing-ne0 : goal.returns-then-listing-ne0
returns-then-listing-ne0 c = lost-past _ _ _ c.if-listing.true c.if-listing-ne0.true _ (c.holds_trial.ensures ∙ rw (c.start.ensures.0, c.start.ensures.1))

pub returns-else-listing-ne0 : goal.returns-else-listing-ne0
returns-else-listing-ne0 c = ap not (eq-eqb _ _ c.if-listing-ne0.false) ∙ lost-fresh _ _ _ c.if-listing.true c.if-listing-ne0.false

pub returns-else-listing : goal.returns-else-listing
returns-else-listing c = c.if-listing.false ∙ lost-closed _ _ _ c.if-listing.false
