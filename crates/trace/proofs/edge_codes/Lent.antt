-- Edges that stay over the words lent from one step to the next: the two names of each (specs/edge_codes/Lent).
use Rattle.std.proofs.Common.{◌≡◌, ℕ, ◌∙◌, List}
use Rattle.lr1_base.specs.repr.Meaning.{Table}
use Rattle.trace_graph.specs.Graph.{TraceEdge}
use Rattle.trace.specs.edge_codes.Coded.{Coded}

pub same_then : {N M : Type 0} {a b c : N} {x y z : M} → (b ≡ a) × (y ≡ x) → (c ≡ b) × (z ≡ y) → (c ≡ a) × (z ≡ x)
same_then p q = (q.0 ∙ p.0, q.1 ∙ p.1)

-- what is said of the words of the edges is said of the words lent, which are those at the end
pub coded_lent : {T : Table} {ws x fs : List ℕ} {es : List TraceEdge} → x ≡ ws → Coded T ws fs es → Coded T x fs es
coded_lent e C = rw e C
