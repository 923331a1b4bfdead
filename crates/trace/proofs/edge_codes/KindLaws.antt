-- The word and the key of an edge from its kind and label (specs/edge_codes/Kinds).
use Rattle.std.proofs.Common.{◌≡◌, ℕ, ◌+◌, ◌*◌, ◌⊎◌, inl, inr, sym, refl, ap, ◌∙◌, arith}
use Rattle.lr1_base.specs.repr.Meaning.{Table, TableFits}
use Rattle.trace_graph.specs.Graph.{TraceEdge}
use Rattle.trace.specs.Sound.{EdgeSound}
use Rattle.trace.specs.declared.edge_codes.EdgeCode.{EdgeCode}
use Rattle.trace.specs.declared.edge_codes.EdgeKind.{EdgeKind}
use Rattle.trace.specs.declared.edge_codes.EdgeKind.TheVariants.{IntoItem, FromItem}
use Rattle.trace.specs.edge_codes.Codes.{code_of, key_by, key_of}
use Rattle.trace.specs.edge_codes.Kinds.{kind_number, IsCodeOf}
use Rattle.trace.proofs.edge_codes.Keys.{key_edge}
use Rattle.lr1_base.specs.item.Places.{item_place}

-- a kind that is not the one between nonterminals
pub not_between : (k : EdgeKind) → (k ≡ IntoItem) ⊎ (k ≡ FromItem) → kind_number k ≡ 1 → ⊥
not_between k (inl e) o = let z : kind_number k ≡ 0 = ap kind_number e in omega (arith, z, o)
not_between k (inr e) o = let z : kind_number k ≡ 2 = ap kind_number e in omega (arith, z, o)

-- a kind by its number
pub number_is : (k j : EdgeKind) (n : ℕ) → kind_number k ≡ n → k ≡ j → n ≡ kind_number j
number_is k j n a e = sym a ∙ ap kind_number e

module _ (c : EdgeCode) (e : TraceEdge) (I : IsCodeOf c e) where
  pub word_is : kind_number c.kind * 2176 + item_place (record { production = c.item.production; index = c.item.index }) ≡ code_of e
  unfolding code_of
  word_is = rw (I.kind, I.label) refl

  pub key_is : (T : Table) → TableFits T → EdgeSound T e → key_by T.productions (kind_number c.kind) (record { production = c.item.production; index = c.item.index }) ≡ key_of T.productions (code_of e)
  key_is T fits t = rw (I.kind, I.label) (sym (key_edge T fits e t))
