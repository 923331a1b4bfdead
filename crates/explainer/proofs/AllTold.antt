-- A report of all conflicts, each with how it comes out, tells each conflict of the grammar.
use Rattle.std.proofs.Common.{ℕ, Bool, List, [], ◌∷◌, ◌⊎◌, inl, inr, Contains, refl, arith}
use Rattle.std.specs.List.{flat_map}
use Rattle.std.proofs.lemmas.List.Elements.{Contains-append_left, Contains-append_right, Contains-append_cases}
use Rattle.std.proofs.lemmas.List.Sorted.{Contains-permutation}
use Rattle.grammar.specs.declared.symbol.Symbol.{Symbol}
use Rattle.grammar.specs.declared.grammar.Grammar.{Grammar}
use Rattle.automaton.specs.declared.automaton.Automaton.{Automaton}
use Rattle.automaton.specs.declared.conflict.Clash.{Clash}
use Rattle.automaton.specs.declared.conflict.Conflict.{Conflict}
use Rattle.automaton.specs.declared.conflict.Other.{Other}
use Rattle.automaton.specs.declared.resolution.Resolution.{Resolution}
use Rattle.automaton.specs.declared.resolution.Resolution.TheVariants.{Open, ShiftKept, ReductionKept, NeitherKept, ShiftGone, ReductionGone}
use Rattle.automaton.specs.declared.resolution.Resolved.{Resolved}
use Rattle.automaton.specs.Conflicts.{conflicts_of, Names, MissesNone}
use Rattle.automaton.specs.Resolutions.{resolution_of, resolved, resolved_of, resolved_in}
use Rattle.conflict_report.specs.declared.report.Report.{Report}
use Rattle.conflict_report.specs.Groups.{is_left, is_kept, open_of, settled_of}
use Rattle.conflict_report.specs.Entries.{conflicts_in, Shows}
use Rattle.explainer.specs.Told.{IsToldAs, Tells, TellsAll}
use Rattle.explainer.proofs.Members.{Contains-map, Contains-filter}

-- a conflict of the clashes comes out in some way
record ComesOut (g : Grammar) (used : Bool) (cs : List Clash) (x : Conflict) : Type 0 where
  resolution : Resolution
  listed : Contains (resolved_in g used cs) (record { conflict = x; resolution = resolution })

comes_out : (g : Grammar) (used : Bool) (cs : List Clash) (x : Conflict) → Contains (flat_map conflicts_of cs) x → ComesOut g used cs x
comes_out g used [] x c = absurd (omega (arith, c.1))
comes_out g used (clash ∷ cs) x c =
    by (comes_out g used cs x) (Contains-append_cases (conflicts_of clash) (flat_map conflicts_of cs) x c)
  where
    by : (Contains (flat_map conflicts_of cs) x → ComesOut g used cs x) → (Contains (conflicts_of clash) x ⊎ Contains (flat_map conflicts_of cs) x)
        → ComesOut g used (clash ∷ cs) x
    by rest (inl here) = record {
      resolution = resolution_of g used clash x.production x.other;
      listed = Contains-append_left (resolved_of g used clash) (resolved_in g used cs) (resolved g used clash x)
          (Contains-map (resolved g used clash) (conflicts_of clash) x here);
    }
    by rest (inr there) = let r = rest there in record {
      resolution = r.resolution;
      listed = Contains-append_right (resolved_of g used clash) (resolved_in g used cs) _ r.listed;
    }

-- it is told so
told_as : (r : Report) (list : List Resolved) (x : Conflict) (resolution : Resolution) → Shows (open_of list) r.entries.items → Shows (settled_of list) r.settled.items
    → Contains list (record { conflict = x; resolution = resolution }) → IsToldAs r x resolution
told_as r list x Open shows settles c =
    Contains-permutation (open_of list) (flat_map conflicts_in r.entries.items) _ shows
    (Contains-filter (λ (y : Resolved). is_left y.resolution) list (record { conflict = x; resolution = Open }) refl c)
told_as r list x ShiftKept shows settles c =
    Contains-permutation (settled_of list) (flat_map conflicts_in r.settled.items) _ settles
    (Contains-filter (λ (y : Resolved). is_kept y.resolution) list (record { conflict = x; resolution = ShiftKept }) refl c)
told_as r list x ReductionKept shows settles c =
    Contains-permutation (settled_of list) (flat_map conflicts_in r.settled.items) _ settles
    (Contains-filter (λ (y : Resolved). is_kept y.resolution) list (record { conflict = x; resolution = ReductionKept }) refl c)
told_as r list x NeitherKept shows settles c =
    Contains-permutation (settled_of list) (flat_map conflicts_in r.settled.items) _ settles
    (Contains-filter (λ (y : Resolved). is_kept y.resolution) list (record { conflict = x; resolution = NeitherKept }) refl c)
told_as r list x (ShiftGone q) shows settles c = tt
told_as r list x (ReductionGone q) shows settles c = tt

module _ (g : Grammar) (used : Bool) (a : Automaton) (clashes : List Clash) (r : Report)
    (shows : Shows (open_of (resolved_in g used clashes)) r.entries.items)
    (settles : Shows (settled_of (resolved_in g used clashes)) r.settled.items) where
  tells : (γ : List Symbol) (t p : ℕ) (o : Other) → Names a (flat_map conflicts_of clashes) γ t p o → Tells g used a clashes r γ t p o
  tells γ t p o named =
      let out = comes_out g used clashes named.conflict named.listed in
      record {
        conflict = named.conflict;
        state = named.state;
        token = named.token;
        production = named.production;
        other = named.other;
        resolution = out.resolution;
        resolved = out.listed;
        told = told_as r (resolved_in g used clashes) named.conflict out.resolution shows settles out.listed;
      }

  pub tells_all : MissesNone g a (flat_map conflicts_of clashes) → TellsAll g used a clashes r
  tells_all m = record {
    shift_reduce = λ γ t p h. tells γ t p _ (m.shift_reduce γ t p h);
    reduce_reduce = λ γ t p q h. tells γ t p _ (m.reduce_reduce γ t p q h);
  }
