-- Laws of the tokens that complete items reduce with.
use Rattle.std.proofs.Common.{◌≡◌, ℕ, ◌+◌, ◌*◌, ◌<◌, ◌≤◌, eqb, List, length, get_or, take, set, sym, ap, ◌∙◌, arith, get_or-set_other, get_or-take, get_or-set_same, eqb-true}
use borrow.Author.Tests.{eqb-false}
use Rattle.lr1_base.specs.repr.Sizes.{index_limit}
use Rattle.lr1_base.specs.repr.Meaning.{Production, Table, production_at}
use Rattle.lr1_base.specs.repr.Listed.{listed}
use Rattle.lr1_base.specs.repr.Packed.{symbol_words, production_in}
use Rattle.lr1_base.proofs.repr.Lists.{cases}
use Rattle.lr1_states.specs.canonical.States.{reduces}
use Rattle.lr1_states.specs.closure.Grammar.{OfTable}
use Rattle.lr1_states.proofs.closure.Grammar.{production_at_lem}
use Rattle.lr1_tables.specs.state_conflicts.Reductions.{ReducedAs}

pub reduction_is : (T : Table) (g : List ℕ) (P e : ℕ) (sets : List ℕ) → OfTable T g P e sets → (S : List ℕ) (p n : ℕ) → p < P → n ≡ length (listed (symbol_words g p)) → n ≤ 16
    → get_or S (p * index_limit + n) 0 ≡ reduces T (take (index_limit * P) S) p
unfolding reduces production_in
reduction_is T g P e sets G S p n h l few =
    let q : length (production_at T p).symbols ≡ n = ap (λ (r : Production). length r.symbols) (production_at_lem T g P e sets G p h) ∙ sym l in
    let a : p * index_limit + n ≡ index_limit * p + n = omega arith in
    rw (q, a) (sym (get_or-take (index_limit * P) S (index_limit * p + n) 0 (omega arith)))

pub reduced_more : (T : Table) (P : ℕ) (S r : List ℕ) (p v : ℕ) → ReducedAs T P S r p → p < length r → v ≡ reduces T (take (index_limit * P) S) p → ReducedAs T P S (set r p v) (p + 1)
reduced_more T P S r p v f l e q h =
    cases (eqb q p)
    (λ t. rw (eqb-true q p t) (get_or-set_same r p v 0 l ∙ e))
    (λ t. let z = eqb-false q p t in get_or-set_other r p q v 0 z ∙ f q (omega (arith, z)))

pub reduced_end : (T : Table) (P : ℕ) (S r : List ℕ) (p : ℕ) → P ≤ p → ReducedAs T P S r p → ReducedAs T P S r P
reduced_end T P S r p h f q l = f q (omega arith)
