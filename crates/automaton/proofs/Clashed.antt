-- Lists of clashes that grow, and what a state's have.
use Rattle.std.proofs.Common.{◌≡◌, ℕ, ◌<◌, true, false, List, [], ◌∷◌, ◌++◌, length, sym, ◌∙◌, ap, arith}
use Rattle.std.specs.Prelude.{Contains, is_some}
use Rattle.std.proofs.lemmas.List.Elements.{Contains-push}
use Rattle.bit_table.specs.declared.table.BitTable.{BitTable}
use Rattle.grammar.specs.declared.symbol.Symbol.TheVariants.{Terminal}
use Rattle.grammar.specs.declared.grammar.Grammar.{Grammar}
use Rattle.automaton.specs.declared.item.Item.{Item}
use Rattle.automaton.specs.declared.automaton.Entry.{Entry}
use Rattle.automaton.specs.declared.automaton.Automaton.{Automaton}
use Rattle.automaton.specs.declared.conflict.Clash.{Clash}
use Rattle.automaton.specs.Items.{complete}
use Rattle.automaton.specs.States.{IsListed, InState, target_of}
use Rattle.automaton.specs.Clashes.{HasShift, HasBoth, KeepsClashes, ListsToken, ListsState}
use Rattle.automaton.proofs.Walks.{within}

pub shift_kept : {old new : List Clash} → KeepsClashes old new → (s t p : ℕ) → HasShift old s t p → HasShift new s t p
shift_kept keeps s t p h = record {
  clash = h.clash;
  listed = keeps h.clash h.listed;
  state = h.state;
  token = h.token;
  shifts = h.shifts;
  reduction = h.reduction;
}

pub both_kept : {old new : List Clash} → KeepsClashes old new → (s t p q : ℕ) → HasBoth old s t p q → HasBoth new s t p q
both_kept keeps s t p q h = record {
  clash = h.clash;
  listed = keeps h.clash h.listed;
  state = h.state;
  token = h.token;
  first = h.first;
  second = h.second;
}

pub token_kept : {old new : List Clash} → KeepsClashes old new → (a : Automaton) (s t : ℕ) (table : BitTable) (entries : List Entry) → ListsToken a s table entries old t
    → ListsToken a s table entries new t
token_kept keeps a s t table entries h = record {
  shift = λ i to k over. shift_kept keeps s t i.production (h.shift i to k over);
  others = λ i j less k m. both_kept keeps s t i.production j.production (h.others i j less k m);
}

pub state_kept : {old new : List Clash} → KeepsClashes old new → (g : Grammar) (a : Automaton) (s : ℕ) → ListsState g a old s → ListsState g a new s
state_kept keeps g a s h = record {
  shift_reduce = λ t p to k over. shift_kept keeps s t p (h.shift_reduce t p to k over);
  reduce_reduce = λ t p q less k m. both_kept keeps s t p q (h.reduce_reduce t p q less k m);
}

-- there are none behind the last state
pub state_past : (g : Grammar) (a : Automaton) (list : List Clash) (s : ℕ) → (s < length a.states.items → ⊥) → ListsState g a list s
state_past g a list s past = record {
  shift_reduce = λ t p to h over. absurd (past (within g a s h));
  reduce_reduce = λ t p q less h m. absurd (past (within g a s h));
}

-- one clash more, with all productions that are found
pub token_pushed : (a : Automaton) (s t : ℕ) (table : BitTable) (entries : List Entry) (list : List Clash) (c : Clash) → c.state ≡ s → c.token ≡ t
    → c.shifts ≡ is_some (target_of a s (Terminal t)) → ((i : Item) → IsListed table entries i t → Contains c.reductions.items i.production)
    → ListsToken a s table entries (list ++ c ∷ []) t
token_pushed a s t table entries list c state token is covers = record {
  shift = λ i to h over. record {
    clash = c;
    listed = Contains-push list c;
    state = state;
    token = token;
    shifts = is ∙ ap is_some over;
    reduction = covers i h;
  };
  others = λ i j less h k. record {
    clash = c;
    listed = Contains-push list c;
    state = state;
    token = token;
    first = covers i h;
    second = covers j k;
  };
}

-- of one number there are no two
single : (xs : List ℕ) (p q : ℕ) → length xs < 2 → p < q → Contains xs p → Contains xs q → ⊥
single [] p q few less h k = omega (arith, h.1)
single (x ∷ xs) p q few less h k =
    let first : h.0 ≡ 0 = omega (arith, h.1) in
    let second : k.0 ≡ 0 = omega (arith, k.1) in
    let at_p : x ≡ p = rw first at h.2 in
    let at_q : x ≡ q = rw second at k.2 in
    omega arith

-- none more: no production, or one and no shift
pub token_none : (a : Automaton) (s t : ℕ) (table : BitTable) (entries : List Entry) (list : List Clash) (found : List ℕ) → length found < 1
    → ((i : Item) → IsListed table entries i t → Contains found i.production) → ListsToken a s table entries list t
token_none a s t table entries list found few covers = record {
  shift = λ i to h over. absurd (omega (arith, (covers i h).1));
  others = λ i j less h k. absurd (omega (arith, (covers i h).1));
}

pub token_single : (a : Automaton) (s t : ℕ) (table : BitTable) (entries : List Entry) (list : List Clash) (found : List ℕ) → length found < 2
    → is_some (target_of a s (Terminal t)) ≡ false
    → ((i : Item) → IsListed table entries i t → Contains found i.production) → ListsToken a s table entries list t
token_single a s t table entries list found few off covers = record {
  shift = λ i to h over. let bad : false ≡ true = sym off ∙ ap is_some over in cc;
  others = λ i j less h k. absurd (single found i.production j.production few less (covers i h) (covers j k));
}

pub state_of : (g : Grammar) (a : Automaton) (s : ℕ) (table : BitTable) (entries : List Entry) (list : List Clash)
    → ((p t : ℕ) → InState g a s (complete g p) t → IsListed table entries (complete g p) t)
    → ((t : ℕ) → t < table.columns → ListsToken a s table entries list t) → ListsState g a list s
state_of g a s table entries list covers tokens = record {
  shift_reduce = λ t p to h over. let k = covers p t h in (tokens t k.has.within).shift (complete g p) to k over;
  reduce_reduce = λ t p q less h m.
      let k = covers p t h in
      (tokens t k.has.within).others (complete g p) (complete g q) less k (covers q t m);
}
