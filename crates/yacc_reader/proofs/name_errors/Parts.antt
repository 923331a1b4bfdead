-- The parts of 21, each by itself: an id of a body that is nowhere is found from all that is said, a left side that is a token by the words of the names, a START id on no left side by the START ids.
use Prim.Native.Nat.{ℕ, ◌+◌, ◌-◌, ◌<◌}
use native.Mathlib.Omega.{arith}
use mathlib.Core.Bool.{Bool, true, false, ◌&&◌, ◌||◌, not, or-false, or_assoc}
use mathlib.Core.Path.{◌≡◌, refl, sym, ap, ◌∙◌}
use mathlib.Core.List.{List, [], ◌∷◌, ◌++◌, map, map-append}
use mathlib.Core.Option.{some}
use lib.ListN.{get_or}
use lib.Dec.{eqb}
use Rattle.lr1_base.specs.repr.Lists.{some?, below}
use Rattle.lr1_base.proofs.repr.Lists.{cases, clash}
use Rattle.lr1_base.proofs.repr.Tests.{some?-nil, some?-cons, some?-append, some?-below, some?-below_witness}
use Rattle.yacc_syntax.specs.text.Grammar.{Id, Layout, byte_limit}
use Rattle.yacc_syntax.specs.text.Parse.{parse}
use Rattle.yacc_syntax.specs.text.Places.{placed, placed_from}
use Rattle.yacc_syntax.specs.text.Forward.{top}
use Rattle.yacc_reader.specs.parsed_file.Events.{Event, lists, opens, defines, uses, shuts, events}
use Rattle.yacc_reader.specs.parsed_file.Source.{Known, is_known, no_id, Use, Alternative, alternative, alternatives_from, Source, source_of}
use Rattle.yacc_reader.specs.parsed_file.Outcome.{nowhere, undefined_use, named_both_ways, undefined_start, misnamed, source_in}
use Rattle.yacc_reader.specs.events.Said.{of_said}
use Rattle.yacc_reader.specs.declared.events.Saying.TheVariants.{Uses, Shuts}
use Rattle.yacc_reader.proofs.events.Laws.{said-whole}
use Rattle.yacc_reader.specs.numbers.Numbers.{place_in}
use Rattle.yacc_reader.specs.declared.symbol_table.Ids.{Ids}
use Rattle.yacc_reader.specs.symbol_table.Ids.{name_id, token_id, Held}
use Rattle.yacc_reader.proofs.symbol_table.Laws.{token_name}
use Rattle.yacc_reader.specs.name_errors.Parts.{Verdict, judged, verdict_of, lost_of, twice, twice_of, misnamed_by}
use Rattle.yacc_reader.proofs.name_errors.Laws.{known_both, none_both, placed_known}
use Rattle.lr1_base.proofs.laws.Bools.{and-true}

-- the ids of alternatives
ids_more : (t : Id → Bool) (us : List Use) (u : Use) → some? t (map (λ v. v.id) (us ++ (u ∷ []))) ≡ (some? t (map (λ v. v.id) us) || t u.id)
ids_more t us u =
    ap (some? t) (map-append (λ (v : Use). v.id) us (u ∷ []))
    ∙ some?-append t (map (λ v. v.id) us) (u.id ∷ [])
    ∙ ap (λ (b : Bool). some? t (map (λ v. v.id) us) || b) (some?-cons t u.id [] ∙ ap (λ (b : Bool). t u.id || b) (some?-nil t) ∙ or-false (t u.id))

use_is : (b o w : Bool) → judged (record { bad = b; body = o }) Uses w ≡ record { bad = b; body = o || w }
unfolding judged
use_is b true true = refl
use_is b false true = refl
use_is b true false = refl
use_is b false false = refl

shut_is : (b o : Bool) → judged (record { bad = b; body = o }) Shuts false ≡ record { bad = b || o; body = false }
unfolding judged
shut_is true true = refl
shut_is false true = refl
shut_is true false = refl
shut_is false false = refl

verdict_from : (t : Id → Bool) (es : List Event) (b o : Bool) (l : Id) (us : List Use) → o ≡ some? t (map (λ v. v.id) us) → verdict_of t (record { bad = b; body = o }) es ≡ (b || some? (λ a. some? t a.ids) (alternatives_from l us es))
unfolding verdict_of judged alternatives_from alternative
verdict_from t [] b o l us e = sym (ap (λ (c : Bool). b || c) (some?-nil (λ (a : Alternative). some? t a.ids)) ∙ or-false b)
verdict_from t (lists x at ∷ es) b o l us e = verdict_from t es b o l us e
verdict_from t (opens x ∷ es) b o l us e = verdict_from t es b o l us e
verdict_from t (defines x at ∷ es) b o l us e = verdict_from t es b false x [] (sym (some?-nil t))
verdict_from t (uses x from past ∷ es) b o l us e =
    let u : Use = record { id = x; from = from; past = past } in
    ap (λ (v : Verdict). verdict_of t v es) (use_is b o (t x))
    ∙ verdict_from t es b (o || t x) l (us ++ (u ∷ [])) (ap (λ (c : Bool). c || t x) e ∙ sym (ids_more t us u))
verdict_from t (shuts at ∷ es) b o l us e =
    ap (λ (v : Verdict). verdict_of t v es) (shut_is b o)
    ∙ verdict_from t es (b || o) false l [] (sym (some?-nil t))
    ∙ or_assoc b o (some? (λ a. some? t a.ids) (alternatives_from l [] es))
    ∙ ap (λ (c : Bool). b || (c || some? (λ a. some? t a.ids) (alternatives_from l [] es))) e
    ∙ ap (λ (c : Bool). b || c) (sym (some?-cons (λ a. some? t a.ids) (alternative l us at) (alternatives_from l [] es)))

pub verdict_undefined : (es : List Event) → verdict_of (nowhere (source_of es)) (record { bad = false; body = false }) es ≡ undefined_use (source_of es)
unfolding undefined_use source_of
verdict_undefined es = verdict_from (nowhere (source_of es)) es false false no_id [] (sym (some?-nil (nowhere (source_of es))))

module _ (t starts pasts ix lefts tokens : List ℕ) (ids : Ids) (ns ts : List Known) (H : Held t starts pasts ix lefts tokens ids ns ts) where
  word-both : (j : ℕ) → j < ids.names → twice lefts tokens j ≡ (is_known ns (name_id t starts pasts j) && is_known ts (name_id t starts pasts j))
  unfolding twice
  word-both j h =
      let x = name_id t starts pasts j in
      let s : byte_limit + j - byte_limit ≡ j = omega arith in
      let q : token_id t starts pasts (byte_limit + j) ≡ x = token_name t starts pasts (byte_limit + j) (omega arith) ∙ ap (name_id t starts pasts) s in
      ap (λ (b : Bool). b && not (eqb (get_or tokens (byte_limit + j) 0) 0)) (sym (placed_known ns x (get_or lefts j 0) (H.nonterminals.numbers.place j h)))
      ∙ ap (λ (b : Bool). is_known ns x && b) (sym (placed_known ts x (get_or tokens (byte_limit + j) 0) (H.terminals.numbers.place (byte_limit + j) (omega (arith, h)) ∙ ap (place_in ts) q)))

  both_yes : twice_of lefts tokens ids.names ≡ true → some? (λ k. is_known ts k.id) ns ≡ true
  unfolding twice_of
  both_yes y =
      let w = some?-below_witness (twice lefts tokens) ids.names y in
      let x = name_id t starts pasts w.0 in
      let b = and-true (is_known ns x) (is_known ts x) (sym (word-both w.0 w.1) ∙ w.2) in
      known_both ts ns x b.0 b.1

  both_no : twice_of lefts tokens ids.names ≡ false → some? (λ k. is_known ts k.id) ns ≡ false
  unfolding twice_of
  both_no n = none_both ts ns (λ x h.
      cases (is_known ts x)
      (λ y. clash (is_known ns x) h (H.nonterminals.whole x (λ i l e.
      clash (some? (twice lefts tokens) (below ids.names))
      (some?-below (twice lefts tokens) ids.names i l (word-both i l ∙ ap (λ (z : Id). is_known ns z && is_known ts z) (sym e) ∙ ap (λ (b : Bool). b && is_known ts x) h ∙ y))
      n)))
      (λ e. e))

pub both_ways : (t starts pasts ix lefts tokens : List ℕ) (ids : Ids) (S : Source) → Held t starts pasts ix lefts tokens ids S.nonterminals S.terminals → twice_of lefts tokens ids.names ≡ named_both_ways S
unfolding named_both_ways
both_ways t starts pasts ix lefts tokens ids S H =
    cases (twice_of lefts tokens ids.names)
    (λ y. y ∙ sym (both_yes t starts pasts ix lefts tokens ids S.nonterminals S.terminals H y))
    (λ n. n ∙ sym (both_no t starts pasts ix lefts tokens ids S.nonterminals S.terminals H n))

-- START ids
pub lost-first : (t : List ℕ) (l : Layout) → parse t ≡ some l → of_said true (lost_of (source_in l.pieces).nonterminals) (top false) (placed_from t 0) ≡ undefined_start (source_in l.pieces)
unfolding source_in source_of lost_of undefined_start
lost-first t l e = said-whole true (lost_of (source_in l.pieces).nonterminals) t l e

module _ (S : Source) where
  pub misnamed_use : true ≡ undefined_use S → true ≡ misnamed S
  unfolding misnamed
  misnamed_use e = ap (λ (b : Bool). b || (named_both_ways S || undefined_start S)) e

  pub misnamed-both : false ≡ undefined_use S → true ≡ named_both_ways S → true ≡ misnamed S
  unfolding misnamed
  misnamed-both f e = ap (λ (b : Bool). b || undefined_start S) e ∙ ap (λ (b : Bool). b || (named_both_ways S || undefined_start S)) f

  pub misnamed-start : (r : Bool) → false ≡ undefined_use S → false ≡ named_both_ways S → r ≡ undefined_start S → r ≡ misnamed S
  unfolding misnamed
  misnamed-start r f g e = e ∙ ap (λ (b : Bool). b || undefined_start S) g ∙ ap (λ (b : Bool). b || (named_both_ways S || undefined_start S)) f

  -- 21 by its three parts
  misnamed-parts : (u b s : Bool) → u ≡ undefined_use S → b ≡ named_both_ways S → s ≡ undefined_start S → misnamed S ≡ (u || (b || s))
  misnamed-parts true b s f g e = sym (misnamed_use f)
  misnamed-parts false true s f g e = sym (misnamed-both f g)
  misnamed-parts false false s f g e = sym (misnamed-start s f g e)

-- `is_misnamed`
pub uses-first : (t : List ℕ) (l : Layout) → parse t ≡ some l → of_said false (verdict_of (nowhere (source_in l.pieces)) (record { bad = false; body = false })) (top false) (placed_from t 0) ≡ undefined_use (source_in l.pieces)
unfolding source_in
uses-first t l e = said-whole false (verdict_of (nowhere (source_in l.pieces)) (record { bad = false; body = false })) t l e ∙ verdict_undefined (events (top false) (placed 0 l.pieces))

pub parts_told : (t starts pasts ix lefts tokens : List ℕ) (ids : Ids) (l : Layout) → parse t ≡ some l → Held t starts pasts ix lefts tokens ids (source_in l.pieces).nonterminals (source_in l.pieces).terminals → misnamed (source_in l.pieces) ≡ misnamed_by (source_in l.pieces) t lefts tokens ids.names
unfolding misnamed_by
parts_told t starts pasts ix lefts tokens ids l e H = misnamed-parts (source_in l.pieces) _ _ _ (uses-first t l e) (both_ways t starts pasts ix lefts tokens ids (source_in l.pieces) H) (lost-first t l e)
