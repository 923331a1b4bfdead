-- What the filter asks label by label (`asked_parts` of specs/example/Example): joined it is what the example expects next; one law for each way through `first0`.
use Rattle.std.proofs.Common.{◌≡◌, ℕ, zero, suc, ◌+◌, ◌<◌, ◌≤◌, true, false, List, [], ◌∷◌, ◌++◌, map, length, get_or, drop, sym, refl, ap, ◌∙◌, append_assoc, arith, drop_of_length-le, drop-cons}
use Rattle.lr1_base.specs.repr.Lists.{joined}
use Rattle.lr1_base.specs.repr.Meaning.{Symbol, Production}
use Rattle.lr1_base.specs.repr.Listed.{listed}
use Rattle.lr1_base.specs.lookahead.Tokens.{union}
use Rattle.lr1_base.specs.declared.lookahead.TokenSet.{TokenSet}
use Rattle.lr1_base.proofs.lookahead.Sets.{union-zero-left}
use Rattle.first.specs.declared.Answer.{Answer}
use Rattle.first.specs.First.{followed, join_answers, first0}
use Rattle.first.proofs.Answers.{same_answer, join-stop, join_answers_assoc, join-empty_right, first0-nil, first0-append}
use Rattle.enumerator.specs.example.Example.{Label, sets_of, suffixes, cursor_of, ahead, asked_parts, asked_in, asked_of}
use Rattle.enumerator.specs.example.Labels.{labels_in}
use Rattle.enumerator.specs.example.Written.{no_label, label_at, Part}
use Rattle.enumerator.proofs.example.Parts.{part_listed}

-- the list of symbols that parts make
abbrev pub whole : List (List Symbol) → List Symbol
whole = joined (λ (xs : List Symbol). xs)

module _ (ps : List Production) where
  abbrev after : Label → List Symbol
  after m = (sets_of ps m).suffix

  others_joined : (ls : List Label) → whole (map after ls) ≡ suffixes ps ls
  unfolding joined suffixes
  others_joined [] = refl
  others_joined (l ∷ ls) = ap (λ (xs : List Symbol). (sets_of ps l).suffix ++ xs) (others_joined ls)

  pub parts_joined : (ls : List Label) → whole (asked_parts ps ls) ≡ ahead ps ls
  unfolding joined asked_parts ahead cursor_of suffixes
  parts_joined [] = refl
  parts_joined (l ∷ ls) =
      append_assoc (cursor_of ps (l ∷ ls)) (sets_of ps l).suffix (whole (map after ls))
      ∙ ap (λ (xs : List Symbol). cursor_of ps (l ∷ ls) ++ ((sets_of ps l).suffix ++ xs)) (others_joined ls)

  others_length : (ls : List Label) → length (map after ls) ≡ length ls
  others_length [] = refl
  others_length (l ∷ ls) = ap suc (others_length ls)

  pub parts-length : (ls : List Label) → length (asked_parts ps ls) ≡ length ls
  unfolding asked_parts
  parts-length [] = refl
  parts-length (l ∷ ls) = ap suc (others_length ls)

  other_at : (ls : List Label) (j : ℕ) → j < length ls → get_or (map after ls) j [] ≡ after (get_or ls j no_label)
  other_at [] j h = absurd (omega arith)
  other_at (l ∷ ls) zero h = refl
  other_at (l ∷ ls) (suc j) h = other_at ls j (omega arith)

  part_first : (ls : List Label) → 0 < length ls → get_or (asked_parts ps ls) 0 [] ≡ cursor_of ps ls ++ after (get_or ls 0 no_label)
  unfolding asked_parts
  part_first [] h = absurd (omega arith)
  part_first (l ∷ ls) h = refl

  part_other : (ls : List Label) (j : ℕ) → 0 < j → j < length ls → get_or (asked_parts ps ls) j [] ≡ after (get_or ls j no_label)
  unfolding asked_parts
  part_other [] j z h = absurd (omega arith)
  part_other (l ∷ ls) zero z h = absurd (omega arith)
  part_other (l ∷ ls) (suc j) z h = other_at ls j (omega arith)

-- `label_first0`

module _ (e : ℕ) (sets : List ℕ) (ps : List Production) (ws : List ℕ) (j : ℕ) (h : j < length (labels_in ws)) where
  abbrev own : List Symbol
  own = (sets_of ps (label_at ws j)).suffix

  part_first0 : (part : List ℕ) (xs : List Symbol) → Part part xs → (a : Answer) → a ≡ first0 e sets (listed part) → a ≡ first0 e sets xs
  part_first0 part xs P a ea = ea ∙ ap (first0 e sets) (part_listed part xs P)

  pub label_other : 0 < j → (part : List ℕ) → Part part own → (a : Answer) → a ≡ first0 e sets (listed part)
      → a ≡ first0 e sets (get_or (asked_parts ps (labels_in ws)) j [])
  unfolding label_at
  label_other z part S a ea = part_first0 part own S a ea ∙ ap (first0 e sets) (sym (part_other ps (labels_in ws) j z h))

  module _ (z : j ≤ 0) (cursor : List ℕ) (C : Part cursor (cursor_of ps (labels_in ws))) (b : Answer) (eb : b ≡ first0 e sets (listed cursor)) where
    both : join_answers b (first0 e sets own) ≡ first0 e sets (get_or (asked_parts ps (labels_in ws)) j [])
    unfolding label_at
    both =
        let q : j ≡ 0 = omega arith in
        ap (λ (x : Answer). join_answers x (first0 e sets own)) (part_first0 cursor (cursor_of ps (labels_in ws)) C b eb)
        ∙ sym (first0-append e sets (cursor_of ps (labels_in ws)) own)
        ∙ ap (first0 e sets) (rw q (sym (part_first ps (labels_in ws) (omega arith))))

    pub label_cursor : b.nullable ≡ false → b ≡ first0 e sets (get_or (asked_parts ps (labels_in ws)) j [])
    label_cursor n = sym (join-stop b (first0 e sets own) n) ∙ both

    pub label_first : (part : List ℕ) → Part part own → (a r : Answer) → a ≡ first0 e sets (listed part) → r ≡ join_answers b a
        → r ≡ first0 e sets (get_or (asked_parts ps (labels_in ws)) j [])
    label_first part S a r ea er = er ∙ ap (join_answers b) (part_first0 part own S a ea) ∙ both

-- `first0`: what k labels gave, and what the others give

module _ (e : ℕ) (sets : List ℕ) (parts : List (List Symbol)) where
  asked_on : (xs : List Symbol) (rest : List (List Symbol)) → (first0 e sets xs).nullable ≡ true → asked_in e sets (xs ∷ rest) ≡ suc (asked_in e sets rest)
  unfolding asked_in
  asked_on xs rest y = rw (y, asked_in)

  asked-last : (xs : List Symbol) (rest : List (List Symbol)) → (first0 e sets xs).nullable ≡ false → asked_in e sets (xs ∷ rest) ≡ 1
  unfolding asked_in
  asked-last xs rest n = rw (n, asked_in)

  module _ (k : ℕ) (h : k < length parts) (r a u : Answer) (ea : a ≡ first0 e sets (get_or parts k [])) (eu : u ≡ join_answers r a) where
    step : drop k parts ≡ get_or parts k [] ∷ drop (k + 1) parts
    step = let q : suc k ≡ k + 1 = omega arith in drop-cons parts k [] h ∙ ap (λ (i : ℕ). get_or parts k [] ∷ drop i parts) q

    pub asked-more : join_answers u (first0 e sets (whole (drop (k + 1) parts))) ≡ join_answers r (first0 e sets (whole (drop k parts)))
    unfolding joined
    asked-more =
        let rest = first0 e sets (whole (drop (k + 1) parts)) in
        ap (λ (x : Answer). join_answers x rest) eu
        ∙ join_answers_assoc r a rest
        ∙ ap (join_answers r)
        (ap (λ (x : Answer). join_answers x rest) ea
        ∙ sym (first0-append e sets (get_or parts k []) (whole (drop (k + 1) parts)))
        ∙ ap (λ (l : List (List Symbol)). first0 e sets (whole l)) (sym step))

    -- k labels were nullable, so u is nullable exactly if the next is
    same : r.nullable ≡ true → u.nullable ≡ (first0 e sets (get_or parts k [])).nullable
    unfolding join_answers
    same y = ap (λ (x : Answer). x.nullable) eu ∙ rw y (ap (λ (x : Answer). x.nullable) ea)

    pub number_more : r.nullable ≡ true → u.nullable ≡ true → k + 1 + asked_in e sets (drop (k + 1) parts) ≡ k + asked_in e sets (drop k parts)
    number_more y z =
        let q = ap (asked_in e sets) step ∙ asked_on (get_or parts k []) (drop (k + 1) parts) (sym (same y) ∙ z) in
        omega (arith, q)

    pub number-stop : r.nullable ≡ true → u.nullable ≡ false → k + 1 ≡ k + asked_in e sets (drop k parts)
    number-stop y z =
        let q = ap (asked_in e sets) step ∙ asked-last (get_or parts k []) (drop (k + 1) parts) (sym (same y) ∙ z) in
        omega (arith, q)

  module _ (k : ℕ) (h : length parts ≤ k) where
    pub asked_end : (r : Answer) → r ≡ join_answers r (first0 e sets (whole (drop k parts)))
    unfolding joined
    asked_end r = sym (rw (drop_of_length-le parts {i = k} h, first0-nil e sets) (join-empty_right r))

    pub number_end : asked_in e sets (drop k parts) ≡ 0
    unfolding asked_in
    number_end = rw (drop_of_length-le parts {i = k} h)

-- of the labels, none asked so far

module _ (e : ℕ) (sets : List ℕ) (ps : List Production) (ls : List Label) where
  pub asked-start : (t : TokenSet) → t.0 ≡ 0 → join_answers (record { tokens = t; nullable = true }) (first0 e sets (whole (asked_parts ps ls))) ≡ first0 e sets (ahead ps ls)
  unfolding join_answers followed
  asked-start t z =
      let a = first0 e sets (whole (asked_parts ps ls)) in
      same_answer (join_answers (record { tokens = t; nullable = true }) a) a (ap (λ (s : ℕ). union s a.tokens.0) z ∙ union-zero-left a.tokens.0) refl
      ∙ ap (first0 e sets) (parts_joined ps ls)

  pub number-start : 0 + asked_in e sets (asked_parts ps ls) ≡ asked_of e sets ps ls
  unfolding asked_of
  number-start = omega arith
