-- Classes in words, the words with one entry more, and entries copied (specs/class_words/Entries).
use mathlib.Core.Path.{◌≡◌, refl, sym, ap, ◌∙◌}
use mathlib.Core.List.{List, [], ◌∷◌, ◌++◌, map, map-append, append_assoc, append-nil}
use Prim.Native.Nat.{ℕ, zero, suc, ◌-◌, ◌+◌, ◌*◌, ◌≤◌, ◌<◌}
use native.Mathlib.Omega.{arith}
use lib.ListN.{length, get_or, take, drop, set, length-append}
use lib.Seq.{sets, sets-eq, length-take-le, take_at, drop_at, get_or-drop, drop-drop, ext_get_or}
use lib.ListN.{length-set, length-drop}
use borrow.Rule.Slice.PartMut.{put_mid, Post-is}
use Rattle.lr1_base.specs.repr.Sizes.{entry_room, entry_place, entries_room}
use Rattle.lr1_base.specs.repr.Lists.{up_from, below, joined}
use Rattle.lr1_base.proofs.repr.Lists.{below_last, length-map-below, get_d_map-below, joined_nil, joined_cons, joined_append}
use Rattle.lr1_base.proofs.repr.Fronts.{same_part, same_word}
use Rattle.conflict_sides.specs.declared.conflict.Class.{Class}
use Rattle.conflict_sides.specs.declared.conflict.Class.TheVariants.{Naive, Ambiguity, Precedence, SuggestInline, SuggestQuestion, AmbiguousReduction, InsufficientLookahead}
use Rattle.conflict_sides.specs.conflict.Numbers.{number_of_class, values_of_class}
use Rattle.conflict_sides.specs.conflict.Choose.{Entry}
use Rattle.conflicts.specs.class_words.Entries.{class_words, with_entry, count_of_values, entry_in, entries_in, entry_words}

-- a class's number, and its own values filled up with zeros
pub five_words : (class : Class) → number_of_class class ∷ get_or (values_of_class class) 0 0 ∷ get_or (values_of_class class) 1 0 ∷ get_or (values_of_class class) 2 0 ∷ get_or (values_of_class class) 3 0 ∷ [] ≡ class_words class
unfolding class_words number_of_class values_of_class
five_words Naive = refl
five_words Ambiguity = refl
five_words (Precedence n) = refl
five_words (SuggestInline n) = refl
five_words (SuggestQuestion n k x) = refl
five_words (AmbiguousReduction a b c d) = refl
five_words InsufficientLookahead = refl

-- a token, and five words behind it, are an entry's words
pub words_put : (ws part v : List ℕ) (token k : ℕ) → part ≡ v → length part ≡ length (take (entry_place k + 6 - (entry_place k + 1)) (drop (entry_place k + 1) (set ws (entry_place k) token))) → entry_place k + 6 ≤ length ws
    → put_mid (entry_place k + 1) (entry_place k + 6 - (entry_place k + 1)) (set ws (entry_place k) token) part ≡ sets ws (entry_place k) (token ∷ v)
words_put ws part v token k e l h =
    let ws' = set ws (entry_place k) token in
    let one : entry_place k + 1 ≡ suc (entry_place k) = omega arith in
    let long = length-set ws (entry_place k) token in
    let left = length-drop (entry_place k + 1) ws' in
    let few = length-take-le (entry_place k + 6 - (entry_place k + 1)) (drop (entry_place k + 1) ws') (omega arith) in
    let same = ap length e in
    let past : suc (entry_place k) + length v ≡ entry_place k + 6 = omega arith in
    let behind = Post-is (entry_place k + 1) (entry_place k + 6) ws' (omega arith) in
    let s = sets-eq v ws' (suc (entry_place k)) (omega arith) in
    rw (e, behind, one) (sym (s ∙ rw past (append_assoc (take (suc (entry_place k)) ws') v (drop (entry_place k + 6) ws'))))

pub entry_written : (ws ws' v : List ℕ) (count token : ℕ) (class : Class) → v ≡ class_words class → ws' ≡ sets ws (entry_place count) (token ∷ v) → ws' ≡ with_entry ws count token class
unfolding with_entry
entry_written ws ws' v count token class e w = w ∙ ap (λ (l : List ℕ). sets ws (entry_place count) (token ∷ l)) e

-- the entry read back

five_long : (class : Class) → length (class_words class) ≡ 5
unfolding class_words
five_long Naive = refl
five_long Ambiguity = refl
five_long (Precedence n) = refl
five_long (SuggestInline n) = refl
five_long (SuggestQuestion n k x) = refl
five_long (AmbiguousReduction a b c d) = refl
five_long InsufficientLookahead = refl

number_read : (class : Class) (rest : List ℕ) → get_or (class_words class ++ rest) 0 0 ≡ number_of_class class
unfolding class_words number_of_class
number_read Naive rest = refl
number_read Ambiguity rest = refl
number_read (Precedence n) rest = refl
number_read (SuggestInline n) rest = refl
number_read (SuggestQuestion n k x) rest = refl
number_read (AmbiguousReduction a b c d) rest = refl
number_read InsufficientLookahead rest = refl

values_read : (class : Class) (rest : List ℕ) → take (count_of_values (number_of_class class)) (drop 1 (class_words class ++ rest)) ≡ values_of_class class
unfolding class_words number_of_class values_of_class count_of_values
values_read Naive rest = refl
values_read Ambiguity rest = refl
values_read (Precedence n) rest = refl
values_read (SuggestInline n) rest = refl
values_read (SuggestQuestion n k x) rest = refl
values_read (AmbiguousReduction a b c d) rest = refl
values_read InsufficientLookahead rest = refl

-- a part of a beginning

pub few_values : (k : ℕ) → count_of_values k ≤ 4
unfolding count_of_values
few_values zero = omega arith
few_values (suc zero) = omega arith
few_values (suc (suc zero)) = omega arith
few_values (suc (suc (suc zero))) = omega arith
few_values (suc (suc (suc (suc zero)))) = omega arith
few_values (suc (suc (suc (suc (suc zero))))) = omega arith
few_values (suc (suc (suc (suc (suc (suc k)))))) = omega arith

abbrev pub no_entry : Entry
no_entry = record { token = 0; class = 0; values = [] }

abbrev pub entry_of : ℕ → Class → Entry
entry_of token class = record { token = token; class = number_of_class class; values = values_of_class class }

module _ (ws ws' : List ℕ) (k token : ℕ) (class : Class) (long : length ws ≡ entries_room) (room : k < 64) (e : ws' ≡ with_entry ws k token class) where
  abbrev rest : List ℕ
  rest = drop (entry_place k + length (token ∷ class_words class)) ws

  parts : ws' ≡ take (entry_place k) ws ++ ((token ∷ class_words class) ++ rest)
  unfolding with_entry
  parts =
      let a = five_long class in
      e ∙ sets-eq (token ∷ class_words class) ws (entry_place k) (omega arith) ∙ append_assoc (take (entry_place k) ws) (token ∷ class_words class) rest

  front_long : length (take (entry_place k) ws) ≡ entry_place k
  front_long = length-take-le (entry_place k) ws (omega arith)

  front : take (entry_place k) ws' ≡ take (entry_place k) ws
  front = ap (take (entry_place k)) parts ∙ take_at (take (entry_place k) ws) ((token ∷ class_words class) ++ rest) (entry_place k) front_long

  behind : drop (entry_place k) ws' ≡ token ∷ (class_words class ++ rest)
  behind = ap (drop (entry_place k)) parts ∙ drop_at (take (entry_place k) ws) ((token ∷ class_words class) ++ rest) (entry_place k) front_long

  word_at : (j : ℕ) → get_or ws' (entry_place k + j) 0 ≡ get_or (token ∷ (class_words class ++ rest)) j 0
  word_at j = sym (get_or-drop (entry_place k) ws' j 0) ∙ ap (λ (l : List ℕ). get_or l j 0) behind

  earlier : (i : ℕ) → i < k → entry_in ws' i ≡ entry_in ws i
  unfolding entry_in
  earlier i h =
      let a = same_word (entry_place k) (entry_place i) ws' ws front (omega arith) in
      let b = same_word (entry_place k) (entry_place i + 1) ws' ws front (omega arith) in
      let f = few_values (get_or ws (entry_place i + 1) 0) in
      let v : take (count_of_values (get_or ws' (entry_place i + 1) 0)) (drop (entry_place i + 2) ws') ≡ take (count_of_values (get_or ws (entry_place i + 1) 0)) (drop (entry_place i + 2) ws) =
      ap (λ (x : ℕ). take (count_of_values x) (drop (entry_place i + 2) ws')) b ∙ same_part (entry_place k) (entry_place i + 2) (count_of_values (get_or ws (entry_place i + 1) 0)) ws' ws front (omega arith) in
      λ j. record { token = a j; class = b j; values = v j }

  latest : entry_in ws' k ≡ entry_of token class
  unfolding entry_in
  latest =
      let z : entry_place k ≡ entry_place k + 0 = omega arith in
      let a : get_or ws' (entry_place k) 0 ≡ token = ap (λ (x : ℕ). get_or ws' x 0) z ∙ word_at 0 in
      let b : get_or ws' (entry_place k + 1) 0 ≡ number_of_class class = word_at 1 ∙ number_read class rest in
      let d : drop (entry_place k + 2) ws' ≡ drop 1 (class_words class ++ rest) = sym (drop-drop 2 (entry_place k) ws') ∙ ap (drop 2) behind in
      let v : take (count_of_values (get_or ws' (entry_place k + 1) 0)) (drop (entry_place k + 2) ws') ≡ values_of_class class =
      ap (λ (x : ℕ). take (count_of_values x) (drop (entry_place k + 2) ws')) b ∙ ap (take (count_of_values (number_of_class class))) d ∙ values_read class rest in
      λ j. record { token = a j; class = b j; values = v j }

  -- the entries with one more
  pub entries-more : entries_in ws' (suc k) ≡ entries_in ws k ++ entry_of token class ∷ []
  unfolding entries_in
  entries-more =
      ap (map (entry_in ws')) (below_last k) ∙ map-append (entry_in ws') (below k) (k ∷ [])
      ∙ (λ j. same j ++ latest j ∷ [])
    where
      same : map (entry_in ws') (below k) ≡ map (entry_in ws) (below k)
      same =
          ext_get_or no_entry (map (entry_in ws') (below k)) (map (entry_in ws) (below k))
          (length-map-below (entry_in ws') k ∙ sym (length-map-below (entry_in ws) k))
          (λ i h.
          let l : i < k = rw (length-map-below (entry_in ws') k) at h in
          get_d_map-below (entry_in ws') k i no_entry l ∙ earlier i l ∙ sym (get_d_map-below (entry_in ws) k i no_entry l))

-- an entry's words

drop_first : (i : ℕ) (ws : List ℕ) → i < length ws → drop i ws ≡ get_or ws i 0 ∷ drop (suc i) ws
drop_first i [] h = absurd (omega arith)
drop_first zero (w ∷ ws) h = refl
drop_first (suc i) (w ∷ ws) h = drop_first i ws (omega arith)

filled : (v : List ℕ) → length v ≤ 4 → v ++ drop (length v) (0 ∷ 0 ∷ 0 ∷ 0 ∷ []) ≡ get_or v 0 0 ∷ get_or v 1 0 ∷ get_or v 2 0 ∷ get_or v 3 0 ∷ []
filled [] h = refl
filled (a ∷ []) h = refl
filled (a ∷ b ∷ []) h = refl
filled (a ∷ b ∷ c ∷ []) h = refl
filled (a ∷ b ∷ c ∷ d ∷ []) h = refl
filled (a ∷ b ∷ c ∷ d ∷ e ∷ v) h = absurd (omega arith)

pub class_read : (ws part : List ℕ) (k n : ℕ) → entry_place k + 6 ≤ length ws → n ≡ count_of_values (get_or ws (entry_place k + 1) 0) → n ≤ 4
    → part ≡ take (entry_place k + 1 + (1 + n) - (entry_place k + 1)) (drop (entry_place k + 1) ws)
    → get_or ws (entry_place k) 0 ∷ (part ++ drop (1 + n) (0 ∷ 0 ∷ 0 ∷ 0 ∷ 0 ∷ [])) ≡ entry_words (entry_in ws k)
unfolding entry_words entry_in
class_read ws part k n room e few p =
    let own = take n (drop (entry_place k + 2) ws) in
    let one : entry_place k + 1 + (1 + n) - (entry_place k + 1) ≡ suc n = omega arith in
    let next : suc (entry_place k + 1) ≡ entry_place k + 2 = omega arith in
    let left = length-drop (entry_place k + 2) ws in
    let long : length own ≡ n = length-take-le n (drop (entry_place k + 2) ws) (omega arith) in
    let first : drop (entry_place k + 1) ws ≡ get_or ws (entry_place k + 1) 0 ∷ drop (entry_place k + 2) ws = drop_first (entry_place k + 1) ws (omega arith) ∙ ap (λ (i : ℕ). get_or ws (entry_place k + 1) 0 ∷ drop i ws) next in
    let part_is : part ≡ get_or ws (entry_place k + 1) 0 ∷ own = p ∙ ap (λ (i : ℕ). take i (drop (entry_place k + 1) ws)) one ∙ ap (take (suc n)) first in
    let fill : own ++ drop n (0 ∷ 0 ∷ 0 ∷ 0 ∷ []) ≡ get_or own 0 0 ∷ get_or own 1 0 ∷ get_or own 2 0 ∷ get_or own 3 0 ∷ [] = ap (λ (i : ℕ). own ++ drop i (0 ∷ 0 ∷ 0 ∷ 0 ∷ [])) (sym long) ∙ filled own (omega arith) in
    let values : own ≡ take (count_of_values (get_or ws (entry_place k + 1) 0)) (drop (entry_place k + 2) ws) = ap (λ (i : ℕ). take i (drop (entry_place k + 2) ws)) e in
    let up : 1 + n ≡ suc n = omega arith in
    let zeros : List ℕ = 0 ∷ 0 ∷ 0 ∷ 0 ∷ [] in
    let z : drop (1 + n) (0 ∷ zeros) ≡ drop n zeros = ap (λ (i : ℕ). drop i (0 ∷ zeros)) up in
    ap (λ (l : List ℕ). get_or ws (entry_place k) 0 ∷ (l ++ drop (1 + n) (0 ∷ 0 ∷ 0 ∷ 0 ∷ 0 ∷ []))) part_is
    ∙ ap (λ (l : List ℕ). get_or ws (entry_place k) 0 ∷ get_or ws (entry_place k + 1) 0 ∷ (own ++ l)) z
    ∙ ap (λ (l : List ℕ). get_or ws (entry_place k) 0 ∷ get_or ws (entry_place k + 1) 0 ∷ l) fill
    ∙ ap (λ (l : List ℕ). get_or ws (entry_place k) 0 ∷ get_or ws (entry_place k + 1) 0 ∷ get_or l 0 0 ∷ get_or l 1 0 ∷ get_or l 2 0 ∷ get_or l 3 0 ∷ []) values

-- so many entries' words

pub entries_long : (ws : List ℕ) (n : ℕ) → length (entries_in ws n) ≡ n
unfolding entries_in
entries_long ws n = length-map-below (entry_in ws) n

entries-last : (ws : List ℕ) (k : ℕ) → entries_in ws (suc k) ≡ entries_in ws k ++ entry_in ws k ∷ []
unfolding entries_in
entries-last ws k = ap (map (entry_in ws)) (below_last k) ∙ map-append (entry_in ws) (below k) (k ∷ [])

six_long : (e : Entry) → length (entry_words e) ≡ 6
unfolding entry_words
six_long e = refl

joined_long : (es : List Entry) → length (joined entry_words es) ≡ entry_room * length es
joined_long [] = ap length (joined_nil entry_words)
joined_long (e ∷ es) =
    let l = joined_long es in
    let s = six_long e in
    let a = length-append (entry_words e) (joined entry_words es) in
    let j = ap length (joined_cons entry_words e es) in
    omega arith

pub copied_first : (ws old : List ℕ) → old ≡ joined entry_words (entries_in ws 0) ++ drop (entry_room * 0) old
unfolding entries_in below up_from joined
copied_first ws old = refl

module _ (ws old to : List ℕ) (k : ℕ) (room : entry_room * k + 6 ≤ length old) (long : length to ≡ length old) (e : to ≡ joined entry_words (entries_in ws k) ++ drop (entry_room * k) old) where
  so_far : length (joined entry_words (entries_in ws k)) ≡ entry_place k
  so_far = let j = joined_long (entries_in ws k) in let l = entries_long ws k in omega arith

  one_more : joined entry_words (entries_in ws (k + 1)) ≡ joined entry_words (entries_in ws k) ++ entry_words (entry_in ws k)
  one_more =
      let z : k + 1 ≡ suc k = omega arith in
      ap (λ (i : ℕ). joined entry_words (entries_in ws i)) z ∙ ap (joined entry_words) (entries-last ws k)
      ∙ joined_append entry_words (entries_in ws k) (entry_in ws k ∷ [])
      ∙ ap (λ (l : List ℕ). joined entry_words (entries_in ws k) ++ l) (joined_cons entry_words (entry_in ws k) [] ∙ ap (λ (l : List ℕ). entry_words (entry_in ws k) ++ l) (joined_nil entry_words) ∙ append-nil (entry_words (entry_in ws k)))

  pub copied_more : (to' x : List ℕ) → x ≡ entry_words (entry_in ws k) → to' ≡ sets to (entry_place k) x → to' ≡ joined entry_words (entries_in ws (k + 1)) ++ drop (entry_room * (k + 1)) old
  copied_more to' x ex w =
      let l : length x ≡ 6 = ap length ex ∙ six_long (entry_in ws k) in
      let p : take (entry_place k) to ≡ joined entry_words (entries_in ws k) = ap (take (entry_place k)) e ∙ take_at (joined entry_words (entries_in ws k)) (drop (entry_room * k) old) (entry_place k) so_far in
      let d : drop (entry_place k) to ≡ drop (entry_room * k) old = ap (drop (entry_place k)) e ∙ drop_at (joined entry_words (entries_in ws k)) (drop (entry_room * k) old) (entry_place k) so_far in
      let n : entry_room * k + length x ≡ entry_room * (k + 1) = omega arith in
      let q : drop (entry_place k + length x) to ≡ drop (entry_room * (k + 1)) old =
      sym (drop-drop (length x) (entry_place k) to) ∙ ap (drop (length x)) d ∙ drop-drop (length x) (entry_room * k) old ∙ ap (λ (i : ℕ). drop i old) n in
      let f : joined entry_words (entries_in ws k) ++ x ≡ joined entry_words (entries_in ws (k + 1)) = ap (λ (y : List ℕ). joined entry_words (entries_in ws k) ++ y) ex ∙ sym one_more in
      w ∙ sets-eq x to (entry_place k) (omega arith) ∙ (λ j. p j ++ x ++ q j) ∙ ap (λ (y : List ℕ). y ++ drop (entry_room * (k + 1)) old) f
