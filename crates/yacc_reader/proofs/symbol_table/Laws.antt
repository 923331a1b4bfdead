-- A name placed and an id numbered keep what is held; the turns of the loop.
use Prim.Native.Nat.{ℕ, zero, suc, ◌+◌, ◌-◌, ◌≤◌, ◌<◌}
use native.Mathlib.Omega.{arith}
use native.Mathlib.Numerals.{add-one}
use mathlib.Core.Bool.{Bool, true, false, ◌||◌, or-false}
use mathlib.Core.Path.{◌≡◌, refl, sym, ap, ◌∙◌, subst}
use mathlib.Core.List.{List, [], ◌∷◌, ◌++◌, map}
use mathlib.Core.Option.{Option, none, some}
use mathlib.Core.Logic.{◌⊎◌, inl, inr}
use lib.ListN.{length, get_or, set}
use lib.Seq.{slice, get_or-set_same, get_or-set_other}
use lib.Dec.{eqb, ltb}
use borrow.Author.Tests.{eqb-true, eqb-false, ltb-true, ltb-false, lt-ltb, le-ltb}
use Rattle.lr1_base.specs.words.Same.{same_words}
use Rattle.lr1_base.specs.repr.Lists.{joined}
use Rattle.lr1_base.proofs.repr.Lists.{cases, clash}
use Rattle.lr1_base.specs.hash_index.Chains.{newest, Linked, chained}
use Rattle.yacc_syntax.specs.text.Grammar.{Id, named, quoted, Token, ident, Layout, text_limit, byte_limit}
use Rattle.yacc_syntax.specs.text.Places.{Placed as Spot, placed, placed_from}
use Rattle.yacc_syntax.specs.text.Parse.{parse}
use Rattle.yacc_syntax.specs.text.Forward.{Mode, top, wanted, listed, starting, ruled, sided, bodied, done, dead, sides, move, last, accepts}
use Rattle.yacc_syntax.specs.lexer.Steps.{token_at, Leads}
use Rattle.yacc_syntax.specs.declared.lexer.Word.{Word}
use Rattle.yacc_syntax.specs.declared.lexer.Word.TheVariants.{Name, Literal, Token as TheToken, Start, Mark, Colon, Bar, Semi}
use Rattle.yacc_syntax.specs.recognizer.Accepted.{judged}
use Rattle.yacc_syntax.proofs.recognizer.Laws.{turn}
use Rattle.yacc_reader.specs.parsed_file.Events.{Event, events}
use Rattle.yacc_reader.specs.parsed_file.Source.{same_id, Known, is_known, enter, entered, left_side, token_use, literal_use, source_of}
use Rattle.yacc_reader.specs.parsed_file.Outcome.{source_in}
use Rattle.yacc_reader.proofs.parsed_file.Known.{same_id_lem, same_id_eq, known_none, enter_is}
use Rattle.yacc_reader.specs.events.Said.{id_said, end_said, said_in, id_at, events_of, of_said}
use Rattle.yacc_reader.specs.declared.events.Saying.{Saying}
use Rattle.yacc_reader.specs.declared.events.Saying.TheVariants.{Lists, Opens, Defines, Uses, Shuts, Nothing}
use Rattle.yacc_reader.proofs.events.Laws.{said_turn, said_ends, said-whole}
use Rattle.yacc_reader.proofs.events.Ids.{id_bytes}
use Rattle.yacc_reader.specs.declared.names.Placed.{Placed}
use Rattle.yacc_reader.specs.names.Names.{bucket_limit, bucket_number, name_in, is_name, latest, Entered, Left, left, placed_by, placing}
use Rattle.yacc_reader.proofs.names.Laws.{bucket_small, entered-more, latest_low, latest-zero}
use Rattle.yacc_reader.specs.numbers.Numbers.{place_in, numbered, numbered_to}
use Rattle.yacc_reader.proofs.numbers.Laws.{kept-words, kept_count, more-words, more_count, numbers_more, numbers-grown}
use Rattle.yacc_reader.specs.declared.symbol_table.Ids.{Ids}
use Rattle.yacc_reader.specs.symbol_table.Ids.{name_id, token_id, Register, Held, Named, Fresh, Open, Within, Grows, Moves, name_at, Undefining, NoQuote}

-- `byte`
past_end : (t : List ℕ) (i : ℕ) → length t ≤ i → get_or t i 0 ≡ 0
past_end [] zero h = refl
past_end [] (suc i) h = refl
past_end (x ∷ xs) zero h = absurd (omega (arith, h))
past_end (x ∷ xs) (suc i) h = past_end xs i (omega (arith, h))

-- ids
not_same : (x y : Id) → (x ≡ y → ⊥) → same_id x y ≡ false
not_same x y n = cases (same_id x y) (λ e. absurd (n (same_id_eq x y e))) (λ e. e)

quoted_one : (b c : ℕ) → quoted b ≡ quoted c → b ≡ c
quoted_one b c e = ap (λ (x : Id). elim x [ named n ns ↦ 0 | quoted q ↦ q ]) e

pub quoted_no_name : (t : List ℕ) (b from past : ℕ) → quoted b ≡ id_at t Name from past → ⊥
unfolding id_at
quoted_no_name t b from past e = clash (elim (quoted b) [ named n ns ↦ false | quoted q ↦ true ]) refl (ap (λ (x : Id). elim x [ named n ns ↦ false | quoted q ↦ true ]) e)

module _ (t : List ℕ) (from past start end : ℕ) (h : from < past) (l : past ≤ length t) (m : start < end) (n : end ≤ length t) where
  name_same : same_words (slice from past t) (slice start end t) ≡ true → id_at t Name start end ≡ id_at t Name from past
  name_same e = sym (same_id_eq (id_at t Name from past) (id_at t Name start end) (id_bytes t from past start end h l m n ∙ e))

  name_other : same_words (slice from past t) (slice start end t) ≡ false → id_at t Name start end ≡ id_at t Name from past → ⊥
  name_other f e = clash (same_id (id_at t Name from past) (id_at t Name start end)) (ap (same_id (id_at t Name from past)) e ∙ same_id_lem (id_at t Name from past)) (id_bytes t from past start end h l m n ∙ f)

pub token_literal : (t starts pasts : List ℕ) (i : ℕ) → i < byte_limit → token_id t starts pasts i ≡ quoted i
unfolding token_id
token_literal t starts pasts i h = rw (lt-ltb i byte_limit h, token_id)

pub token_name : (t starts pasts : List ℕ) (i : ℕ) → byte_limit ≤ i → token_id t starts pasts i ≡ name_id t starts pasts (i - byte_limit)
unfolding token_id
token_name t starts pasts i h = rw (le-ltb i byte_limit h, token_id)

-- words that are not numbered
numbered-other : (xs : List ℕ) (j n i : ℕ) → (i ≡ j → ⊥) → get_or (numbered xs j n) i 0 ≡ get_or xs i 0
numbered-other xs j n i d =
    cases (eqb (get_or xs j 0) 0)
    (λ e. ap (λ (l : List ℕ). get_or l i 0) (sym (more-words xs j n (eqb-true (get_or xs j 0) 0 e))) ∙ get_or-set_other xs j i (n + 1) 0 d)
    (λ e. ap (λ (l : List ℕ). get_or l i 0) (sym (kept-words xs j n (eqb-false (get_or xs j 0) 0 e))))

pub numbered_most : (xs : List ℕ) (j n m : ℕ) → m ≡ numbered_to xs j n → m ≤ n + 1
numbered_most xs j n m q =
    cases (eqb (get_or xs j 0) 0)
    (λ e. let p = more_count xs j n (eqb-true (get_or xs j 0) 0 e) in omega (arith, q, p))
    (λ e. let p = kept_count xs j n (eqb-false (get_or xs j 0) 0 e) in omega (arith, q, p))

-- registers: one id more, and one numbered
module _ (ids : ℕ → Id) (room : ℕ) (xs : List ℕ) (ks : List Known) (n : ℕ) (R : Register ids room xs ks n) where
  register_grown : (ids' : ℕ → Id) → ((j : ℕ) → j < room → ids' j ≡ ids j) → room < length xs → ((j : ℕ) → j < room → ids j ≡ ids' room → ⊥) → Register ids' (suc room) xs ks n
  register_grown ids' s h d = record {
    numbers = numbers-grown ids ids' room xs ks n R.numbers s h (R.rest room (omega arith)) (R.whole (ids' room) (λ i l e. d i l (sym e)));
    apart = λ i j hi hj e.
        cases (eqb i room)
        (λ a. cases (eqb j room)
        (λ b. eqb-true i room a ∙ sym (eqb-true j room b))
        (λ b. let jb : j < room = omega (arith, hj, eqb-false j room b) in
        absurd (d j jb (sym (s j jb) ∙ sym e ∙ ap ids' (eqb-true i room a)))))
        (λ a. let ia : i < room = omega (arith, hi, eqb-false i room a) in
        cases (eqb j room)
        (λ b. absurd (d i ia (sym (s i ia) ∙ e ∙ ap ids' (eqb-true j room b))))
        (λ b. let jb : j < room = omega (arith, hj, eqb-false j room b) in R.apart i j ia jb (sym (s i ia) ∙ e ∙ s j jb)));
    whole = λ x f. R.whole x (λ i h e. f i (omega (arith, h)) (e ∙ sym (s i h)));
    rest = λ i h. R.rest i (omega (arith, h));
  }

  register_more : (j : ℕ) → j < room → (k : Known) → k.id ≡ ids j → (xs' : List ℕ) (n' : ℕ) → xs' ≡ numbered xs j n → n' ≡ numbered_to xs j n → Register ids room xs' (enter ks k) n'
  register_more j h k e xs' n' q p = rw (q, p) (record {
    numbers = numbers_more ids room xs ks n j R.numbers h k e (λ i m ne. not_same (ids i) (ids j) (λ s. ne (R.apart i j m h s)));
    apart = R.apart;
    whole = λ x f. enter_is ks k x ∙ ap (λ (b : Bool). is_known ks x || b) (not_same x k.id (λ s. f j h (s ∙ e))) ∙ or-false (is_known ks x) ∙ R.whole x f;
    rest = λ i m. numbered-other xs j n i (λ s. omega (arith, h, m, s)) ∙ R.rest i m;
  })

-- `place`: its number is of a name
unfoldable Low : ℕ → Left → Type 0
Low k (left starts pasts ix r) = (r.number < r.names) × (r.names ≤ k + 1)

low_by : (t starts pasts ix : List ℕ) (k from past n : ℕ) → latest (is_name t starts pasts (slice from past t)) k ≡ n → Low k (placed_by n t starts pasts ix k from past)
unfolding Low placed_by
low_by t starts pasts ix k from past zero e = (omega arith, omega arith)
low_by t starts pasts ix k from past (suc j) e = let l = latest_low (is_name t starts pasts (slice from past t)) k j e in (l.0, omega arith)

pub placing_low : (t starts pasts ix : List ℕ) (k from past : ℕ) (starts' pasts' ix' : List ℕ) (r : Placed) → left starts' pasts' ix' r ≡ placing t starts pasts ix k from past → (r.number < r.names) × (r.names ≤ k + 1)
unfolding Low placing
placing_low t starts pasts ix k from past starts' pasts' ix' r e = subst (Low k) (sym e) (low_by t starts pasts ix k from past (latest (is_name t starts pasts (slice from past t)) k) refl)

-- what is held after it: the name has that number
record Reached (t lefts tokens : List ℕ) (n m : ℕ) (ns ts : List Known) (from past : ℕ) (starts pasts ix : List ℕ) (r : Placed) : Type 0 where
  held : Held t starts pasts ix lefts tokens (record { names = r.names; nonterminals = n; terminals = m }) ns ts
  is : name_id t starts pasts r.number ≡ id_at t Name from past

unfoldable ReachedBy : List ℕ → List ℕ → List ℕ → ℕ → ℕ → List Known → List Known → ℕ → ℕ → Left → Type 0
ReachedBy t lefts tokens n m ns ts from past (left starts pasts ix r) = Reached t lefts tokens n m ns ts from past starts pasts ix r

-- a name that is looked for: none of those held, or one
module _ (t starts pasts ix lefts tokens : List ℕ) (ids : Ids) (ns ts : List Known) (H : Held t starts pasts ix lefts tokens ids ns ts) (from past : ℕ) (wide : from < past) (fit : past ≤ length t) where
  pub name_found : (j : ℕ) → latest (is_name t starts pasts (slice from past t)) ids.names ≡ suc j → (j < ids.names) × (name_id t starts pasts j ≡ id_at t Name from past)
  unfolding name_id is_name name_in
  name_found j e =
      let l = latest_low (is_name t starts pasts (slice from past t)) ids.names j e in
      (l.0, name_same t from past (get_or starts j 0) (get_or pasts j 0) wide fit (H.wide j l.0) (H.names.inside j l.0) l.1)

  module _ (z : latest (is_name t starts pasts (slice from past t)) ids.names ≡ 0) where
    pub name_apart : (j : ℕ) → j < ids.names → name_id t starts pasts j ≡ id_at t Name from past → ⊥
    unfolding name_id is_name name_in
    name_apart j h = name_other t from past (get_or starts j 0) (get_or pasts j 0) wide fit (H.wide j h) (H.names.inside j h) (latest-zero (is_name t starts pasts (slice from past t)) ids.names j z h)

    pub token-apart : (i : ℕ) → i < byte_limit + ids.names → token_id t starts pasts i ≡ id_at t Name from past → ⊥
    token-apart i h e =
        cases (ltb i byte_limit)
        (λ a. quoted_no_name t i from past (sym (token_literal t starts pasts i (ltb-true i byte_limit a)) ∙ e))
        (λ a. let b = ltb-false i byte_limit a in name_apart (i - byte_limit) (omega (arith, h, b)) (sym (token_name t starts pasts i b) ∙ e))

module _ (t starts pasts ix lefts tokens : List ℕ) (k n m : ℕ) (ns ts : List Known) (H : Held t starts pasts ix lefts tokens (record { names = k; nonterminals = n; terminals = m }) ns ts) (hs : k < length starts) (hp : k < length pasts) (hx : bucket_limit + k < length ix) (hl : k < length lefts) (ht : byte_limit + k < length tokens) (from past : ℕ) (wide : from < past) (fit : past ≤ length t) where
  abbrev begun : List ℕ
  begun = set starts k from

  abbrev ended : List ℕ
  ended = set pasts k past

  new_name : name_id t begun ended k ≡ id_at t Name from past
  unfolding name_id
  new_name =
      ap (λ (i : ℕ). id_at t Name i (get_or (set pasts k past) k 0)) (get_or-set_same starts k from 0 hs)
      ∙ ap (λ (i : ℕ). id_at t Name from i) (get_or-set_same pasts k past 0 hp)

  old_name : (j : ℕ) → j < k → name_id t begun ended j ≡ name_id t starts pasts j
  unfolding name_id
  old_name j h =
      ap (λ (i : ℕ). id_at t Name i (get_or (set pasts k past) j 0)) (get_or-set_other starts k j from 0 (λ e. omega (arith, h, e)))
      ∙ ap (λ (i : ℕ). id_at t Name (get_or starts j 0) i) (get_or-set_other pasts k j past 0 (λ e. omega (arith, h, e)))

  new_token : token_id t begun ended (byte_limit + k) ≡ id_at t Name from past
  new_token =
      let e : byte_limit + k - byte_limit ≡ k = omega arith in
      token_name t begun ended (byte_limit + k) (omega arith) ∙ ap (name_id t begun ended) e ∙ new_name

  old_token : (i : ℕ) → i < byte_limit + k → token_id t begun ended i ≡ token_id t starts pasts i
  old_token i h =
      cases (ltb i byte_limit)
      (λ a. let b = ltb-true i byte_limit a in token_literal t begun ended i b ∙ sym (token_literal t starts pasts i b))
      (λ a. let b = ltb-false i byte_limit a in token_name t begun ended i b ∙ old_name (i - byte_limit) (omega (arith, h, b)) ∙ sym (token_name t starts pasts i b))

  module _ (z : latest (is_name t starts pasts (slice from past t)) k ≡ 0) where
    wide_more : (j : ℕ) → j < k + 1 → get_or begun j 0 < get_or ended j 0
    wide_more j h =
        cases (eqb j k)
        (λ y. let q = eqb-true j k y in rw (q, get_or-set_same starts k from 0 hs, get_or-set_same pasts k past 0 hp) wide)
        (λ y. let ne = eqb-false j k y in rw (get_or-set_other starts k j from 0 ne, get_or-set_other pasts k j past 0 ne) (H.wide j (omega (arith, h, ne))))

    reached_new : Reached t lefts tokens n m ns ts from past begun ended (chained ix bucket_limit (bucket_number (slice from past t)) k) (record { number = k; names = k + 1 })
    reached_new =
        let more : suc (byte_limit + k) ≡ byte_limit + (k + 1) = omega arith in
        record {
          held = record {
            names = rw (add-one k) (entered-more t starts pasts ix k from past (bucket_number (slice from past t)) H.names hs hp hx (bucket_small (slice from past t)) refl fit);
            wide = wide_more;
            nonterminals = rw (add-one k) (register_grown (name_id t starts pasts) k lefts ns n H.nonterminals (name_id t begun ended) old_name hl (λ j h e. name_apart t starts pasts ix lefts tokens (record { names = k; nonterminals = n; terminals = m }) ns ts H from past wide fit z j h (e ∙ new_name)));
            terminals = subst (λ (r : ℕ). Register (token_id t begun ended) r tokens ts m) more (register_grown (token_id t starts pasts) (byte_limit + k) tokens ts m H.terminals (token_id t begun ended) old_token ht (λ i h e. token-apart t starts pasts ix lefts tokens (record { names = k; nonterminals = n; terminals = m }) ns ts H from past wide fit z i h (e ∙ new_token)));
          };
          is = new_name;
        }

  reached_old : (j : ℕ) → latest (is_name t starts pasts (slice from past t)) k ≡ suc j → Reached t lefts tokens n m ns ts from past starts pasts ix (record { number = j; names = k })
  reached_old j e = record { held = H; is = (name_found t starts pasts ix lefts tokens (record { names = k; nonterminals = n; terminals = m }) ns ts H from past wide fit j e).1 }

  reached_by_lem : (i : ℕ) → latest (is_name t starts pasts (slice from past t)) k ≡ i → ReachedBy t lefts tokens n m ns ts from past (placed_by i t starts pasts ix k from past)
  unfolding ReachedBy placed_by
  reached_by_lem zero e = reached_new e
  reached_by_lem (suc j) e = reached_old j e

  reached : (starts' pasts' ix' : List ℕ) (r : Placed) → left starts' pasts' ix' r ≡ placing t starts pasts ix k from past → Reached t lefts tokens n m ns ts from past starts' pasts' ix' r
  unfolding ReachedBy placing
  reached starts' pasts' ix' r e = subst (ReachedBy t lefts tokens n m ns ts from past) (sym e) (reached_by_lem (latest (is_name t starts pasts (slice from past t)) k) refl)

-- `define`, `declare`, `quote`
module _ (t starts pasts ix starts' pasts' ix' : List ℕ) (ids : Ids) (r : Placed) (O : Open t starts pasts ix ids) (from past : ℕ) (W : Within t from past) (e : left starts' pasts' ix' r ≡ placing t starts pasts ix ids.names from past) where
  pub define_moves : (lefts lefts' : List ℕ) (n' : ℕ) → ids.names < length lefts → lefts' ≡ numbered lefts r.number ids.nonterminals → n' ≡ numbered_to lefts r.number ids.nonterminals
      → (tokens : List ℕ) → byte_limit + ids.names < length tokens → Moves t starts pasts ix lefts tokens ids starts' pasts' ix' lefts' tokens (record { names = r.names; nonterminals = n'; terminals = ids.terminals }) (name_at t from past ∷ []) []
  unfolding entered
  define_moves lefts lefts' n' hl q p tokens ht = record {
    on = λ ns ts H.
        let R = reached t starts pasts ix lefts tokens ids.names ids.nonterminals ids.terminals ns ts H O.begun O.ended O.linked hl ht from past W.wide W.inside starts' pasts' ix' r e in
        record {
          names = R.held.names;
          wide = R.held.wide;
          nonterminals = register_more (name_id t starts' pasts') r.names lefts ns ids.nonterminals R.held.nonterminals r.number (placing_low t starts pasts ix ids.names from past starts' pasts' ix' r e).0 (name_at t from past) (sym R.is) lefts' n' q p;
          terminals = R.held.terminals;
        };
  }

  pub declare_moves : (tokens tokens' : List ℕ) (m' : ℕ) → byte_limit + ids.names < length tokens → tokens' ≡ numbered tokens (byte_limit + r.number) ids.terminals → m' ≡ numbered_to tokens (byte_limit + r.number) ids.terminals
      → (lefts : List ℕ) → ids.names < length lefts → Moves t starts pasts ix lefts tokens ids starts' pasts' ix' lefts tokens' (record { names = r.names; nonterminals = ids.nonterminals; terminals = m' }) [] (name_at t from past ∷ [])
  unfolding entered
  declare_moves tokens tokens' m' ht q p lefts hl = record {
    on = λ ns ts H.
        let R = reached t starts pasts ix lefts tokens ids.names ids.nonterminals ids.terminals ns ts H O.begun O.ended O.linked hl ht from past W.wide W.inside starts' pasts' ix' r e in
        let l = (placing_low t starts pasts ix ids.names from past starts' pasts' ix' r e).0 in
        let s : byte_limit + r.number - byte_limit ≡ r.number = omega arith in
        record {
          names = R.held.names;
          wide = R.held.wide;
          nonterminals = R.held.nonterminals;
          terminals = register_more (token_id t starts' pasts') (byte_limit + r.names) tokens ts ids.terminals R.held.terminals (byte_limit + r.number) (omega (arith, l)) (name_at t from past) (sym (token_name t starts' pasts' (byte_limit + r.number) (omega arith) ∙ ap (name_id t starts' pasts') s ∙ R.is)) tokens' m' q p;
        };
  }

pub quote-moves : (t tokens tokens' : List ℕ) (ids : Ids) (b m' from : ℕ) → (b ≡ get_or t (from + 1) 0) × (b < byte_limit) → tokens' ≡ numbered tokens b ids.terminals → m' ≡ numbered_to tokens b ids.terminals
    → (starts pasts ix lefts : List ℕ) → Moves t starts pasts ix lefts tokens ids starts pasts ix lefts tokens' (record { names = ids.names; nonterminals = ids.nonterminals; terminals = m' }) [] (record { id = quoted (get_or t (from + 1) 0); at = from } ∷ [])
unfolding entered
quote-moves t tokens tokens' ids b m' from B q p starts pasts ix lefts = record {
  on = λ ns ts H.
      let s : b < byte_limit = B.1 in
      record {
        names = H.names;
        wide = H.wide;
        nonterminals = H.nonterminals;
        terminals = register_more (token_id t starts pasts) (byte_limit + ids.names) tokens ts ids.terminals H.terminals b (omega (arith, s)) (record { id = quoted (get_or t (from + 1) 0); at = from }) (sym (token_literal t starts pasts b s ∙ ap quoted B.0)) tokens' m' q p;
      };
}

pub grows_none : (ids : Ids) → Grows ids ids
grows_none ids = record { names = omega arith; nonterminals = omega arith; terminals = omega arith }

-- what is said
module _ (t starts pasts ix lefts tokens starts' pasts' ix' lefts' tokens' : List ℕ) (ids r : Ids) (x : Id) (from past : ℕ) (s : Saying) where
  abbrev Said : Saying → Type 0
  Said k = Moves t starts pasts ix lefts tokens ids starts' pasts' ix' lefts' tokens' r (joined left_side (events_of k x from past)) (joined token_use (events_of k x from past))

  pub moves-lists : s ≡ Lists → Moves t starts pasts ix lefts tokens ids starts' pasts' ix' lefts' tokens' r [] (record { id = x; at = from } ∷ []) → Said s
  unfolding joined left_side token_use events_of
  moves-lists e M = subst Said (sym e) M

  pub moves-defines : s ≡ Defines → Moves t starts pasts ix lefts tokens ids starts' pasts' ix' lefts' tokens' r (record { id = x; at = from } ∷ []) [] → Said s
  unfolding joined left_side token_use events_of
  moves-defines e M = subst Said (sym e) M

-- nothing is entered
module _ (t starts pasts ix lefts tokens : List ℕ) (ids : Ids) (from past : ℕ) where
  abbrev Still : List Known → List Known → Type 0
  Still os ps = Moves t starts pasts ix lefts tokens ids starts pasts ix lefts tokens ids os ps

  abbrev StillOf : Id → Saying → Type 0
  StillOf x s = Still (joined left_side (events_of s x from past)) (joined token_use (events_of s x from past))

  still : Still [] []
  unfolding entered
  still = record { on = λ ns ts H. H }

  -- a name that is no left side and of no list enters nothing, nor does a literal but of a list or a body
  pub still_name : (s : Saying) → (s ≡ Lists → ⊥) → (s ≡ Defines → ⊥) → StillOf (id_at t Name from past) s
  unfolding joined left_side token_use literal_use events_of id_at
  still_name Lists n d = absurd (n refl)
  still_name Opens n d = still
  still_name Defines n d = absurd (d refl)
  still_name Uses n d = still
  still_name Shuts n d = still
  still_name Nothing n d = still

  pub still_literal : (s : Saying) → (s ≡ Lists → ⊥) → (s ≡ Uses → ⊥) → (s ≡ Defines → ⊥) → StillOf (id_at t Literal from past) s
  unfolding joined left_side token_use events_of
  still_literal Lists n u d = absurd (n refl)
  still_literal Opens n u d = still
  still_literal Defines n u d = absurd (d refl)
  still_literal Uses n u d = absurd (u refl)
  still_literal Shuts n u d = still
  still_literal Nothing n u d = still

  still_end : (x : Id) (m : Mode) → StillOf x (end_said m)
  unfolding joined left_side token_use events_of end_said
  still_end x (top s) = still
  still_end x (wanted s) = still
  still_end x (listed s) = still
  still_end x starting = still
  still_end x ruled = still
  still_end x sided = still
  still_end x bodied = still
  still_end x done = still
  still_end x dead = still

  abbrev StillIn : Mode → Word → Type 0
  StillIn m w = StillOf (id_at t w from past) (said_in m w)

  pub still_word : (m : Mode) (w : Word) → (w ≡ Name → ⊥) → (w ≡ Literal → ⊥) → StillIn m w
  unfolding joined left_side token_use events_of said_in
  still_word m Name n l = absurd (n refl)
  still_word m Literal n l = absurd (l refl)
  still_word m TheToken n l = still
  still_word m Start n l = still
  still_word m Mark n l = still
  still_word m Colon n l = still
  still_word m Bar n l = still_end (id_at t Bar from past) m
  still_word m Semi n l = still_end (id_at t Semi from past) m

-- literals
module _ (t starts pasts ix lefts tokens starts' pasts' ix' lefts' tokens' : List ℕ) (ids r : Ids) (from past : ℕ) (s : Saying) (M : Moves t starts pasts ix lefts tokens ids starts' pasts' ix' lefts' tokens' r [] (record { id = quoted (get_or t (from + 1) 0); at = from } ∷ [])) where
  abbrev Quoted : Saying → Type 0
  Quoted k = Moves t starts pasts ix lefts tokens ids starts' pasts' ix' lefts' tokens' r (joined left_side (events_of k (id_at t Literal from past) from past)) (joined token_use (events_of k (id_at t Literal from past) from past))

  pub literal_lists : s ≡ Lists → Quoted s
  unfolding joined left_side token_use events_of id_at
  literal_lists e = subst Quoted (sym e) M

  pub literal_uses : s ≡ Uses → Quoted s
  unfolding joined left_side token_use literal_use events_of id_at
  literal_uses e = subst Quoted (sym e) M

  pub literal_said : (s ≡ Lists) ⊎ (s ≡ Uses) → Quoted s
  literal_said (inl e) = literal_lists e
  literal_said (inr e) = literal_uses e

-- by the word
module _ (t starts pasts ix lefts tokens starts' pasts' ix' lefts' tokens' : List ℕ) (ids r : Ids) (from past : ℕ) (w : Word) (s : Saying) where
  abbrev WordSaid : Word → Type 0
  WordSaid v = Moves t starts pasts ix lefts tokens ids starts' pasts' ix' lefts' tokens' r (joined left_side (events_of s (id_at t v from past) from past)) (joined token_use (events_of s (id_at t v from past) from past))

  pub word_is : (v : Word) → w ≡ v → WordSaid v → WordSaid w
  word_is v q M = subst WordSaid (sym q) M

pub word_undefining : (m : Mode) (w : Word) (s : Saying) → s ≡ said_in m w → w ≡ Literal → NoQuote m w → Undefining s
unfolding said_in
word_undefining m w s e q N d = N q (sym (ap (said_in m) q) ∙ sym e ∙ d)

-- a literal where a left side may stand ends in no text
quoted-dead : (m : Mode) (b : ℕ) → id_said m ≡ Defines → move m (ident (quoted b)) ≡ dead
unfolding id_said move sides
quoted-dead (top s) b d = absurd cc
quoted-dead (wanted s) b d = absurd cc
quoted-dead (listed s) b d = absurd cc
quoted-dead starting b d = absurd cc
quoted-dead ruled b d = refl
quoted-dead sided b d = absurd cc
quoted-dead bodied b d = absurd cc
quoted-dead done b d = refl
quoted-dead dead b d = absurd cc

pub dead-tokens : (ks : List Token) → accepts dead ks ≡ false
unfolding accepts move last
dead-tokens [] = refl
dead-tokens (k ∷ ks) = dead-tokens ks

dead-judged : (o : Option (List Spot)) → judged dead o ≡ false
unfolding judged
dead-judged none = refl
dead-judged (some ps) = dead-tokens (map (λ p. p.token) ps)

pub no_quote : (t : List ℕ) (at : ℕ) (m : Mode) → judged m (placed_from t at) ≡ true → (w : Word) (from past : ℕ) → Leads t at w from past → NoQuote m w
unfolding token_at
no_quote t at m j w from past L q d =
    let to : dead ≡ move m (token_at t w from past) = sym (ap (λ (v : Word). move m (token_at t v from past)) q ∙ quoted-dead m (get_or t (from + 1) 0) d) in
    clash (judged dead (placed_from t past)) (turn t at m true j w from past dead L to) (dead-judged (placed_from t past))

-- the loop's turns
pub record Both : Type 0 where
  pub nonterminals : List Known
  pub terminals : List Known

unfoldable pub behind : List Known → List Known → List Event → Both
behind ns ts es = record { nonterminals = entered ns (joined left_side es); terminals = entered ts (joined token_use es) }

abbrev pub no_both : Both
no_both = record { nonterminals = []; terminals = [] }

unfoldable pub both_in : List ℕ → Both
both_in t = of_said no_both (behind [] []) (top false) (placed_from t 0)

pub behind-said : (s : Saying) (ns ts : List Known) (x : Id) (from past : ℕ) (es : List Event) → behind (entered ns (joined left_side (events_of s x from past))) (entered ts (joined token_use (events_of s x from past))) es ≡ behind ns ts (events_of s x from past ++ es)
unfolding behind joined left_side token_use literal_use events_of entered
behind-said Lists ns ts x from past es = refl
behind-said Opens ns ts x from past es = refl
behind-said Defines ns ts x from past es = refl
behind-said Uses ns ts (named n m) from past es = refl
behind-said Uses ns ts (quoted b) from past es = refl
behind-said Shuts ns ts x from past es = refl
behind-said Nothing ns ts x from past es = refl

pub record Turn (t starts pasts ix lefts tokens : List ℕ) (ids : Ids) (mode : Mode) (at : ℕ) : Type 0 where
  pub ns : List Known
  pub ts : List Known
  pub held : Held t starts pasts ix lefts tokens ids ns ts
  pub names : ids.names ≤ at
  pub nonterminals : ids.nonterminals ≤ at
  pub terminals : ids.terminals ≤ at
  pub same : of_said no_both (behind ns ts) mode (placed_from t at) ≡ both_in t

pub zero_ids : (ids : Ids) → (ids.names ≡ 0) × ((ids.nonterminals ≡ 0) × (ids.terminals ≡ 0)) → ids ≡ record { names = 0; nonterminals = 0; terminals = 0 }
zero_ids ids z =
    ap (λ (n : ℕ). record { names = n; nonterminals = ids.nonterminals; terminals = ids.terminals }) z.0
    ∙ ap (λ (n : ℕ). record { names = 0; nonterminals = n; terminals = ids.terminals }) z.1.0
    ∙ ap (λ (n : ℕ). record { names = 0; nonterminals = 0; terminals = n }) z.1.1

module _ (t starts pasts ix lefts tokens : List ℕ) (F : Fresh t starts pasts ix lefts tokens) where
  no_names : Entered t starts pasts ix 0
  unfolding newest Linked
  no_names = let l = F.linked in record { begun = omega arith; ended = omega arith; long = omega (arith, l); inside = λ j h. absurd (omega (arith, h)); linked = λ b h. F.no_name b h }

  place_none : (x : Id) → place_in [] x ≡ 0
  unfolding place_in
  place_none x = rw (known_none x, place_in)

  no_ids : (ids : ℕ → Id) (room : ℕ) (xs : List ℕ) → room ≤ length xs → ((i : ℕ) → get_or xs i 0 ≡ 0) → ((i j : ℕ) → i < room → j < room → ids i ≡ ids j → i ≡ j) → Register ids room xs [] 0
  no_ids ids room xs h z a = record {
    numbers = record { count = refl; long = h; place = λ i m. z i ∙ sym (place_none (ids i)) };
    apart = a;
    whole = λ x f. known_none x;
    rest = λ i m. z i;
  }

  pub turn_first : Turn t starts pasts ix lefts tokens (record { names = 0; nonterminals = 0; terminals = 0 }) (top false) 0
  unfolding both_in
  turn_first =
      let l = F.terminals in
      record {
        ns = [];
        ts = [];
        held = record {
          names = no_names;
          wide = λ j h. absurd (omega (arith, h));
          nonterminals = no_ids (name_id t starts pasts) 0 lefts (omega arith) F.no_left (λ i j h. absurd (omega (arith, h)));
          terminals = no_ids (token_id t starts pasts) (byte_limit + 0) tokens (omega (arith, l)) F.no_token (λ i j h m e. quoted_one i j (sym (token_literal t starts pasts i (omega (arith, h))) ∙ e ∙ token_literal t starts pasts j (omega (arith, m))));
        };
        names = omega arith;
        nonterminals = omega arith;
        terminals = omega arith;
        same = refl;
      }

module _ (t starts pasts ix lefts tokens : List ℕ) (ids : Ids) (mode : Mode) (at : ℕ) (T : Turn t starts pasts ix lefts tokens ids mode at) where
  pub turn_within : (w : Word) (from past : ℕ) → length t ≤ text_limit → Leads t at w from past → Within t from past
  turn_within w from past h L = let i = L.inside in record { wide = L.wide; inside = L.inside; short = omega (arith, i, h) }

  module _ (starts₀ pasts₀ ix₀ lefts₀ tokens₀ : List ℕ) (F : Fresh t starts₀ pasts₀ ix₀ lefts₀ tokens₀) (w : Word) (from past : ℕ) (L : Leads t at w from past) where
    front : at < length t
    front = let o = L.order in let d = L.wide in let i = L.inside in omega (arith, o, d, i)

    pub turn_open : length starts ≡ length starts₀ → length pasts ≡ length pasts₀ → length ix ≡ length ix₀ → Open t starts pasts ix ids
    turn_open a b c =
        let p = front in
        let s = F.short in
        let f = F.begun in
        let g = F.ended in
        let h = F.linked in
        let k = T.names in
        let n = T.nonterminals in
        let m = T.terminals in
        record {
          entered = T.held.names;
          begun = omega (arith, a, f, k, p);
          ended = omega (arith, b, g, k, p);
          linked = omega (arith, c, h, k, p);
          names = omega (arith, s, k, p);
          nonterminals = omega (arith, s, n, p);
          terminals = omega (arith, s, m, p);
        }

    pub turn_lefts : length lefts ≡ length lefts₀ → ids.names < length lefts
    turn_lefts a = let p = front in let f = F.left_sides in let k = T.names in omega (arith, a, f, k, p)

    pub turn_tokens : length tokens ≡ length tokens₀ → byte_limit + ids.names < length tokens
    turn_tokens a = let p = front in let f = F.terminals in let k = T.names in omega (arith, a, f, k, p)

  pub turn_next : (starts' pasts' ix' lefts' tokens' : List ℕ) (r : Ids) (w : Word) (from past : ℕ) (n : Mode) → Leads t at w from past → Grows ids r
      → Moves t starts pasts ix lefts tokens ids starts' pasts' ix' lefts' tokens' r (joined left_side (events_of (said_in mode w) (id_at t w from past) from past)) (joined token_use (events_of (said_in mode w) (id_at t w from past) from past))
      → n ≡ move mode (token_at t w from past) → Turn t starts' pasts' ix' lefts' tokens' r n past
  turn_next starts' pasts' ix' lefts' tokens' r w from past n L G M e =
      let o = L.order in
      let d = L.wide in
      let a = T.names in
      let b = T.nonterminals in
      let c = T.terminals in
      let a' = G.names in
      let b' = G.nonterminals in
      let c' = G.terminals in
      let s = said_in mode w in
      let x = id_at t w from past in
      record {
        ns = entered T.ns (joined left_side (events_of s x from past));
        ts = entered T.ts (joined token_use (events_of s x from past));
        held = M.on T.ns T.ts T.held;
        names = omega (arith, o, d, a, a');
        nonterminals = omega (arith, o, d, b, b');
        terminals = omega (arith, o, d, c, c');
        same = said_turn no_both t at mode (behind T.ns T.ts) (both_in t) T.same (behind (entered T.ns (joined left_side (events_of s x from past))) (entered T.ts (joined token_use (events_of s x from past)))) w from past n L e (behind-said s T.ns T.ts x from past);
      }

  module _ (D : placed_from t at ≡ some []) (l : Layout) (p : parse t ≡ some l) where
    all : behind T.ns T.ts [] ≡ behind [] [] (events (top false) (placed 0 l.pieces))
    unfolding both_in
    all = said_ends no_both t at mode (behind T.ns T.ts) (both_in t) T.same D ∙ said-whole no_both (behind [] []) t l p

    last-left : T.ns ≡ (source_in l.pieces).nonterminals
    unfolding behind joined entered source_in source_of
    last-left = ap (λ (k : Both). k.nonterminals) all

    last-token : T.ts ≡ (source_in l.pieces).terminals
    unfolding behind joined entered source_in source_of
    last-token = ap (λ (k : Both). k.terminals) all

    last-held : Held t starts pasts ix lefts tokens ids (source_in l.pieces).nonterminals (source_in l.pieces).terminals
    last-held = rw (← last-left, ← last-token) T.held

  pub turn_last : placed_from t at ≡ some [] → Named t starts pasts ix lefts tokens ids
  turn_last D = record { held = λ l p. last-held D l p }
