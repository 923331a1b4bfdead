-- The symbols on a parser's stack, each with the actions and the symbols that it is read by.
use Rattle.std.proofs.Common.{◌≡◌, ℕ, suc, ◌+◌, ◌-◌, ◌<◌, ◌≤◌, List, [], ◌∷◌, ◌++◌, length, get_or, take, drop, refl, sym, ◌∙◌, ap, subst, append_assoc, append-nil, arith, length-append, All}
use Rattle.std.proofs.lemmas.List.{take-append-drop, take_at, take_more, get_or_at, get_or_past, length_push, replicate_more}
use Rattle.std.proofs.lemmas.List.Elements.{All-push}
use Rattle.std.specs.Prelude.{slice_get, Some, replicate}
use Rattle.grammar.specs.declared.symbol.Symbol.{Symbol}
use Rattle.grammar.specs.declared.symbol.Symbol.TheVariants.{Terminal, Nonterminal}
use Rattle.grammar.specs.declared.symbol.Production.{Production}
use Rattle.certificate.specs.declared.reading.Action.{Action}
use Rattle.certificate.specs.declared.reading.Action.TheVariants.{Shift, Reduce}
use Rattle.certificate.specs.declared.brackets.Bracket.{Bracket}
use Rattle.certificate.specs.Readings.{Reads, IsReading, shifts_of}
use Rattle.certificate.specs.Brackets.{actions_of, StandsOver}
use Rattle.certificate.proofs.Runs.{reads_append, reads_on, shifts-reads}

module _ (ps : List Production) where
  -- from the place r on the actions read the input as the stack's symbols, which start at these places
  abbrev pub Rows : ℕ → List Action → List Symbol → List ℕ → List Symbol → Type 0
  Rows r actions input [] [] = (actions ≡ []) × (input ≡ [])
  Rows r actions input [] (x ∷ stack) = ⊥
  Rows r actions input (s ∷ starts) [] = ⊥
  Rows r actions input (s ∷ starts) (x ∷ stack) =
      (own : List Action) × (rest : List Action) × (read : List Symbol) × (more : List Symbol) × (actions ≡ own ++ rest) × (input ≡ read ++ more) × (s ≡ r) × IsReading ps own read x
      × Rows (r + length read) rest more starts stack

  pub rows_run : (r : ℕ) (actions : List Action) (input : List Symbol) (starts : List ℕ) (stack : List Symbol) → Rows r actions input starts stack → Reads ps actions [] input stack
  rows_run r actions input [] [] h = rw h.0 (h.1, refl)
  rows_run r actions input [] (x ∷ stack) h = absurd h
  rows_run r actions input (s ∷ starts) [] h = absurd h
  rows_run r actions input (s ∷ starts) (x ∷ stack) (own, rest, read, more, joined, split, at, reads, h) =
      rw (joined, split) (reads_append ps own rest [] read (x ∷ []) more (x ∷ stack) reads (reads_on ps (x ∷ []) rest more stack (rows_run (r + length read) rest more starts stack h)))

  pub rows_append : (r : ℕ) (a : List Action) (i : List Symbol) (ss : List ℕ) (xs : List Symbol) (b : List Action) (j : List Symbol) (ts : List ℕ) (ys : List Symbol)
      → Rows r a i ss xs → Rows (r + length i) b j ts ys → Rows r (a ++ b) (i ++ j) (ss ++ ts) (xs ++ ys)
  rows_append r a i [] [] b j ts ys h k = rw h.0 (empty h.1 k)
    where
      empty : i ≡ [] → Rows (r + length i) b j ts ys → Rows r b (i ++ j) ts ys
      empty e g = let zero : r + length i ≡ r = let l = ap length e in omega arith in rw e (let P : ℕ → Type 0 = λ n. Rows n b j ts ys in subst P zero g)
  rows_append r a i [] (x ∷ xs) b j ts ys h k = absurd h
  rows_append r a i (s ∷ ss) [] b j ts ys h k = absurd h
  rows_append r a i (s ∷ ss) (x ∷ xs) b j ts ys (own, rest, read, more, joined, split, at, reads, h) k =
      let len : r + length i ≡ r + length read + length more = let l = ap length split in omega (arith, length-append read more) in
      let k' : Rows (r + length read + length more) b j ts ys = let P : ℕ → Type 0 = λ n. Rows n b j ts ys in subst P len k in (
        own,
        rest ++ b,
        read,
        more ++ j,
        ap (λ (l : List Action). l ++ b) joined ∙ append_assoc own rest b,
        ap (λ (l : List Symbol). l ++ j) split ∙ append_assoc read more j,
        at,
        reads,
        rows_append (r + length read) rest more ss xs b j ts ys h k',
      )

  pub rows_one : (r : ℕ) (own : List Action) (read : List Symbol) (x : Symbol) → IsReading ps own read x → Rows r own read (r ∷ []) (x ∷ [])
  rows_one r own read x h = (own, [], read, [], sym (append-nil own), sym (append-nil read), refl, h, (refl, refl))

  pub record RowsSplit (r : ℕ) (actions : List Action) (input : List Symbol) (starts : List ℕ) (below above : List Symbol) : Type 0 where
    pub a : List Action
    pub b : List Action
    pub i : List Symbol
    pub j : List Symbol
    pub ss : List ℕ
    pub ts : List ℕ
    pub actions_are : actions ≡ a ++ b
    pub input_is : input ≡ i ++ j
    pub starts_are : starts ≡ ss ++ ts
    pub lower : Rows r a i ss below
    pub upper : Rows (r + length i) b j ts above

  pub rows_split : (r : ℕ) (actions : List Action) (input : List Symbol) (starts : List ℕ) (below above : List Symbol) → Rows r actions input starts (below ++ above)
      → RowsSplit r actions input starts below above
  rows_split r actions input starts [] above h = record {
    a = [];
    b = actions;
    i = [];
    j = input;
    ss = [];
    ts = starts;
    actions_are = refl;
    input_is = refl;
    starts_are = refl;
    lower = (refl, refl);
    upper = let zero : r ≡ r + 0 = omega arith in let P : ℕ → Type 0 = λ n. Rows n actions input starts above in subst P zero h;
  }
  rows_split r actions input [] (x ∷ below) above h = absurd h
  rows_split r actions input (s ∷ starts) (x ∷ below) above (own, rest, read, more, joined, split, at, reads, h) =
      let k = rows_split (r + length read) rest more starts below above h in
      let len : r + length read + length k.i ≡ r + length (read ++ k.i) = omega (arith, length-append read k.i) in
      record {
        a = own ++ k.a;
        b = k.b;
        i = read ++ k.i;
        j = k.j;
        ss = s ∷ k.ss;
        ts = k.ts;
        actions_are = joined ∙ ap (λ (l : List Action). own ++ l) k.actions_are ∙ sym (append_assoc own k.a k.b);
        input_is = split ∙ ap (λ (l : List Symbol). read ++ l) k.input_is ∙ sym (append_assoc read k.i k.j);
        starts_are = ap (λ (l : List ℕ). s ∷ l) k.starts_are;
        lower = (own, k.a, read, k.i, refl, refl, at, reads, k.lower);
        upper = let P : ℕ → Type 0 = λ n. Rows n k.b k.j k.ts above in subst P len k.upper;
      }

  pub rows-length : (r : ℕ) (actions : List Action) (input : List Symbol) (starts : List ℕ) (stack : List Symbol) → Rows r actions input starts stack → length starts ≡ length stack
  rows-length r actions input [] [] h = refl
  rows-length r actions input [] (x ∷ stack) h = absurd h
  rows-length r actions input (s ∷ starts) [] h = absurd h
  rows-length r actions input (s ∷ starts) (x ∷ stack) (own, rest, read, more, joined, split, at, reads, h) = ap suc (rows-length (r + length read) rest more starts stack h)

  -- the first of the rows starts where they start
  pub rows_start : (r : ℕ) (actions : List Action) (input : List Symbol) (lower starts : List ℕ) (stack : List Symbol) → Rows r actions input starts stack
      → get_or (lower ++ starts) (length lower) (r + length input) ≡ r
  rows_start r actions input lower [] [] h =
      let none : length (lower ++ []) ≤ length lower = omega (arith, ap length (append-nil lower)) in
      let zero = ap length h.1 in
      get_or_past (lower ++ []) (length lower) (r + length input) none ∙ omega arith
  rows_start r actions input lower [] (x ∷ stack) h = absurd h
  rows_start r actions input lower (s ∷ starts) [] h = absurd h
  rows_start r actions input lower (s ∷ starts) (x ∷ stack) (own, rest, read, more, joined, split, at, reads, h) = get_or_at lower s starts (r + length input) (length lower) refl ∙ at

-- ---- how far a reading is shown

pub record Shows (ps : List Production) (actions : List Action) (form : List Symbol) (x : Symbol) (n : ℕ) (starts : List ℕ) (brackets : List Bracket) : Type 0 where
  pub input : List Symbol
  pub rest : List Symbol
  pub stack : List Symbol
  pub whole : form ≡ input ++ rest
  pub rows : Rows ps 0 (take n actions) input starts stack
  pub left : Reads ps (drop n actions) stack rest (x ∷ [])
  pub over : All (StandsOver ps actions form) brackets

module _ (ps : List Production) (actions : List Action) (form : List Symbol) (x : Symbol) where
  pub shows_start : IsReading ps actions form x → Shows ps actions form x 0 [] []
  shows_start h = record { input = []; rest = form; stack = []; whole = refl; rows = (refl, refl); left = h; over = λ k d l. absurd (omega arith) }

  pub shows_shift : (n read : ℕ) (starts : List ℕ) (brackets : List Bracket) → drop n actions ≡ Shift ∷ drop (n + 1) actions → take (n + 1) actions ≡ take n actions ++ Shift ∷ []
      → read ≡ shifts_of (take n actions) → Shows ps actions form x n starts brackets → Shows ps actions form x (n + 1) (starts ++ read ∷ []) brackets
  shows_shift n read starts brackets next upto counted s = go (rw next at s.left)
    where
      go : Reads ps (Shift ∷ drop (n + 1) actions) s.stack s.rest (x ∷ []) → Shows ps actions form x (n + 1) (starts ++ read ∷ []) brackets
      go (y, rest, at, h) =
          let run = rows_run ps 0 (take n actions) s.input starts s.stack s.rows in
          let shifted = shifts-reads ps (take n actions) [] s.input s.stack run in
          let count : read ≡ 0 + length s.input = omega (arith, counted, shifted) in
          record {
            input = s.input ++ y ∷ [];
            rest = rest;
            stack = s.stack ++ y ∷ [];
            whole = s.whole ∙ ap (λ (l : List Symbol). s.input ++ l) at ∙ sym (append_assoc s.input (y ∷ []) rest);
            rows = rw (upto, count) (rows_append ps 0 (take n actions) s.input starts s.stack (Shift ∷ []) (y ∷ []) ((0 + length s.input) ∷ []) (y ∷ []) s.rows
                (rows_one ps (0 + length s.input) (Shift ∷ []) (y ∷ []) y (y, [], refl, (refl, refl))));
            left = h;
            over = s.over;
          }

  pub shows_reduce : (n k below from read : ℕ) (starts : List ℕ) (brackets : List Bracket) → drop n actions ≡ Reduce k ∷ drop (n + 1) actions → take (n + 1) actions ≡ take n actions ++ Reduce k ∷ []
      → ((p : Production) → slice_get ps k ≡ Some p → below ≡ length starts - length p.right.items) → read ≡ shifts_of (take n actions) → from ≡ get_or starts below read
      → Shows ps actions form x n starts brackets
      → Shows ps actions form x (n + 1) (take below starts ++ from ∷ []) (brackets ++ record { production = k; from = from; to = read } ∷ [])
  shows_reduce n k below from read starts brackets next upto under counted starting s = go (rw next at s.left)
    where
      step : (p : Production) (lower : List Symbol) → slice_get ps k ≡ Some p → RowsSplit ps 0 (take n actions) s.input starts lower p.right.items
          → Reads ps (drop (n + 1) actions) (lower ++ Nonterminal p.left ∷ []) s.rest (x ∷ [])
          → Shows ps actions form x (n + 1) (take below starts ++ from ∷ []) (brackets ++ record { production = k; from = from; to = read } ∷ [])
      step p lower listed split h =
          let a = split.a in
          let b = split.b in
          let i = split.i in
          let j = split.j in
          let height = rows-length ps (0 + length i) b j split.ts p.right.items split.upper in
          let all : length starts ≡ length split.ss + length split.ts = ap length split.starts_are ∙ length-append split.ss split.ts in
          let down = under p listed in
          let at_below : below ≡ length split.ss = omega (arith, height, all, down) in
          let run = rows_run ps 0 (take n actions) s.input starts s.stack s.rows in
          let shifted = shifts-reads ps (take n actions) [] s.input s.stack run in
          let size = ap length split.input_is ∙ length-append i j in
          let count : read ≡ 0 + length i + length j = omega (arith, counted, shifted, size) in
          let first : get_or starts below read ≡ 0 + length i = rw (split.starts_are, at_below, count) (rows_start ps (0 + length i) b j split.ss split.ts p.right.items split.upper) in
          let begin : from ≡ 0 + length i = starting ∙ first in
          let kept : take below starts ≡ split.ss = rw (split.starts_are, at_below) (take_at split.ss split.ts (length split.ss) refl) in
          let own_run = rows_run ps (0 + length i) b j split.ts p.right.items split.upper in
          let reduction : Reads ps (Reduce k ∷ []) p.right.items [] (Nonterminal p.left ∷ []) = (p, [], listed, refl, (refl, refl)) in
          let reads : IsReading ps (b ++ Reduce k ∷ []) j (Nonterminal p.left) =
          rw append-nil at (reads_append ps b (Reduce k ∷ []) [] j p.right.items [] (Nonterminal p.left ∷ []) own_run reduction) in
          let rows = rows_append ps 0 a i split.ss lower (b ++ Reduce k ∷ []) j ((0 + length i) ∷ []) (Nonterminal p.left ∷ []) split.lower
          (rows_one ps (0 + length i) (b ++ Reduce k ∷ []) j (Nonterminal p.left) reads) in
          let acts : take (n + 1) actions ≡ a ++ (b ++ Reduce k ∷ []) = upto ∙ ap (λ (l : List Action). l ++ Reduce k ∷ []) split.actions_are ∙ append_assoc a b (Reduce k ∷ []) in
          let before_run = rows_run ps 0 a i split.ss lower split.lower in
          record {
            input = i ++ j;
            rest = s.rest;
            stack = lower ++ Nonterminal p.left ∷ [];
            whole = s.whole ∙ ap (λ (l : List Symbol). l ++ s.rest) split.input_is;
            rows = rw (acts, kept, begin) rows;
            left = h;
            over = All-push (StandsOver ps actions form) brackets (record { production = k; from = from; to = read }) s.over (record {
              front = i;
              under = j;
              back = s.rest;
              parts = s.whole ∙ ap (λ (l : List Symbol). l ++ s.rest) split.input_is;
              from = omega (arith, begin);
              to = length-append i j ∙ omega (arith, count);
              before = a;
              own = b;
              behind = drop (n + 1) actions;
              taken = sym (take-append-drop n actions) ∙ ap (λ (l : List Action). l ++ drop n actions) split.actions_are ∙ ap (λ (l : List Action). a ++ b ++ l) next;
              begin = shifts-reads ps a [] i lower before_run ∙ omega (arith, begin);
              production = p;
              listed = listed;
              reads = reads;
            });
          }

      go : Reads ps (Reduce k ∷ drop (n + 1) actions) s.stack s.rest (x ∷ [])
          → Shows ps actions form x (n + 1) (take below starts ++ from ∷ []) (brackets ++ record { production = k; from = from; to = read } ∷ [])
      go (p, lower, listed, at, h) =
          let here : Rows ps 0 (take n actions) s.input starts (lower ++ p.right.items) = let P : List Symbol → Type 0 = λ l. Rows ps 0 (take n actions) s.input starts l in subst P at s.rows in
          step p lower listed (rows_split ps 0 (take n actions) s.input starts lower p.right.items here) h

-- ---- what the brackets say of the actions so far

abbrev pub said : List Bracket → ℕ → List Action
said [] r = []
said (b ∷ bs) r = replicate (b.to - r) Shift ++ (Reduce b.production ∷ said bs b.to)

abbrev pub end_of : List Bracket → ℕ → ℕ
end_of [] r = r
end_of (b ∷ bs) r = end_of bs b.to

actions_of-said : (bs : List Bracket) (r count : ℕ) → actions_of bs r count ≡ said bs r ++ replicate (count - end_of bs r) Shift
actions_of-said [] r count = refl
actions_of-said (b ∷ bs) r count =
    ap (λ (l : List Action). replicate (b.to - r) Shift ++ (Reduce b.production ∷ l)) (actions_of-said bs b.to count)
    ∙ sym (append_assoc (replicate (b.to - r) Shift) (Reduce b.production ∷ said bs b.to) (replicate (count - end_of bs b.to) Shift))

said-push : (bs : List Bracket) (b : Bracket) (r : ℕ) → said (bs ++ b ∷ []) r ≡ said bs r ++ (replicate (b.to - end_of bs r) Shift ++ (Reduce b.production ∷ []))
said-push [] b r = refl
said-push (c ∷ bs) b r =
    ap (λ (l : List Action). replicate (c.to - r) Shift ++ (Reduce c.production ∷ l)) (said-push bs b c.to)
    ∙ sym (append_assoc (replicate (c.to - r) Shift) (Reduce c.production ∷ said bs c.to) (replicate (b.to - end_of bs c.to) Shift ++ (Reduce b.production ∷ [])))

end_of-push : (bs : List Bracket) (b : Bracket) (r : ℕ) → end_of (bs ++ b ∷ []) r ≡ b.to
end_of-push [] b r = refl
end_of-push (c ∷ bs) b r = end_of-push bs b c.to

pub record Told (actions : List Action) (read : ℕ) (bs : List Bracket) : Type 0 where
  pub ended : end_of bs 0 ≤ read
  pub told : actions ≡ said bs 0 ++ replicate (read - end_of bs 0) Shift

pub told_start : Told [] 0 []
told_start = record { ended = omega arith; told = refl }

pub told_shift : (actions : List Action) (read : ℕ) (bs : List Bracket) → Told actions read bs → Told (actions ++ Shift ∷ []) (read + 1) bs
told_shift actions read bs t =
    let more : read - end_of bs 0 + 1 ≡ read + 1 - end_of bs 0 = let e = t.ended in omega arith in
    record {
      ended = let e = t.ended in omega arith;
      told = ap (λ (l : List Action). l ++ Shift ∷ []) t.told ∙ append_assoc (said bs 0) (replicate (read - end_of bs 0) Shift) (Shift ∷ [])
          ∙ ap (λ (l : List Action). said bs 0 ++ l) (replicate_more (read - end_of bs 0) Shift ∙ ap (λ (n : ℕ). replicate n Shift) more);
    }

pub told_reduce : (actions : List Action) (k from read : ℕ) (bs : List Bracket) → Told actions read bs
    → Told (actions ++ Reduce k ∷ []) read (bs ++ record { production = k; from = from; to = read } ∷ [])
told_reduce actions k from read bs t =
    let b : Bracket = record { production = k; from = from; to = read } in
    let end : end_of (bs ++ b ∷ []) 0 ≡ read = end_of-push bs b 0 in
    let none : read - end_of (bs ++ b ∷ []) 0 ≡ 0 = omega (arith, end) in
    let one : actions ++ Reduce k ∷ [] ≡ said (bs ++ b ∷ []) 0 =
    ap (λ (l : List Action). l ++ Reduce k ∷ []) t.told ∙ append_assoc (said bs 0) (replicate (read - end_of bs 0) Shift) (Reduce k ∷ []) ∙ sym (said-push bs b 0) in
    record {
      ended = omega (arith, end);
      told = one ∙ sym (append-nil (said (bs ++ b ∷ []) 0)) ∙ ap (λ (n : ℕ). said (bs ++ b ∷ []) 0 ++ replicate n Shift) (sym none);
    }

pub told_all : (actions : List Action) (read : ℕ) (bs : List Bracket) → Told actions read bs → actions_of bs 0 read ≡ actions
told_all actions read bs t = actions_of-said bs 0 read ∙ sym t.told
