-- What is shown of forms holds of inputs: each symbol gives way to a sentence, and the whole stands in one.
use Rattle.std.proofs.Common.{◌≡◌, ◌≢◌, ℕ, suc, ◌+◌, List, [], ◌∷◌, ◌++◌, length, refl, sym, ◌∙◌, ap, append_assoc, append-nil, arith, map, length-append}
use Rattle.std.proofs.lemmas.List.{map-append, length-map}
use Rattle.std.proofs.lemmas.List.Elements.{recursion_from_All}
use Rattle.std.specs.Prelude.{slice_get, Some}
use Rattle.grammar.specs.declared.symbol.Symbol.{Symbol}
use Rattle.grammar.specs.declared.symbol.Symbol.TheVariants.{Terminal, Nonterminal}
use Rattle.grammar.specs.declared.symbol.Production.{Production}
use Rattle.certificate.specs.declared.reading.Action.{Action}
use Rattle.certificate.specs.declared.reading.Action.TheVariants.{Shift, Reduce}
use Rattle.certificate.specs.declared.judging.Fork.{Fork}
use Rattle.certificate.specs.declared.judging.Certificate.{Certificate}
use Rattle.certificate.specs.Readings.{Reads, IsReading, Parses, shifts_of}
use Rattle.certificate.specs.Sentences.{DerivesSentence, IsInReach}
use Rattle.certificate.specs.Shown.{PartAt, ArePartedParses, HasTwoParses, HasTwoInputs, IsShown, form_of}
use Rattle.certificate.proofs.Runs.{reads_append, reads_on, reads_from, shifts-reads, cut, around}
use Rattle.certificate.proofs.Parts.{derives_reading}
use Rattle.certificate.proofs.Fills.{filled, Fills, filled_reads, fills_append, fill_all, fills_from, filled-append}

-- ---- a nonterminal among terminals

pub record Context (ps : List Production) (n : ℕ) (front back : List ℕ) : Type 0 where
  pub start : Production
  pub first : slice_get ps 0 ≡ Some start
  pub before : List Action
  pub behind : List Action
  pub middle : List Symbol
  pub opens : Reads ps before [] (map Terminal front) middle
  pub ends : Reads ps behind (middle ++ Nonterminal n ∷ []) (map Terminal back) (Nonterminal start.left ∷ [])

context_of : (ps : List Production) (n : ℕ) (r : IsInReach ps n) → Context ps n r.front r.back
context_of ps n r =
    let whole = derives_reading ps (Nonterminal r.start.left) (map Terminal r.front ++ (Nonterminal n ∷ map Terminal r.back)) r.derived in
    let a = around ps whole.0 [] (map Terminal r.front) (Nonterminal n) (map Terminal r.back) (Nonterminal r.start.left ∷ []) whole.1 in
    record { start = r.start; first = r.first; before = a.before; behind = a.behind; middle = a.middle; opens = a.first; ends = a.second }

-- ---- what is read before the token

same_front : (a b c d : List Symbol) → a ++ b ≡ c ++ d → length a ≡ length c → a ≡ c
same_front [] b [] d e n = refl
same_front [] b (y ∷ c) d e n = absurd (omega arith)
same_front (x ∷ a) b [] d e n = absurd (omega arith)
same_front (x ∷ a) b (y ∷ c) d e n =
    let both : x ∷ (a ++ b) ≡ y ∷ (c ++ d) = e in
    let one : x ≡ y = cc in
    let rest : a ++ b ≡ c ++ d = cc in
    let more : a ≡ c = same_front a b c d rest (omega arith) in
    cc

front_run : (ps : List Production) (before behind : List Action) (front back e : List Symbol) → shifts_of before ≡ length front → Reads ps (before ++ behind) [] (front ++ back) e
    → (m : List Symbol) × Reads ps before [] front m
front_run ps before behind front back e point h =
    let c = cut ps before behind [] (front ++ back) e h in
    let n = shifts-reads ps before [] c.front c.middle c.first in
    let same : c.front ≡ front = same_front c.front c.back front back (sym c.input) (sym n ∙ point) in
    (c.middle, rw same at c.first)

-- the action at the token stays as it is
head_filled : (x : Action) (rest : List Action) (fs : List (List Action)) → (r : List Action) × (filled (x ∷ rest) ((Shift ∷ []) ∷ fs) ≡ x ∷ r)
head_filled Shift rest fs = (filled rest fs, refl)
head_filled (Reduce k) rest fs = (filled rest ((Shift ∷ []) ∷ fs), refl)

-- ---- one of the two readings, over an input

module _ (ps : List Production) (root t : ℕ) (wf wb : List ℕ) (around_it : Context ps root wf wb) (front : List Symbol) (ff : List (List Action)) (tokens : List ℕ)
    (fills : Fills ps front ff tokens) (before : List Action) (point : shifts_of before ≡ length front) where
  joined_tokens : (w : List ℕ) → map Terminal wf ++ (map Terminal (tokens ++ (t ∷ w)) ++ map Terminal wb) ≡ map Terminal (wf ++ tokens ++ (t ∷ (w ++ wb)))
  joined_tokens w = simp (map-append, append_assoc)

  joined_actions : (a b c d : List Action) (x : Action) → a ++ ((b ++ (x ∷ c)) ++ d) ≡ a ++ b ++ (x ∷ (c ++ d))
  joined_actions a b c d x = simp append_assoc

  pub side : (tail : List Symbol) (fs : List (List Action)) (w : List ℕ) (x : Action) (rest : List Action) → Fills ps tail fs w
      → IsReading ps (before ++ (x ∷ rest)) (form_of front t tail) (Nonterminal root)
      → (r : List Action) × Parses ps (around_it.before ++ filled before ff ++ (x ∷ r)) (wf ++ tokens ++ (t ∷ (w ++ wb)))
  side tail fs w x rest more h =
      let head = front_run ps before (x ∷ rest) front (Terminal t ∷ tail) (Nonterminal root ∷ []) point h in
      let own : Fills ps (Terminal t ∷ tail) ((Shift ∷ []) ∷ fs) (t ∷ w) = (Shift ∷ [], fs, t ∷ [], w, refl, refl, (refl, refl), more) in
      let all = fills_append ps front (Terminal t ∷ tail) ff ((Shift ∷ []) ∷ fs) tokens (t ∷ w) fills own in
      let run = filled_reads ps (before ++ (x ∷ rest)) [] (form_of front t tail) (Nonterminal root ∷ []) (ff ++ ((Shift ∷ []) ∷ fs)) (tokens ++ (t ∷ w)) h all in
      let last = head_filled x rest fs in
      let parts : filled (before ++ (x ∷ rest)) (ff ++ ((Shift ∷ []) ∷ fs)) ≡ filled before ff ++ (x ∷ last.0) =
      filled-append ps before (x ∷ rest) [] front head.0 ff ((Shift ∷ []) ∷ fs) tokens head.1 fills ∙ ap (λ (l : List Action). filled before ff ++ l) last.1 in
      let inner : Reads ps (filled before ff ++ (x ∷ last.0)) [] (map Terminal (tokens ++ (t ∷ w))) (Nonterminal root ∷ []) = rw parts at run in
      let upper = reads_on ps around_it.middle (filled before ff ++ (x ∷ last.0)) (map Terminal (tokens ++ (t ∷ w))) (Nonterminal root ∷ []) inner in
      let later = reads_append ps (filled before ff ++ (x ∷ last.0)) around_it.behind around_it.middle (map Terminal (tokens ++ (t ∷ w)))
      (around_it.middle ++ Nonterminal root ∷ []) (map Terminal wb) (Nonterminal around_it.start.left ∷ []) upper around_it.ends in
      let whole = reads_append ps around_it.before ((filled before ff ++ (x ∷ last.0)) ++ around_it.behind) [] (map Terminal wf) around_it.middle
      (map Terminal (tokens ++ (t ∷ w)) ++ map Terminal wb) (Nonterminal around_it.start.left ∷ []) around_it.opens later in (
        last.0 ++ around_it.behind,
        record {
          start = around_it.start;
          first = around_it.first;
          reading = rw (joined_actions around_it.before (filled before ff) last.0 around_it.behind x, joined_tokens w) at whole;
        },
      )

  pub read_before : (m : List Symbol) → Reads ps before [] front m → shifts_of (around_it.before ++ filled before ff) ≡ length (wf ++ tokens)
  read_before m h =
      let own = filled_reads ps before [] front m ff tokens h fills in
      let upper = reads_on ps around_it.middle (filled before ff) (map Terminal tokens) m own in
      let whole = reads_append ps around_it.before (filled before ff) [] (map Terminal wf) around_it.middle (map Terminal tokens) (around_it.middle ++ m) around_it.opens upper in
      shifts-reads ps (around_it.before ++ filled before ff) [] (map Terminal wf ++ map Terminal tokens) (around_it.middle ++ m) whole
      ∙ (ap length (sym (map-append Terminal wf tokens)) ∙ length-map (wf ++ tokens) Terminal)

-- ---- both

module _ (ps : List Production) (fork : Fork) (c : Certificate) (shown : IsShown ps fork c) where
  parted : (ff ft fo : List (List Action)) (wf wt wo : List ℕ) → Fills ps c.front.items ff wf → Fills ps c.tail.items ft wt → Fills ps c.other_tail.items fo wo
      → ArePartedParses ps fork (shown.reach.front ++ wf) (wt ++ shown.reach.back) (wo ++ shown.reach.back)
  parted ff ft fo wf wt wo front tail other_tail =
      let r = shown.reach in
      let p = shown.part in
      let t = fork.token in
      let k = context_of ps c.root r in
      let first : IsReading ps (p.before ++ (Reduce fork.production ∷ p.rest)) (form_of c.front.items t c.tail.items) (Nonterminal c.root) = rw p.one at shown.one in
      let second : IsReading ps (p.before ++ (fork.other ∷ p.other_rest)) (form_of c.front.items t c.other_tail.items) (Nonterminal c.root) = rw p.two at shown.two in
      let one = side ps c.root t r.front r.back k c.front.items ff wf front p.before p.point c.tail.items ft wt (Reduce fork.production) p.rest tail first in
      let two = side ps c.root t r.front r.back k c.front.items ff wf front p.before p.point c.other_tail.items fo wo fork.other p.other_rest other_tail second in
      let head = front_run ps p.before (Reduce fork.production ∷ p.rest) c.front.items (Terminal t ∷ c.tail.items) (Nonterminal c.root ∷ []) p.point first in
      record {
        first = k.before ++ filled p.before ff ++ (Reduce fork.production ∷ one.0);
        second = k.before ++ filled p.before ff ++ (fork.other ∷ two.0);
        one = one.1;
        two = two.1;
        part = record {
          before = k.before ++ filled p.before ff;
          rest = one.0;
          other_rest = two.0;
          one = refl;
          two = refl;
          different = p.different;
          point = read_before ps c.root t r.front r.back k c.front.items ff wf front p.before p.point head.0 head.1;
        };
      }

  pub two_inputs : HasTwoInputs ps fork
  two_inputs =
      let f = fill_all ps c.front.items (recursion_from_All (DerivesSentence ps) c.front.items shown.front) in
      let g = fill_all ps c.tail.items (recursion_from_All (DerivesSentence ps) c.tail.items shown.tail) in
      let h = fill_all ps c.other_tail.items (recursion_from_All (DerivesSentence ps) c.other_tail.items shown.other_tail) in
      (shown.reach.front ++ f.1, g.1 ++ shown.reach.back, h.1 ++ shown.reach.back, parted f.0 g.0 h.0 f.1 g.1 h.1 f.2 g.2 h.2)

  pub two_parses : c.tail.items ≡ c.other_tail.items → HasTwoParses ps fork
  two_parses same =
      let f = fill_all ps c.front.items (recursion_from_All (DerivesSentence ps) c.front.items shown.front) in
      let g = fill_all ps c.tail.items (recursion_from_All (DerivesSentence ps) c.tail.items shown.tail) in
      let other : Fills ps c.other_tail.items g.0 g.1 = fills_from ps c.tail.items c.other_tail.items g.0 g.1 same g.2 in
      (shown.reach.front ++ f.1, g.1 ++ shown.reach.back, parted f.0 g.0 g.0 f.1 g.1 g.1 f.2 g.2 other)
