-- A reading of a form, with a sentence in the place of each symbol.
use Rattle.std.proofs.Common.{◌≡◌, ℕ, suc, ◌+◌, List, [], ◌∷◌, ◌++◌, length, take, drop, refl, sym, ◌∙◌, ap, append_assoc, append-nil, arith, map}
use Rattle.std.proofs.lemmas.List.{map-append, length-map, append_cancel_left}
use Rattle.std.specs.List.{AllByRecursion}
use Rattle.grammar.specs.declared.symbol.Symbol.{Symbol}
use Rattle.grammar.specs.declared.symbol.Symbol.TheVariants.{Terminal, Nonterminal}
use Rattle.grammar.specs.declared.symbol.Production.{Production}
use Rattle.certificate.specs.declared.reading.Action.{Action}
use Rattle.certificate.specs.declared.reading.Action.TheVariants.{Shift, Reduce}
use Rattle.certificate.specs.Readings.{Reads, IsReading, shifts_of}
use Rattle.certificate.specs.Sentences.{DerivesSentence}
use Rattle.certificate.proofs.Runs.{reads_append, reads_on, shifts-reads, cut}
use Rattle.certificate.proofs.Parts.{derives_reading}

-- each shift gives way to the next of the lists
abbrev pub filled : List Action → List (List Action) → List Action
filled [] fs = []
filled (Shift ∷ a) [] = Shift ∷ filled a []
filled (Shift ∷ a) (f ∷ fs) = f ++ filled a fs
filled (Reduce k ∷ a) fs = Reduce k ∷ filled a fs

module _ (ps : List Production) where
  -- the actions read the tokens as the symbol: a terminal by a shift
  abbrev pub FillOf : Symbol → List Action → List ℕ → Type 0
  FillOf (Terminal t) f tokens = (f ≡ Shift ∷ []) × (tokens ≡ t ∷ [])
  FillOf (Nonterminal n) f tokens = IsReading ps f (map Terminal tokens) (Nonterminal n)

  abbrev pub Fills : List Symbol → List (List Action) → List ℕ → Type 0
  Fills [] fs tokens = (fs ≡ []) × (tokens ≡ [])
  Fills (x ∷ xs) fs tokens =
      (f : List Action) × (more : List (List Action)) × (own : List ℕ) × (rest : List ℕ) × (fs ≡ f ∷ more) × (tokens ≡ own ++ rest) × FillOf x f own × Fills xs more rest

  fill_reads : (x : Symbol) (f : List Action) (tokens : List ℕ) → FillOf x f tokens → IsReading ps f (map Terminal tokens) x
  fill_reads (Terminal t) f tokens h = rw (h.0, h.1) (Terminal t, [], refl, (refl, refl))
  fill_reads (Nonterminal n) f tokens h = h

  -- the filled reading
  pub filled_reads : (a : List Action) (s form e : List Symbol) (fs : List (List Action)) (tokens : List ℕ) → Reads ps a s form e → Fills form fs tokens
      → Reads ps (filled a fs) s (map Terminal tokens) e
  filled_reads [] s form e fs tokens (none, same) fills = nothing form none fills
    where
      nothing : (form : List Symbol) → form ≡ [] → Fills form fs tokens → Reads ps [] s (map Terminal tokens) e
      nothing [] h k = (ap (map Terminal) k.1, same)
      nothing (x ∷ xs) h k = let bad : x ∷ xs ≡ [] = h in cc
  filled_reads (Shift ∷ a) s form e fs tokens (x, rest, at, h) fills =
      next form at fills (λ (more : List (List Action)) (tail : List ℕ) (k : Fills rest more tail). filled_reads a (s ++ x ∷ []) rest e more tail h k)
    where
      next : (form : List Symbol) → form ≡ x ∷ rest → Fills form fs tokens
          → ((more : List (List Action)) (tail : List ℕ) → Fills rest more tail → Reads ps (filled a more) (s ++ x ∷ []) (map Terminal tail) e)
          → Reads ps (filled (Shift ∷ a) fs) s (map Terminal tokens) e
      next [] bad k again = let no : [] ≡ x ∷ rest = bad in cc
      next (y ∷ ys) is (f, more, own, tail, listed, joined, fill, fills) again =
          let one : y ≡ x = cc in
          let others : ys ≡ rest = cc in
          let own_run : IsReading ps f (map Terminal own) x = rw one at (fill_reads y f own fill) in
          let tail_fills : Fills rest more tail = rw others at fills in
          rw (listed, joined, map-append Terminal own tail)
          (reads_append ps f (filled a more) s (map Terminal own) (s ++ x ∷ []) (map Terminal tail) e
          (reads_on ps s f (map Terminal own) (x ∷ []) own_run) (again more tail tail_fills))
  filled_reads (Reduce k ∷ a) s form e fs tokens (p, below, listed, at, h) fills =
      (p, below, listed, at, filled_reads a (below ++ Nonterminal p.left ∷ []) form e fs tokens h fills)

  -- ---- two forms, one after the other

  pub fills_append : (xs ys : List Symbol) (fs gs : List (List Action)) (us vs : List ℕ) → Fills xs fs us → Fills ys gs vs → Fills (xs ++ ys) (fs ++ gs) (us ++ vs)
  fills_append [] ys fs gs us vs h k = rw (h.0, h.1) k
  fills_append (x ∷ xs) ys fs gs us vs (f, more, own, rest, listed, joined, fill, fills) k =
      (f, more ++ gs, own, rest ++ vs, ap (λ (l : List (List Action)). l ++ gs) listed, ap (λ (l : List ℕ). l ++ vs) joined ∙ append_assoc own rest vs, fill, fills_append xs ys more gs rest vs fills k)

  pub fills_from : (xs ys : List Symbol) (fs : List (List Action)) (tokens : List ℕ) → xs ≡ ys → Fills xs fs tokens → Fills ys fs tokens
  fills_from xs ys fs tokens e h = rw e at h

  -- each symbol that derives a sentence has one
  pub fill_one : (x : Symbol) → DerivesSentence ps x → (f : List Action) × (tokens : List ℕ) × FillOf x f tokens
  fill_one (Terminal t) h = (Shift ∷ [], t ∷ [], (refl, refl))
  fill_one (Nonterminal n) h = let r = derives_reading ps (Nonterminal n) (map Terminal h.0) h.1 in (r.0, h.0, r.1)

  pub fill_all : (xs : List Symbol) → AllByRecursion (DerivesSentence ps) xs → (fs : List (List Action)) × (tokens : List ℕ) × Fills xs fs tokens
  fill_all [] h = ([], [], (refl, refl))
  fill_all (x ∷ xs) h =
      let one = fill_one x h.0 in
      let more = fill_all xs h.1 in
      (one.0 ∷ more.0, one.1 ++ more.1, (one.0, more.0, one.1, more.1, refl, refl, one.2, more.2))

-- the actions of the first part are filled from the first lists
pub filled-append : (ps : List Production) (a b : List Action) (s front m : List Symbol) (fs gs : List (List Action)) (tokens : List ℕ) → Reads ps a s front m → Fills ps front fs tokens
    → filled (a ++ b) (fs ++ gs) ≡ filled a fs ++ filled b gs
filled-append ps [] b s front m fs gs tokens (none, same) fills = nothing front none fills
  where
    nothing : (form : List Symbol) → form ≡ [] → Fills ps form fs tokens → filled b (fs ++ gs) ≡ filled b gs
    nothing [] h k = ap (λ (l : List (List Action)). filled b (l ++ gs)) k.0
    nothing (x ∷ xs) h k = let bad : x ∷ xs ≡ [] = h in cc
filled-append ps (Shift ∷ a) b s front m fs gs tokens (x, rest, at, h) fills =
    next front at fills (λ (more : List (List Action)) (tail : List ℕ) (k : Fills ps rest more tail). filled-append ps a b (s ++ x ∷ []) rest m more gs tail h k)
  where
    next : (form : List Symbol) → form ≡ x ∷ rest → Fills ps form fs tokens
        → ((more : List (List Action)) (tail : List ℕ) → Fills ps rest more tail → filled (a ++ b) (more ++ gs) ≡ filled a more ++ filled b gs)
        → filled (Shift ∷ (a ++ b)) (fs ++ gs) ≡ filled (Shift ∷ a) fs ++ filled b gs
    next [] bad k again = let no : [] ≡ x ∷ rest = bad in cc
    next (y ∷ ys) is (f, more, own, tail, listed, joined, fill, fills) again =
        let others : ys ≡ rest = cc in
        let tail_fills : Fills ps rest more tail = rw others at fills in
        let more_same = again more tail tail_fills in
        rw listed (ap (λ (l : List Action). f ++ l) more_same ∙ sym (append_assoc f (filled a more) (filled b gs)))
filled-append ps (Reduce k ∷ a) b s front m fs gs tokens (p, below, listed, at, h) fills =
    ap (λ (l : List Action). Reduce k ∷ l) (filled-append ps a b (below ++ Nonterminal p.left ∷ []) front m fs gs tokens h fills)
