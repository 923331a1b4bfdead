-- What is derived has a reading: each symbol of a form is read from a part of what it derives.
use Rattle.std.proofs.Common.{◌≡◌, ℕ, List, [], ◌∷◌, ◌++◌, refl, sym, ◌∙◌, ap, append_assoc, append-nil, Contains}
use Rattle.std.specs.Prelude.{slice_get, Some}
use Rattle.std.proofs.lemmas.Option.{slice_get-get_or}
use Rattle.grammar.specs.declared.symbol.Symbol.{Symbol}
use Rattle.grammar.specs.declared.symbol.Symbol.TheVariants.{Terminal, Nonterminal}
use Rattle.grammar.specs.declared.symbol.Production.{Production}
use Rattle.grammar.specs.Derives.{Derives, done, step, HasRule}
use Rattle.certificate.specs.declared.reading.Action.{Action}
use Rattle.certificate.specs.declared.reading.Action.TheVariants.{Shift, Reduce}
use Rattle.certificate.specs.Readings.{Reads, IsReading}
use Rattle.certificate.proofs.Runs.{reads_append, reads_over, reads_on}

module _ (ps : List Production) where
  -- the symbols are read from the form, each from its part
  abbrev pub Parts : List Symbol → List Symbol → Type 0
  Parts [] ys = ys ≡ []
  Parts (x ∷ xs) ys = (own : List Symbol) × (rest : List Symbol) × (actions : List Action) × (ys ≡ own ++ rest) × IsReading ps actions own x × Parts xs rest

  pub parts_same : (xs : List Symbol) → Parts xs xs
  parts_same [] = refl
  parts_same (x ∷ xs) = (x ∷ [], xs, Shift ∷ [], refl, (x, [], refl, (refl, refl)), parts_same xs)

  pub parts_from : (xs ys zs : List Symbol) → xs ≡ ys → Parts xs zs → Parts ys zs
  parts_from xs ys zs e h = rw e at h

  pub parts_append : (xs us ys vs : List Symbol) → Parts xs us → Parts ys vs → Parts (xs ++ ys) (us ++ vs)
  parts_append [] us ys vs h k = rw h k
  parts_append (x ∷ xs) us ys vs (own, rest, actions, at, reads, h) k =
      (own, rest ++ vs, actions, ap (λ (l : List Symbol). l ++ vs) at ∙ append_assoc own rest vs, reads, parts_append xs rest ys vs h k)

  pub record Split (xs ys zs : List Symbol) : Type 0 where
    pub front : List Symbol
    pub back : List Symbol
    pub at : zs ≡ front ++ back
    pub first : Parts xs front
    pub second : Parts ys back

  pub parts_split : (xs ys zs : List Symbol) → Parts (xs ++ ys) zs → Split xs ys zs
  parts_split [] ys zs h = record { front = []; back = zs; at = refl; first = refl; second = h }
  parts_split (x ∷ xs) ys zs (own, rest, actions, at, reads, h) =
      let s = parts_split xs ys rest h in
      record {
        front = own ++ s.front;
        back = s.back;
        at = at ∙ ap (λ (l : List Symbol). own ++ l) s.at ∙ sym (append_assoc own s.front s.back);
        first = (own, s.front, actions, refl, reads, s.first);
        second = s.second;
      }

  -- one run reads them all
  pub parts_run : (xs ys : List Symbol) → Parts xs ys → (actions : List Action) × Reads ps actions [] ys xs
  parts_run [] ys h = ([], (h, refl))
  parts_run (x ∷ xs) ys (own, rest, actions, at, reads, h) =
      let more = parts_run xs rest h in
      (actions ++ more.0, rw at (reads_append ps actions more.0 [] own (x ∷ []) rest (x ∷ xs) reads (reads_on ps (x ∷ []) more.0 rest xs more.1)))

  listed : (left : ℕ) (right : List Symbol) → HasRule ps left right → (k : ℕ) × (p : Production) × (slice_get ps k ≡ Some p) × (p.left ≡ left) × (p.right.items ≡ right)
  listed left right rule =
      let c = rule.listed in
      (c.0, rule.production, slice_get-get_or ps c.0 rule.production c.1 ∙ ap Some c.2, rule.left_side, rule.right_side)

  -- a production's left side is read from what its right side is read from
  pub read_rule : (left : ℕ) (right ys : List Symbol) → HasRule ps left right → Parts right ys → (actions : List Action) × IsReading ps actions ys (Nonterminal left)
  read_rule left right ys rule h =
      let run = parts_run right ys h in
      let found = listed left right rule in
      let reduction : Reads ps (Reduce found.0 ∷ []) right [] (Nonterminal left ∷ []) =
      (found.1, [], found.2, sym found.4, (refl, ap (λ (n : ℕ). Nonterminal n ∷ []) found.3)) in
      (run.0 ++ (Reduce found.0 ∷ []), rw append-nil at (reads_append ps run.0 (Reduce found.0 ∷ []) [] ys right [] (Nonterminal left ∷ []) run.1 reduction))

  pub derives_parts : {xs ys : List Symbol} → Derives ps xs ys → Parts xs ys
  derives_parts {xs} done = parts_same xs
  derives_parts {xs} {ys} (step us vs left right rule e d) =
      let outer = parts_split us (right ++ vs) ys (derives_parts d) in
      let inner = parts_split right vs outer.back outer.second in
      let own = read_rule left right inner.front rule inner.first in
      let tail : Parts (Nonterminal left ∷ vs) outer.back = (inner.front, inner.back, own.0, inner.at, own.1, inner.second) in
      rw (e, outer.at) (parts_append us outer.front (Nonterminal left ∷ vs) outer.back outer.first tail)

  -- a symbol is read from what it derives
  pub derives_reading : (x : Symbol) (ys : List Symbol) → Derives ps (x ∷ []) ys → (actions : List Action) × IsReading ps actions ys x
  derives_reading x ys d = parts_run (x ∷ []) ys (derives_parts d)
