-- The ways through the exported functions, one law each.
use Rattle.std.proofs.Common.{◌≡◌, ℕ, Bool, List, Option, None, Some, refl, sym, ap, ◌∙◌}
use Rattle.std.proofs.lemmas.Option.{none-some, same_Some}
use Rattle.std.specs.Prelude.{Result, Ok, Err}
use Rattle.lr1_base.specs.declared.repr.refusals.Refusal.{Refusal}
use Rattle.lr1_base.specs.repr.Reply.{Reply, reply_of, number_of, place_of}
use Rattle.table_rewrite.specs.spelling.Outcome.{Outcome as Spelling}
use Rattle.table_rewrite.specs.compaction.Outcome.{Outcome as Compaction}
use Rattle.lr1_tables.specs.Outcome.{Left as Building}
use Rattle.lr1_tables.specs.declared.Built.{Built}
use Rattle.yacc_reader.specs.parsed_file.Outcome.{Outcome as ReadOutcome}
use Rattle.yacc_reader.specs.declared.parsed_file.Reading.{Reading}
use Rattle.yacc_writer.specs.text.Outcome.{Outcome as WriteOutcome}
use Rattle.lr1_base.specs.declared.lookahead.TokenSet.{TokenSet}
use Rattle.state_graph.specs.declared.StateSet.{StateSet}
use Rattle.state_graph.specs.States.{states_in}
use Rattle.first.specs.declared.Answer.{Answer}
use Rattle.lr1.specs.Entries.{walk_of}
use Rattle.lr1.specs.Edges.{EdgeOutcome, edge_outcome}
use Rattle.trace.specs.Outcome.{Outcome, outcome}
use Rattle.lihvemur_c.specs.Exported.{Told, HandedOut, numbers, check_numbers, spell_numbers, respell_numbers, compact_numbers, build_numbers, built_numbers, read_numbers, reading_numbers, write_numbers, writing_numbers, set_numbers, followed_numbers, answer_numbers, first_numbers, state_numbers, walk_numbers, add_numbers, edge_numbers, trace_numbers, backtrace_numbers}
use Rattle.table.specs.Checked.{Checked, checked_of}

-- what `told` answers of each
module _ {A : Type 0} where
  pub told_some : (r : Result A Refusal) (a p : ℕ) (f : Option A) → Told r a p f → (x : A) → f ≡ Some x → (r ≡ Ok x) × ((a ≡ 0) × (p ≡ 0))
  told_some (Ok y) a p f h x q = (ap Ok (same_Some y x (sym h.2 ∙ q)), (h.0, h.1))
  told_some (Err e) a p f h x q = absurd (none-some x (sym h.2 ∙ q))

  -- what is told of a refusal, whatever it is written into
  pub told_none : {X : Type 0} (r : Result A Refusal) (a p : ℕ) (f : Option A) → Told r a p f → f ≡ None → (g : ℕ → ℕ → X) (y : X) → ((e : Refusal) → r ≡ Err e → g (number_of e) (place_of e) ≡ y) → g a p ≡ y
  told_none (Ok x) a p f h n g y k = absurd (none-some x (sym n ∙ h.2))
  told_none (Err e) a p f h n g y k = rw (h.0, h.1) (k e refl)

pub handed_none : (r : Result ℕ Refusal) (a p : ℕ) (f : Option ℕ) (n : ℕ) → Told r a p f → f ≡ None → HandedOut r a p n n
handed_none (Ok x) a p f n h q = absurd (none-some x (sym q ∙ h.2))
handed_none (Err e) a p f n h q = (h.0, h.1, refl)

-- a checked table, of which nothing is handed out
pub told_checked : {A : Type 0} (r : Result A Refusal) (a p : ℕ) (f : Option A) → Told r a p f → (d : Checked) → checked_of r ≡ d → numbers a p ≡ check_numbers d
unfolding check_numbers
told_checked (Ok y) a p f h d e = rw (h.0, h.1, ← e)
told_checked (Err x) a p f h d e = rw (h.0, h.1, ← e)

-- a count handed out
module _ (a p old n : ℕ) (words : List ℕ) where
  pub spell_handed : (r : Result ℕ Refusal) → HandedOut r a p old n → (d : Spelling) → record { answer = reply_of r; out = words } ≡ d → spell_numbers a p n words ≡ respell_numbers old d
  unfolding respell_numbers
  spell_handed (Ok k) h d e = rw (h.0, h.1, h.2, ← e)
  spell_handed (Err x) h d e = rw (h.0, h.1, h.2, ← e)

  pub compact_handed : (r : Result ℕ Refusal) → HandedOut r a p old n → (d : Compaction) → record { answer = reply_of r; table = words } ≡ d → spell_numbers a p n words ≡ compact_numbers old d
  unfolding compact_numbers
  compact_handed (Ok k) h d e = rw (h.0, h.1, h.2, ← e)
  compact_handed (Err x) h d e = rw (h.0, h.1, h.2, ← e)

  pub write_handed : (r : Result ℕ Refusal) → HandedOut r a p old n → (d : WriteOutcome) → record { answer = reply_of r; text = words } ≡ d → write_numbers a p n words ≡ writing_numbers old d
  unfolding writing_numbers
  write_handed (Ok k) h d e = rw (h.0, h.1, h.2, ← e)
  write_handed (Err x) h d e = rw (h.0, h.1, h.2, ← e)

  pub edge_handed : (r : Result ℕ Refusal) → HandedOut r a p old n → (d : EdgeOutcome) → edge_outcome (reply_of r) words ≡ d → add_numbers a p n words ≡ edge_numbers old d
  unfolding edge_numbers
  edge_handed (Ok k) h d e = rw (h.0, h.1, h.2, ← e)
  edge_handed (Err x) h d e = rw (h.0, h.1, h.2, ← e)

  pub trace_handed : (r : Result ℕ Refusal) → HandedOut r a p old n → (scratch : List ℕ) (d : Outcome) → outcome (reply_of r) words scratch ≡ d → trace_numbers a p n words scratch ≡ backtrace_numbers old d
  unfolding backtrace_numbers
  trace_handed (Ok k) h scratch d e = rw (h.0, h.1, h.2, ← e)
  trace_handed (Err x) h scratch d e = rw (h.0, h.1, h.2, ← e)

-- r: what the entry answers, of which (a, p, f) is told; d: what its contract says it is
module _ (records count : ℕ) (r : Result Built Refusal) (a p : ℕ) (f : Option Built) (h : Told r a p f) (ss os cs : List ℕ) (d : Building) (e : record { answer = reply_of r; scratch = ss; out = os; conflicts = cs } ≡ d) where
  pub build-made : (b : Built) → f ≡ Some b → build_numbers a p b.records b.conflicts ss os cs ≡ built_numbers records count d
  unfolding built_numbers
  build-made b q = let T = told_some r a p f h b q in rw (T.1.0, T.1.1, ← e, T.0)

  pub build-refused : f ≡ None → build_numbers a p records count ss os cs ≡ built_numbers records count d
  unfolding built_numbers
  build-refused q = told_none r a p f h q (λ n k. build_numbers n k records count ss os cs) _ (λ x z. rw (← e, z))

module _ (records count start : ℕ) (r : Result Reading Refusal) (a p : ℕ) (f : Option Reading) (h : Told r a p f) (ws vs : List ℕ) (d : ReadOutcome) (e : record { answer = reply_of r; table = ws; places = vs } ≡ d) where
  pub read_made : (b : Reading) → f ≡ Some b → read_numbers a p b.records b.places b.start.0 ws vs ≡ reading_numbers records count start d
  unfolding reading_numbers
  read_made b q = let T = told_some r a p f h b q in rw (T.1.0, T.1.1, ← e, T.0)

  pub read-refused : f ≡ None → read_numbers a p records count start ws vs ≡ reading_numbers records count start d
  unfolding reading_numbers
  read-refused q = told_none r a p f h q (λ n k. read_numbers n k records count start ws vs) _ (λ x z. rw (← e, z))

module _ (old : ℕ) (was : Bool) (r : Result Answer Refusal) (a p : ℕ) (f : Option Answer) (h : Told r a p f) (d : Reply Answer) (e : reply_of r ≡ d) where
  pub first_answered : (b : Answer) → f ≡ Some b → answer_numbers a p b.tokens.0 b.nullable ≡ first_numbers old was d
  unfolding first_numbers
  first_answered b q = let T = told_some r a p f h b q in rw (T.1.0, T.1.1, ← e, T.0)

  pub first-refused : f ≡ None → answer_numbers a p old was ≡ first_numbers old was d
  unfolding first_numbers
  first-refused q = told_none r a p f h q (λ n k. answer_numbers n k old was) _ (λ x z. rw (← e, z))

module _ (old : ℕ) (r : Result TokenSet Refusal) (a p : ℕ) (f : Option TokenSet) (h : Told r a p f) (d : Reply TokenSet) (e : reply_of r ≡ d) where
  pub followed-tokens : (s : TokenSet) → f ≡ Some s → set_numbers a p s.0 ≡ followed_numbers old d
  unfolding followed_numbers
  followed-tokens s q = let T = told_some r a p f h s q in rw (T.1.0, T.1.1, ← e, T.0)

  pub followed-refused : f ≡ None → set_numbers a p old ≡ followed_numbers old d
  unfolding followed_numbers
  followed-refused q = told_none r a p f h q (λ n k. set_numbers n k old) _ (λ x z. rw (← e, z))

module _ (old : List ℕ) (r : Result StateSet Refusal) (a p : ℕ) (f : Option StateSet) (h : Told r a p f) (d : Reply (List ℕ)) (e : walk_of r ≡ d) where
  pub walk-states : (s : StateSet) → f ≡ Some s → state_numbers a p (states_in s.low s.high) ≡ walk_numbers old d
  unfolding walk_numbers walk_of
  walk-states s q = let T = told_some r a p f h s q in rw (T.1.0, T.1.1, ← e, T.0)

  pub walk_refused : f ≡ None → state_numbers a p old ≡ walk_numbers old d
  unfolding walk_numbers walk_of
  walk_refused q = told_none r a p f h q (λ n k. state_numbers n k old) _ (λ x z. rw (← e, z))
