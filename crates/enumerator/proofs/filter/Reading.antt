-- The labels of a trial in words, as `write_labels` writes them: edge by edge, three words each, all in range.
use Rattle.std.specs.Prelude.{◌≡◌, ℕ, suc, ◌+◌, ◌*◌, ◌/◌, ◌%◌, ◌<◌, ◌≤◌, List, [], ◌∷◌, ◌++◌, map, length, get_or, take, drop, set}
use native.Mathlib.Omega.{arith}
use mathlib.Core.Path.{refl, sym, ap, ◌∙◌}
use mathlib.Core.List.{append_assoc, append-nil}
use lib.ListN.{length-set}
use lib.Seq.{take-suc, take-length, get_or-take, get_or-drop}
use Rattle.lr1_base.specs.repr.Sizes.{index_limit, item_limit, reduction_limit, label_room, labels_room}
use Rattle.lr1_base.specs.repr.Lists.{joined}
use Rattle.lr1_base.specs.repr.Meaning.{Production, All}
use Rattle.lr1_base.proofs.repr.Lists.{length_mapped}
use Rattle.trace_graph.specs.Graph.{TraceEdge}
use Rattle.enumerator.specs.example.Labels.{labels_in, LabelFits, LabelsFit}
use Rattle.enumerator.proofs.example.LabelWords.{label_words, labels_read, words_count, front-more}
use Rattle.enumerator.specs.trials.Trials.{Path}
use Rattle.enumerator.specs.trials.Lister.{label_at, labels_of}
use Rattle.enumerator.specs.trials.Words.{path_in}
use Rattle.enumerator.specs.trials.Stacks.{Within}
use Rattle.enumerator.proofs.trials.Holding.{within_at}
use Rattle.enumerator.specs.graph_view.View.{label_in, Labelled}
use Rattle.enumerator.specs.graph_view.Trial.{trial_room, trial_words}
use Rattle.enumerator.proofs.graph_view.Trial.{path_in_trial, words-head, words-all, words-once}
use Rattle.enumerator.specs.filter.Given.{Tried}

labels_each : {ps : List Production} {es : List TraceEdge} {owners codes : List ℕ} → Labelled ps es owners codes → (p : Path) → Within (length es) p → All (LabelFits ps) (labels_of ps es p)
unfolding Within All labels_of
labels_each L [] w = tt
labels_each L (e ∷ p) w = (L.fits e w.0, labels_each L p w.1)

-- where the reading of labels stands
pub record Reading (ps : List Production) (es : List TraceEdge) (owners codes ws labels₀ : List ℕ) (count : ℕ) (labels : List ℕ) (at : ℕ) : Type 0 where
  pub tried : Tried ps es owners codes ws
  pub depth : count ≡ length tried.path
  pub within : at ≤ count
  pub size : length labels ≡ length labels₀
  pub room : labels_room ≤ length labels₀
  pub front : take (label_room * at) labels ≡ joined label_words (labels_of ps es (take at tried.path))

module _ {ps : List Production} {es : List TraceEdge} {owners codes ws : List ℕ} (T : Tried ps es owners codes ws) where
  pub tried_long : trial_room ≤ length ws
  tried_long = let a = words-all T.path T.rest (omega (arith, T.few)) in omega (arith, ap length T.words)

  pub tried_depth : get_or ws 0 0 ≡ length T.path
  tried_depth = ap (λ (l : List ℕ). get_or l 0 0) T.words ∙ words-head T.path T.rest

  tried_path : path_in ws ≡ T.path
  tried_path = ap path_in T.words ∙ path_in_trial T.path T.rest

  -- an edge's word
  pub tried-word : (at : ℕ) → at < length T.path → get_or ws (at + 1) 0 ≡ get_or T.path at 0
  unfolding path_in
  tried-word at h =
      let a : at < get_or ws 0 0 = omega (arith, tried_depth) in
      let b : 1 + at ≡ at + 1 = omega arith in
      sym (ap (λ (l : List ℕ). get_or l at 0) (sym tried_path) ∙ get_or-take (get_or ws 0 0) (drop 1 ws) at 0 a ∙ get_or-drop 1 ws at 0 ∙ ap (λ (k : ℕ). get_or ws k 0) b)

  pub reading_first : {labels : List ℕ} {w : ℕ} → labels_room ≤ length labels → w ≡ get_or ws 0 0 → Reading ps es owners codes ws labels w labels 0
  unfolding labels_of joined
  reading_first r e = record { tried = T; depth = e ∙ tried_depth; within = omega arith; size = refl; room = r; front = refl }

labels_more : (ps : List Production) (es : List TraceEdge) (p : Path) (e : ℕ) → joined label_words (labels_of ps es (p ++ e ∷ [])) ≡ joined label_words (labels_of ps es p) ++ label_words (label_at ps es e)
unfolding labels_of joined
labels_more ps es [] e = append-nil (label_words (label_at ps es e))
labels_more ps es (x ∷ p) e =
    ap (λ (l : List ℕ). label_words (label_at ps es x) ++ l) (labels_more ps es p e)
    ∙ sym (append_assoc (label_words (label_at ps es x)) (joined label_words (map (label_at ps es) p)) (label_words (label_at ps es e)))

module _ {ps : List Production} {es : List TraceEdge} {owners codes ws labels₀ : List ℕ} {count : ℕ} {labels : List ℕ} {at : ℕ} (R : Reading ps es owners codes ws labels₀ count labels at) where
  pub reading_few : (count ≤ reduction_limit) × ((trial_room ≤ length ws) × (labels_room ≤ length labels))
  reading_few = (omega (arith, R.depth, R.tried.few), (tried_long R.tried, omega (arith, R.size, R.room)))

  module _ (more : at < count) where
    pub reading_room : (at < reduction_limit) × ((at + 1 < length ws) × (label_room * at + 3 ≤ length labels))
    reading_room = let f = reading_few in (omega (arith, f.0), (omega (arith, f.0, f.1.0), omega (arith, f.0, f.1.1)))

    module _ {x : ℕ} (ex : x ≡ get_or ws (at + 1) 0) where
      edge_of : x ≡ get_or R.tried.path at 0
      edge_of = ex ∙ tried-word R.tried at (omega (arith, R.depth))

      edge_low : x < length es
      edge_low = let w = within_at (length es) R.tried.path at 0 R.tried.edges (omega (arith, R.depth)) in omega (arith, edge_of)

      pub reading_low : (x < length owners) × (x < length codes)
      reading_low = let L = R.tried.labelled in (omega (arith, edge_low, L.few, L.by_owner), omega (arith, edge_low, L.few, L.by_code))

      module _ {o c p i : ℕ} (eo : o ≡ get_or owners x 0) (ec : c ≡ get_or codes x 0 % item_limit) (ep : p ≡ c / index_limit) (ei : i ≡ c % index_limit) where
        label_words_lem : o ∷ p ∷ i ∷ [] ≡ label_words (label_at ps es x)
        unfolding label_words label_in
        label_words_lem = rw (ep, ei, eo, ec) (ap label_words (R.tried.labelled.label x edge_low))

        pub reading_again : Reading ps es owners codes ws labels₀ count (set (set (set labels (label_room * at) o) (label_room * at + 1) p) (label_room * at + 2) i) (at + 1)
        reading_again =
            let path = R.tried.path in
            let s : label_room * (at + 1) ≡ label_room * at + 3 = omega arith in
            let k : at + 1 ≡ suc at = omega arith in
            let last : take (at + 1) path ≡ take at path ++ x ∷ [] =
            ap (λ (j : ℕ). take j path) k ∙ take-suc path at 0 (omega (arith, R.depth)) ∙ ap (λ (y : ℕ). take at path ++ y ∷ []) (sym edge_of) in
            record {
              tried = R.tried;
              depth = R.depth;
              within = omega arith;
              size = simp length-set R.size;
              room = R.room;
              front =
                  ap (λ (j : ℕ). take j (set (set (set labels (label_room * at) o) (label_room * at + 1) p) (label_room * at + 2) i)) s
                  ∙ front-more labels (label_room * at) o p i reading_room.1.1
                  ∙ ap (λ (l : List ℕ). l ++ (o ∷ p ∷ i ∷ [])) R.front
                  ∙ ap (λ (l : List ℕ). joined label_words (labels_of ps es (take at path)) ++ l) label_words_lem
                  ∙ sym (ap (λ (l : List ℕ). joined label_words (labels_of ps es l)) last ∙ labels_more ps es (take at path) x);
            }

  module _ (end : count ≤ at) where
    whole : take (label_room * count) labels ≡ joined label_words (labels_of ps es R.tried.path)
    whole =
        let k : count ≡ at = omega (arith, R.within) in
        let l : at ≡ length R.tried.path = sym k ∙ R.depth in
        ap (λ (j : ℕ). take (label_room * j) labels) k ∙ R.front
        ∙ ap (λ (p : Path). joined label_words (labels_of ps es p)) (ap (λ (j : ℕ). take j R.tried.path) l ∙ take-length R.tried.path)

    pub reading_labels : (p rest : List ℕ) → ws ≡ trial_words p ++ rest → labels_in (take (label_room * count) labels) ≡ labels_of ps es p
    reading_labels p rest w =
        let o = words-once R.tried.path p R.tried.rest rest (sym R.tried.words ∙ w) in
        ap labels_in whole ∙ labels_read (labels_of ps es R.tried.path) ∙ ap (labels_of ps es) o.0

    pub reading_fit : LabelsFit ps (take (label_room * count) labels)
    unfolding labels_of
    reading_fit =
        let T = R.tried in
        let ls = labels_of ps es T.path in
        let c : length ls ≡ length T.path = length_mapped (label_at ps es) T.path in
        let e : labels_in (take (label_room * count) labels) ≡ ls = ap labels_in whole ∙ labels_read ls in
        let s : length (take (label_room * count) labels) ≡ length ls + (length ls + length ls) = ap length whole ∙ words_count ls in
        record {
          some_label = omega (arith, T.some_edge);
          few = omega (arith, T.few);
          whole = rw e (omega (arith, s));
          each = rw e (labels_each T.labelled T.path T.edges);
        }
