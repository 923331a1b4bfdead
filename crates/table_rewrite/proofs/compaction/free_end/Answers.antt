use Rattle.std.proofs.Common.{◌≡◌, refl, ap, ◌∙◌, ℕ, ◌+◌, ◌-◌, ◌*◌, ◌<◌, List, ◌++◌, length, take, replicate, arith}
use Rattle.std.proofs.lemmas.List.{length-drop, length-take-le, length-replicate}
use Rattle.std.proofs.lemmas.List.Edits.{paste_all}
use Rattle.std.proofs.lemmas.Slice.{put_mid-paste}
use borrow.Rule.Slice.PartMut.{put_mid}
use mathlib.Core.List.{append-nil}
use lib.ListN.{drop_of_length-le}
use Rattle.table_rewrite.proofs.compaction.InPlace.{freed_filled, freed-none}
use Rattle.table_rewrite.proofs.compaction.free_end.Goals as goal

-- a part to the end, written
written : (a : ℕ) (xs ys : List ℕ) → a < length xs → length ys ≡ length xs - a → put_mid a (length xs - a) xs ys ≡ take a xs ++ ys
written a xs ys h e =
    put_mid-paste a (length xs - a) xs ys ys (length ys) refl e refl
    ∙ paste_all xs a ys (length ys) refl
    ∙ ap (λ (l : List ℕ). take a xs ++ (ys ++ l)) (drop_of_length-le xs {i = a + length ys} (omega arith))
    ∙ ap (λ (l : List ℕ). take a xs ++ l) (append-nil ys)

pub returns-then-from-table : goal.returns-then-from-table
returns-then-from-table c =
    let g = c.args.table.now in
    let zeros : c.fill.new.self ≡ replicate (length g - c.args.count * 4) 0 = c.fill.ensures.after (λ y e. e) ∙ ap (λ (n : ℕ). replicate n 0) (length-take-le _ _ (let l = length-drop (c.args.count * 4) g in omega arith)) in
    rw (written (c.args.count * 4) g c.fill.new.self c.if-from-table.true (ap length zeros ∙ length-replicate {A = ℕ} (length g - c.args.count * 4) 0))
    (freed_filled g c.fill.new.self c.args.count (omega arith) zeros)

pub returns-else-from-table : goal.returns-else-from-table
returns-else-from-table c = freed-none _ _ c.if-from-table.false
