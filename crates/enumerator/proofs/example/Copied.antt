-- A copy, word by word.
use Rattle.std.proofs.Common.{◌≡◌, ℕ, ◌+◌, ◌<◌, List, length, get_or, take, drop, set, append_assoc, add-one}
use lib.Seq.{take-length, paste, paste-suc}
use Rattle.lr1_base.specs.words.Insert.{put_at}

pub copied_more : (d : List ℕ) (at : ℕ) (s : List ℕ) (i : ℕ) → at + i < length d → i < length s → set (paste d at s i) (at + i) (get_or s i 0) ≡ paste d at s (i + 1)
copied_more d at s i h l = rw (add-one i) (paste-suc d at s i 0 h l)

pub copied_all : (d : List ℕ) (at : ℕ) (s : List ℕ) → paste d at s (length s) ≡ put_at at s d
unfolding put_at
copied_all d at s = rw (take-length s) (append_assoc (take at d) s (drop (at + length s) d))
