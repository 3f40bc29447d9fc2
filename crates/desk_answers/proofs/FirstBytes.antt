-- Over 64 characters a line is refused, so the first 65 decide. Assumes nothing.
use mathlib.Core.Path.{◌≡◌, refl, sym, ap, ◌∙◌}
use mathlib.Core.Bool.{Bool, true, false}
use mathlib.Core.List.{List}
use Prim.Native.Nat.{ℕ}
use native.Mathlib.Omega.{arith}
use lib.Dec.{ltb}
use lib.ListN.{length, take}
use lib.Seq.{take_all}
use borrow.Author.Tests.{ltb-true, ltb-false}
use Rattle.frame_calls.proofs.Answered.{frame_turned}
use Rattle.replies.specs.Replies.{answer_of}
use Rattle.replies.proofs.Reading.{line_refused}
use Rattle.keeping.specs.Kept.{most_kept}
use Rattle.keeping.proofs.Kept.{long_refused}

-- a line and its first 65 bytes have one answer
pub first_decide : (tablebase line : List ℕ) → answer_of tablebase (take most_kept line) ≡ answer_of tablebase line
first_decide tablebase line = go (ltb most_kept (length line)) refl
  where
    go : (t : Bool) → ltb most_kept (length line) ≡ t → answer_of tablebase (take most_kept line) ≡ answer_of tablebase line
    go true e =
        let w = long_refused line (omega (arith, ltb-true most_kept (length line) e)) in
        sym (line_refused tablebase (take most_kept line) 14 (sym (frame_turned (take most_kept line) w.0)))
        ∙ line_refused tablebase line 14 (sym (frame_turned line w.1))
    go false e = ap (answer_of tablebase) (take_all most_kept line (ltb-false most_kept (length line) e))
