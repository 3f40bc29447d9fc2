-- `frame_writing::byte_from` meets its contract: four values of at most 2, and the first byte of the points from there on. Assumes nothing.
use mathlib.Core.Path.{sym, ap, ◌∙◌}
use mathlib.Core.List.{List}
use Prim.Native.Nat.{ℕ, ◌+◌}
use lib.ListN.{get_or}
use Rattle.board.proofs.Sides.{value_le}
use Rattle.frame_writing.proofs.Stored.{packed_four}
use Rattle.frame_writing.proofs.byte_from.Goals as goal

pub four_points-requires : goal.four_points-requires
four_points-requires c =
    let i = c.args.i in
    let low = value_le c.args.board.now c.requires.1 in
    (low i, low (i + 1), low (i + 2), low (i + 3))

pub returns : goal.returns
returns c =
    c.four_points.ensures ∙ sym (ap (λ (bs : List ℕ). get_or bs 0 0) (packed_four c.args.board.now c.args.i c.requires.0))
