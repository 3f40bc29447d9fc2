-- `representing::rank_in_use` meets its contract: the rank of the position of the points in use. Assumes nothing.
use mathlib.Core.Path.{◌≡◌, sym, ap, subst, ◌∙◌}
use mathlib.Core.List.{List}
use Prim.Native.Nat.{ℕ, ◌*◌}
use native.Mathlib.Omega.{arith}
use lib.ListN.{length, take}
use lib.Seq.{length-take-le}
use borrow.Author.Rules.{rules}
use Rattle.board.specs.Board.{board_of, position_of, OnBoard}
use Rattle.board.specs.declared.Position.{Position}
use Rattle.board.proofs.Sides.{board_position, position_on}
use Rattle.board.proofs.Counts.{values_take}
use Rattle.ranking.specs.Rank.{rank as Rank·rank}
use Rattle.representing.proofs.rank_in_use.Goals as goal
use Rattle.representing.proofs.rank_in_use.Goals.{Start}

-- the points in use
in_use : (c : Start) → length (take (8 * c.args.rings) c.args.board) ≡ 8 * c.args.rings
in_use c =
    let l : length c.args.board ≡ 24 = search rules in
    length-take-le (8 * c.args.rings) c.args.board (omega arith)

pub slice_bounds-position_of-end : goal.slice_bounds-position_of-end
slice_bounds-position_of-end c = sym (in_use (goal.at.slice_bounds-position_of-end c).Start)

pub position_of-position-requires : goal.position_of-position-requires
position_of-position-requires c = omega (arith, in_use (goal.at.position_of-position-requires c).Start, c.requires)

pub rank-requires : goal.rank-requires
rank-requires c =
    let b : List ℕ = take (8 * c.args.rings) c.args.board in
    record {
      few = omega (arith, c.requires.0);
      on = subst (λ (n : ℕ). OnBoard n c.position_of-position.result) (in_use (goal.at.rank-requires c).Start)
          (subst (λ (p : Position). OnBoard (length b) p) (sym c.position_of-position.ensures) (position_on b));
    }

pub returns : goal.returns
returns c =
    let b : List ℕ = take (8 * c.args.rings) c.args.board in
    let v = values_take (8 * c.args.rings) c.args.board c.requires.1 in
    c.rank.ensures
    ∙ ap (λ (p : Position). Rank·rank (board_of (8 * c.args.rings) p)) c.position_of-position.ensures
    ∙ ap Rank·rank (subst (λ (n : ℕ). board_of n (position_of b) ≡ b) (in_use (goal.at.returns c).Start) (board_position b v))
