-- A position that was made of an accepted board: it is placed, and gives that board back with its stones, its rank and its moves under any rule of
-- removal. And the board after a move that can be made is that of the position after it. Assumes nothing.
use mathlib.Core.Path.{◌≡◌, sym, ap, subst, ◌∙◌}
use mathlib.Core.List.{List}
use Prim.Native.Nat.{ℕ, ◌*◌}
use lib.ListN.{length}
use Rattle.sets.specs.Sets.{members}
use Rattle.board.specs.declared.Position.{Position}
use Rattle.board.specs.Board.{count, position_of, board_of, OnBoard}
use Rattle.board.proofs.Sides.{board_position, mover_stones, opponent_stones, on_board}
use Rattle.ranking.specs.Rank.{rank}
use Rattle.rules.specs.Ply.{Rule, moves, after_ply}
use Rattle.rules.specs.Inner.Making.{Makeable}
use Rattle.rules.proofs.Leads.{makeable_leads}
use Rattle.plies.specs.Inner.Positions.{Placed}
use Rattle.plies.proofs.BoardPositions.{board_placed, board_back}
use Rattle.refusals.proofs.Conditions.{Accepted, few_points}

-- p shows the board b, as a position that was made of it does
pub record ShowsBoard (rings : ℕ) (b : List ℕ) (p : Position) : Type 0 where
  pub placed : Placed rings p
  pub on : OnBoard (length b) p
  pub back : board_of (8 * rings) p ≡ b
  pub mover : members p.mover 32 ≡ count 1 b
  pub opponent : members p.opponent 32 ≡ count 2 b
  pub rank_back : rank (board_of (length b) p) ≡ rank b
  pub moves_back : (rule : Rule) → moves rule rings (board_of (8 * rings) p) ≡ moves rule rings b

module _ (rings : ℕ) (b : List ℕ) (w : Accepted rings b) where
  pub position_back : board_of (8 * rings) (position_of b) ≡ b
  position_back = board_back rings w.rings_high b w.values w.points

  -- the position that was made of an accepted board
  pub board_shown : (p : Position) → p ≡ position_of b → ShowsBoard rings b p
  board_shown p e =
      let f : board_of (8 * rings) p ≡ b = ap (board_of (8 * rings)) e ∙ position_back in
      record {
        placed = subst (λ (q : Position). Placed rings q) (sym e) (board_placed rings w.rings_high b w.values w.points);
        on = on_board b p e;
        back = f;
        mover = mover_stones b p e (few_points rings b w);
        opponent = opponent_stones b p e (few_points rings b w);
        rank_back = ap (λ (q : Position). rank (board_of (length b) q)) e ∙ ap rank (board_position b w.values);
        moves_back = λ rule. ap (moves rule rings) f;
      }

  -- the board after a move
  pub after_back : (move : ℕ) → Makeable rings b move → board_of (8 * rings) (position_of (after_ply b move)) ≡ after_ply b move
  after_back move m =
      let l = makeable_leads rings w.rings_high b w.values w.points move m in
      board_back rings w.rings_high (after_ply b move) l.values (l.points ∙ w.points)
