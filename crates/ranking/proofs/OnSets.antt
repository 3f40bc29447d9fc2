-- A loop over a position's stones, from the lowest up: its state, its start, its step and its end, which is the rank. Assumes nothing.
use mathlib.Core.Path.{◌≡◌, sym, ap, ◌∙◌, subst}
use mathlib.Core.Bool.{Bool, false}
use mathlib.Core.List.{List, [], ◌∷◌}
use Prim.Native.Nat.{ℕ, suc, ◌+◌, ◌-◌, ◌^◌, ◌≤◌, ◌<◌}
use native.Mathlib.Nat.{lt_of_lt_of_le}
use native.Mathlib.Omega.{arith}
use lib.Bits.{or_lt}
use lib.ListN.{length, get_or}
use lib.Pow.{pow_mono}
use Rattle.lists.specs.Lists.{range, keep}
use Rattle.sets.specs.Sets.{has, elements}
use Rattle.sets.specs.Inner.Taken.{Taken}
use Rattle.sets.proofs.Elements.{elements_are, elements_more, elements_none}
use Rattle.board.specs.declared.Position.{Position}
use Rattle.board.specs.Board.{Values, digit, board_of, OnBoard}
use Rattle.board.proofs.Sides.{digit_lt, length_board, board_values}
use Rattle.ranking.specs.Rank.{rank}
use Rattle.ranking.specs.Unrank.{below}
use Rattle.ranking.proofs.Digits.{stones, vacant_value, stone_value}
use Rattle.ranking.proofs.Steps.{ranking_small}
use Rattle.ranking.proofs.StoneRanks.{from, RankedBelow, passed_none, Next, passed_coming, passed_more, ranking_few}

-- s stones are passed, o of them the opponent's, and those in `left` are to come
pub record Passing (points : ℕ) (position : Position) (s o r left : ℕ) : Type 0 where
  pub within : left < 2 ^ 32
  pub some : o ≤ s
  pub passed : RankedBelow (board_of points position) (λ q. has (stones position) q) (elements 32 left) (s - o) o r

-- the numbers where the next stone is found
pub record Here (points p s o r : ℕ) : Type 0 where
  pub low : p < points
  pub few : s ≤ p
  pub rank_low : r < 2 ^ 48

module _ (points : ℕ) (position : Position) (small : points ≤ 24) (w : OnBoard points position) where
  abbrev board : List ℕ
  board = board_of points position

  abbrev stone : ℕ → Bool
  stone q = has (stones position) q

  values : Values board
  values = board_values points position w

  vacant : (q : ℕ) → q < length board → stone q ≡ false → get_or board q 0 ≡ 0
  vacant q l h = vacant_value points position w q (subst (λ (n : ℕ). q < n) (length_board points position) l) h

  pub passing_none : Passing points position 0 0 0 (stones position)
  passing_none =
      let l = or_lt points position.mover position.opponent w.mover_within w.opponent_within in
      let n : points ≤ 32 = omega arith in
      let d : points ≡ length board - 0 = omega (arith, length_board points position) in
      let e : elements 32 (stones position) ≡ from board stone 0 =
      elements_more points 32 (stones position) l n ∙ elements_are points (stones position) ∙ ap (λ (k : ℕ). keep stone (range 0 k)) d in
      record {
        within = lt_of_lt_of_le l (pow_mono {i = points} {j = 32} n);
        some = omega arith;
        passed = subst (λ (k : List ℕ). RankedBelow board stone k 0 0 0) (sym e) (passed_none board stone);
      }

  module _ (s o r left p rest : ℕ) (state : Passing points position s o r left) (t : Taken left p rest) where
    next : Next board stone p (elements 32 rest) (s - o) o r
    next = passed_coming board stone values vacant (p ∷ elements 32 rest)
        (subst (λ (l : List ℕ). RankedBelow board stone l (s - o) o r) t.apart state.passed)

    pub passing_here : Here points p s o r
    passing_here =
        let n = next in
        let l = length_board points position in
        record {
          low = omega (arith, n.low);
          few = omega (arith, ranking_few n.ranking values, state.some);
          rank_low = (ranking_small n.ranking values (omega arith)).rank_low;
        }

    pub passing_more : (x : Bool) (v : ℕ) → x ≡ has position.opponent p → v ≡ below (suc (digit x)) p (s + 1 - (o + digit x)) (o + digit x)
        → Passing points position (s + 1) (o + digit x) (r + v) rest
    passing_more x v e h =
        let n = next in
        record {
          within = omega (arith, state.within, t.less);
          some = omega (arith, state.some, digit_lt x);
          passed = passed_more board stone values vacant x v state.some n
              (stone_value points position w p passing_here.low n.stone ∙ ap (λ (y : Bool). suc (digit y)) (sym e)) h;
        }

  pub passing_all : (s o r left : ℕ) → Passing points position s o r left → left ≡ 0 → r ≡ rank board
  passing_all s o r left state z =
      passed_coming board stone values vacant []
      (subst (λ (l : List ℕ). RankedBelow board stone l (s - o) o r) (ap (elements 32) z ∙ elements_none 32) state.passed)
