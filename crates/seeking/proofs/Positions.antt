-- The position of a rank of a table is placed and stands for the board of that rank; ranks that are passed over. Assumes nothing.
use mathlib.Core.Path.{◌≡◌, sym, ap, subst, ◌∙◌}
use mathlib.Core.Bool.{Bool, false}
use mathlib.Core.List.{List}
use Prim.Native.Nat.{ℕ, ◌*◌, ◌≤◌, ◌<◌, suc}
use native.Mathlib.Decide.{le_ind}
use native.Mathlib.Omega.{arith}
use Rattle.board.specs.declared.Position.{Position}
use Rattle.board.specs.Board.{position_of, board_of, OnBoard}
use Rattle.board.proofs.Sides.{board_position, position_on}
use Rattle.sizes.specs.Size.{size}
use Rattle.ranking.specs.Unrank.{unrank}
use Rattle.ranking.proofs.Inverse.{rank_unrank}
use Rattle.plies.specs.Inner.Positions.{Placed}
use Rattle.finding.specs.Inner.Finding.{First}
use Rattle.seeking.specs.declared.Cursor.{Cursor}
use Rattle.seeking.specs.Inner.Cursors.{Stands}

-- the position of a rank
pub placed_at : (rings : ℕ) → rings ≤ 3 → (m o r : ℕ) → r < size (8 * rings) m o → (p : Position) → p ≡ position_of (unrank (8 * rings) m o r)
    → Placed rings p × (board_of (8 * rings) p ≡ unrank (8 * rings) m o r)
placed_at rings small m o r h p e =
    let b : List ℕ = unrank (8 * rings) m o r in
    let w = rank_unrank (8 * rings) m o r h in (
      record {
        small = small;
        on = subst (λ (q : Position). OnBoard (8 * rings) q) (sym e) (subst (λ (n : ℕ). OnBoard n (position_of b)) w.points (position_on b));
      },
      ap (board_of (8 * rings)) e ∙ ap (λ (n : ℕ). board_of n (position_of b)) (sym w.points) ∙ board_position b w.values,
    )

-- a cursor at a rank stands there
pub stands_at : (rings m o n r : ℕ) (c : Cursor) → c.rank ≡ r → c.position ≡ position_of (unrank (8 * rings) m o r) → Stands rings m o n c
stands_at rings m o n r c e f h = f ∙ ap (λ (i : ℕ). position_of (unrank (8 * rings) m o i)) (sym e)

-- what is passed over changes nothing
pub passed_over : (F : ℕ → List ℕ) (now : List ℕ) (passes : ℕ → Bool) (from end r : ℕ) → First passes from end r
    → ((i : ℕ) → F i ≡ now → passes i ≡ false → F (suc i) ≡ now) → F from ≡ now → F r ≡ now
passed_over F now passes from end r w step e =
    le_ind (λ (k : ℕ). k ≤ r → F k ≡ now) (λ h. e) (λ k i f h. step k (f (omega arith)) (w.none k i (omega arith))) r w.low (omega arith)
