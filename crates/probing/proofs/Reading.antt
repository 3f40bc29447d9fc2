-- What a probe reads, by the stones of the side to move, and that the place lies within the tablebase. Assumes nothing.
use mathlib.Core.Path.{◌≡◌, refl, sym, subst}
use mathlib.Core.Bool.{Bool, true, false}
use mathlib.Core.List.{List}
use mathlib.Core.Logic.{inl, inr}
use Prim.Native.Nat.{ℕ, ◌+◌, ◌-◌, ◌*◌, ◌≤◌, ◌<◌}
use native.Mathlib.Omega.{arith}
use lib.Dec.{eqb, ltb}
use lib.ListN.{get_or}
use borrow.Author.Tests.{eq-eqb, ne_eqb, lt-ltb, le-ltb}
use Rattle.board.specs.declared.Position.{Position}
use Rattle.board.specs.Board.{count, board_of}
use Rattle.board.proofs.Sides.{length_board, board_values}
use Rattle.sizes.specs.Size.{size}
use Rattle.ranking.specs.Rank.{rank}
use Rattle.ranking.proofs.Inverse.{rank_low}
use Rattle.rules.proofs.Leads.{MoverLeft, Leads}
use Rattle.plies.specs.Inner.Positions.{Placed}
use Rattle.probing.specs.Inner.Probes.{probe, StonesLeft, Reads}

module _ (tablebase : List ℕ) (same fewer o : ℕ) (b : List ℕ) where
  -- no stone was removed
  pub probe_same : count 1 b ≡ o → probe tablebase same fewer o b ≡ get_or tablebase (same + rank b) 0
  unfolding probe
  probe_same e = rw (eq-eqb (count 1 b) o e, probe)

  -- one of three
  pub probe_two : (count 1 b ≡ o → ⊥) → count 1 b < 3 → probe tablebase same fewer o b ≡ 0
  unfolding probe
  probe_two n h = rw (ne_eqb (count 1 b) o n, lt-ltb (count 1 b) 3 h, probe)

  -- one of more
  pub probe_fewer : (count 1 b ≡ o → ⊥) → 3 ≤ count 1 b → probe tablebase same fewer o b ≡ get_or tablebase (fewer + rank b) 0
  unfolding probe
  probe_fewer n h = rw (ne_eqb (count 1 b) o n, le-ltb (count 1 b) 3 h, probe)

  -- 16 bits, as all entries of the tablebase
  pub probe_small : ((i : ℕ) → get_or tablebase i 0 < 65536) → probe tablebase same fewer o b < 65536
  unfolding probe
  probe_small h = go (eqb (count 1 b) o) refl (ltb (count 1 b) 3) refl
    where
      go : (x : Bool) → eqb (count 1 b) o ≡ x → (y : Bool) → ltb (count 1 b) 3 ≡ y → probe tablebase same fewer o b < 65536
      go true p y q = rw (p, probe) (h (same + rank b))
      go false p true q = rw (p, q, probe) (omega arith)
      go false p false q = rw (p, q, probe) (h (fewer + rank b))

-- the tables that are read lie within the tablebase
module _ {room points m o same fewer : ℕ} (reads : Reads room points m o same fewer) where
  pub same_within : (n : ℕ) → n ≡ o → same + size points n m ≤ room
  same_within n e = subst (λ (x : ℕ). same + size points x m ≤ room) (sym e) reads.same_room

  pub fewer_within : (n : ℕ) → StonesLeft o n → (n ≡ o → ⊥) → 3 ≤ n → fewer + size points n m ≤ room
  fewer_within n (inl e) other h = absurd (other e)
  fewer_within n (inr e) other h =
      let d : o - 1 ≡ n = omega (arith, e) in
      subst (λ (x : ℕ). fewer + size points x m ≤ room) d (reads.fewer_room (omega (arith, e)))

-- the place of a position in a table is below the table's end
pub place_low : (rings : ℕ) (position : Position) → Placed rings position → (start room : ℕ)
    → start + size (8 * rings) (count 1 (board_of (8 * rings) position)) (count 2 (board_of (8 * rings) position)) ≤ room
    → start + rank (board_of (8 * rings) position) < room
place_low rings position placed start room h =
    let b : List ℕ = board_of (8 * rings) position in
    let l : rank b < size (8 * rings) (count 1 b) (count 2 b) =
    subst (λ (n : ℕ). rank b < size n (count 1 b) (count 2 b)) (length_board (8 * rings) position)
    (rank_low b (board_values (8 * rings) position placed.on)) in
    omega (arith, h, l)

-- a ply leaves a side its stones, or all but one
pub left_of : {b c : List ℕ} {removed : ℕ} → Leads b c removed → StonesLeft (count 2 b) (count 1 c)
left_of {b} {c} {removed} l = go l.mover
  where
    go : MoverLeft b c removed → StonesLeft (count 2 b) (count 1 c)
    go (inl q) = inl q.1
    go (inr q) = inr q.1
