-- The boards before a ply of one stone on a position's sets, by where a removed stone may have stood. Assumes nothing.
use mathlib.Core.Path.{◌≡◌, refl, sym, ap, ap₂, ◌∙◌}
use mathlib.Core.Bool.{Bool, true, false, not}
use mathlib.Core.List.{List, [], ◌∷◌, map, Memᴰ}
use Prim.Native.Nat.{ℕ, ◌*◌}
use native.Mathlib.Omega.{arith}
use lib.Dec.{eqb}
use lib.ListN.{set}
use borrow.Author.Tests.{ne_eqb, eqb-false}
use Rattle.lists.specs.Lists.{keep, each}
use Rattle.lists.proofs.Members.{keep_member, member_keep, map_same}
use Rattle.lists.proofs.Rises.{rising_keep, rising_same}
use Rattle.lists.proofs.Tests.{clash}
use Rattle.sets.specs.Sets.{bit, with, without, elements}
use Rattle.sets.proofs.Laws.{bit_without_same, bit_without_other}
use Rattle.sets.proofs.Elements.{elements_is, is_element, elements_rising}
use Rattle.board.specs.declared.Position.{Position}
use Rattle.board.specs.Board.{set_of, board_of}
use Rattle.board.proofs.Sides.{length_board}
use Rattle.rules.specs.Predecessors.{unslide, restored}
use Rattle.rules.proofs.OnSets.{holding_set}
use Rattle.plies.specs.Inner.Positions.{Placed}
use Rattle.marks.specs.Inner.Putting.{VacantAt}
use Rattle.marks.proofs.Marking.{each_one}
use Rattle.returning.proofs.Before.{lifted, lifted_board, before, before_board}

-- the elements of a set with one point less
elements_without : (n s p : ℕ) → elements n (without s p) ≡ keep (λ q. not (eqb q p)) (elements n s)
elements_without n s p =
    rising_same (elements n (without s p)) (keep (λ q. not (eqb q p)) (elements n s)) (elements_rising n (without s p))
    (rising_keep _ (elements n s) (elements_rising n s)) there back
  where
    there : (q : ℕ) → Memᴰ q (elements n (without s p)) → Memᴰ q (keep (λ q. not (eqb q p)) (elements n s))
    there q m =
        let e = elements_is n (without s p) q m in
        let ne : (q ≡ p → ⊥) = λ i. omega (arith, sym e.1 ∙ ap (λ (k : ℕ). bit (without s p) k) i ∙ bit_without_same s p) in
        member_keep (λ q. not (eqb q p)) (elements n s) (is_element n s q e.0 (sym (bit_without_other s p q ne) ∙ e.1)) (ap not (ne_eqb q p ne))

    back : (q : ℕ) → Memᴰ q (keep (λ q. not (eqb q p)) (elements n s)) → Memᴰ q (elements n (without s p))
    back q m = go (keep_member (λ q. not (eqb q p)) (elements n s) m) (eqb q p) refl
      where
        go : Memᴰ q (elements n s) × (not (eqb q p) ≡ true) → (b : Bool) → eqb q p ≡ b → Memᴰ q (elements n (without s p))
        go k true e = clash k.1 (ap not e)
        go k false e = let i = elements_is n s q k.0 in is_element n (without s p) q i.0 (bit_without_other s p q (eqb-false q p e) ∙ i.1)

-- where the removed stone may have stood
pub restored_none : (rings : ℕ) (c : List ℕ) (to from : ℕ) → restored false rings c to from ≡ unslide c to from ∷ []
unfolding restored
restored_none rings c to from = refl

module _ (rings : ℕ) (position : Position) (placed : Placed rings position) where
  abbrev board : List ℕ
  board = board_of (8 * rings) position

  restored_one : (to from : ℕ)
      → restored true rings board to from ≡ map (λ p. set (unslide board to from) p 2) (elements 32 (without (set_of 0 board) from))
  unfolding restored
  restored_one to from =
      ap (λ (l : List ℕ). map (λ p. set (unslide board to from) p 2) l)
      (ap (keep (λ p. not (eqb p from))) (holding_set rings placed.small board (length_board (8 * rings) position) 0)
      ∙ sym (elements_without 32 (set_of 0 board) from))

  pub restored_given : (to from s : ℕ) (stone : bit position.opponent to ≡ 1) (vacant : VacantAt rings position from)
      (made : s ≡ with (without position.opponent to) from) (others : ℕ) → others ≡ without (set_of 0 board) from
      → map (λ p. set (board_of (8 * rings) (before rings position placed to from s stone vacant made)) p 2) (elements 32 others)
      ≡ restored true rings board to from
  restored_given to from s stone vacant made others e =
      ap₂ (λ (b : List ℕ) (o : ℕ). map (λ p. set b p 2) (elements 32 o)) (before_board rings position placed to from s stone vacant made) e
      ∙ sym (restored_one to from)

  -- none was removed: the stone is put down at each point that it may have come from
  pub lifted_given : (to m : ℕ) (stone : bit position.opponent to ≡ 1) (made : m ≡ without position.opponent to) (froms : List ℕ)
      → map (λ from. set (board_of (8 * rings) (lifted rings position placed to m stone made)) from 1) froms
      ≡ each (λ from. restored false rings board to from) froms
  unfolding restored
  lifted_given to m stone made froms =
      map_same (λ from. set (board_of (8 * rings) (lifted rings position placed to m stone made)) from 1) (unslide board to) froms
      (λ from e. lifted_board rings position placed to m stone made from)
      ∙ sym (each_one (unslide board to) froms)
