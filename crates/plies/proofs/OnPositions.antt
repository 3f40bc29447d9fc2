-- What the functions on a position find is what the definitions say of its board. Assumes nothing.
use mathlib.Core.Path.{◌≡◌, sym, ap, ◌∙◌}
use mathlib.Core.Bool.{true, false}
use mathlib.Core.List.{List}
use Prim.Native.Nat.{ℕ, ◌*◌, ◌^◌, ◌<◌}
use native.Mathlib.Nat.{lt_of_lt_of_le}
use native.Mathlib.Omega.{arith}
use lib.ListN.{length, get_or}
use lib.Pow.{pow_mono}
use borrow.Author.Tests.{eq-eqb, ne_eqb}
use Rattle.lists.specs.Lists.{or_else}
use Rattle.sets.specs.Sets.{has, with, without, set_from}
use Rattle.sets.proofs.Elements.{from_none, from_first, from_second, from_elements}
use Rattle.board.specs.declared.Position.{Position}
use Rattle.board.specs.Board.{board_of}
use Rattle.board.proofs.Sides.{length_board}
use Rattle.board.proofs.OneToOne.{mover_set_lem, opponent_set, mover_at, vacant_at}
use Rattle.plies.specs.Inner.Positions.{Placed, Slide}
use Rattle.rules.specs.Ply.{holds, in_mill, slide, removable, removals}
use Rattle.rules.proofs.OnSets.{unshielded_of, shielded_of, removable_set, removals_open, removals_closed, removals_idle, removable_slide, in_mill_slide}

module _ (rings : ℕ) (position : Position) (placed : Placed rings position) where
  abbrev board : List ℕ
  board = board_of (8 * rings) position

  whole : length board ≡ 8 * rings
  whole = length_board (8 * rings) position

  pub opponent_small : position.opponent < 2 ^ 24
  opponent_small = lt_of_lt_of_le placed.on.opponent_within (pow_mono {i = 8 * rings} {j = 24} (omega (arith, placed.small)))

  pub mover_small : position.mover < 2 ^ 24
  mover_small = lt_of_lt_of_le placed.on.mover_within (pow_mono {i = 8 * rings} {j = 24} (omega (arith, placed.small)))

  -- what may be removed by the rule of an edition
  module _ (edition : ℕ) where
    removable_is : set_from (removable edition rings board)
        ≡ set_from (or_else (unshielded_of rings position.opponent) (shielded_of edition position.opponent))
    removable_is =
        ap set_from (removable_set edition rings placed.small board whole
        ∙ ap (λ (s : ℕ). or_else (unshielded_of rings s) (shielded_of edition s)) (opponent_set (8 * rings) position placed.on))

    -- some stones stand outside any mill
    pub removable_free : (set_from (unshielded_of rings position.opponent) ≡ 0 → ⊥)
        → set_from (removable edition rings board) ≡ set_from (unshielded_of rings position.opponent)
    removable_free n = removable_is ∙ from_first (unshielded_of rings position.opponent) (shielded_of edition position.opponent) n

    -- all stand in mills
    removable_shielded : set_from (unshielded_of rings position.opponent) ≡ 0
        → set_from (removable edition rings board) ≡ set_from (shielded_of edition position.opponent)
    removable_shielded e = removable_is ∙ from_second (unshielded_of rings position.opponent) (shielded_of edition position.opponent) e

    pub removable_nothing : set_from (unshielded_of rings position.opponent) ≡ 0 → edition ≡ 2 → set_from (removable edition rings board) ≡ 0
    removable_nothing e two = removable_shielded e ∙ rw (eq-eqb edition 2 two, shielded_of) from_none

    pub removable_all : set_from (unshielded_of rings position.opponent) ≡ 0 → (edition ≡ 2 → ⊥)
        → set_from (removable edition rings board) ≡ position.opponent
    removable_all e other =
        removable_shielded e ∙ rw (ne_eqb edition 2 other, shielded_of)
        (from_elements 32 position.opponent (lt_of_lt_of_le opponent_small (pow_mono {i = 24} {j = 32} (omega arith))))

  -- a slide of one of the mover's stones to a vacant point
  module _ (from to : ℕ) (slides : Slide rings position from to) where
    pub from_low : from < 8 * rings
    from_low = (mover_at (8 * rings) position placed.on from slides.own).0

    own_at : get_or board from 0 ≡ 1
    own_at = (mover_at (8 * rings) position placed.on from slides.own).1

    to_vacant : get_or board to 0 ≡ 0
    to_vacant = vacant_at (8 * rings) position placed.on to slides.low slides.free slides.none

    abbrev moved : ℕ
    moved = with (without position.mover from) to

    closes : in_mill rings (holds (slide board from to) 1) to ≡ in_mill rings (λ q. has moved q) to
    closes =
        in_mill_slide rings placed.small board whole from to from_low slides.low own_at to_vacant
        ∙ ap (λ (s : ℕ). in_mill rings (λ q. has (with (without s from) to) q) to) (mover_set_lem (8 * rings) position placed.on)

    module _ (edition : ℕ) where
      same : set_from (removable edition rings (slide board from to)) ≡ set_from (removable edition rings board)
      same = ap set_from (removable_slide rings placed.small board whole from to from_low slides.low own_at to_vacant edition)

      pub removed_none : in_mill rings (λ q. has moved q) to ≡ false → 2 ^ 31 ≡ set_from (removals (removable edition) rings (slide board from to) to)
      removed_none e = sym (removals_open (removable edition) rings (slide board from to) to (closes ∙ e))

      pub removed_one : in_mill rings (λ q. has moved q) to ≡ true → (set_from (removable edition rings board) ≡ 0 → ⊥)
          → set_from (removable edition rings board) ≡ set_from (removals (removable edition) rings (slide board from to) to)
      removed_one e n = sym (removals_closed (removable edition) rings (slide board from to) to (closes ∙ e) (λ z. n (sym same ∙ z)) ∙ same)

      pub removed_idle : in_mill rings (λ q. has moved q) to ≡ true → set_from (removable edition rings board) ≡ 0
          → 2 ^ 31 ≡ set_from (removals (removable edition) rings (slide board from to) to)
      removed_idle e z = sym (removals_idle (removable edition) rings (slide board from to) to (closes ∙ e) (same ∙ z))
