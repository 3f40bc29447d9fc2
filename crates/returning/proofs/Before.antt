-- The positions before a ply on sets: each is placed, stands for a board that the definitions name, and has the counts of the table that is marked.
-- Assumes nothing.
use mathlib.Core.Path.{◌≡◌, refl, sym, ap, subst, ◌∙◌}
use mathlib.Core.List.{List, ◌∷◌, map}
use Prim.Native.Nat.{ℕ, zero, suc, ◌+◌, ◌*◌, ◌≤◌, ◌<◌}
use native.Mathlib.Omega.{arith}
use lib.Count.{ones}
use lib.Dec.{eqb}
use lib.ListN.{get_or, set}
use borrow.Author.Tests.{eqb-true, eq-eqb}
use Rattle.lists.specs.Lists.{values}
use Rattle.sets.specs.Sets.{bit, with, without}
use Rattle.sets.proofs.Laws.{bit_with_other, bit_without_same, bit_without_other, ones_with, ones_without}
use Rattle.sets.proofs.Elements.{bit_low}
use Rattle.board.specs.declared.Position.{Position}
use Rattle.board.specs.Board.{count, digit, set_of, value_at, board_of, OnBoard}
use Rattle.board.proofs.Sides.{length_board}
use Rattle.board.proofs.Stores.{has_set}
use Rattle.board.proofs.OneToOne.{vacant_bits}
use Rattle.inserting.proofs.Puts.{mover_ones, opponent_ones, put_mover_on, put_mover_board, take_mover_on, take_mover_board}
use Rattle.rules.specs.Ply.{exchange}
use Rattle.rules.specs.Predecessors.{unslide}
use Rattle.rules.proofs.Leads.{slide_is}
use Rattle.rules.proofs.OnSets.{set_within}
use Rattle.plies.specs.Inner.Positions.{Placed}
use Rattle.marks.specs.Inner.Putting.{VacantAt, VacantAll}
use Rattle.returning.specs.declared.Back.{Back}
use Rattle.returning.specs.Inner.Returning.{Returning}

-- what stands at a point, by the digits of the two sides, once the sides change names
exchanged : (x y : ℕ) → x + y ≤ 1 → exchange (digit (eqb x 1) + 2 * digit (eqb y 1)) ≡ digit (eqb y 1) + 2 * digit (eqb x 1)
unfolding exchange
exchanged zero zero h = refl
exchanged (suc zero) zero h = refl
exchanged zero (suc zero) h = refl
exchanged zero (suc (suc y)) h = absurd (omega arith)
exchanged (suc zero) (suc y) h = absurd (omega arith)
exchanged (suc (suc x)) y h = absurd (omega arith)

map_values : (g f h : ℕ → ℕ) (n i : ℕ) → ((q : ℕ) → q < i + n → g (f q) ≡ h q) → map g (values f i n) ≡ values h i n
map_values g f h zero i e = refl
map_values g f h (suc n) i e =
    ap (λ (x : ℕ). x ∷ map g (values f (suc i) n)) (e i (omega arith))
    ∙ ap (λ (l : List ℕ). h i ∷ l) (map_values g f h n (suc i) (λ q l. e q (omega arith)))

abbrev sides : ℕ → ℕ → Position
sides m o = record { mover = m; opponent = o }

-- the position with the sides' names changed back
abbrev pub turned : Position → Position
turned position = sides position.opponent position.mover

module _ (rings : ℕ) (position : Position) (placed : Placed rings position) where
  pub turned_placed : Placed rings (turned position)
  turned_placed = record {
    small = placed.small;
    on = record {
      mover_within = placed.on.opponent_within;
      opponent_within = placed.on.mover_within;
      apart = λ q h. omega (arith, placed.on.apart q h);
    };
  }

  pub turned_board : board_of (8 * rings) (turned position) ≡ map (λ v. exchange v) (board_of (8 * rings) position)
  unfolding board_of value_at
  turned_board =
      sym (map_values (λ v. exchange v) (value_at position) (value_at (turned position)) (8 * rings) 0
      (λ q h. exchanged (bit position.mover q) (bit position.opponent q) (placed.on.apart q (omega arith))))

  abbrev board : List ℕ
  board = board_of (8 * rings) position

  few : 8 * rings ≤ 24
  few = omega (arith, placed.small)

  -- who is in the set of the vacant points
  pub vacant_point : (p : ℕ) → bit (set_of 0 board) p ≡ 1 → VacantAt rings position p
  vacant_point p e =
      let l = bit_low (8 * rings) (set_of 0 board) p (set_within rings placed.small board (length_board (8 * rings) position) 0) e in
      let h = subst (λ (n : ℕ). p < n) (sym (length_board (8 * rings) position)) l in
      let z = eqb-true (get_or board p 0) 0 (sym (has_set 0 board p h) ∙ eq-eqb (bit (set_of 0 board) p) 1 e) in
      let v = vacant_bits (8 * rings) position placed.on p l z in
      record { low = l; free = v.0; none = v.1 }

  -- the stone at a point taken off
  module _ (to m : ℕ) (stone : bit position.opponent to ≡ 1) (made : m ≡ without position.opponent to) where
    abbrev pub lifted : Position
    lifted = sides m position.mover

    to_low : to < 8 * rings
    to_low = bit_low (8 * rings) position.opponent to placed.on.opponent_within stone

    to_none : bit position.mover to ≡ 0
    to_none = omega (arith, placed.on.apart to to_low, stone)

    pub lifted_placed : Placed rings lifted
    lifted_placed = record {
      small = placed.small;
      on = subst (λ (k : ℕ). OnBoard (8 * rings) (sides k position.mover)) (sym made)
          (take_mover_on (8 * rings) (turned position) turned_placed.on to to_low to_none);
    }

    -- put down again, it has come from there
    pub lifted_board : (from : ℕ) → set (board_of (8 * rings) lifted) from 1 ≡ unslide (board_of (8 * rings) position) to from
    unfolding unslide
    lifted_board from =
        ap (λ (k : ℕ). set (board_of (8 * rings) (sides k position.mover)) from 1) made
        ∙ ap (λ (b : List ℕ). set b from 1) (take_mover_board (8 * rings) (turned position) turned_placed.on to to_low to_none
        ∙ ap (λ (b : List ℕ). set b to 0) turned_board)
        ∙ sym (slide_is (map (λ v. exchange v) (board_of (8 * rings) position)) to from)

    pub lifted_mover : count 2 (board_of (8 * rings) position) ≡ count 1 (board_of (8 * rings) lifted) + 1
    lifted_mover = omega (
      arith,
      mover_ones (8 * rings) few lifted lifted_placed.on,
      ap ones made,
      ones_without position.opponent to stone,
      opponent_ones (8 * rings) few position placed.on,
    )

    pub lifted_opponent : count 1 (board_of (8 * rings) position) ≡ count 2 (board_of (8 * rings) lifted)
    lifted_opponent = mover_ones (8 * rings) few position placed.on ∙ sym (opponent_ones (8 * rings) few lifted lifted_placed.on)

    -- the vacant points stay vacant
    pub lifted_vacant : (p : ℕ) → VacantAt rings position p → VacantAt rings lifted p
    lifted_vacant p v =
        let there : (p ≡ to → ⊥) = λ i. omega (arith, v.none, ap (λ (q : ℕ). bit position.opponent q) i, stone) in
        record {
          low = v.low;
          free = ap (λ (k : ℕ). bit k p) made ∙ bit_without_other position.opponent to p there ∙ v.none;
          none = v.free;
        }

  -- the stone at a point goes back to a vacant one
  module _ (to from s : ℕ) (stone : bit position.opponent to ≡ 1) (vacant : VacantAt rings position from)
      (made : s ≡ with (without position.opponent to) from) where
    abbrev pub before : Position
    before = sides s position.mover

    abbrev off : Position
    off = sides (without position.opponent to) position.mover

    off_placed : Placed rings off
    off_placed = lifted_placed to (without position.opponent to) stone refl

    apart : from ≡ to → ⊥
    apart e = let z = sym vacant.none ∙ ap (λ (q : ℕ). bit position.opponent q) e ∙ stone in omega arith

    pub before_placed : Placed rings before
    before_placed = record {
      small = placed.small;
      on = subst (λ (m : ℕ). OnBoard (8 * rings) (sides m position.mover)) (sym made)
          (put_mover_on (8 * rings) off off_placed.on from vacant.low vacant.free);
    }

    pub before_board : board_of (8 * rings) before ≡ unslide (board_of (8 * rings) position) to from
    before_board =
        ap (λ (m : ℕ). board_of (8 * rings) (sides m position.mover)) made
        ∙ put_mover_board (8 * rings) off off_placed.on from vacant.low vacant.free
        ∙ lifted_board to (without position.opponent to) stone refl from

    pub before_mover : count 1 (board_of (8 * rings) before) ≡ count 2 (board_of (8 * rings) position)
    before_mover =
        mover_ones (8 * rings) few before before_placed.on ∙ ap ones made
        ∙ ones_with (without position.opponent to) from (bit_without_other position.opponent to from apart ∙ vacant.none)
        ∙ ones_without position.opponent to stone ∙ sym (opponent_ones (8 * rings) few position placed.on)

    pub before_opponent : count 2 (board_of (8 * rings) before) ≡ count 1 (board_of (8 * rings) position)
    before_opponent = opponent_ones (8 * rings) few before before_placed.on ∙ sym (mover_ones (8 * rings) few position placed.on)

    -- the other vacant points stay vacant
    pub others_vacant : VacantAll rings before (without (set_of 0 (board_of (8 * rings) position)) from)
    others_vacant p e =
        let ne : (p ≡ from → ⊥) = λ i. omega (arith, sym e ∙ ap (λ (q : ℕ). bit (without (set_of 0 board) from) q) i ∙ bit_without_same (set_of 0 board) from) in
        let v = vacant_point p (sym (bit_without_other (set_of 0 board) from p ne) ∙ e) in
        let there : (p ≡ to → ⊥) = λ i. omega (arith, v.none, ap (λ (q : ℕ). bit position.opponent q) i, stone) in
        record {
          low = v.low;
          free =
              ap (λ (m : ℕ). bit m p) made ∙ bit_with_other (without position.opponent to) from p ne
              ∙ bit_without_other position.opponent to p there ∙ v.none;
          none = v.free;
        }

-- the positions before a ply, in a tablebase of the same length
pub returning_same : {n m rings : ℕ} {back : Back} {position : Position} → Returning n rings back position → n ≡ m
    → Returning m rings back position
returning_same {n} {m} {rings} {back} {position} w e = subst (λ (k : ℕ). Returning k rings back position) e w
