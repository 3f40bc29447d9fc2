-- What the conditions say where they do not hold, and what a search for a wrong value answers. Assumes nothing.
use mathlib.Core.Path.{◌≡◌, refl, sym, ap, ◌∙◌}
use mathlib.Core.Bool.{Bool, true, false, cond, not, ◌||◌}
use mathlib.Core.List.{List, [], ◌∷◌}
use Prim.Native.Nat.{ℕ, zero, suc, ◌+◌, ◌-◌, ◌*◌, ◌≤◌, ◌<◌}
use native.Mathlib.Nat.{not-suc-le-zero, le_of_suc-le-suc}
use native.Mathlib.Omega.{arith}
use lib.Dec.{eqb, ltb}
use lib.ListN.{length, get_or, drop}
use lib.Seq.{drop-cons}
use borrow.Author.Tests.{ltb-false, le-ltb, leb-false, le-leb, lt-leb, eqb-true, eq-eqb, not-false}
use Rattle.std.specs.Bool.{MatchBool}
use Rattle.std.specs.List.{AllWithin, HoldsAt}
use Rattle.lists.proofs.Tests.{or_left, or_right, left_or, right_or}
use Rattle.board.specs.Board.{Values, count}
use Rattle.sizes.specs.Size.{size}
use Rattle.refusals.specs.Refusals.{Picked, refusal_table, picked_rows, refusal}
use Rattle.refusals.specs.Conditions.{rings_wrong, edition_wrong, length_wrong, value_wrong, counts_wrong, rank_wrong, target_short, move_wrong}
use Rattle.refusals.specs.Conditions.{board_picks, edition_picks, ruled_picks, stones_picks, counts_picks, rank_picks, short_picks, list_picks, target_picks, move_picks}
use Rattle.refusals.proofs.FirstRefusal.{meets, passes, passed, first_kept, both_passed, one_more}
use Rattle.refusals.proofs.EditionConditions.{RingsFirst, edition_free, edition_passed}

pub rings_right : (rings : ℕ) → rings_wrong rings ≡ false → (1 ≤ rings) × (rings ≤ 3)
rings_right rings e =
    (ltb-false rings 1 (or_left (ltb rings 1) (ltb 3 rings) e), ltb-false 3 rings (or_right (ltb rings 1) (ltb 3 rings) e))

pub length_right : (rings n : ℕ) → length_wrong rings n ≡ false → n ≡ 8 * rings
length_right rings n e = eqb-true n (8 * rings) (not-false (eqb n (8 * rings)) e)

pub values_right : (b : List ℕ) → value_wrong b ≡ false → Values b
unfolding value_wrong
values_right [] e = tt
values_right (x ∷ b) e =
    (ltb-false 2 x (or_left (ltb 2 x) (value_wrong b) e), values_right b (or_right (ltb 2 x) (value_wrong b) e))

-- a value above 2 somewhere, or nowhere
value_found : (b : List ℕ) (k : ℕ) → k < length b → ltb 2 (get_or b k 0) ≡ true → value_wrong b ≡ true
unfolding value_wrong
value_found [] k h e = absurd (not-suc-le-zero h)
value_found (x ∷ b) zero h e = left_or (ltb 2 x) (value_wrong b) e
value_found (x ∷ b) (suc k) h e = right_or (ltb 2 x) (value_wrong b) (value_found b k (le_of_suc-le-suc h) e)

value_none : (b : List ℕ) → ((k : ℕ) → k < length b → ltb 2 (get_or b k 0) ≡ false) → value_wrong b ≡ false
unfolding value_wrong
value_none [] h = refl
value_none (x ∷ b) h = rw (h 0 (omega arith)) (value_none b (λ k l. h (suc k) (omega arith)))

-- what a search for a value above 2 answers
pub values_searched : (t : Bool) (b : List ℕ)
    → MatchBool t ((k : ℕ) × (k < length b) × HoldsAt (λ x. ltb 2 x ≡ true) b k) (AllWithin (λ x. ltb 2 x ≡ false) b 0 (length b))
    → t ≡ value_wrong b
values_searched true b h = sym (value_found b h.0 h.1 (h.2 0))
values_searched false b h = sym (value_none b (λ k l. h k 0 (omega arith) l))

-- what right counts are
pub record RightCounts (points m o : ℕ) : Type 0 where
  pub mover_low : 3 ≤ m
  pub mover_high : m ≤ 9
  pub opponent_low : 3 ≤ o
  pub opponent_high : o ≤ 9
  pub stones_fit : m + o ≤ points

pub counts_right : (points m o : ℕ) → counts_wrong points m o ≡ false → RightCounts points m o
counts_right points m o e =
    let a = ltb m 3 in
    let b = ltb 9 m in
    let c = ltb o 3 in
    let d = ltb 9 o in
    let f = ltb points (m + o) in
    let e4 = or_left (a || b || c || d) f e in
    let e3 = or_left (a || b || c) d e4 in
    let e2 = or_left (a || b) c e3 in
    record {
      mover_low = ltb-false m 3 (or_left a b e2);
      mover_high = ltb-false 9 m (or_right a b e2);
      opponent_low = ltb-false o 3 (or_right (a || b) c e3);
      opponent_high = ltb-false 9 o (or_right (a || b || c) d e4);
      stones_fit = ltb-false points (m + o) (or_right (a || b || c || d) f e);
    }

-- right arguments meet no condition
pub rings_fine : (rings : ℕ) → 1 ≤ rings → rings ≤ 3 → rings_wrong rings ≡ false
rings_fine rings l h = rw (le-ltb rings 1 l, le-ltb 3 rings h)

pub length_fine : (rings n : ℕ) → n ≡ 8 * rings → length_wrong rings n ≡ false
length_fine rings n e = ap not (eq-eqb n (8 * rings) e)

pub values_fine : (b : List ℕ) → Values b → value_wrong b ≡ false
unfolding value_wrong
values_fine [] v = refl
values_fine (x ∷ b) v = rw (le-ltb 2 x v.0) (values_fine b v.1)

pub counts_fine : (points m o : ℕ) → RightCounts points m o → counts_wrong points m o ≡ false
counts_fine points m o w =
    rw (
      le-ltb m 3 w.mover_low,
      le-ltb 9 m w.mover_high,
      le-ltb o 3 w.opponent_low,
      le-ltb 9 o w.opponent_high,
      le-ltb points (m + o) w.stones_fit,
    )

-- an accepted board
pub record Accepted (rings : ℕ) (b : List ℕ) : Type 0 where
  pub rings_low : 1 ≤ rings
  pub rings_high : rings ≤ 3
  pub points : length b ≡ 8 * rings
  pub values : Values b
  pub counted : RightCounts (8 * rings) (count 1 b) (count 2 b)

pub accepted_board : (rings : ℕ) (b : List ℕ) → refusal (board_picks rings b) ≡ 0 → Accepted rings b
accepted_board rings b e =
    let p = passed (picked_rows refusal_table (board_picks rings b)) refl e in
    let r = rings_right rings p.0 in
    record {
      rings_low = r.0;
      rings_high = r.1;
      points = length_right rings (length b) p.1.0;
      values = values_right b p.1.1.0;
      counted = counts_right (8 * rings) (count 1 b) (count 2 b) p.1.1.1.0;
    }

-- and a board that has this meets no condition
pub board_passes : (rings : ℕ) (b : List ℕ) → Accepted rings b → 0 ≡ refusal (board_picks rings b)
board_passes rings b w =
    passes (picked_rows refusal_table (board_picks rings b)) (
      rings_fine rings w.rings_low w.rings_high,
      (
        length_fine rings (length b) w.points,
        (values_fine b w.values, (counts_fine (8 * rings) (count 1 b) (count 2 b) w.counted, tt)),
      ),
    )

-- and so under an edition
pub rings_first : (rings : ℕ) (b : List ℕ) → RingsFirst rings (board_picks rings b)
rings_first rings b = record { no_frame = refl; rings_picked = refl; no_edition = refl }

pub ruled_board : (rings edition : ℕ) (b : List ℕ) → refusal (ruled_picks rings edition b) ≡ 0 → Accepted rings b
ruled_board rings edition b e = accepted_board rings b (edition_passed rings edition (board_picks rings b) (rings_first rings b) e).1

pub ruled_passes : (rings edition : ℕ) (b : List ℕ) → edition_wrong edition ≡ false → Accepted rings b → 0 ≡ refusal (ruled_picks rings edition b)
ruled_passes rings edition b d w = board_passes rings b w ∙ sym (edition_free rings edition (board_picks rings b) (rings_first rings b) d)

-- rings are first with an edition and with counts
pub edition_rings : (rings edition : ℕ) → 0 ≡ refusal (edition_picks rings edition) → rings ≤ 3
edition_rings rings edition e = (rings_right rings (passed (picked_rows refusal_table (edition_picks rings edition)) refl (sym e)).0).1

pub stones_rings : (rings m o : ℕ) → 0 ≡ refusal (stones_picks rings m o) → rings ≤ 3
stones_rings rings m o e = (rings_right rings (passed (picked_rows refusal_table (stones_picks rings m o)) refl (sym e)).0).1

-- a target comes after the counts
module _ (rings m o room : ℕ) where
  pub stones_refused : (n : ℕ) → (n ≡ 0 → ⊥) → n ≡ refusal (stones_picks rings m o) → n ≡ refusal (counts_picks rings m o room)
  stones_refused n z e = first_kept (picked_rows refusal_table (stones_picks rings m o)) (record { holds = length_wrong rings room; number = 6 } ∷ []) n z e

  pub room_decides : 0 ≡ refusal (stones_picks rings m o) → refusal (counts_picks rings m o room) ≡ cond (length_wrong rings room) 6 0
  room_decides e = one_more (picked_rows refusal_table (stones_picks rings m o)) (length_wrong rings room) 6 refl e

-- accepted counts and target
pub record AcceptedCounts (rings m o room : ℕ) : Type 0 where
  pub rings_low : 1 ≤ rings
  pub rings_high : rings ≤ 3
  pub points : room ≡ 8 * rings
  pub counted : RightCounts (8 * rings) m o

pub accepted_counts : (rings m o room : ℕ) → refusal (counts_picks rings m o room) ≡ 0 → AcceptedCounts rings m o room
accepted_counts rings m o room e =
    let p = passed (picked_rows refusal_table (counts_picks rings m o room)) refl e in
    let q = rings_right rings p.0 in
    record {
      rings_low = q.0;
      rings_high = q.1;
      points = length_right rings room p.1.1.0;
      counted = counts_right (8 * rings) m o p.1.0;
    }

-- and an accepted rank besides
pub record AcceptedRank (rings m o r room : ℕ) : Type 0 where
  pub counts : AcceptedCounts rings m o room
  pub rank_low : r < size (8 * rings) m o

pub accepted_rank : (rings m o r room : ℕ) → refusal (rank_picks rings m o r room) ≡ 0 → AcceptedRank rings m o r room
accepted_rank rings m o r room e =
    let p = passed (picked_rows refusal_table (rank_picks rings m o r room)) refl e in
    record {
      counts = accepted_counts rings m o room (sym (passes (picked_rows refusal_table (counts_picks rings m o room)) (p.0, (p.1.0, (p.1.1.0, tt)))));
      rank_low = leb-false (size (8 * rings) m o) r p.1.1.1.0;
    }

-- refused counts or target are refused whatever the rank
pub counts_refused : (rings m o r room n : ℕ) → (n ≡ 0 → ⊥) → n ≡ refusal (counts_picks rings m o room) → n ≡ refusal (rank_picks rings m o r room)
counts_refused rings m o r room n z e =
    first_kept (picked_rows refusal_table (counts_picks rings m o room)) (record { holds = rank_wrong (8 * rings) m o r; number = 5 } ∷ []) n z e

-- where counts and target are accepted, the rank alone decides
module _ (rings m o r room : ℕ) (e : 0 ≡ refusal (counts_picks rings m o room)) where
  pub rank_refused : size (8 * rings) m o ≤ r → 5 ≡ refusal (rank_picks rings m o r room)
  rank_refused h =
      let p = passed (picked_rows refusal_table (counts_picks rings m o room)) refl (sym e) in
      meets (picked_rows refusal_table (rank_picks rings m o r room)) 3 (p.0, (p.1.0, (p.1.1.0, tt))) (le-leb (size (8 * rings) m o) r h)

  pub rank_passed : r < size (8 * rings) m o → 0 ≡ refusal (rank_picks rings m o r room)
  rank_passed h =
      let p = passed (picked_rows refusal_table (counts_picks rings m o room)) refl (sym e) in
      passes (picked_rows refusal_table (rank_picks rings m o r room)) (p.0, (p.1.0, (p.1.1.0, (lt-leb (size (8 * rings) m o) r h, tt))))

-- a frame target comes after the board
module _ (rings : ℕ) (b : List ℕ) (room needed : ℕ) where
  pub short_refused : (n : ℕ) → (n ≡ 0 → ⊥) → n ≡ refusal (board_picks rings b) → n ≡ refusal (short_picks rings b room needed)
  short_refused n z e = first_kept (picked_rows refusal_table (board_picks rings b)) (record { holds = target_short room needed; number = 7 } ∷ []) n z e

  pub short_decides : 0 ≡ refusal (board_picks rings b) → refusal (short_picks rings b room needed) ≡ cond (target_short room needed) 7 0
  short_decides e = one_more (picked_rows refusal_table (board_picks rings b)) (target_short room needed) 7 refl e

-- so does a move list, under an edition
module _ (rings edition : ℕ) (b : List ℕ) where
  abbrev rows : List Picked
  rows = picked_rows refusal_table (ruled_picks rings edition b)

  module _ (room needed : ℕ) where
    pub list_refused : (n : ℕ) → (n ≡ 0 → ⊥) → n ≡ refusal (ruled_picks rings edition b) → n ≡ refusal (list_picks rings edition b room needed)
    list_refused n z e = first_kept rows (record { holds = target_short room needed; number = 7 } ∷ []) n z e

    pub list_decides : 0 ≡ refusal (ruled_picks rings edition b) → refusal (list_picks rings edition b room needed) ≡ cond (target_short room needed) 7 0
    list_decides e = one_more rows (target_short room needed) 7 refl e

  -- and a target board
  module _ (room : ℕ) where
    pub target_refused : (n : ℕ) → (n ≡ 0 → ⊥) → n ≡ refusal (ruled_picks rings edition b) → n ≡ refusal (target_picks rings edition b room)
    target_refused n z e = first_kept rows (record { holds = length_wrong rings room; number = 6 } ∷ []) n z e

    pub target_decides : 0 ≡ refusal (ruled_picks rings edition b) → refusal (target_picks rings edition b room) ≡ cond (length_wrong rings room) 6 0
    target_decides e = one_more rows (length_wrong rings room) 6 refl e

    -- and a move after that
    pub move_refused : (move n : ℕ) → (n ≡ 0 → ⊥) → n ≡ refusal (target_picks rings edition b room) → n ≡ refusal (move_picks rings edition b move room)
    move_refused move n z e =
        first_kept (picked_rows refusal_table (target_picks rings edition b room))
        (record { holds = move_wrong rings edition b move; number = 8 } ∷ []) n z e

    pub move_decides : (move : ℕ) → 0 ≡ refusal (target_picks rings edition b room)
        → refusal (move_picks rings edition b move room) ≡ cond (move_wrong rings edition b move) 8 0
    move_decides move e = one_more (picked_rows refusal_table (target_picks rings edition b room)) (move_wrong rings edition b move) 8 refl e

    pub accepted_target : refusal (target_picks rings edition b room) ≡ 0 → Accepted rings b × (room ≡ 8 * rings)
    accepted_target e =
        let last : List Picked = record { holds = length_wrong rings room; number = 6 } ∷ [] in
        let p = both_passed rows last refl e in
        (ruled_board rings edition b p.0, length_right rings room (passed last refl p.1).0)

-- an accepted board has 24 points at the most
pub few_points : (rings : ℕ) (b : List ℕ) → Accepted rings b → length b ≤ 24
few_points rings b w = omega (arith, w.points, w.rings_high)
