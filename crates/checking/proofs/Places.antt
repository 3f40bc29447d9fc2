-- The position that a cursor stands at: its entry lies within the tablebase, its successors can be read, and what is read of them tells whether the
-- entry is right. Assumes nothing.
use mathlib.Core.Path.{◌≡◌, sym, ap, ap₂, subst₂, ◌∙◌}
use mathlib.Core.List.{List, map, Memᴰ}
use Prim.Native.Nat.{ℕ, ◌+◌, ◌*◌, ◌≤◌, ◌<◌}
use native.Mathlib.Omega.{arith}
use lib.ListN.{get_or}
use Rattle.lists.proofs.Members.{map_same}
use Rattle.board.specs.Board.{count, position_of, board_of}
use Rattle.sizes.specs.Size.{size}
use Rattle.ranking.specs.Unrank.{unrank}
use Rattle.ranking.proofs.Inverse.{rank_unrank}
use Rattle.layout.specs.Layout.{start}
use Rattle.layout.proofs.OneToOne.{InRange, end_is, end_within}
use Rattle.rules.specs.Ply.{Rule, successors}
use Rattle.rules.proofs.Listed.{TakesOpponent}
use Rattle.plies.specs.Inner.Positions.{Placed}
use Rattle.outcomes.specs.Places.{successor_entry}
use Rattle.outcomes.proofs.Ranked.{unrank_in}
use Rattle.outcomes.proofs.Entries.{entry_unrank}
use Rattle.tables.specs.declared.Table.{Table}
use Rattle.tables.specs.Inner.Tables.{Located}
use Rattle.probing.specs.Inner.Probes.{probe, Reads}
use Rattle.probing.proofs.Probed.{reads_within, probed}
use Rattle.seeking.specs.declared.Cursor.{Cursor}
use Rattle.seeking.proofs.Positions.{placed_at}
use Rattle.certificate.specs.Right.{right}
use Rattle.certificate.specs.Certificate.{entry_right}
use Rattle.certificate.proofs.Outcomes.{entry_right_lem}
use Rattle.checking.specs.declared.Kind.{Kind}
use Rattle.checking.specs.Inner.Checking.{Whole, TableOf, StandsIn}

-- a located table and the start of the other, and a cursor at one of its ranks
module _ (kind : Kind) (m o : ℕ) (t : Table) (located : Located (8 * kind.rings) kind.k m o t) where
  pub table_is : (3 ≤ m) × (m ≤ kind.k) × (3 ≤ o) × (o ≤ kind.k) → (same : ℕ) → same ≡ start (8 * kind.rings) kind.k o m
      → TableOf kind t.mover t.opponent t same
  table_is b same e =
      subst₂ (λ (x y : ℕ). TableOf kind x y t same) (sym located.mover_is) (sym located.opponent_is)
      record { bounds = b; located = located; same_is = e }

  pub board_here : (at : Cursor) (r : ℕ) → at.rank ≡ r → unrank (8 * kind.rings) t.mover t.opponent at.rank ≡ unrank (8 * kind.rings) m o r
  board_here at r e = rw (e, located.mover_is, located.opponent_is)

  pub stands_in : (at : Cursor) (r : ℕ) → r < size (8 * kind.rings) m o → at.rank ≡ r → at.position ≡ position_of (unrank (8 * kind.rings) m o r)
      → StandsIn kind t at
  stands_in at r h e f = record {
    rank_low = rw (e, located.mover_is, located.opponent_is) h;
    position_is = f ∙ sym (ap position_of (board_here at r e));
  }

module _ (n : ℕ) (kind : Kind) (whole : Whole n kind) (t : Table) (same : ℕ) (is : TableOf kind t.mover t.opponent t same)
    (at : Cursor) (stands : StandsIn kind t at) where
  abbrev points : ℕ
  points = 8 * kind.rings

  -- the board that the cursor stands at
  abbrev here : List ℕ
  here = unrank points t.mover t.opponent at.rank

  in_range : InRange kind.k t.mover t.opponent
  in_range = record {
    mover_low = is.bounds.0;
    mover_high = is.bounds.1;
    opponent_low = is.bounds.2;
    opponent_high = is.bounds.3;
  }

  pub place_within : t.own.start + at.rank < n
  place_within = omega (
    arith,
    whole.exact,
    is.located.start_is,
    end_is points kind.k t.mover t.opponent,
    end_within points kind.k in_range,
    stands.rank_low,
  )

  placed : Placed kind.rings at.position × (board_of points at.position ≡ here)
  placed = placed_at kind.rings whole.small t.mover t.opponent at.rank stands.rank_low at.position stands.position_is

  pub position_placed : Placed kind.rings at.position
  position_placed = placed.0

  mover_is : count 1 (board_of points at.position) ≡ t.mover
  mover_is = ap (count 1) placed.1 ∙ (rank_unrank points t.mover t.opponent at.rank stands.rank_low).mover

  opponent_is : count 2 (board_of points at.position) ≡ t.opponent
  opponent_is = ap (count 2) placed.1 ∙ (rank_unrank points t.mover t.opponent at.rank stands.rank_low).opponent

  pub successors_read : Reads n points (count 1 (board_of points at.position)) (count 2 (board_of points at.position)) same t.lower.start
  successors_read =
      rw (mover_is, opponent_is, is.same_is, is.located.lower_start_is)
      (reads_within points kind.k t.mover t.opponent in_range n whole.exact)

  module _ (rule : Rule) (takes : TakesOpponent rule) (now : List ℕ) where
    pub right_here : right (get_or now (t.own.start + at.rank) 0)
        (map (λ b. probe now same t.lower.start (count 2 (board_of points at.position)) b) (successors rule kind.rings (board_of points at.position)))
        ≡ entry_right rule kind.rings kind.k now here
    right_here = ap₂ right
        (ap (λ (s : ℕ). get_or now (s + at.rank) 0) is.located.start_is
        ∙ sym (entry_unrank kind.rings kind.k t.mover t.opponent at.rank now stands.rank_low))
        (ap₂ (λ (y : ℕ) (b : List ℕ). map (λ c. probe now same t.lower.start y c) (successors rule kind.rings b)) opponent_is placed.1
        ∙ map_same (λ c. probe now same t.lower.start t.opponent c) (λ c. successor_entry kind.rings kind.k now c)
        (successors rule kind.rings here) read)
        ∙ sym (entry_right_lem rule kind.rings kind.k now here)
      where
        read : (c : List ℕ) → Memᴰ c (successors rule kind.rings here)
            → probe now same t.lower.start t.opponent c ≡ successor_entry kind.rings kind.k now c
        read c m =
            rw (is.same_is, is.located.lower_start_is)
            (probed rule takes kind.rings kind.k t.mover t.opponent whole.small is.bounds.2 here
            (unrank_in kind.rings t.mover t.opponent at.rank stands.rank_low) now c m)
