-- The successors of the position of a rank of a table can be read, and what is read of them is what a level goes by. Assumes nothing.
use mathlib.Core.Path.{◌≡◌, sym, ap, ap₂, subst, ◌∙◌}
use mathlib.Core.Bool.{Bool, true, false}
use mathlib.Core.List.{List}
use Prim.Native.Nat.{ℕ, ◌*◌, ◌<◌}
use Rattle.board.specs.declared.Position.{Position}
use Rattle.board.specs.Board.{position_of, board_of, count}
use Rattle.sizes.specs.Size.{size}
use Rattle.ranking.specs.Unrank.{unrank}
use Rattle.ranking.proofs.Inverse.{rank_unrank}
use Rattle.rules.specs.Ply.{Rule, successors}
use Rattle.plies.specs.Inner.Positions.{Placed}
use Rattle.game.specs.Judgement.{hit, decided}
use Rattle.tables.specs.declared.Table.{Table}
use Rattle.probing.specs.Inner.Probes.{probe, Reads}
use Rattle.seeking.proofs.Positions.{placed_at}
use Rattle.deciding.specs.Inner.Fits.{Fits}
use Rattle.deciding.specs.Inner.Open.{is_open, board_at, judged, open_decided}

pub record AtRank (n rings : ℕ) (t : Table) (same r : ℕ) (p : Position) : Type 0 where
  pub placed : Placed rings p
  pub board_is : board_of (8 * rings) p ≡ board_at rings t same r
  pub opponent_is : count 2 (board_of (8 * rings) p) ≡ t.opponent
  pub reads : Reads n (8 * rings) (count 1 (board_of (8 * rings) p)) (count 2 (board_of (8 * rings) p)) same t.lower.start

pub at_rank : (n rings : ℕ) (t : Table) (same r : ℕ) (p : Position) → Fits n rings t same → r < size (8 * rings) t.mover t.opponent
    → p ≡ position_of (unrank (8 * rings) t.mover t.opponent r) → AtRank n rings t same r p
at_rank n rings t same r p f h e =
    let w = rank_unrank (8 * rings) t.mover t.opponent r h in
    let (placed, is) = placed_at rings f.small t.mover t.opponent r h p e in
    record {
      placed = placed;
      board_is = is;
      opponent_is = ap (count 2) is ∙ w.opponent;
      reads = subst (λ (x : ℕ). Reads n (8 * rings) x (count 2 (board_of (8 * rings) p)) same t.lower.start) (sym (ap (count 1) is ∙ w.mover))
          (subst (λ (y : ℕ). Reads n (8 * rings) t.mover y same t.lower.start) (sym (ap (count 2) is ∙ w.opponent)) f.reads);
    }

module _ (rule : Rule) (rings : ℕ) (t : Table) (same r : ℕ) (now : List ℕ) where
  -- what was read of the successors is what the level goes by
  module _ (n : ℕ) (p : Position) (w : AtRank n rings t same r p) where
    pub hit_at : (level : ℕ) → hit (successors rule rings) (λ b. probe now same t.lower.start (count 2 (board_of (8 * rings) p)) b) level
        (board_of (8 * rings) p)
        ≡ hit (successors rule rings) (judged rings t same now) level (board_at rings t same r)
    hit_at level = ap₂ (λ (y : ℕ) (c : List ℕ). hit (successors rule rings) (λ b. probe now same t.lower.start y b) level c)
        w.opponent_is w.board_is

    pub decided_at : decided (successors rule rings) (λ b. probe now same t.lower.start (count 2 (board_of (8 * rings) p)) b)
        (board_of (8 * rings) p)
        ≡ decided (successors rule rings) (judged rings t same now) (board_at rings t same r)
    decided_at = ap₂ (λ (y : ℕ) (c : List ℕ). decided (successors rule rings) (λ b. probe now same t.lower.start y b) c)
        w.opponent_is w.board_is

  pub closed_undecided : is_open t now r ≡ false → false ≡ open_decided rule rings t same now r
  unfolding open_decided
  closed_undecided e = rw (e, open_decided)

  pub open_decided_lem : is_open t now r ≡ true → (d : Bool) → d ≡ decided (successors rule rings) (judged rings t same now) (board_at rings t same r)
      → d ≡ open_decided rule rings
      t same now r
  unfolding open_decided
  open_decided_lem e d h = rw (e, open_decided) h
