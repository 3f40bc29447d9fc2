-- `settling::judge_place` meets its contract. Assumes nothing.
use native.Mathlib.Omega.{arith}
use mathlib.Core.Path.{sym, ap, ap₂, ◌∙◌}
use Prim.Native.Nat.{ℕ, ◌+◌, ◌*◌}
use lib.ListN.{length}
use Rattle.board.specs.Board.{count, board_of}
use Rattle.sizes.specs.Size.{size}
use Rattle.ranking.proofs.Inverse.{rank_unrank}
use Rattle.rules.specs.Ply.{removable}
use Rattle.deciding.proofs.AtRank.{AtRank, at_rank, hit_at}
use Rattle.settling.proofs.Judged.{judged_hit, judged_miss}
use borrow.Author.Rules.{rules}
use Rattle.settling.proofs.judge_place.Goals as goal
use Rattle.settling.proofs.judge_place.Goals.{Start}

-- the position that is judged
found : (s : Start)
    → AtRank (length s.args.tablebase.now) s.args.maps.rings s.args.sweep.table s.args.sweep.same s.args.at.rank
    s.args.at.position
found s =
    let a = s.args in
    let p = s.requires.sweeping in
    at_rank (length a.tablebase.now) a.maps.rings a.sweep.table a.sweep.same a.at.rank a.at.position p.0.fits
    p.1.low p.1.position_is

pub overflow_cast-level : goal.overflow_cast-level
overflow_cast-level c = omega (arith, c.requires.sweeping.0.level_low)

pub hits-requires : goal.hits-requires
hits-requires c =
    let w = found (goal.at.hits-requires c).Start in record { probing = record { placed = w.placed; reads = w.reads }; masks = (c.requires.masks, c.requires.sweeping.0.level_low) }

pub returns-then-hits : goal.returns-then-hits
returns-then-hits c =
    let a = c.args in
    let w = found (goal.at.returns-then-hits c).Start in
    c.write_images.ensures
    ∙ judged_hit (removable a.sweep.edition) a.maps.rings a.sweep.table a.sweep.same a.sweep.level a.maps.count a.at.rank
    a.tablebase.now c.requires.sweeping.1.marked
    (sym (hit_at (removable a.sweep.edition) a.maps.rings a.sweep.table a.sweep.same a.at.rank a.tablebase.now
    (length a.tablebase.now)
    a.at.position w a.sweep.level)
    ∙ sym c.hits.ensures ∙ c.if-hits.true) (board_of (8 * a.maps.rings) a.at.position) w.board_is

pub write_images-requires : goal.write_images-requires
write_images-requires c =
    let a = c.args in
    let w = found (goal.at.write_images-requires c).Start in
    let f = c.requires.sweeping.0 in
    let m = ap (count 1) w.board_is
    ∙ (rank_unrank (8 * a.maps.rings) a.sweep.table.mover a.sweep.table.opponent a.at.rank c.requires.sweeping.1.low).mover in record {
      imaging = record { small = f.fits.small; few = f.few; on = w.placed.on };
      in_table = record {
        within = f.fits.room;
        whole = f.fits.end_is ∙ ap₂ (λ (x y : ℕ). a.sweep.table.own.start + size (8 * a.maps.rings) x y) (sym m) (sym w.opponent_is);
      };
    }

pub returns : goal.returns
returns c =
    let a = c.args in
    let w = found (goal.at.returns c).Start in
    c.write_entry.ensures
    ∙ judged_miss (removable a.sweep.edition) a.maps.rings a.sweep.table a.sweep.same a.sweep.level a.maps.count a.at.rank
    a.tablebase.now c.requires.sweeping.1.marked
    (sym (hit_at (removable a.sweep.edition) a.maps.rings a.sweep.table a.sweep.same a.at.rank a.tablebase.now
    (length a.tablebase.now)
    a.at.position w a.sweep.level)
    ∙ sym c.hits.ensures ∙ c.if-hits.false)
