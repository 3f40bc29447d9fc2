-- `sweeping::level_table` meets its contract. Assumes nothing.
use mathlib.Core.Path.{sym, ap, subst, ◌∙◌}
use mathlib.Core.Bool.{true, false}
use Prim.Native.Nat.{ℕ, ◌-◌, ◌*◌}
use native.Mathlib.Omega.{arith}
use lib.ListN.{length}
use Rattle.sizes.specs.Size.{size}
use Rattle.rules.specs.Ply.{removable}
use Rattle.deciding.specs.Inner.Fits.{Fits}
use Rattle.sweeping.specs.Inner.Levels.{same_source, lower_source}
use Rattle.sweeping.proofs.Sources.{room_of, same_leads, lower_leads}
use Rattle.classing.specs.Inner.Classes.{least_of_class}
use Rattle.layers.proofs.Marked.{from_length}
use Rattle.sweeping.proofs.Steps.{level_is}
use borrow.Author.Rules.{rules}
use Rattle.sweeping.proofs.level_table.Goals as goal
use Rattle.sweeping.proofs.level_table.Goals.{After-mark_table}

-- the tables fit, by the length that marks leave
fits-once : (c : After-mark_table)
    → Fits (length c.mark_table.new.tablebase) c.args.maps.rings
    c.args.sweep.table
    c.args.sweep.same
fits-once c =
    let a = c.args in
    let p = c.requires.sweeping.0 in
    subst (λ (n : ℕ). Fits n a.maps.rings a.sweep.table a.sweep.same) (sym (ap length c.mark_table.ensures
    ∙ from_length a.maps.rings a.sweep.table.own.start (same_source a.sweep.table a.sweep.same) false (a.sweep.level - 1)
    (least_of_class a.maps.rings a.maps.count)
    a.tablebase.now
    (size (8 * a.maps.rings) a.sweep.table.opponent a.sweep.table.mover))) p.fits

pub returns : goal.returns
returns c =
    let a = c.args in
    level_is (removable a.sweep.edition) a.maps.rings a.sweep.table a.sweep.same a.sweep.level a.maps.count
    (least_of_class a.maps.rings a.maps.count)
    a.tablebase.now c.mark_table.new.tablebase
    c.mark_table-2.new.tablebase c.judge_marked.new.tablebase
    c.mark_table.ensures c.mark_table-2.ensures c.judge_marked.ensures

pub mark_table-requires : goal.mark_table-requires
mark_table-requires c =
    let a = c.args in
    let p = c.requires.sweeping.0 in
    let k = c.requires.sweeping.1 in record {
      masks = c.requires.masks;
      preceding = record {
        few = p.few;
        room = room_of a.maps.rings (length a.tablebase.now) a.sweep.table (same_source a.sweep.table a.sweep.same) false
            (same_leads a.sweep.table a.sweep.same) record { whole = p.fits.end_is; within = p.fits.room };
        mover_most = k.opponent_most;
        opponent_most = k.mover_most;
        stored = λ h. p.fits.reads.same_room;
        depth_low = omega (arith, p.level_low);
      };
    }

pub mark_table-requires-2 : goal.mark_table-requires-2
mark_table-requires-2 c =
    let a = c.args in
    let p = c.requires.sweeping.0 in
    let n = c.requires.sweeping.1 in
    let f = fits-once (goal.at.mark_table-requires-2 c).After-mark_table in record {
      masks = c.requires.masks;
      preceding = record {
        few = p.few;
        room = room_of a.maps.rings (length c.mark_table.new.tablebase) a.sweep.table (lower_source a.sweep.table) true
            (lower_leads a.sweep.table n.opponent_least) record { whole = f.end_is; within = f.room };
        mover_most = omega (arith, n.opponent_most);
        opponent_most = n.mover_most;
        stored = λ h. f.reads.fewer_room (omega arith);
        depth_low = omega (arith, p.level_low);
      };
    }

pub judge_marked-requires : goal.judge_marked-requires
judge_marked-requires c =
    let a = c.args in
    let p = c.requires.sweeping.0 in record {
      masks = c.requires.masks;
      sweeping = record {
        few = p.few;
        fits = subst (λ (n : ℕ). Fits n a.maps.rings a.sweep.table a.sweep.same) (sym (ap length c.mark_table-2.ensures
            ∙ from_length a.maps.rings a.sweep.table.own.start (lower_source a.sweep.table) true (a.sweep.level - 1)
            (least_of_class a.maps.rings a.maps.count) c.mark_table.new.tablebase
            (size (8 * a.maps.rings) (a.sweep.table.opponent - 1) a.sweep.table.mover))) (fits-once (goal.at.judge_marked-requires c).After-mark_table);
        level_low = p.level_low;
      };
    }
