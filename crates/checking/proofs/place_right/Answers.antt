-- `checking::place_right` meets its contract. Assumes nothing.
use mathlib.Core.Path.{◌∙◌}
use Prim.Native.Nat.{◌+◌, ◌<◌}
use native.Mathlib.Omega.{arith}
use lib.ListN.{length}
use Rattle.rules.specs.Ply.{removable}
use Rattle.rules.proofs.Listed.{removable_takes}
use Rattle.checking.proofs.Places.{place_within, position_placed, successors_read, right_here}
use Rattle.checking.proofs.place_right.Goals as goal
use Rattle.checking.proofs.place_right.Goals.{Start}

pub returns : goal.returns
returns c =
    let a = c.args in
    let p = c.requires.whole in
    c.right.ensures
    ∙ right_here (length a.tablebase.now) a.kind p.0 a.table a.same p.1 a.at p.2
    (removable a.kind.edition) (removable_takes a.kind.edition) a.tablebase.now

-- the entry lies within the tablebase
within : (s : Start) → s.args.table.own.start + s.args.at.rank < length s.args.tablebase.now
within s =
    let p = s.requires.whole in
    place_within (length s.args.tablebase.now) s.args.kind p.0 s.args.table s.args.same p.1 s.args.at p.2

pub overflow_add-entry : goal.overflow_add-entry
overflow_add-entry c = omega (arith, within (goal.at.overflow_add-entry c).Start)

pub offset_bounds-tablebase-own : goal.offset_bounds-tablebase-own
offset_bounds-tablebase-own c = omega (arith, within (goal.at.offset_bounds-tablebase-own c).Start)

pub bounds-tablebase-own : goal.bounds-tablebase-own
bounds-tablebase-own c = within (goal.at.bounds-tablebase-own c).Start

pub right-requires : goal.right-requires
right-requires c =
    let a = c.args in
    let p = c.requires.whole in record {
      probing = record {
        placed = position_placed (length a.tablebase.now) a.kind p.0 a.table a.same p.1 a.at p.2;
        reads = successors_read (length a.tablebase.now) a.kind p.0 a.table a.same p.1 a.at p.2;
      };
      masks = c.requires.masks;
    }
