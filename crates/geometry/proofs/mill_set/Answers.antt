-- `geometry::mill_set` meets its contract: the table's three points are the mill. Assumes nothing.
use mathlib.Core.Path.{sym, ap, ◌∙◌}
use native.Mathlib.Omega.{arith}
use Rattle.sets.specs.Sets.{set_from}
use Rattle.geometry.proofs.Geometry.{mill_list, mill_points}
use Rattle.geometry.proofs.mill_set.Goals as goal

pub of_three-requires : goal.of_three-requires
of_three-requires c =
    let w = mill_points c.args.mill c.requires in (
      omega (arith, c.mill_point.ensures, w.0),
      omega (arith, c.mill_point-2.ensures, w.1),
      omega (arith, c.mill_point-3.ensures, w.2),
    )

pub returns : goal.returns
returns c =
    c.of_three.ensures
    ∙ ap set_from (rw (c.mill_point.ensures, c.mill_point-2.ensures, c.mill_point-3.ensures)
    (sym (mill_list c.args.mill c.requires)))
