-- `masks::masks_of` meets its contract. The invariant: the neighbours passed are made, and the mills stay. Assumes nothing.
use mathlib.Core.Path.{ap₂, ◌∙◌}
use Prim.Native.Nat.{ℕ, ◌+◌, ◌*◌}
use native.Mathlib.Omega.{arith}
use lib.Bits.{bit_and}
use lib.ListN.{length-set}
use lib.Seq.{get_or-set_other}
use Rattle.lists.proofs.Table.{stored_more}
use Rattle.sets.specs.Sets.{set_from}
use Rattle.geometry.specs.Geometry.{neighbours}
use Rattle.masks.proofs.Derived.{derived_mills, neighbours_cut}
use Rattle.masks.proofs.masks_of.Goals as goal

pub loop-p-preserved : goal.loop-p-preserved
loop-p-preserved c =
    let rings : ℕ = c.args.rings in
    let e = ap₂ bit_and c.all_points-points.ensures c.neighbour_mask.ensures ∙ neighbours_cut rings c.requires c.loop-p.p c.loop-p-test.true in (
      length-set c.loop-p.masks c.loop-p.p _ ∙ c.loop-p.invariant.0,
      stored_more (λ q. set_from (neighbours rings q)) c.loop-p.masks c.loop-p.p _ (omega arith) e c.loop-p.invariant.1,
      λ k h. get_or-set_other c.loop-p.masks c.loop-p.p k _ 0 (λ e. absurd (omega arith)) ∙ c.loop-p.invariant.2 k h,
    )

pub returns : goal.returns
returns c =
    record {
      small = c.requires;
      neighbours = λ p h. c.loop-p.invariant.1 p (omega arith);
      mills = λ p j h l. c.loop-p.invariant.2 (24 + 2 * p + j) (omega arith) ∙ derived_mills c.args.rings c.requires p j h l;
    }
