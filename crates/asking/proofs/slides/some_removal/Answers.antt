-- `asking::slides::some_removal` meets its contract. Assumes nothing.
use mathlib.Core.Path.{sym, ◌∙◌}
use Prim.Native.Nat.{◌+◌, ◌*◌}
use native.Mathlib.Omega.{arith}
use Rattle.sets.proofs.Passing.{Sought, sought_none, sought_more, sought_found, sought_all}
use Rattle.board.specs.Board.{board_of}
use Rattle.rules.specs.Ply.{after_ply}
use Rattle.asking.specs.Inner.Questions.{entry_asked}
use Rattle.asking.proofs.slides.some_removal.Goals as goal

pub loop-left-init : goal.loop-left-init
loop-left-init c = sought_none _ c.args.removals c.ranges.removals.fits

pub take_lowest-removed-requires : goal.take_lowest-removed-requires
take_lowest-removed-requires c = c.loop-left-test.true

pub overflow_add-slide : goal.overflow_add-slide
overflow_add-slide c = omega (arith, c.requires.removing.small, c.take_lowest-removed.ensures.low)

pub leads-requires : goal.leads-requires
leads-requires c =
    record {
      probing = c.requires.probing;
      makeable = c.requires.removing.makeable c.take_lowest-removed.result.lowest
          (c.loop-left.invariant.among c.take_lowest-removed.result.lowest c.take_lowest-removed.ensures.member);
    }

pub returns-then-leads : goal.returns-then-leads
returns-then-leads c =
    sought_found _ c.args.removals c.loop-left.left c.take_lowest-removed.result.lowest c.take_lowest-removed.result.rest c.loop-left.invariant
    c.take_lowest-removed.ensures (sym c.leads.ensures ∙ c.if-leads.true)

pub loop-left-smaller : goal.loop-left-smaller
loop-left-smaller c = omega (arith, c.take_lowest-removed.ensures.less)

pub loop-left-preserved : goal.loop-left-preserved
loop-left-preserved c =
    sought_more _ c.args.removals c.loop-left.left c.take_lowest-removed.result.lowest c.take_lowest-removed.result.rest c.loop-left.invariant
    c.take_lowest-removed.ensures (sym c.leads.ensures ∙ c.if-leads.false)

pub returns : goal.returns
returns c = sought_all _ c.args.removals c.loop-left.left c.loop-left.invariant c.loop-left-test.false
