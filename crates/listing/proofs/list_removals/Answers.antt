-- `listing::list_removals` meets its contract. Assumes nothing.
use mathlib.Core.Path.{refl, ap, ◌∙◌}
use mathlib.Core.List.{List, [], ◌∷◌}
use Prim.Native.Nat.{ℕ, ◌+◌, ◌≤◌}
use native.Mathlib.Omega.{arith}
use borrow.Author.Rules.{rules}
use lib.ListN.{length, length-map}
use lib.Seq.{sets}
use Rattle.sets.specs.Sets.{elements}
use Rattle.sets.proofs.Passing.{Written, written_none, written_more, written_all, written_room, each_map}
use Rattle.listing.proofs.list_removals.Goals as goal
use Rattle.listing.proofs.list_removals.Goals.{After-take_lowest-p}

-- there is room for one number more
room : (c : After-take_lowest-p) → c.loop-left.k + 1 ≤ length c.loop-left.list
room c =
    let a = c.args in
    let e = each_map (λ p. a.base + p) (elements 32 a.removals) in
    written_room _ a.list.now a.at a.removals c.loop-left.list c.loop-left.k c.loop-left.left c.take_lowest-p.result.lowest
    c.take_lowest-p.result.rest
    c.loop-left.invariant c.take_lowest-p.ensures
    (omega (arith, c.requires.1, ap length e, length-map (elements 32 a.removals) (λ p. a.base + p)))

pub loop-left-init : goal.loop-left-init
loop-left-init c = written_none _ c.args.list.now c.args.at c.args.removals c.ranges.removals.fits

pub take_lowest-p-requires : goal.take_lowest-p-requires
take_lowest-p-requires c = c.loop-left-test.true

pub overflow_add-list : goal.overflow_add-list
overflow_add-list c = omega (arith, c.requires.0, c.take_lowest-p.ensures.low)

pub overflow_cast-list : goal.overflow_cast-list
overflow_cast-list c = omega (arith, c.requires.0, c.take_lowest-p.ensures.low)

pub offset_bounds-list-k : goal.offset_bounds-list-k
offset_bounds-list-k c = let h = room (goal.at.offset_bounds-list-k c).After-take_lowest-p in search rules

pub bounds-list-k : goal.bounds-list-k
bounds-list-k c = omega (arith, room (goal.at.bounds-list-k c).After-take_lowest-p)

pub overflow_add-k : goal.overflow_add-k
overflow_add-k c = let h = room (goal.at.overflow_add-k c).After-take_lowest-p in search rules

pub loop-left-smaller : goal.loop-left-smaller
loop-left-smaller c = omega (arith, c.take_lowest-p.ensures.less)

pub loop-left-preserved : goal.loop-left-preserved
loop-left-preserved c =
    let a = c.args in
    written_more _ a.list.now a.at a.removals c.loop-left.list c.loop-left.k c.loop-left.left c.take_lowest-p.result.lowest
    c.take_lowest-p.result.rest _ _
    c.loop-left.invariant c.take_lowest-p.ensures refl refl

pub shape_of-list : goal.shape_of-list
shape_of-list c = c.loop-left.invariant.writing.long

pub returns : goal.returns
returns c =
    let a = c.args in
    let r = written_all _ a.list.now a.at a.removals c.loop-left.list c.loop-left.k c.loop-left.left c.loop-left.invariant c.loop-left-test.false in
    let e = each_map (λ p. a.base + p) (elements 32 a.removals) in (
      r.0 ∙ ap (λ (l : List ℕ). a.at + length l) e ∙ ap (λ (n : ℕ). a.at + n) (length-map (elements 32 a.removals) (λ p. a.base + p)),
      r.1
          ∙ ap (sets a.list.now a.at) e,
    )
