-- `halving::ahead` meets its contract. Assumes nothing.
use mathlib.Core.Path.{ap, ◌∙◌}
use Prim.Native.Nat.{◌*◌}
use native.Mathlib.Omega.{arith}
use Rattle.board.specs.Board.{position_of}
use Rattle.stepping.proofs.NextPosition.{Ranked, ranked, ranked_more, ranked_next}
use Rattle.halving.proofs.ahead.Goals as goal
use Rattle.halving.proofs.ahead.Goals.{Then-r-end}

-- the position of rank r
known : (c : Then-r-end)
    → Ranked (8 * c.args.rings) c.args.mover c.args.opponent c.args.r c.args.position
known c =
    let a = c.args in
    ranked (8 * a.rings) a.mover a.opponent a.r a.position (omega (arith, c.requires.rings_bound.1, c.requires.rings_bound.2)) c.requires.position_value

pub next-requires : goal.next-requires
next-requires c =
    let a = c.args in record { points_bound = (omega (arith, c.requires.rings_bound.0), (known (goal.at.next-requires c).Then-r-end).on); b_bound = ranked_more (8 * a.rings) a.mover a.opponent a.r a.position (known (goal.at.next-requires c).Then-r-end) (omega (arith, c.if-r-end.true, c.requires.rings_bound.2)) }

pub returns-then-r-end : goal.returns-then-r-end
returns-then-r-end c h =
    let a = c.args in
    c.next.ensures ∙ ap position_of (ranked_next (8 * a.rings) a.mover a.opponent a.r a.position (known (goal.at.returns-then-r-end c).Then-r-end))

pub returns : goal.returns
returns c h = absurd (omega (arith, h, c.if-r-end.false))
