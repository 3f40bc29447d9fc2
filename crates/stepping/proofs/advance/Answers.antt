-- `stepping::advance` meets its contract. The invariant: the position is that of the rank reached. Assumes nothing.
use mathlib.Core.Path.{◌≡◌, ap, ◌∙◌}
use Prim.Native.Nat.{ℕ}
use native.Mathlib.Omega.{arith}
use Rattle.board.specs.Board.{position_of}
use Rattle.ranking.specs.Unrank.{unrank as Unrank·unrank}
use Rattle.stepping.proofs.NextPosition.{Ranked, ranked, ranked_more, ranked_next}
use Rattle.stepping.proofs.advance.Goals as goal
use Rattle.stepping.proofs.advance.Goals.{In-loop}

-- the position reached
reached : (c : In-loop) → Ranked c.args.points c.args.mover c.args.opponent c.loop.counter c.loop.at
reached c =
    let a = c.args in
    ranked a.points a.mover a.opponent c.loop.counter c.loop.at (omega arith) c.loop.invariant

pub next-at-requires : goal.next-at-requires
next-at-requires c =
    let a = c.args in
    let r = reached (goal.at.next-at-requires c).In-loop in
    record { points_bound = (c.requires.points_bound.0, r.on); b_bound = ranked_more a.points a.mover a.opponent c.loop.counter c.loop.at r (omega arith) }

pub loop-preserved : goal.loop-preserved
loop-preserved c =
    let a = c.args in
    c.next-at.ensures ∙ ap position_of (ranked_next a.points a.mover a.opponent c.loop.counter c.loop.at (reached (goal.at.loop-preserved c).In-loop))

pub returns : goal.returns
returns c =
    let a = c.args in
    let e : c.loop.counter ≡ a.rank = omega arith in
    c.loop.invariant ∙ ap (λ (k : ℕ). position_of (Unrank·unrank a.points a.mover a.opponent k)) e
