-- `probing::entry_in` meets its contract. Assumes nothing.
use mathlib.Core.Path.{ap}
use Prim.Native.Nat.{ℕ, ◌+◌, ◌<◌}
use native.Mathlib.Omega.{arith}
use lib.ListN.{length, get_or}
use Rattle.probing.proofs.Reading.{place_low}
use borrow.Author.Rules.{rules}
use Rattle.probing.proofs.entry_in.Goals as goal
use Rattle.probing.proofs.entry_in.Goals.{After-rank}

-- the place read is below the length
low : (c : After-rank) → c.args.start + c.rank.result < length c.args.tablebase.now
low c =
    let a = c.args in
    omega (arith, c.rank.ensures, place_low a.rings a.position c.requires.placed a.start (length a.tablebase.now) c.requires.position_in_bounds)

pub overflow_add-result : goal.overflow_add-result
overflow_add-result c = let h = low (goal.at.overflow_add-result c).After-rank in search rules

pub offset_bounds-tablebase-start : goal.offset_bounds-tablebase-start
offset_bounds-tablebase-start c = let h = low (goal.at.offset_bounds-tablebase-start c).After-rank in search rules

pub bounds-tablebase-start : goal.bounds-tablebase-start
bounds-tablebase-start c = low (goal.at.bounds-tablebase-start c).After-rank

pub returns : goal.returns
returns c =
    let a = c.args in
    ap (λ (r : ℕ). get_or a.tablebase.now (a.start + r) 0) c.rank.ensures
