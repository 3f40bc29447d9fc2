-- `deciding::open_decided` meets its contract. Assumes nothing.
use mathlib.Core.Path.{sym, ◌∙◌}
use lib.ListN.{length}
use Rattle.rules.specs.Ply.{removable}
use Rattle.deciding.proofs.AtRank.{AtRank, at_rank, decided_at, closed_undecided, open_decided_lem}
use Rattle.deciding.proofs.open_decided.Goals as goal
use Rattle.deciding.proofs.open_decided.Goals.{After-unrank-position}

-- the position that is judged
found : (c : After-unrank-position)
    → AtRank (length c.args.tablebase.now) c.args.rings c.args.table c.args.same
    c.args.r c.unrank-position.result
found c =
    at_rank (length c.args.tablebase.now) c.args.rings c.args.table c.args.same c.args.r c.unrank-position.result
    c.requires.fits.0 c.requires.fits.1 c.unrank-position.ensures

pub decided-requires : goal.decided-requires
decided-requires c =
    let w = found (goal.at.decided-requires c).After-unrank-position in record { probing = record { placed = w.placed; reads = w.reads }; masks = c.requires.masks }

pub returns-then-is_open : goal.returns-then-is_open
returns-then-is_open c =
    open_decided_lem (removable c.args.edition) c.args.rings c.args.table c.args.same c.args.r c.args.tablebase.now
    (sym c.is_open.ensures ∙ c.if-is_open.true) c.decided.result
    (c.decided.ensures ∙ decided_at (removable c.args.edition) c.args.rings c.args.table c.args.same c.args.r
    c.args.tablebase.now
    (length c.args.tablebase.now) c.unrank-position.result (found (goal.at.returns-then-is_open c).After-unrank-position))

pub returns : goal.returns
returns c =
    closed_undecided (removable c.args.edition) c.args.rings c.args.table c.args.same c.args.r c.args.tablebase.now
    (sym c.is_open.ensures ∙ c.if-is_open.false)
