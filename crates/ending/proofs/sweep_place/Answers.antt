-- `ending::sweep_place` meets its contract. Assumes nothing.
use mathlib.Core.Path.{◌≡◌, sym, ap, ◌∙◌}
use mathlib.Core.List.{List}
use Prim.Native.Nat.{ℕ, ◌*◌}
use Rattle.board.specs.Board.{board_of}
use Rattle.ranking.specs.Unrank.{unrank}
use Rattle.rules.specs.Ply.{blocked}
use Rattle.plies.specs.Inner.Positions.{Placed}
use Rattle.seeking.proofs.Positions.{placed_at}
use Rattle.ending.proofs.Blocked.{place_closed, place_blocked, place_free}
use borrow.Author.Rules.{rules}
use Rattle.ending.proofs.sweep_place.Goals as goal
use Rattle.ending.proofs.sweep_place.Goals.{Start}

-- the position of the rank, and that it is blocked where its board is
found : (s : Start)
    → Placed s.args.rings s.args.position
    × (blocked s.args.rings (board_of (8 * s.args.rings) s.args.position)
    ≡ blocked s.args.rings (unrank (8 * s.args.rings) s.args.table.mover s.args.table.opponent s.args.r))
found s =
    let a = s.args in
    let w = placed_at a.rings s.requires.masks.small a.table.mover a.table.opponent a.r s.requires.lies.1 a.position s.requires.position_value in
    (w.0, ap (λ (b : List ℕ). blocked a.rings b) w.1)

pub blocked-requires : goal.blocked-requires
blocked-requires c = record { masks = c.requires.masks; placed = (found (goal.at.blocked-requires c).Start).0 }

pub returns-then-blocked : goal.returns-then-blocked
returns-then-blocked c =
    let a = c.args in
    c.write_entry.ensures
    ∙ place_blocked a.rings a.table a.r a.tablebase.now (sym c.is_open.ensures ∙ c.if-is_open.true)
    (sym (found (goal.at.returns-then-blocked c).Start).1 ∙ sym c.blocked.ensures ∙ c.if-blocked.true)

pub returns-else-blocked : goal.returns-else-blocked
returns-else-blocked c =
    let a = c.args in
    place_free a.rings a.table a.r a.tablebase.now (sym c.is_open.ensures ∙ c.if-is_open.true)
    (sym (found (goal.at.returns-else-blocked c).Start).1 ∙ sym c.blocked.ensures ∙ c.if-blocked.false)

pub returns-else-is_open : goal.returns-else-is_open
returns-else-is_open c =
    let a = c.args in
    place_closed a.rings a.table a.r a.tablebase.now (sym c.is_open.ensures ∙ c.if-is_open.false)
