-- The tables that plies from a table lead to, and its room for the positions before theirs. Assumes nothing.
use mathlib.Core.Path.{refl}
use mathlib.Core.Bool.{Bool, true, false}
use Prim.Native.Nat.{ℕ, ◌+◌, ◌*◌, ◌≤◌}
use native.Mathlib.Omega.{arith}
use Rattle.board.specs.Board.{digit}
use Rattle.tables.specs.declared.Table.{Table}
use Rattle.marks.specs.Inner.Putting.{Room}
use Rattle.deciding.specs.Inner.Fits.{Lies}
use Rattle.layers.specs.declared.Source.{Source}
use Rattle.sweeping.specs.Inner.Levels.{LeadsTo, same_source, lower_source}

-- the tables that plies from t lead to
pub same_leads : (t : Table) (same : ℕ) → LeadsTo t (same_source t same) false
same_leads t same = record { mover_is = refl; opponent_is = omega arith }

pub lower_leads : (t : Table) → 3 ≤ t.opponent → LeadsTo t (lower_source t) true
lower_leads t h = record { mover_is = refl; opponent_is = omega arith }

-- and so has a table for those before the tables that its plies lead to
pub room_of : (rings n : ℕ) (t : Table) (s : Source) (capture : Bool) → LeadsTo t s capture → Lies (8 * rings) t n
    → Room (8 * rings) s.opponent (s.mover + digit capture) t.own.start t.own.end n
room_of rings n t s capture leads w = rw (leads.mover_is, leads.opponent_is) w
