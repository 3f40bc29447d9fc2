-- `filling::solve_tables` meets its contract. The invariant: what holds before a level, over the tablebase at entry. Assumes nothing.
use mathlib.Core.Path.{◌≡◌, ap, subst, ◌∙◌}
use mathlib.Core.List.{List}
use Prim.Native.Nat.{ℕ, suc, ◌+◌, ◌-◌, ◌<◌}
use native.Mathlib.Omega.{arith}
use lib.ListN.{length}
use Rattle.rules.specs.Ply.{Rule, removable}
use Rattle.rules.proofs.Listed.{TakesOpponent, removable_takes}
use Rattle.game.specs.Game.{draw_entry, void_entry}
use Rattle.outcomes.specs.Pair.{LowerValid}
use Rattle.outcomes.specs.Filled.{BothTables, Kept}
use Rattle.tables.specs.declared.Table.{Table}
use Rattle.depths.specs.Inner.Depths.{WroteBeyond}
use Rattle.pairs.specs.Inner.Pairs.{PairFound, pair_blocked, pair_filled}
use Rattle.filling.specs.Inner.Solve.{Setting}
use Rattle.filling.proofs.PairTables.{first_lies, second_lies, first_fits, second_fits, first_counted, second_counted, pair_kept}
use Rattle.filling.proofs.States.{ExactBelow, State, state_start}
use Rattle.filling.proofs.NextLevel.{in_room, setting_now, state_next}
use Rattle.depths.proofs.Held.{least_void}
use Rattle.invariance.specs.Symmetric.{LowerSymmetric}
use Rattle.invariance.proofs.Groups.{group_of}
use Rattle.invariance.proofs.Plies.{Commutes, removable_commutes}
use Rattle.classing.specs.Inner.Classes.{mover_set, least_of_class}
use Rattle.classing.proofs.Picked.{least_picks}
use Rattle.filling.proofs.PairClasses.{after_classes}
use Rattle.filling.proofs.PairStates.{after_blocked, beyond_limit, within_limit}
use Rattle.filling.proofs.Answered.{all_true, nothing_decided, one_decided, voided}
use Rattle.filling.proofs.solve_tables.Given as goal

abbrev pub invariant-loop-level : goal.invariant-loop-level
invariant-loop-level l =
    (before : List ℕ) (s : Setting (length before) l.bounds.rings l.bounds.k l.tables.first.mover l.tables.first.opponent l.tables.first
    l.tables.second) (valid : LowerValid l.bounds.rings l.bounds.k l.tables.first.mover l.tables.first.opponent before)
    → LowerSymmetric l.maps l.bounds.rings l.bounds.k l.tables.first.mover l.tables.first.opponent before
    → l.initial.tablebase ≡ pair_blocked l.bounds.rings l.tables.first l.tables.second (pair_filled l.tables.first l.tables.second draw_entry before)
    → (0 < l.level) × State (removable l.bounds.edition) (removable_takes l.bounds.edition) l.bounds.rings l.bounds.k l.tables.first.mover
    l.tables.first.opponent l.tables.first
    l.tables.second before s valid l.bounds.limit l.level l.tablebase

abbrev pub decreases-loop-level : goal.decreases-loop-level
decreases-loop-level l = void_entry - l.level
