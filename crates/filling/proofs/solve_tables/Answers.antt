-- `filling::solve_tables` meets its contract. The invariant: what holds before a level, over the tablebase at entry. Assumes nothing.
use mathlib.Core.Path.{◌≡◌, ap, subst, ◌∙◌}
use mathlib.Core.List.{List}
use Prim.Native.Nat.{ℕ, suc, ◌+◌, ◌-◌, ◌<◌}
use native.Mathlib.Omega.{arith}
use lib.ListN.{length}
use Rattle.rules.specs.Ply.{Rule, removable}
use Rattle.rules.proofs.Listed.{TakesOpponent, removable_takes}
use Rattle.game.specs.Game.{draw_entry, void_entry}
use Rattle.outcomes.specs.Pair.{LowerValid}
use Rattle.outcomes.specs.Filled.{BothTables, Kept}
use Rattle.tables.specs.declared.Table.{Table}
use Rattle.depths.specs.Inner.Depths.{WroteBeyond}
use Rattle.pairs.specs.Inner.Pairs.{PairFound, pair_blocked, pair_filled}
use Rattle.filling.specs.Inner.Solve.{Setting}
use Rattle.filling.proofs.PairTables.{first_lies, second_lies, first_fits, second_fits, first_counted, second_counted, pair_kept}
use Rattle.filling.proofs.States.{ExactBelow, State, state_start}
use Rattle.filling.proofs.NextLevel.{in_room, setting_now, state_next}
use Rattle.depths.proofs.Held.{least_void}
use Rattle.invariance.specs.Symmetric.{LowerSymmetric}
use Rattle.invariance.proofs.Groups.{group_of}
use Rattle.invariance.proofs.Plies.{Commutes, removable_commutes}
use Rattle.classing.specs.Inner.Classes.{mover_set, least_of_class}
use Rattle.classing.proofs.Picked.{least_picks}
use Rattle.filling.proofs.PairClasses.{after_classes}
use Rattle.filling.proofs.PairStates.{after_blocked, beyond_limit, within_limit}
use Rattle.filling.proofs.Answered.{all_true, nothing_decided, one_decided, voided}
use Rattle.filling.proofs.solve_tables.Goals as goal
use Rattle.filling.proofs.solve_tables.Goals.{After-level_pair, After-pair_least-level, At-loop-level, Start}

-- what the call is given, and what it says of a tablebase at entry
module _ (s : Start) where
  abbrev rule : Rule
  rule = removable s.args.bounds.edition

  abbrev takes : TakesOpponent (removable s.args.bounds.edition)
  takes = removable_takes s.args.bounds.edition

  abbrev commutes : Commutes (removable s.args.bounds.edition)
  commutes = removable_commutes s.args.bounds.edition

  abbrev rings : ℕ
  rings = s.args.bounds.rings

  abbrev k : ℕ
  k = s.args.bounds.k

  abbrev limit : ℕ
  limit = s.args.bounds.limit

  abbrev first : Table
  first = s.args.tables.first

  abbrev second : Table
  second = s.args.tables.second

  abbrev Tabled : ℕ → Type 0
  Tabled n = Setting n rings k first.mover first.opponent first second

  abbrev Valid : List ℕ → Type 0
  Valid before = LowerValid rings k first.mover first.opponent before

  abbrev Mirrored : List ℕ → Type 0
  Mirrored before = LowerSymmetric s.args.maps rings k first.mover first.opponent before

  abbrev Reached : (before : List ℕ) → Tabled (length before) → Valid before → ℕ → List ℕ → Type 0
  Reached before w valid level now = State rule takes rings k first.mover first.opponent first second before w valid limit level now

-- what holds where the loop begins again
state : (x : At-loop-level) → (0 < x.loop-level.level)
    × Reached x.before.before.before.before.before.before.before.before.before.before x.args.tablebase.now x.requires.pair_solving.setting x.requires.pair_solving.valid x.loop-level.level x.loop-level.tablebase
state x =
    let a = x.args in
    x.loop-level.invariant a.tablebase.now x.requires.pair_solving.setting x.requires.pair_solving.valid x.requires.pair_solving.symmetric (x.sweep_pair.ensures
    ∙ ap (pair_blocked (rings x.before.before.before.before.before.before.before.before.before.before) (first x.before.before.before.before.before.before.before.before.before.before) (second x.before.before.before.before.before.before.before.before.before.before)) x.fill_tables.ensures)

here : (x : At-loop-level) → Tabled x.before.before.before.before.before.before.before.before.before.before (length x.loop-level.tablebase)
here x = setting_now (length x.loop-level.tablebase) (state x).1.kept.same_length x.requires.pair_solving.setting

-- a level is done, over any tablebase at entry
module _ (c : After-level_pair) (before : List ℕ) (w : Tabled c.before.before.before.before.before.before.before.before.before.before.before.before.before (length before)) (valid : Valid c.before.before.before.before.before.before.before.before.before.before.before.before.before before)
    (mirrored : Mirrored c.before.before.before.before.before.before.before.before.before.before.before.before.before before)
    (st : Reached c.before.before.before.before.before.before.before.before.before.before.before.before.before before w valid c.loop-level.level c.loop-level.tablebase) where
  levelled : Kept (rings c.before.before.before.before.before.before.before.before.before.before.before.before.before) (k c.before.before.before.before.before.before.before.before.before.before.before.before.before) (BothTables (first c.before.before.before.before.before.before.before.before.before.before.before.before.before).mover (first c.before.before.before.before.before.before.before.before.before.before.before.before.before).opponent) before
      c.level_pair.new.tablebase
      × ExactBelow (rule c.before.before.before.before.before.before.before.before.before.before.before.before.before) (takes c.before.before.before.before.before.before.before.before.before.before.before.before.before) (rings c.before.before.before.before.before.before.before.before.before.before.before.before.before) (k c.before.before.before.before.before.before.before.before.before.before.before.before.before) (first c.before.before.before.before.before.before.before.before.before.before.before.before.before).mover
      (first c.before.before.before.before.before.before.before.before.before.before.before.before.before).opponent (first c.before.before.before.before.before.before.before.before.before.before.before.before.before)
      (second c.before.before.before.before.before.before.before.before.before.before.before.before.before) before w valid (suc c.loop-level.level) c.level_pair.new.tablebase
  levelled =
      let maps : ℕ = c.args.maps in
      let g = group_of maps c.requires.pair_solving.used in
      after_classes (rule c.before.before.before.before.before.before.before.before.before.before.before.before.before) (takes c.before.before.before.before.before.before.before.before.before.before.before.before.before) (commutes c.before.before.before.before.before.before.before.before.before.before.before.before.before) (rings c.before.before.before.before.before.before.before.before.before.before.before.before.before) (k c.before.before.before.before.before.before.before.before.before.before.before.before.before) (first c.before.before.before.before.before.before.before.before.before.before.before.before.before).mover (first c.before.before.before.before.before.before.before.before.before.before.before.before.before).opponent (first c.before.before.before.before.before.before.before.before.before.before.before.before.before) (second c.before.before.before.before.before.before.before.before.before.before.before.before.before) before w valid maps g
      mirrored (least_of_class (rings c.before.before.before.before.before.before.before.before.before.before.before.before.before) maps) (least_picks (λ b. mover_set b) (rings c.before.before.before.before.before.before.before.before.before.before.before.before.before) w.pair.small maps g) c.loop-level.level
      (state c.before.before.before).0 c.loop-level-test.true (limit c.before.before.before.before.before.before.before.before.before.before.before.before.before) c.loop-level.tablebase st c.level_pair.new.tablebase c.level_pair.ensures

-- the tables are where they were
there : (c : After-level_pair) → Tabled c.before.before.before.before.before.before.before.before.before.before.before.before.before (length c.level_pair.new.tablebase)
there c =
    setting_now (length c.level_pair.new.tablebase)
    (levelled c c.args.tablebase.now c.requires.pair_solving.setting c.requires.pair_solving.valid c.requires.pair_solving.symmetric (state c.before.before.before).1).0.same_length
    c.requires.pair_solving.setting

pub fill_tables-requires : goal.fill_tables-requires
fill_tables-requires c = in_room c.requires.pair_solving.setting

pub sweep_pair-requires : goal.sweep_pair-requires
sweep_pair-requires c =
    let a = c.args in
    let e = pair_kept (rings (goal.at.sweep_pair-requires c).Start) (k (goal.at.sweep_pair-requires c).Start) (first (goal.at.sweep_pair-requires c).Start).mover (first (goal.at.sweep_pair-requires c).Start).opponent (first (goal.at.sweep_pair-requires c).Start) (second (goal.at.sweep_pair-requires c).Start) a.tablebase.now c.requires.pair_solving.setting draw_entry in
    let w = setting_now (length c.fill_tables.new.tablebase) (ap length c.fill_tables.ensures ∙ e.same_length) c.requires.pair_solving.setting in record { masks = c.requires.masks; lies = (first_lies w, second_lies w) }

pub loop-level-init : goal.loop-level-init
loop-level-init c =
    λ before w valid mirrored e. (
      omega arith,
      after_blocked (rule (goal.at.loop-level-init c).Start) (takes (goal.at.loop-level-init c).Start) (rings (goal.at.loop-level-init c).Start) (k (goal.at.loop-level-init c).Start) (first (goal.at.loop-level-init c).Start).mover (first (goal.at.loop-level-init c).Start).opponent (first (goal.at.loop-level-init c).Start) (second (goal.at.loop-level-init c).Start) before w valid (limit (goal.at.loop-level-init c).Start) _
          (state_start (rule (goal.at.loop-level-init c).Start) (takes (goal.at.loop-level-init c).Start) (rings (goal.at.loop-level-init c).Start) (k (goal.at.loop-level-init c).Start) (first (goal.at.loop-level-init c).Start).mover (first (goal.at.loop-level-init c).Start).opponent (first (goal.at.loop-level-init c).Start) (second (goal.at.loop-level-init c).Start) before w valid (limit (goal.at.loop-level-init c).Start)) _ e,
    )

pub level_pair-requires : goal.level_pair-requires
level_pair-requires c =
    let w = here (goal.at.level_pair-requires c).At-loop-level in record {
      masks = c.requires.masks;
      pair_sweeping = record {
        few = (group_of c.args.maps c.requires.pair_solving.used).high;
        first_fits = first_fits w;
        first_counted = first_counted w;
        second_fits = second_fits w;
        second_counted = second_counted w;
        above = (state (goal.at.level_pair-requires c).At-loop-level).0;
        level_low = c.loop-level-test.true;
      };
    }

pub beyond-requires : goal.beyond-requires
beyond-requires c = in_room (there (goal.at.beyond-requires c).After-level_pair)

pub fill_tables-requires-then-beyond : goal.fill_tables-requires-then-beyond
fill_tables-requires-then-beyond c = in_room (there (goal.at.fill_tables-requires-then-beyond c).After-level_pair)

pub returns-then-beyond : goal.returns-then-beyond
returns-then-beyond c =
    let a = c.args in
    let w = levelled (goal.at.returns-then-beyond c).After-level_pair a.tablebase.now c.requires.pair_solving.setting c.requires.pair_solving.valid c.requires.pair_solving.symmetric (state (goal.at.returns-then-beyond c).At-loop-level).1 in
    voided (rule (goal.at.returns-then-beyond c).Start) (rings (goal.at.returns-then-beyond c).Start) (k (goal.at.returns-then-beyond c).Start) (first (goal.at.returns-then-beyond c).Start).mover (first (goal.at.returns-then-beyond c).Start).opponent (first (goal.at.returns-then-beyond c).Start) (second (goal.at.returns-then-beyond c).Start) a.tablebase.now c.level_pair.new.tablebase
    c.fill_tables-then-beyond.new.tablebase c.requires.pair_solving.setting w.0 (limit (goal.at.returns-then-beyond c).Start) _
    (beyond_limit (rule (goal.at.returns-then-beyond c).Start) (takes (goal.at.returns-then-beyond c).Start) (rings (goal.at.returns-then-beyond c).Start) (k (goal.at.returns-then-beyond c).Start) (first (goal.at.returns-then-beyond c).Start).mover (first (goal.at.returns-then-beyond c).Start).opponent (first (goal.at.returns-then-beyond c).Start) (second (goal.at.returns-then-beyond c).Start) a.tablebase.now
    c.requires.pair_solving.setting
    c.requires.pair_solving.valid (limit (goal.at.returns-then-beyond c).Start) c.loop-level.level (state (goal.at.returns-then-beyond c).At-loop-level).0 c.loop-level-test.true c.loop-level.tablebase (state (goal.at.returns-then-beyond c).At-loop-level).1
    c.level_pair.new.tablebase w.1 (subst (WroteBeyond (first (goal.at.returns-then-beyond c).Start) (second (goal.at.returns-then-beyond c).Start) (limit (goal.at.returns-then-beyond c).Start) c.loop-level.level c.level_pair.new.tablebase) c.if-beyond.true
    c.beyond.ensures)) c.fill_tables-then-beyond.ensures

pub shape_of-tablebase-then-beyond : goal.shape_of-tablebase-then-beyond
shape_of-tablebase-then-beyond c = (returns-then-beyond c).kept.same_length

pub pair_least-level-requires : goal.pair_least-level-requires
pair_least-level-requires c =
    (in_room (there (goal.at.pair_least-level-requires c).After-level_pair), c.loop-level-test.true)

pub overflow_add-level : goal.overflow_add-level
overflow_add-level c =
    omega (arith, c.pair_least-level.ensures, least_void (first (goal.at.overflow_add-level c).Start) (second (goal.at.overflow_add-level c).Start) c.loop-level.level c.level_pair.new.tablebase)

-- one level more
stepped : (c : After-pair_least-level) (before : List ℕ) (w : Tabled (goal.at.overflow_add-level c).Start (length before))
    (valid : Valid (goal.at.overflow_add-level c).Start before) → Mirrored (goal.at.overflow_add-level c).Start before
    → Reached (goal.at.overflow_add-level c).Start before w valid c.loop-level.level c.loop-level.tablebase
    → (c.loop-level.level < 1 + c.pair_least-level.result)
    × Reached (goal.at.overflow_add-level c).Start before w valid (1 + c.pair_least-level.result)
    c.level_pair.new.tablebase
stepped c before w valid mirrored st =
    let d = levelled (goal.at.overflow_add-level c).After-level_pair before w valid mirrored st in
    state_next (rule (goal.at.overflow_add-level c).Start) (takes (goal.at.overflow_add-level c).Start) (rings (goal.at.overflow_add-level c).Start) (k (goal.at.overflow_add-level c).Start) (first (goal.at.overflow_add-level c).Start).mover (first (goal.at.overflow_add-level c).Start).opponent (first (goal.at.overflow_add-level c).Start) (second (goal.at.overflow_add-level c).Start) before w valid (limit (goal.at.overflow_add-level c).Start) c.loop-level.level
    (state (goal.at.overflow_add-level c).At-loop-level).0 c.loop-level-test.true c.level_pair.new.tablebase d.0 d.1
    (within_limit (rule (goal.at.overflow_add-level c).Start) (takes (goal.at.overflow_add-level c).Start) (rings (goal.at.overflow_add-level c).Start) (k (goal.at.overflow_add-level c).Start) (first (goal.at.overflow_add-level c).Start).mover (first (goal.at.overflow_add-level c).Start).opponent (first (goal.at.overflow_add-level c).Start) (second (goal.at.overflow_add-level c).Start) before w valid (limit (goal.at.overflow_add-level c).Start)
    c.loop-level.level (state (goal.at.overflow_add-level c).At-loop-level).0
    c.loop-level-test.true c.loop-level.tablebase st c.level_pair.new.tablebase d.1
    (subst (WroteBeyond (first (goal.at.overflow_add-level c).Start) (second (goal.at.overflow_add-level c).Start) (limit (goal.at.overflow_add-level c).Start) c.loop-level.level c.level_pair.new.tablebase) c.if-beyond.false c.beyond.ensures))
    (1 + c.pair_least-level.result) (omega (arith, c.pair_least-level.ensures))

pub loop-level-smaller : goal.loop-level-smaller
loop-level-smaller c =
    let n = stepped (goal.at.loop-level-smaller c).After-pair_least-level c.args.tablebase.now c.requires.pair_solving.setting c.requires.pair_solving.valid c.requires.pair_solving.symmetric (state (goal.at.loop-level-smaller c).At-loop-level).1 in
    omega (arith, n.0, c.loop-level-test.true)

pub loop-level-preserved : goal.loop-level-preserved
loop-level-preserved c =
    λ before s valid mirrored e. let n = stepped (goal.at.loop-level-preserved c).After-pair_least-level before s valid mirrored (c.loop-level.invariant before s valid mirrored e).1 in (omega (arith, n.0), n.1)

pub shape_of-tablebase-then-level-gt-VOID : goal.shape_of-tablebase-then-level-gt-VOID
shape_of-tablebase-then-level-gt-VOID c = (state (goal.at.shape_of-tablebase-then-level-gt-VOID c).At-loop-level).1.kept.same_length

pub returns-then-level-gt-VOID : goal.returns-then-level-gt-VOID
returns-then-level-gt-VOID c =
    let a = c.args in
    all_true (rule (goal.at.returns-then-level-gt-VOID c).Start) (takes (goal.at.returns-then-level-gt-VOID c).Start) (rings (goal.at.returns-then-level-gt-VOID c).Start) (k (goal.at.returns-then-level-gt-VOID c).Start) (first (goal.at.returns-then-level-gt-VOID c).Start).mover (first (goal.at.returns-then-level-gt-VOID c).Start).opponent (first (goal.at.returns-then-level-gt-VOID c).Start) (second (goal.at.returns-then-level-gt-VOID c).Start) a.tablebase.now
    c.requires.pair_solving.setting c.requires.pair_solving.valid (limit (goal.at.returns-then-level-gt-VOID c).Start) c.loop-level.level c.loop-level.tablebase (state (goal.at.returns-then-level-gt-VOID c).At-loop-level).1 ((state (goal.at.returns-then-level-gt-VOID c).At-loop-level).1.over c.if-level-gt-VOID.true)

pub pair_decided-requires : goal.pair_decided-requires
pair_decided-requires c =
    let w = here (goal.at.pair_decided-requires c).At-loop-level in record { masks = c.requires.masks; fits = (first_fits w, second_fits w) }

pub fill_tables-requires-then-pair_decided : goal.fill_tables-requires-then-pair_decided
fill_tables-requires-then-pair_decided c = in_room (here (goal.at.fill_tables-requires-then-pair_decided c).At-loop-level)

pub returns-then-pair_decided : goal.returns-then-pair_decided
returns-then-pair_decided c =
    let a = c.args in
    voided (rule (goal.at.returns-then-pair_decided c).Start) (rings (goal.at.returns-then-pair_decided c).Start) (k (goal.at.returns-then-pair_decided c).Start) (first (goal.at.returns-then-pair_decided c).Start).mover (first (goal.at.returns-then-pair_decided c).Start).opponent (first (goal.at.returns-then-pair_decided c).Start) (second (goal.at.returns-then-pair_decided c).Start) a.tablebase.now c.loop-level.tablebase
    c.fill_tables-then-pair_decided.new.tablebase c.requires.pair_solving.setting (state (goal.at.returns-then-pair_decided c).At-loop-level).1.kept (limit (goal.at.returns-then-pair_decided c).Start) _
    (one_decided (rule (goal.at.returns-then-pair_decided c).Start) (takes (goal.at.returns-then-pair_decided c).Start) (rings (goal.at.returns-then-pair_decided c).Start) (k (goal.at.returns-then-pair_decided c).Start) (first (goal.at.returns-then-pair_decided c).Start).mover (first (goal.at.returns-then-pair_decided c).Start).opponent (first (goal.at.returns-then-pair_decided c).Start) (second (goal.at.returns-then-pair_decided c).Start) a.tablebase.now
    c.requires.pair_solving.setting c.requires.pair_solving.valid (limit (goal.at.returns-then-pair_decided c).Start) c.loop-level.level c.loop-level.tablebase (state (goal.at.returns-then-pair_decided c).At-loop-level).1
    (omega (arith, c.loop-level-test.false, c.requires.pair_solving.limit_low)) (omega (arith, c.if-level-gt-VOID.false))
    (subst (PairFound (rule (goal.at.returns-then-pair_decided c).Start) (rings (goal.at.returns-then-pair_decided c).Start) (first (goal.at.returns-then-pair_decided c).Start) (second (goal.at.returns-then-pair_decided c).Start) c.loop-level.tablebase) c.if-pair_decided.true c.pair_decided.ensures))
    c.fill_tables-then-pair_decided.ensures

pub shape_of-tablebase-then-pair_decided : goal.shape_of-tablebase-then-pair_decided
shape_of-tablebase-then-pair_decided c = (returns-then-pair_decided c).kept.same_length

pub shape_of-tablebase : goal.shape_of-tablebase
shape_of-tablebase c = (state (goal.at.shape_of-tablebase c).At-loop-level).1.kept.same_length

pub returns : goal.returns
returns c =
    let a = c.args in
    nothing_decided (rule (goal.at.returns c).Start) (takes (goal.at.returns c).Start) (rings (goal.at.returns c).Start) (k (goal.at.returns c).Start) (first (goal.at.returns c).Start).mover (first (goal.at.returns c).Start).opponent (first (goal.at.returns c).Start) (second (goal.at.returns c).Start) a.tablebase.now
    c.requires.pair_solving.setting c.requires.pair_solving.valid (limit (goal.at.returns c).Start) c.loop-level.level c.loop-level.tablebase (state (goal.at.returns c).At-loop-level).1
    (omega (arith, c.loop-level-test.false, c.requires.pair_solving.limit_low)) (omega (arith, c.if-level-gt-VOID.false))
    (subst (PairFound (rule (goal.at.returns c).Start) (rings (goal.at.returns c).Start) (first (goal.at.returns c).Start) (second (goal.at.returns c).Start) c.loop-level.tablebase) c.if-pair_decided.false c.pair_decided.ensures)
