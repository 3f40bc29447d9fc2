-- `entries::best_of` meets its contract: the mover is blocked, or a successor is void, or the best move by the successors' entries. Assumes nothing.
use mathlib.Core.Path.{◌≡◌, sym, ap₂, ◌∙◌}
use mathlib.Core.Bool.{false}
use mathlib.Core.List.{List, [], ◌∷◌}
use Prim.Native.Nat.{ℕ, ◌*◌}
use native.Mathlib.Omega.{arith}
use lib.ListN.{length}
use Rattle.board.specs.Board.{board_of}
use Rattle.rules.specs.Ply.{removable, blocked}
use Rattle.rules.proofs.Listed.{removable_takes}
use Rattle.outcomes.specs.Places.{successor_void}
use Rattle.probing.specs.Inner.Conditions.{Probing}
use Rattle.answers.specs.Answers.{accepted}
use Rattle.entries.proofs.Chosen.{Starting, reads_of, void_of, move_of, entry_of, blocked_choice, void_choice, move_choice}
use Rattle.entries.proofs.best_of.Goals as goal
use Rattle.entries.proofs.best_of.Goals.{After-starts_of-starts, After-void_after, Start}

abbrev board : (s : Start) → List ℕ
board s = board_of (8 * s.args.rings) s.args.position

starts : (c : After-starts_of-starts)
    → Starting c.args.rings c.args.k (board (goal.at.void_after-requires c).Start) c.starts_of-starts.result.same c.starts_of-starts.result.fewer
starts c = record { same_is = c.starts_of-starts.ensures.same; fewer_is = c.starts_of-starts.ensures.fewer }

-- the mover has a move, and the successors can be read
some : (c : After-starts_of-starts) → blocked c.args.rings (board (goal.at.void_after-requires c).Start) ≡ false
some c = sym c.blocked.ensures ∙ c.if-blocked.false

probed : (c : After-starts_of-starts)
    → Probing (length c.args.tablebase.now) c.args.rings c.starts_of-starts.result
    c.args.position
probed c =
    let w = c.requires.0 in
    record {
      placed = w.placed;
      reads = reads_of (removable c.args.edition) (removable_takes c.args.edition) c.args.rings c.args.k c.args.position w
          c.args.tablebase.now (starts c);
    }

-- what was asked is whether a successor is void
void : (c : After-void_after)
    → successor_void (removable c.args.edition) c.args.rings c.args.k
    c.args.tablebase.now (board c.before.before.before.before.before.before)
    ≡ c.void_after.result
void c =
    sym (c.void_after.ensures
    ∙ void_of (removable c.args.edition) (removable_takes c.args.edition) c.args.rings c.args.k c.args.position c.requires.0
    c.args.tablebase.now (starts (record { before = c.before.before; type_inv = record { tablebase = c.shared_slice_known-1.given } })))

pub returns-then-blocked : goal.returns-then-blocked
returns-then-blocked c =
    let a = c.args in
    blocked_choice (removable a.edition) a.rings a.k a.tablebase.now (board_of (8 * a.rings) a.position)
    (sym c.blocked.ensures ∙ c.if-blocked.true)

pub void_after-requires : goal.void_after-requires
void_after-requires c =
    record { probing = probed (goal.at.void_after-requires c).After-starts_of-starts; masks = c.requires.1 }

pub returns-then-void_after : goal.returns-then-void_after
returns-then-void_after c =
    let a = c.args in
    void_choice (removable a.edition) a.rings a.k a.tablebase.now (board (goal.at.returns-then-void_after c).Start) (some (goal.at.returns-then-void_after c).After-starts_of-starts) (void (goal.at.returns-then-void_after c).After-void_after ∙ c.if-void_after.true)

pub best_move-requires : goal.best_move-requires
best_move-requires c =
    let w = c.requires in record {
      none_void = record { probing = probed (goal.at.best_move-requires c).After-starts_of-starts; told = sym c.void_after.ensures ∙ c.if-void_after.false };
      choosing = record {
        masks = w.1;
        some = some (goal.at.best_move-requires c).After-starts_of-starts;
        mover_most = omega (arith, w.0);
        opponent_least = omega (arith, w.0);
        opponent_most = omega (arith, w.0);
      };
    }

pub returns : goal.returns
returns c =
    let a = c.args in
    let w = c.requires.0 in
    let rule = removable a.edition in
    let takes = removable_takes a.edition in
    ap₂ (λ (m r : ℕ). accepted (m ∷ r ∷ []))
    (c.best_move.ensures.number ∙ move_of rule takes a.rings a.k a.position w a.tablebase.now (starts (goal.at.returns c).After-starts_of-starts))
    (c.best_move.ensures.entry ∙ entry_of rule takes a.rings a.k a.position w a.tablebase.now (starts (goal.at.returns c).After-starts_of-starts) (some (goal.at.returns c).After-starts_of-starts))
    ∙ move_choice (removable a.edition) a.rings a.k a.tablebase.now (board (goal.at.returns c).Start) (some (goal.at.returns c).After-starts_of-starts) (void (goal.at.returns c).After-void_after ∙ c.if-void_after.false)
