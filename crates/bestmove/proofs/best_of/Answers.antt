-- `bestmove::best_of` meets its contract. Assumes nothing.
use mathlib.Core.List.{List}
use mathlib.Core.Path.{◌≡◌, sym, ap, subst, ◌∙◌}
use Prim.Native.Nat.{ℕ, ◌+◌, ◌-◌, ◌*◌, ◌<◌}
use native.Mathlib.Omega.{arith}
use lib.ListN.{length, get_or, take, drop}
use lib.Seq.{get_or-take, get_or-drop}
use Rattle.lists.proofs.Members.{get_d_member}
use Rattle.board.specs.Board.{count, board_of}
use Rattle.rules.specs.Ply.{after_ply}
use Rattle.rules.specs.Inner.Making.{Makeable}
use Rattle.probing.proofs.Reading.{probe_small}
use Rattle.bestmove.specs.Inner.Worth.{entry_by}
use Rattle.bestmove.proofs.Running.{running_none, running_more, running_all}
use Rattle.bestmove.proofs.best_of.Goals as goal
use Rattle.bestmove.proofs.best_of.Goals.{Start, In-loop-number}

-- each place holds a move that can be made
makeable : (c : Start) (i : ℕ) → i < length c.args.moves.now
    → Makeable c.args.rings (board_of (8 * c.args.rings) c.args.position) (get_or c.args.moves.now i 0)
makeable c i h = c.requires.candidates.makeable (get_or c.args.moves.now i 0) (get_d_member c.args.moves.now i 0 h)

pub bounds-moves-0 : goal.bounds-moves-0
bounds-moves-0 c = c.requires.candidates.some

pub with_entry-best-requires : goal.with_entry-best-requires
with_entry-best-requires c =
    record { probing = c.requires.probing; makeable = makeable (goal.at.with_entry-best-requires c).Start 0 c.requires.candidates.some }

pub loop-number-init : goal.loop-number-init
loop-number-init c =
    let e = c.with_entry-best.ensures in running_none _ _ c.with_entry-best.result e.0 e.1

-- the moves after the first
next : (ms : List ℕ) (k : ℕ) → k < length ms - 1 → get_or (take (length ms - 1) (drop 1 ms)) k 0 ≡ get_or ms (k + 1) 0
next ms k h =
    get_or-take (length ms - 1) (drop 1 ms) k 0 h ∙ get_or-drop 1 ms k 0 ∙ ap (λ (i : ℕ). get_or ms i 0) (omega arith)

here : (c : In-loop-number)
    → get_or (take (length c.args.moves.now - 1) (drop 1 c.args.moves.now)) c.loop-number.number-index 0
    ≡ get_or c.args.moves.now (c.loop-number.number-index + 1) 0
here c = next c.args.moves.now c.loop-number.number-index (omega arith)

pub with_entry-next-requires : goal.with_entry-next-requires
with_entry-next-requires c =
    let a = c.args in
    record {
      probing = c.requires.probing;
      makeable = subst (Makeable a.rings (board_of (8 * a.rings) a.position)) (sym (here (goal.at.with_entry-next-requires c).In-loop-number))
          (makeable (goal.at.with_entry-next-requires c).Start (c.loop-number.number-index + 1) (omega arith));
    }

pub loop-number-preserved : goal.loop-number-preserved
loop-number-preserved c =
    let a = c.args in
    let b : List ℕ = board_of (8 * a.rings) a.position in
    let f : ℕ → ℕ = λ m. entry_by a.tablebase.now a.starts.same a.starts.fewer b m in
    let e = c.with_entry-next.ensures in
    let h = here (goal.at.loop-number-preserved c).In-loop-number in
    running_more f a.moves.now (c.loop-number.number-index + 1) c.loop-number.best c.with_entry-next.result (omega arith)
    c.loop-number.invariant (e.0 ∙ h) (e.1 ∙ ap f h) c.better-best.result c.better-best.ensures

pub returns : goal.returns
returns c =
    let a = c.args in
    let b : List ℕ = board_of (8 * a.rings) a.position in
    let f : ℕ → ℕ = λ m. entry_by a.tablebase.now a.starts.same a.starts.fewer b m in
    let whole = running_all f a.moves.now (c.loop-number.number-index + 1) c.loop-number.best (omega arith)
    c.requires.candidates.some (λ m i. record {
      small = probe_small a.tablebase.now a.starts.same a.starts.fewer (count 2 b) (after_ply b m)
          (λ j. omega (arith, c.type_inv.tablebase j));
      some = c.requires.candidates.told m i;
    }) c.loop-number.invariant in
    record { number = whole.0; entry = whole.1 }
