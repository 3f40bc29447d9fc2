-- `bestmove::best_move` meets its contract: the part of the list that is lent holds the moves. Assumes nothing.
use mathlib.Core.Path.{◌≡◌, sym, ap, ap₂, subst, ◌∙◌}
use mathlib.Core.List.{List, map}
use Prim.Native.Nat.{ℕ, ◌+◌, ◌*◌, ◌≤◌}
use native.Mathlib.Omega.{arith}
use lib.ListN.{length, take, replicate}
use lib.Seq.{sets, length-sets}
use borrow.Author.Tests.{eqb-false}
use Rattle.lists.proofs.Lengths.{empty_length}
use Rattle.lists.proofs.Writing.{sets_start}
use Rattle.board.specs.Board.{board_of}
use Rattle.board.proofs.Sides.{length_board, board_values}
use Rattle.rules.specs.Ply.{removable, moves}
use Rattle.rules.specs.MoveList.{captures_first}
use Rattle.rules.proofs.Blocked.{blocked_moves}
use Rattle.rules.proofs.Bound.{listed_bound}
use Rattle.rules.proofs.CapturesFirst.{listed_legal, listed_length, listed_total}
use Rattle.rules.proofs.Leads.{listed_makeable}
use Rattle.rules.proofs.Listed.{removable_takes}
use Rattle.bestmove.specs.Best.{best_entry, best_move}
use Rattle.bestmove.specs.Inner.Choosing.{Candidates}
use Rattle.bestmove.specs.Inner.Worth.{entry_by}
use Rattle.bestmove.proofs.MoveEntries.{moves_told}
use Rattle.bestmove.proofs.best_move.Goals as goal
use Rattle.bestmove.proofs.best_move.Goals.{After-count_moves-counts, Start}

-- the moves, by rising number and as they are listed
abbrev legal : (c : Start) → List ℕ
legal c = moves (removable c.args.edition) c.args.rings (board_of (8 * c.args.rings) c.args.position)

abbrev listed : (c : Start) → List ℕ
listed c = captures_first (legal c)

-- the list is long enough
enough : (c : Start) → length (listed c) ≤ 324
enough c =
    let a = c.args in
    let p = c.requires.none_void.probing.placed in
    let k = c.requires.choosing in
    let n : ℕ = 8 * a.rings in
    listed_bound a.edition a.rings p.small (board_of n a.position) (length_board n a.position) (board_values n a.position p.on)
    k.mover_most k.opponent_least
    k.opponent_most

-- so many moves were counted
counted : (c : After-count_moves-counts)
    → c.count_moves-counts.result.captures + c.count_moves-counts.result.others
    ≡ length (captures_first (moves (removable c.args.edition) c.args.rings (board_of (8 * c.args.rings) c.args.position)))
counted c =
    ap₂ ◌+◌ c.count_moves-counts.ensures.captures.0 c.count_moves-counts.ensures.others.0
    ∙ listed_total (moves (removable c.args.edition) c.args.rings (board_of (8 * c.args.rings) c.args.position))

-- its first places hold them
filled : (c : Start) (list : List ℕ) (n : ℕ) → list ≡ sets (replicate {A = ℕ} 324 0) 0 (listed c) → n ≡ length (listed c) → take n list ≡ listed c
filled c list n e h = ap₂ take h e ∙ sets_start (replicate {A = ℕ} 324 0) (listed c) (enough c)

pub list_moves-requires : goal.list_moves-requires
list_moves-requires c =
    record { playable = record { masks = c.requires.choosing.masks; placed = c.requires.none_void.probing.placed }; others_value = c.count_moves-counts.ensures.captures.0; position_in_bounds = enough (goal.at.list_moves-requires c).Start }

pub slice_bounds-list-end : goal.slice_bounds-list-end
slice_bounds-list-end c =
    omega (arith, ap length c.list_moves.ensures, length-sets (replicate {A = ℕ} 324 0) 0 (listed (goal.at.slice_bounds-list-end c).Start), enough (goal.at.slice_bounds-list-end c).Start, counted (goal.at.slice_bounds-list-end c).After-count_moves-counts)

pub slice_bounds-best_of-end : goal.slice_bounds-best_of-end
slice_bounds-best_of-end c =
    counted (goal.at.slice_bounds-best_of-end c).After-count_moves-counts ∙ sym (ap length (filled (goal.at.slice_bounds-best_of-end c).Start _ _ c.list_moves.ensures (counted (goal.at.slice_bounds-best_of-end c).After-count_moves-counts)))

-- they can be made, and none leads to a void entry
choice : (c : Start) → Candidates c.args.tablebase.now c.args.rings c.args.starts c.args.position (listed c)
choice c =
    let a = c.args in
    let p = c.requires.none_void.probing.placed in
    let b : List ℕ = board_of (8 * a.rings) a.position in
    let some = eqb-false (length (legal c)) 0
    (sym (empty_length (legal c)) ∙ blocked_moves (removable a.edition) a.rings b ∙ c.requires.choosing.some) in
    record {
      some = omega (arith, listed_length (legal c), some);
      makeable = λ m i. listed_makeable (removable a.edition) (removable_takes a.edition) a.rings p.small b
          (board_values (8 * a.rings) a.position p.on) (length_board (8 * a.rings) a.position) m (listed_legal (legal c) i);
      told = λ m i. moves_told (removable a.edition) a.tablebase.now a.starts.same a.starts.fewer a.rings b c.requires.none_void.told m
          (listed_legal (legal c) i);
    }

pub best_of-requires : goal.best_of-requires
best_of-requires c =
    let a = c.args in record {
      probing = c.requires.none_void.probing;
      candidates = subst (Candidates a.tablebase.now a.rings a.starts a.position)
          (sym (filled (goal.at.best_of-requires c).Start _ _ c.list_moves.ensures (counted (goal.at.best_of-requires c).After-count_moves-counts))) (choice (goal.at.best_of-requires c).Start);
    }

pub returns : goal.returns
returns c =
    let a = c.args in
    let f : ℕ → ℕ = λ x. entry_by a.tablebase.now a.starts.same a.starts.fewer (board_of (8 * a.rings) a.position) x in
    let e = filled (goal.at.returns c).Start _ _ c.list_moves.ensures (counted (goal.at.returns c).After-count_moves-counts) in record { number = c.best_of.ensures.number ∙ ap (best_move f) e; entry = c.best_of.ensures.entry ∙ ap (λ (l : List ℕ). best_entry (map f l)) e }
