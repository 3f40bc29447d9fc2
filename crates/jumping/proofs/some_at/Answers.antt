-- `jumping::some_at` meets its contract. Assumes nothing.
use mathlib.Core.Path.{◌≡◌, sym, ap, ap₂, ◌∙◌}
use mathlib.Core.Bool.{Bool}
use mathlib.Core.List.{List}
use Prim.Native.Nat.{ℕ, ◌+◌, ◌*◌, ◌<◌}
use native.Mathlib.Omega.{arith}
use lib.ListN.{length, get_or}
use Rattle.lists.specs.Lists.{any}
use Rattle.board.specs.Board.{count, board_of}
use Rattle.board.proofs.Sides.{length_board}
use Rattle.sizes.specs.Size.{size}
use Rattle.ranking.specs.Rank.{rank}
use Rattle.ranking.proofs.Inverse.{rank_low}
use Rattle.rules.specs.Ply.{after_ply}
use Rattle.making.proofs.After.{after_leads}
use Rattle.asking.specs.Inner.Keys.{asked}
use Rattle.asking.specs.Inner.Questions.{entry_asked}
use Rattle.probing.proofs.Reading.{probe_same}
use Rattle.jumping.proofs.Jumps.{removes_none, any_one}
use borrow.Author.Rules.{rules}
use Rattle.jumping.proofs.some_at.Goals as goal
use Rattle.jumping.proofs.some_at.Goals.{After-rank_at-r}

pub rank_at-r-requires : goal.rank_at-r-requires
rank_at-r-requires c =
    let j = c.requires.removing.1 in record { rankable = record { few = omega (arith, j.placed.small); on = j.placed.on }; vacant = (j.vacant, j.inserting) }

-- the move without a removal leads to the board that is ranked
ranked : (c : After-rank_at-r)
    → c.rank_at-r.result ≡ rank (after_ply (board_of (8 * c.args.rings) c.args.position)
    (c.args.jump.slide + 31))
ranked c = c.rank_at-r.ensures ∙ ap rank c.requires.removing.1.leads

-- the place read is below the length
low : (c : After-rank_at-r)
    → c.args.question.starts.same + c.rank_at-r.result < length c.args.tablebase.now
low c =
    let a = c.args in
    let b : List ℕ = board_of (8 * a.rings) a.position in
    let d : List ℕ = after_ply b (a.jump.slide + 31) in
    let l = after_leads a.rings a.position c.requires.probing.placed (a.jump.slide + 31) c.requires.removing.1.makeable in
    let e : size (length d) (count 1 d) (count 2 d) ≡ size (8 * a.rings) (count 2 b) (count 1 b) =
    ap₂ (size (length d)) c.requires.removing.1.stays l.opponent
    ∙ ap (λ (n : ℕ). size n (count 2 b) (count 1 b)) (l.points ∙ length_board (8 * a.rings) a.position) in
    omega (arith, ranked c, rank_low d l.values, e, c.requires.probing.reads.same_room)

pub overflow_add-starts : goal.overflow_add-starts
overflow_add-starts c = let h = low (goal.at.overflow_add-starts c).After-rank_at-r in search rules

pub offset_bounds-tablebase-starts : goal.offset_bounds-tablebase-starts
offset_bounds-tablebase-starts c = let h = low (goal.at.offset_bounds-tablebase-starts c).After-rank_at-r in search rules

pub bounds-tablebase-starts : goal.bounds-tablebase-starts
bounds-tablebase-starts c = low (goal.at.bounds-tablebase-starts c).After-rank_at-r

pub returns-then-removals-eq-NO_REMOVAL : goal.returns-then-removals-eq-NO_REMOVAL
returns-then-removals-eq-NO_REMOVAL c =
    let a = c.args in
    let q = a.question in
    let b : List ℕ = board_of (8 * a.rings) a.position in
    let f : ℕ → Bool = λ p. entry_asked a.tablebase.now q b (after_ply b (a.jump.slide + p)) in
    c.asked.ensures
    ∙ ap (asked q.low q.high) (ap (λ (k : ℕ). get_or a.tablebase.now (q.starts.same + k) 0) (ranked (goal.at.returns-then-removals-eq-NO_REMOVAL c).After-rank_at-r)
    ∙ sym (probe_same a.tablebase.now q.starts.same q.starts.fewer (count 2 b) (after_ply b (a.jump.slide + 31)) c.requires.removing.1.stays))
    ∙ sym (ap (any f) (removes_none a.removals c.if-removals-eq-NO_REMOVAL.true) ∙ any_one f 31)
