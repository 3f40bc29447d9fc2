-- `frame_reading::points_with` meets its contract. The invariant: the set of the bytes passed, from the last on. Assumes nothing.
use mathlib.Core.Path.{◌≡◌, sym, ap, subst, ◌∙◌}
use mathlib.Core.List.{◌∷◌, []}
use Prim.Native.Nat.{ℕ, ◌+◌, ◌-◌, ◌*◌, ◌/◌, ◌^◌, ◌<◌}
use native.Mathlib.Omega.{arith}
use lib.ListN.{length, drop}
use lib.Seq.{drop-length}
use Rattle.board.specs.Board.{set_of}
use Rattle.board.proofs.Sides.{set_none}
use Rattle.frames.specs.Frame.{bytes_in, points_in}
use Rattle.frames.proofs.Characters.{frame_right, board_rest}
use Rattle.frame_reading.proofs.Sets.{set_byte, set_small}
use Rattle.frame_reading.proofs.points_with.Goals as goal
use Rattle.frame_reading.proofs.points_with.Goals.{At-loop-i}

-- the set at the loop's head is below 2 ^ 24
small : (c : At-loop-i) → c.loop-i.s < 2 ^ 24
small c =
    subst (λ (s : ℕ). s < 2 ^ 24) (sym c.loop-i.invariant.1) (set_small c.args.v (2 * c.loop-i.i) c.args.frame.now (omega arith) c.requires.1)

pub loop-i-init : goal.loop-i-init
unfolding points_in bytes_in
loop-i-init c =
    let f = c.args.frame.now in
    let w = frame_right f c.requires.0 in
    let e : 2 * (length f / 2) ≡ length f = omega (arith, w.even) in
    (omega (arith, w.some, w.even), rw (e, drop-length f) (sym (set_none c.args.v)))

pub overflow_mul-s : goal.overflow_mul-s
overflow_mul-s c = omega (arith, small (goal.at.overflow_mul-s c).At-loop-i)

pub byte_at-requires : goal.byte_at-requires
byte_at-requires c = (omega arith, (frame_right c.args.frame.now c.requires.0).characters)

pub overflow_add-s : goal.overflow_add-s
overflow_add-s c = omega (arith, small (goal.at.overflow_add-s c).At-loop-i)

pub loop-i-preserved : goal.loop-i-preserved
loop-i-preserved c =
    let f = c.args.frame.now in
    let v = c.args.v in
    let e : 2 * (c.loop-i.i - 1) + 2 ≡ 2 * c.loop-i.i = omega arith in (
      omega arith,
      omega (
        arith,
        c.loop-i.invariant.1,
        ap (λ (b : ℕ). set_of v (points_in (b ∷ []))) c.byte_at.ensures,
        set_byte v (2 * (c.loop-i.i - 1)) f (omega arith),
        ap (λ (k : ℕ). set_of v (points_in (bytes_in (drop k f)))) e,
      ),
    )

pub returns : goal.returns
returns c =
    let e : 2 * c.loop-i.i ≡ 2 = omega arith in
    let a = c.args in
    c.loop-i.invariant.1 ∙ ap (λ (i : ℕ). set_of a.v (points_in (bytes_in (drop i a.frame.now)))) e
    ∙ sym (ap (set_of a.v) (board_rest a.frame.now))
