-- `classing::is_least` meets its contract. The invariant: no image so far has a lower number, for any position with that mover's set. Assumes nothing.
use mathlib.Core.Path.{refl, subst}
use Prim.Native.Nat.{ℕ, ◌*◌, ◌≤◌}
use native.Mathlib.Omega.{arith}
use borrow.Author.Count.{below_more}
use Rattle.board.specs.Board.{board_of}
use Rattle.board.proofs.OneToOne.{mover_set_lem}
use Rattle.symmetry.specs.Symmetries.{image}
use Rattle.imaging.specs.Inner.Images.{ImageSet}
use Rattle.classing.specs.Inner.Classes.{mover_set}
use Rattle.imaging.proofs.Assembled.{within_all}
use Rattle.classing.proofs.Least.{number_image, first_no_lower, no_lower, one_lower}
use Rattle.classing.proofs.is_least.Goals as goal

pub loop-g-init : goal.loop-g-init
loop-g-init c =
    let a = c.args in λ p w e. first_no_lower a.maps.rings a.maps.count (board_of (8 * a.maps.rings) p)

pub image_set-requires : goal.image_set-requires
image_set-requires c =
    let a = c.args in
    let p = c.requires in (
      p.small,
      omega (arith, p.few, c.loop-g-test.true),
      p.on.mover_within,
      within_all a.maps.rings _ p.small
          p.on.mover_within,
    )

pub returns-then-image_set-own : goal.returns-then-image_set-own
returns-then-image_set-own c =
    let a = c.args in
    let p = c.requires in
    let t = c.loop-g-test.true in
    let e = number_image a.maps.rings p.small c.loop-g.g (omega (arith, p.few, t)) a.position p.on c.image_set.result
    c.image_set.ensures in
    one_lower a.maps.rings a.maps.count (board_of (8 * a.maps.rings) a.position) c.loop-g.g t
    (omega (arith, e, c.if-image_set-own.true, mover_set_lem (8 * a.maps.rings) a.position p.on))

pub loop-g-preserved : goal.loop-g-preserved
loop-g-preserved c =
    let a = c.args in
    let p = c.requires in
    let t = c.loop-g-test.true in
    λ q w f. below_more (λ (h : ℕ). mover_set (board_of (8 * a.maps.rings) q) ≤ mover_set (image a.maps.rings h (board_of (8 * a.maps.rings) q)))
    c.loop-g.g
    (c.loop-g.invariant q w f)
    (omega (
      arith,
      c.if-image_set-own.false,
      mover_set_lem (8 * a.maps.rings) q w,
      f,
      number_image a.maps.rings p.small c.loop-g.g (omega (arith, p.few, t)) q w c.image_set.result
          (subst (λ (m : ℕ). ImageSet a.maps.rings c.loop-g.g m c.image_set.result) f c.image_set.ensures),
    ))

pub returns : goal.returns
returns c =
    let a = c.args in
    no_lower a.maps.rings a.maps.count (board_of (8 * a.maps.rings) a.position) (λ h l. c.loop-g.invariant a.position c.requires.on refl h
    (omega arith))
