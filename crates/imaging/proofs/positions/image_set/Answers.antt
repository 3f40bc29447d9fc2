-- `imaging::positions::image_set` meets its contract. Assumes nothing.
use native.Mathlib.Omega.{arith}
use Rattle.imaging.proofs.Assembled.{set_turned, set_three, set_two, set_one}
use Rattle.imaging.proofs.positions.image_set.Goals as goal

pub returns-then-g-lt8 : goal.returns-then-g-lt8
returns-then-g-lt8 c =
    let a = c.args in
    let p = c.requires in
    set_turned a.rings a.g a.s p.0 p.1 p.2 c.ring_image-a.result c.ring_image-b.result c.ring_image-c.result
    c.ring_image-a.ensures c.ring_image-b.ensures c.ring_image-c.ensures c.if-g-lt8.true

pub returns-then-rings-eq3 : goal.returns-then-rings-eq3
returns-then-rings-eq3 c =
    let a = c.args in
    let p = c.requires in
    set_three a.rings a.g a.s p.0 p.1 p.2 c.ring_image-a.result c.ring_image-b.result c.ring_image-c.result
    c.ring_image-a.ensures c.ring_image-b.ensures c.ring_image-c.ensures (omega (arith, c.if-g-lt8.false)) c.if-rings-eq3.true

pub returns-then-rings-eq2 : goal.returns-then-rings-eq2
returns-then-rings-eq2 c =
    let a = c.args in
    let p = c.requires in
    set_two a.rings a.g a.s p.0 p.1 p.2 c.ring_image-a.result c.ring_image-b.result c.ring_image-c.result
    c.ring_image-a.ensures c.ring_image-b.ensures c.ring_image-c.ensures (omega (arith, c.if-g-lt8.false))
    c.if-rings-eq2.true

pub returns : goal.returns
returns c =
    let a = c.args in
    let p = c.requires in
    set_one a.rings a.g a.s p.0 p.1 p.2 c.ring_image-a.result c.ring_image-b.result c.ring_image-c.result
    c.ring_image-a.ensures c.ring_image-b.ensures c.ring_image-c.ensures (omega (arith, c.if-g-lt8.false))
    (omega (arith, c.if-rings-eq3.false, c.if-rings-eq2.false, p.0))
