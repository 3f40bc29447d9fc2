-- `given::lower_symmetric` meets its contract. Assumes nothing.
use mathlib.Core.Path.{subst}
use Prim.Native.Nat.{ℕ, ◌-◌, ◌*◌, ◌≤◌}
use native.Mathlib.Omega.{arith}
use Rattle.layout.proofs.OneToOne.{InRange, end_is, end_within}
use Rattle.symmetry.specs.Symmetries.{symmetries}
use Rattle.invariance.specs.Symmetric.{SymmetricFrom, TableSymmetric}
use Rattle.comparing.specs.Inner.Compared.{Decides}
use Rattle.given.proofs.LowerMaps.{decides_same}
use borrow.Author.Rules.{rules}
use Rattle.given.proofs.lower_symmetric.Goals as goal

pub is_symmetric-requires : goal.is_symmetric-requires
is_symmetric-requires c =
    let a = c.args in
    let p = c.requires in
    let q = p.0 in
    let few = c.if-o-eq3.false in
    let w : InRange a.k (a.o - 1) a.m = record {
      mover_low = omega (arith, few, q.opponent_low);
      mover_high = omega (arith, q.opponent_high);
      opponent_low = q.mover_low;
      opponent_high = q.mover_high;
    } in
    record {
      small = q.small;
      mover_most = omega (arith, q.opponent_high, p.1);
      opponent_most = omega (arith, q.mover_high, p.1);
      room = omega (arith, end_is (8 * a.rings) a.k (a.o - 1) a.m, end_within (8 * a.rings) a.k w, c.start-start.ensures.0, p.2);
    }

pub returns : goal.returns
returns c =
    let a = c.args in
    let q = c.requires.0 in
    let few = c.if-o-eq3.false in
    decides_same (TableSymmetric symmetries a.rings a.k a.tablebase.now (a.o - 1) a.m)
    (4 ≤ a.o → TableSymmetric symmetries a.rings a.k a.tablebase.now (a.o - 1) a.m) (λ w h. w)
    (λ w. w (omega (arith, few, q.opponent_low))) c.is_symmetric.result
    (subst (λ (n : ℕ). Decides (SymmetricFrom symmetries a.rings n (a.o - 1) a.m a.tablebase.now) c.is_symmetric.result) c.start-start.ensures.0
    c.is_symmetric.ensures)
