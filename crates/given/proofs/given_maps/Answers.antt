-- `given::given_maps` meets its contract. Assumes nothing.
use mathlib.Core.Path.{refl, sym, subst, subst₂}
use mathlib.Core.Logic.{inl}
use Prim.Native.Nat.{ℕ, ◌-◌, ◌≤◌}
use native.Mathlib.Omega.{arith}
use Rattle.symmetry.specs.Symmetries.{symmetries}
use Rattle.invariance.specs.Symmetric.{TableSymmetric}
use Rattle.invariance.proofs.TrueSymmetric.{one_symmetric}
use Rattle.comparing.specs.Inner.Compared.{Decides}
use Rattle.given.proofs.LowerMaps.{lower_both}
use borrow.Author.Rules.{rules}
use Rattle.given.proofs.given_maps.Goals as goal
use Rattle.given.proofs.given_maps.Goals.{Then-lower_symmetric}

-- the lower table of (m, o) is symmetric
first : (c : Then-lower_symmetric)
    → 4 ≤ c.args.o → TableSymmetric symmetries c.args.rings c.args.k
    c.args.tablebase.now (c.args.o - 1) c.args.m
first c =
    let a = c.args in
    subst (Decides (4 ≤ a.o → TableSymmetric symmetries a.rings a.k a.tablebase.now (a.o - 1) a.m)) c.if-lower_symmetric.true
    c.lower_symmetric.ensures

pub returns-then-m-o : goal.returns-then-m-o
returns-then-m-o c =
    let a = c.args in
    let e = c.if-m-o.true in
    let u = c.all_maps.ensures in (
      u,
      lower_both a.rings a.k a.m a.o a.tablebase.now (first (goal.at.returns-then-m-o c).Then-lower_symmetric)
          (λ h. subst₂ (λ (x y : ℕ). TableSymmetric symmetries a.rings a.k a.tablebase.now (x - 1) y) (sym e) e (first (goal.at.returns-then-m-o c).Then-lower_symmetric (omega (arith, e))))
          c.all_maps.result u,
    )

pub returns-then-lower_symmetric-2 : goal.returns-then-lower_symmetric-2
returns-then-lower_symmetric-2 c =
    let a = c.args in
    let u = c.all_maps-then-lower_symmetric-2.ensures in (
      u,
      lower_both a.rings a.k a.m a.o a.tablebase.now (first (goal.at.returns-then-lower_symmetric-2 c).Then-lower_symmetric)
          (subst (Decides (4 ≤ a.m → TableSymmetric symmetries a.rings a.k a.tablebase.now (a.m - 1) a.o)) c.if-lower_symmetric-2.true
          c.lower_symmetric-then-lower_symmetric.ensures) c.all_maps-then-lower_symmetric-2.result u,
    )

pub returns-else-lower_symmetric-2 : goal.returns-else-lower_symmetric-2
returns-else-lower_symmetric-2 c = let a = c.args in (inl refl, λ x y t. one_symmetric a.rings a.k a.tablebase.now x y)

pub returns-else-lower_symmetric : goal.returns-else-lower_symmetric
returns-else-lower_symmetric c = let a = c.args in (inl refl, λ x y t. one_symmetric a.rings a.k a.tablebase.now x y)
