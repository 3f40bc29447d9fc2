-- Every class has a member of which no image has a lower number, whatever the numbering. Assumes nothing.
use mathlib.Core.Path.{◌≡◌, refl, ap}
use mathlib.Core.Bool.{Bool, true, false}
use mathlib.Core.List.{List}
use Prim.Native.Nat.{ℕ, zero, suc, ◌*◌, ◌≤◌, ◌<◌}
use native.Mathlib.Decide.{ℕ_discrete}
use native.Mathlib.Omega.{arith}
use lib.Dec.{leb, ltb}
use lib.ListN.{length}
use borrow.Author.Tests.{le-leb, ltb-true, ltb-false}
use Rattle.lists.proofs.Tests.{member_all}
use Rattle.lists.proofs.Members.{range_member}
use Rattle.lists.specs.Lists.{range}
use Rattle.symmetry.specs.Symmetries.{image}
use Rattle.symmetry.proofs.Group.{compose}
use Rattle.symmetry.proofs.Compose.{image_compose}
use Rattle.invariance.proofs.Groups.{Group}
use Rattle.classing.specs.Inner.Classes.{is_least}

-- a test that some image of each board of rings passes
abbrev pub Picks : ℕ → ℕ → (List ℕ → Bool) → Type 0
Picks rings maps picked = (b : List ℕ) → length b ≡ 8 * rings → (g : ℕ) × (g < maps) × (picked (image rings g b) ≡ true)

-- the least of n numbers
least_of : (f : ℕ → ℕ) (n : ℕ) → (g : ℕ) × (g < suc n) × ((h : ℕ) → h < suc n → f g ≤ f h)
least_of f zero = (0, omega arith, λ h l. let z : h ≡ 0 = omega arith in omega (arith, ap f z))
least_of f (suc n) = go (least_of f n)
  where
    go : ((g : ℕ) × (g < suc n) × ((h : ℕ) → h < suc n → f g ≤ f h)) → (g : ℕ) × (g < suc (suc n)) × ((h : ℕ) → h < suc (suc n) → f g ≤ f h)
    go (g, l, least) = at (ltb (f (suc n)) (f g)) refl
      where
        at : (b : Bool) → ltb (f (suc n)) (f g) ≡ b → (g : ℕ) × (g < suc (suc n)) × ((h : ℕ) → h < suc (suc n) → f g ≤ f h)
        at true e = (suc n, omega arith, λ h m. last h m (ℕ_discrete h (suc n)))
          where
            last : (h : ℕ) → h < suc (suc n) → Dec (h ≡ suc n) → f (suc n) ≤ f h
            last h m (yes q) = omega (arith, ap f q)
            last h m (no q) = omega (arith, least h (omega (arith, q)), ltb-true (f (suc n)) (f g) e)
        at false e = (g, omega arith, λ h m. last h m (ℕ_discrete h (suc n)))
          where
            last : (h : ℕ) → h < suc (suc n) → Dec (h ≡ suc n) → f g ≤ f h
            last h m (yes q) = omega (arith, ap f q, ltb-false (f (suc n)) (f g) e)
            last h m (no q) = least h (omega (arith, q))

pub least_picks : (number : List ℕ → ℕ) (rings : ℕ) → rings ≤ 3 → (maps : ℕ) → Group maps → Picks rings maps (is_least number rings maps)
unfolding is_least
least_picks number rings few maps w b points = go maps refl
  where
    go : (n : ℕ) → maps ≡ n → (g : ℕ) × (g < maps) × (is_least number rings maps (image rings g b) ≡ true)
    go zero e = absurd (omega (arith, w.low))
    go (suc n) e =
        let (g, l, least) = least_of (λ i. number (image rings i b)) n in
        let a : g < maps = omega arith in (
          g,
          a,
          member_all (λ h. leb (number (image rings g b)) (number (image rings h (image rings g b)))) (range 0 maps) (λ h m.
              let c : h < maps = omega (arith, range_member maps 0 m) in
              let i = w.composes h g c a in
              let f : number (image rings h (image rings g b)) ≡ number (image rings (compose h g) b) =
              ap number (image_compose rings few b points h g (omega (arith, w.high)) (omega (arith, w.high))) in
              le-leb (number (image rings g b)) (number (image rings h (image rings g b))) (omega (arith, f, least (compose h g) (omega arith)))),
        )
