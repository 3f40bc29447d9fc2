-- Who stands in a mill: by the mills, and by the points of the board alone. Assumes nothing.
use mathlib.Core.Path.{◌≡◌, refl, ap}
use mathlib.Core.Bool.{Bool, ◌&&◌}
use Prim.Native.Nat.{ℕ, ◌*◌, ◌≤◌, ◌<◌}
use Rattle.lists.specs.Lists.{all, any, member}
use Rattle.lists.proofs.Tests.{any_same, all_same}
use Rattle.geometry.specs.Geometry.{mills}
use Rattle.geometry.proofs.Geometry.{mill_low}
use Rattle.rules.specs.Ply.{in_mill}

-- in a full mill: one of the mills has the point, and all its points pass
pub in_mill_any : (rings : ℕ) (own : ℕ → Bool) (p : ℕ) → in_mill rings own p ≡ any (λ mill. member p mill && all own mill) (mills rings)
unfolding in_mill
in_mill_any rings own p = refl

-- tests that agree on the points of the board agree on mills
pub in_mill_same : (rings : ℕ) → rings ≤ 3 → (f g : ℕ → Bool) → ((q : ℕ) → q < 8 * rings → f q ≡ g q) → (p : ℕ) → in_mill rings f p ≡ in_mill rings g p
unfolding in_mill
in_mill_same rings h f g e p =
    any_same (λ mill. member p mill && all f mill) (λ mill. member p mill && all g mill) (mills rings)
    (λ l m. ap (λ (b : Bool). member p l && b) (all_same f g l (λ q k. e q (mill_low rings h l m q k))))
