-- `comparing::same_images` meets its contract. Assumes nothing.
use mathlib.Core.Path.{ap₂}
use mathlib.Core.Bool.{Bool, ◌&&◌}
use Rattle.comparing.specs.Inner.Compared.{same_images}
use Rattle.comparing.proofs.same_images.Goals as goal

pub returns : goal.returns
unfolding same_images
returns c =
    ap₂ (λ (x y : Bool). x && y) (ap₂ (λ (x y : Bool). x && y) c.image_has-turned.ensures c.image_has-mirrored.ensures)
    c.image_has-reversed.ensures
