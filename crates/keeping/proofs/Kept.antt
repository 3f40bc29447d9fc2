-- A byte that is kept, and why 65 are enough: a line over 64 characters is refused, and so are its first 65. Assumes nothing.
use mathlib.Core.Path.{◌≡◌, sym, ap, ◌∙◌}
use mathlib.Core.Bool.{true}
use mathlib.Core.List.{List, [], ◌∷◌, ◌++◌}
use Prim.Native.Nat.{ℕ, suc, ◌+◌, ◌≤◌, ◌<◌}
use native.Mathlib.Omega.{arith}
use lib.ListN.{length, take, set, length-append, length-take}
use lib.Seq.{take_all, take-suc-set, take-append-le}
use Rattle.frames.specs.Frame.{frame_wrong}
use Rattle.frames.proofs.Characters.{long_wrong}
use Rattle.keeping.specs.Kept.{most_kept, keep_byte}

-- a byte that is kept: in its place, or dropped
pub keep_room : (l : List ℕ) (n c : ℕ) → n < most_kept → length l ≡ most_kept → take (n + 1) (set l n c) ≡ keep_byte (take n l) c
unfolding keep_byte
keep_room l n c h e =
    let s : n + 1 ≡ suc n = omega arith in
    ap (λ (k : ℕ). take k (set l n c)) s ∙ take-suc-set l n c (omega arith)
    ∙ sym (take_all most_kept (take n l ++ (c ∷ [])) (omega (arith, length-append (take n l) (c ∷ []), length-take n l)))

pub keep_full : (l : List ℕ) (n c : ℕ) → n ≡ most_kept → length l ≡ most_kept → take n l ≡ keep_byte (take n l) c
unfolding keep_byte
keep_full l n c h e =
    let a : take n l ≡ l = take_all n l (omega arith) in
    a ∙ sym (take_all most_kept l (omega arith))
    ∙ sym (ap (λ (x : List ℕ). take most_kept (x ++ (c ∷ []))) a ∙ take-append-le most_kept l (c ∷ []) (omega arith))

-- a line of so many bytes is refused, and so is what is kept of it
pub long_refused : (line : List ℕ) → most_kept ≤ length line → (frame_wrong (take most_kept line) ≡ true) × (frame_wrong line ≡ true)
long_refused line h = (long_wrong (take most_kept line) (omega (arith, length-take most_kept line)), long_wrong line (omega arith))
