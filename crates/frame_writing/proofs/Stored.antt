-- Writing by bytes: what one byte more adds to a target, and the rings before the points. Assumes nothing.
use mathlib.Core.Path.{◌≡◌, sym, ap, ap₂, ◌∙◌}
use mathlib.Core.List.{List, [], ◌∷◌}
use Prim.Native.Nat.{ℕ, ◌+◌, ◌*◌, ◌≤◌}
use native.Mathlib.Omega.{arith}
use lib.ListN.{length, get_or, drop}
use lib.Seq.{sets}
use Rattle.lists.proofs.Writing.{sets_append}
use Rattle.frames.specs.Frame.{four_points, packed, spelled, frame_of}
use Rattle.frames.proofs.Characters.{drop_two}

-- the bytes of the points from i on: that of four points, and those of the points after them
pub packed_four : (b : List ℕ) (i : ℕ) → i + 4 ≤ length b
    → packed (drop i b) ≡ four_points (get_or b i 0) (get_or b (i + 1) 0) (get_or b (i + 2) 0) (get_or b (i + 3) 0) ∷ packed (drop (i + 4) b)
unfolding packed
packed_four b i h =
    let e : i + 2 + 1 ≡ i + 3 = omega arith in
    let d : i + 2 + 2 ≡ i + 4 = omega arith in
    ap packed
    (drop_two b i (omega arith)
    ∙ ap (λ (l : List ℕ). get_or b i 0 ∷ get_or b (i + 1) 0 ∷ l)
    (drop_two b (i + 2) (omega arith) ∙ ap₂ (λ (j k : ℕ). get_or b (i + 2) 0 ∷ get_or b j 0 ∷ drop k b) e d))

-- a byte, and the bytes after it
stored_byte : (t bs : List ℕ) (at b : ℕ) → sets (sets t at (spelled (b ∷ []))) (at + 2) (spelled bs) ≡ sets t at (spelled (b ∷ bs))
unfolding spelled
stored_byte t bs at b = sym (sets_append t at (spelled (b ∷ [])) (spelled bs))

-- byte k of the points is written
pub stored_step : (t b : List ℕ) (k x : ℕ) → 4 * k + 4 ≤ length b → x ≡ get_or (packed (drop (4 * k) b)) 0 0
    → sets (sets t (2 + 2 * k) (spelled (x ∷ []))) (2 + 2 * (k + 1)) (spelled (packed (drop (4 * (k + 1)) b)))
    ≡ sets t (2 + 2 * k) (spelled (packed (drop (4 * k) b)))
stored_step t b k x h e =
    let at : ℕ = 2 + 2 * k in
    let rest : List ℕ = packed (drop (4 * k + 4) b) in
    let w = packed_four b (4 * k) h in
    let p : 2 + 2 * (k + 1) ≡ at + 2 = omega arith in
    let q : 4 * (k + 1) ≡ 4 * k + 4 = omega arith in
    ap₂ (λ (i j : ℕ). sets (sets t at (spelled (x ∷ []))) i (spelled (packed (drop j b)))) p q
    ∙ stored_byte t rest at x
    ∙ ap (λ (y : ℕ). sets t at (spelled (y ∷ rest))) (e ∙ ap (λ (bs : List ℕ). get_or bs 0 0) w)
    ∙ sym (ap (λ (bs : List ℕ). sets t at (spelled bs)) w)

-- the rings, then the points
pub frame_stored : (rings : ℕ) (b old t u : List ℕ)
    → t ≡ sets old 0 (spelled (rings ∷ [])) → u ≡ sets t 2 (spelled (packed b)) → u ≡ sets old 0 (frame_of rings b)
unfolding frame_of
frame_stored rings b old t u e d = d ∙ ap (λ (l : List ℕ). sets l 2 (spelled (packed b))) e ∙ stored_byte old (packed b) 0 rings
