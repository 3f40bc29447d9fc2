-- What right characters say: their values, the length of the board, and whether it holds a 3. Assumes nothing.
use mathlib.Core.Path.{◌≡◌, refl, ap, ap₂, ◌∙◌}
use mathlib.Core.Bool.{Bool, true, false, ◌&&◌, ◌||◌}
use mathlib.Core.List.{List, [], ◌∷◌}
use Prim.Native.Nat.{ℕ, suc, ◌+◌, ◌*◌, ◌%◌, ◌≤◌, ◌<◌}
use native.Mathlib.Omega.{arith}
use lib.Dec.{eqb, ltb}
use lib.ListN.{length, get_or, drop, length-drop}
use lib.Seq.{drop-cons}
use borrow.Author.Tests.{lt-ltb, ltb-false, eqb-false, eq-eqb, ne_eqb}
use Rattle.lists.proofs.Tests.{or_left, or_right}
use Rattle.board.specs.Board.{Values, digit, set_of}
use Rattle.board.proofs.Sides.{set_none, set_cons}
use Rattle.frames.specs.Frame.{most_characters, outside, any_outside, frame_wrong, bytes_in, points_in, board_in}

-- a character of 0-9 a-f: a digit below a, or a letter to f
pub record Inside (c : ℕ) : Type 0 where
  pub low : 48 ≤ c
  pub gap : c < 97 → c ≤ 57
  pub high : c ≤ 102

pub inside : (c : ℕ) → outside c ≡ false → Inside c
inside c e =
    let e1 = or_left (ltb c 48 || (ltb 57 c && ltb c 97)) (ltb 102 c) e in
    let e2 = or_right (ltb c 48) (ltb 57 c && ltb c 97) e1 in
    record {
      low = ltb-false c 48 (or_left (ltb c 48) (ltb 57 c && ltb c 97) e1);
      gap = λ h. go (ltb 57 c) refl e2 h;
      high = ltb-false 102 c (or_right (ltb c 48 || (ltb 57 c && ltb c 97)) (ltb 102 c) e);
    }
  where
    go : (t : Bool) → ltb 57 c ≡ t → (t && ltb c 97) ≡ false → c < 97 → c ≤ 57
    go true p q h = absurd (omega (arith, ltb-false c 97 q))
    go false p q h = ltb-false 57 c p

-- a frame whose characters are right
pub record Right (f : List ℕ) : Type 0 where
  pub some : 2 ≤ length f
  pub even : length f % 2 ≡ 0
  pub characters : any_outside f ≡ false

pub frame_right : (f : List ℕ) → frame_wrong f ≡ false → Right f
unfolding frame_wrong
frame_right f e =
    let empty = eqb (length f) 0 in
    let long = ltb most_characters (length f) in
    let odd = eqb (length f % 2) 1 in
    let e1 = or_left (empty || long || odd) (any_outside f) e in
    let n : length f ≡ 0 → ⊥ = eqb-false (length f) 0 (or_left empty long (or_left (empty || long) odd e1)) in
    let m : length f % 2 ≡ 1 → ⊥ = eqb-false (length f % 2) 1 (or_right (empty || long) odd e1) in
    record { some = omega arith; even = omega arith; characters = or_right (empty || long || odd) (any_outside f) e }

pub long_wrong : (f : List ℕ) → most_characters < length f → frame_wrong f ≡ true
unfolding frame_wrong
long_wrong f h = rw (ne_eqb (length f) 0 (λ z. absurd (omega arith)), lt-ltb most_characters (length f) h)

-- two elements of a list, from i on
pub drop_two : (f : List ℕ) (i : ℕ) → i + 2 ≤ length f → drop i f ≡ get_or f i 0 ∷ get_or f (i + 1) 0 ∷ drop (i + 2) f
drop_two f i h =
    let e : suc i ≡ i + 1 = omega arith in
    let d : suc (suc i) ≡ i + 2 = omega arith in
    drop-cons f i 0 (omega arith)
    ∙ ap (λ (l : List ℕ). get_or f i 0 ∷ l) (drop-cons f (suc i) 0 (omega arith) ∙ ap₂ (λ (j k : ℕ). get_or f j 0 ∷ drop k f) e d)

-- the board is the characters after the first two
pub board_rest : (f : List ℕ) → board_in f ≡ points_in (bytes_in (drop 2 f))
unfolding board_in bytes_in
board_rest [] = refl
board_rest (c ∷ []) = refl
board_rest (c ∷ d ∷ f) = refl

-- two points for each character
points_even : (f : List ℕ) → length f % 2 ≡ 0 → length (points_in (bytes_in f)) ≡ 2 * length f
unfolding points_in bytes_in
points_even [] e = omega arith
points_even (c ∷ []) e = absurd (omega arith)
points_even (c ∷ d ∷ f) e = omega (arith, points_even f (omega arith))

pub board_length : (f : List ℕ) → frame_wrong f ≡ false → length (board_in f) + 4 ≡ 2 * length f
board_length f e =
    let w = frame_right f e in
    omega (arith, ap length (board_rest f), points_even (drop 2 f) (omega (arith, length-drop 2 f, w.some, w.even)), length-drop 2 f, w.some)

-- two bits hold at most 3: a value above 2 is a 3, and so the set of the 3s says whether there is one
pub no_three : (b : List ℕ) → Values b → set_of 3 b ≡ 0
no_three [] w = set_none 3
no_three (x ∷ b) w = set_cons 3 x b ∙ omega (arith, no_three b w.1, ap digit (ne_eqb x 3 (λ e. omega (arith, w.0))))

abbrev Bits : List ℕ → Type 0
Bits [] = Unit {0}
Bits (x ∷ b) = (x < 4) × Bits b

points_bits : (bs : List ℕ) → Bits (points_in bs)
unfolding points_in
points_bits [] = tt
points_bits (b ∷ bs) = (omega arith, (omega arith, (omega arith, (omega arith, points_bits bs))))

bits_values : (b : List ℕ) → Bits b → set_of 3 b ≡ 0 → Values b
bits_values [] w e = tt
bits_values (x ∷ b) w e =
    let s = set_cons 3 x b in
    let n : x ≡ 3 → ⊥ = λ q. omega (arith, ap digit (eq-eqb x 3 q)) in
    (omega (arith, w.0), bits_values b w.1 (omega arith))

pub three_none : (f : List ℕ) → set_of 3 (board_in f) ≡ 0 → Values (board_in f)
unfolding board_in
three_none f e = bits_values (board_in f) (points_bits (drop 1 (bytes_in f))) e
