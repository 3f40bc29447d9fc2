-- What is written reads back: the rings and the board of a frame that was written for them are those. And what is read is written back: a frame
-- of right characters is the one that is written for its rings and its board. Assumes nothing.
use mathlib.Core.Path.{◌≡◌, refl, ap, ap₂, ◌∙◌}
use mathlib.Core.Bool.{Bool, true, false, ◌||◌}
use mathlib.Core.List.{List, [], ◌∷◌}
use Prim.Native.Nat.{ℕ, ◌+◌, ◌-◌, ◌*◌, ◌/◌, ◌%◌, ◌≤◌, ◌<◌}
use native.Mathlib.Omega.{arith}
use lib.Dec.{ltb}
use lib.ListN.{length, get_or, drop}
use borrow.Author.Tests.{ltb-true, ltb-false, lt-ltb, le-ltb, ne_eqb}
use Rattle.lists.proofs.Tests.{or_left, or_right}
use Rattle.board.specs.Board.{Values}
use Rattle.frames.specs.Frame.{outside, any_outside, frame_wrong, frame_length, value_of, character_of, byte_of, bytes_in, points_in}
use Rattle.frames.specs.Frame.{rings_in, board_in, four_points, packed, spelled, frame_of}
use Rattle.frames.proofs.Characters.{inside, frame_right}

-- a character that was written has its value, and is no other than 0-9 a-f
record Spelled (d : ℕ) : Type 0 where
  pub value : value_of (character_of d) ≡ d
  pub inside : outside (character_of d) ≡ false

spelled_right : (d : ℕ) → d < 16 → Spelled d
unfolding value_of character_of
spelled_right d h = go (ltb d 10) refl
  where
    go : (t : Bool) → ltb d 10 ≡ t → Spelled d
    go true e =
        let l = ltb-true d 10 e in
        record {
          value = simp (e, lt-ltb (48 + d) 97 (omega arith)) (omega arith);
          inside = simp (e, le-ltb (48 + d) 48 (omega arith), le-ltb 57 (48 + d) (omega arith), le-ltb 102 (48 + d) (omega arith));
        }
    go false e =
        let l = ltb-false d 10 e in
        let c : ℕ = 97 + (d - 10) in
        record {
          value = simp (e, le-ltb c 97 (omega arith)) (omega arith);
          inside = simp (e, le-ltb c 48 (omega arith), le-ltb c 97 (omega arith), lt-ltb 57 c (omega arith), le-ltb 102 c (omega arith));
        }

abbrev Bytes : List ℕ → Type 0
Bytes [] = Unit {0}
Bytes (b ∷ bs) = (b < 256) × Bytes bs

bytes_back : (bs : List ℕ) → Bytes bs → bytes_in (spelled bs) ≡ bs
unfolding bytes_in spelled byte_of
bytes_back [] w = refl
bytes_back (b ∷ bs) w =
    ap₂ (λ (x : ℕ) (l : List ℕ). x ∷ l)
    (omega (arith, (spelled_right (b / 16) (omega (arith, w.0))).value, (spelled_right (b % 16) (omega arith)).value)) (bytes_back bs w.1)

bytes_inside : (bs : List ℕ) → Bytes bs → any_outside (spelled bs) ≡ false
unfolding any_outside spelled
bytes_inside [] w = refl
bytes_inside (b ∷ bs) w =
    rw ((spelled_right (b / 16) (omega (arith, w.0))).inside, (spelled_right (b % 16) (omega arith)).inside) (bytes_inside bs w.1)

length_spelled : (bs : List ℕ) → length (spelled bs) ≡ 2 * length bs
unfolding spelled
length_spelled [] = omega arith
length_spelled (b ∷ bs) = omega (arith, length_spelled bs)

-- the bytes of a board of 4 × n points
packed_bytes : (b : List ℕ) → Values b → Bytes (packed b)
unfolding packed
packed_bytes [] v = tt
packed_bytes (a ∷ []) v = tt
packed_bytes (a ∷ b ∷ []) v = tt
packed_bytes (a ∷ b ∷ c ∷ []) v = tt
packed_bytes (a ∷ b ∷ c ∷ d ∷ rest) v = (omega (arith, v.0, v.1.0, v.1.1.0, v.1.1.1.0), packed_bytes rest v.1.1.1.1)

points_back : (n : ℕ) (b : List ℕ) → length b ≡ 4 * n → Values b → points_in (packed b) ≡ b
unfolding points_in packed
points_back n [] l v = refl
points_back n (a ∷ []) l v = absurd (omega arith)
points_back n (a ∷ b ∷ []) l v = absurd (omega arith)
points_back n (a ∷ b ∷ c ∷ []) l v = absurd (omega arith)
points_back n (a ∷ b ∷ c ∷ d ∷ rest) l v =
    let w : (a ≤ 2) × (b ≤ 2) × (c ≤ 2) × (d ≤ 2) = (v.0, v.1.0, v.1.1.0, v.1.1.1.0) in
    four_cons (omega (arith, w)) (omega (arith, w)) (omega (arith, w)) (omega (arith, w)) (points_back (n - 1) rest (omega arith) v.1.1.1.1)
  where
    four_cons : {a a' b b' c c' d d' : ℕ} {l l' : List ℕ} → a ≡ a' → b ≡ b' → c ≡ c' → d ≡ d' → l ≡ l' → a ∷ b ∷ c ∷ d ∷ l ≡ a' ∷ b' ∷ c' ∷ d' ∷ l'
    four_cons p q r s t = cc

length_packed : (n : ℕ) (b : List ℕ) → length b ≡ 4 * n → length (packed b) ≡ n
unfolding packed
length_packed n [] l = omega arith
length_packed n (a ∷ []) l = absurd (omega arith)
length_packed n (a ∷ b ∷ []) l = absurd (omega arith)
length_packed n (a ∷ b ∷ c ∷ []) l = absurd (omega arith)
length_packed n (a ∷ b ∷ c ∷ d ∷ rest) l = omega (arith, length_packed (n - 1) rest (omega arith))

module _ (rings : ℕ) (b : List ℕ) (r : rings ≤ 3) (l : length b ≡ 8 * rings) (v : Values b) where
  bytes : Bytes (rings ∷ packed b)
  bytes = (omega arith, packed_bytes b v)

  pub rings_back : rings_in (frame_of rings b) ≡ rings
  unfolding rings_in frame_of
  rings_back = ap (λ (bs : List ℕ). get_or bs 0 0) (bytes_back (rings ∷ packed b) bytes)

  pub board_back : board_in (frame_of rings b) ≡ b
  unfolding board_in frame_of
  board_back = ap (λ (bs : List ℕ). points_in (drop 1 bs)) (bytes_back (rings ∷ packed b) bytes) ∙ points_back (2 * rings) b (omega arith) v

  -- 6, 10, 14 characters
  pub length_frame : length (frame_of rings b) ≡ frame_length rings
  unfolding frame_of
  length_frame = omega (arith, length_spelled (rings ∷ packed b), length_packed (2 * rings) b (omega arith))

  -- and a frame that was written is read
  pub frame_fine : frame_wrong (frame_of rings b) ≡ false
  unfolding frame_wrong frame_of
  frame_fine =
      let n : ℕ = length (frame_of rings b) in
      let e = length_frame in
      simp (ne_eqb n 0 (λ z. omega arith), le-ltb 64 n (omega arith), ne_eqb (n % 2) 1 (λ z. omega arith)) (bytes_inside (rings ∷ packed b) bytes)

-- the character of a character's value
record Valued (c : ℕ) : Type 0 where
  pub low : value_of c < 16
  pub character : character_of (value_of c) ≡ c

valued_right : (c : ℕ) → outside c ≡ false → Valued c
unfolding value_of character_of
valued_right c h = go (ltb c 97) refl
  where
    go : (t : Bool) → ltb c 97 ≡ t → Valued c
    go true e =
        let l = (inside c h).gap (ltb-true c 97 e) in
        let w = (inside c h).low in
        record { low = simp e (omega arith); character = simp (e, lt-ltb (c - 48) 10 (omega arith)) (omega arith) }
    go false e =
        let l = ltb-false c 97 e in
        let w = (inside c h).high in
        record { low = simp e (omega arith); character = simp (e, le-ltb (10 + (c - 97)) 10 (omega arith)) (omega arith) }

record Spelling (f : List ℕ) : Type 0 where
  pub bytes : Bytes (bytes_in f)
  pub same : spelled (bytes_in f) ≡ f

spelling : (f : List ℕ) → length f % 2 ≡ 0 → any_outside f ≡ false → Spelling f
unfolding any_outside bytes_in spelled byte_of
spelling [] l e = record { bytes = tt; same = refl }
spelling (c ∷ []) l e = absurd (omega arith)
spelling (c ∷ d ∷ f) l e =
    let e1 = or_right (outside c) (outside d || any_outside f) e in
    let v = valued_right c (or_left (outside c) (outside d || any_outside f) e) in
    let w = valued_right d (or_left (outside d) (any_outside f) e1) in
    let r = spelling f (omega arith) (or_right (outside d) (any_outside f) e1) in
    let high : (16 * value_of c + value_of d) / 16 ≡ value_of c = omega (arith, w.low) in
    let low : (16 * value_of c + value_of d) % 16 ≡ value_of d = omega (arith, w.low) in
    record {
      bytes = (omega (arith, v.low, w.low), r.bytes);
      same = two_cons (ap character_of high ∙ v.character) (ap character_of low ∙ w.character) r.same;
    }
  where
    two_cons : {a a' b b' : ℕ} {l l' : List ℕ} → a ≡ a' → b ≡ b' → l ≡ l' → a ∷ b ∷ l ≡ a' ∷ b' ∷ l'
    two_cons p q r = cc

four_back : (b : ℕ) → b < 256 → four_points (b % 4) (b / 4 % 4) (b / 16 % 4) (b / 64 % 4) ≡ b
four_back b h =
    let p : b / 16 ≡ b / 4 / 4 = omega arith in
    let q : b / 64 ≡ b / 16 / 4 = omega arith in
    sum b (b / 4) (b / 16) (b / 64) (b % 4) (b / 4 % 4) (b / 16 % 4) (b / 64 % 4) (omega arith) (omega (arith, p)) (omega (arith, q)) (omega arith)
  where
    sum : (n q r s a b c d : ℕ) → n ≡ 4 * q + a → q ≡ 4 * r + b → r ≡ 4 * s + c → s ≡ d → a + 4 * b + 16 * c + 64 * d ≡ n
    sum n q r s a b c d e f g h = omega arith

packed_back : (bs : List ℕ) → Bytes bs → packed (points_in bs) ≡ bs
unfolding packed points_in
packed_back [] w = refl
packed_back (b ∷ bs) w = ap₂ (λ (x : ℕ) (l : List ℕ). x ∷ l) (four_back b w.0) (packed_back bs w.1)

-- the bytes of a frame that has some
some_bytes : (f : List ℕ) → 2 ≤ length f → Bytes (bytes_in f) → get_or (bytes_in f) 0 0 ∷ packed (points_in (drop 1 (bytes_in f))) ≡ bytes_in f
unfolding bytes_in
some_bytes [] l w = absurd (omega arith)
some_bytes (c ∷ []) l w = absurd (omega arith)
some_bytes (c ∷ d ∷ f) l w = ap (λ (bs : List ℕ). byte_of c d ∷ bs) (packed_back (bytes_in f) w.1)

pub frame_back : (f : List ℕ) → frame_wrong f ≡ false → frame_of (rings_in f) (board_in f) ≡ f
unfolding frame_of rings_in board_in
frame_back f e =
    let w = frame_right f e in
    let r = spelling f w.even w.characters in
    ap spelled (some_bytes f w.some r.bytes) ∙ r.same
