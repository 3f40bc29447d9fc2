-- The image of a set from the images of its rings. Assumes nothing.
use mathlib.Core.Path.{◌≡◌, refl, sym, ap, subst, ◌∙◌}
use mathlib.Core.Bool.{Bool, true, false}
use Prim.Native.Nat.{ℕ, zero, suc, ◌+◌, ◌-◌, ◌*◌, ◌/◌, ◌%◌, ◌^◌, ◌≤◌, ◌<◌}
use native.Mathlib.Nat.{zero-div}
use native.Mathlib.Omega.{arith}
use lib.Dec.{eqb, ltb}
use borrow.Author.Tests.{eqb-true, ltb-true, lt-ltb, eq-eqb, ne_eqb}
use Rattle.lists.proofs.Table.{every_two, every_two_lem}
use Rattle.sets.specs.Sets.{bit}
use Rattle.sets.proofs.Laws.{same_set}
use Rattle.symmetry.specs.Symmetries.{place_from, ring_from, source}
use Rattle.imaging.specs.Inner.Images.{ImageSet, RingImage}
use Rattle.imaging.proofs.Bytes.{joined_first, joined_second, joined_third, first_byte, second_byte, third_byte}

-- places: computed tests
place_within : ℕ → ℕ → Bool
place_within g p = ltb (place_from g p) 8

within_tests : every_two 16 8 place_within ≡ true
unfolding place_within place_from
within_tests = refl

pub place_low : (g p : ℕ) → g < 16 → p < 8 → place_from g p < 8
unfolding place_within
place_low g p a b = ltb-true (place_from g p) 8 (every_two_lem 16 8 place_within within_tests g p a b)

place_eight : ℕ → ℕ → Bool
place_eight g p = eqb (place_from g p) (place_from (g % 8) p)

eight_tests : every_two 16 8 place_eight ≡ true
unfolding place_eight place_from
eight_tests = refl

pub place_same : (g p : ℕ) → g < 16 → p < 8 → place_from g p ≡ place_from (g % 8) p
unfolding place_eight
place_same g p a b = eqb-true (place_from g p) (place_from (g % 8) p) (every_two_lem 16 8 place_eight eight_tests g p a b)

-- an empty ring has an empty image
empty_bit : (p : ℕ) → bit 0 p ≡ 0
empty_bit p = rw (zero-div (2 ^ p))

pub ring_empty : (g t : ℕ) → RingImage g 0 t → t ≡ 0
ring_empty g t w = same_set 8 t 0 w.within (omega arith) (λ p h. w.at p h ∙ empty_bit (place_from g p) ∙ sym (empty_bit p))

source_at : (rings g p : ℕ) → p < 8 * rings → source rings g p ≡ 8 * ring_from rings g (p / 8) + place_from g (p % 8)
unfolding source
source_at rings g p h = rw (lt-ltb p (8 * rings) h, source)

pub ring_stays : (rings g r : ℕ) → g < 8 → ring_from rings g r ≡ r
unfolding ring_from
ring_stays rings g r h = let e : eqb (g / 8) 1 ≡ false = ne_eqb (g / 8) 1 (λ z. omega arith) in rw (e, ring_from)

pub ring_turns : (rings g r : ℕ) → 8 ≤ g → g < 16 → ring_from rings g r ≡ rings - 1 - r
unfolding ring_from
ring_turns rings g r h l = let e : eqb (g / 8) 1 ≡ true = eq-eqb (g / 8) 1 (omega arith) in rw (e, ring_from)

module _ (rings g s : ℕ) (h : g < 16) where
  -- byte x is the image of ring r
  abbrev pub From : ℕ → ℕ → Type 0
  From r x = (i : ℕ) → i < 8 → bit x i ≡ bit s (8 * r + place_from g i)

  pub from_first : (x : ℕ) → RingImage g (s % 256) x → From 0 x
  from_first x w i l =
      let e : place_from g i ≡ 8 * 0 + place_from g i = omega arith in
      w.at i l ∙ first_byte s (place_from g i) (place_low g i h l) ∙ ap (bit s) e

  pub from_second : (x : ℕ) → RingImage g (s / 256 % 256) x → From 1 x
  from_second x w i l = w.at i l ∙ second_byte s (place_from g i) (place_low g i h l)

  pub from_third : (x : ℕ) → RingImage g (s / 65536) x → From 2 x
  from_third x w i l = w.at i l ∙ third_byte s (place_from g i) (place_low g i h l)

  -- three bytes that are images of the rings that they come from
  pub assembled : (a b c : ℕ) → a < 256 → b < 256 → rings ≤ 3 → (a + 256 * b + 65536 * c < 2 ^ (8 * rings))
      → (0 < rings → From (ring_from rings g 0) a) → (1 < rings → From (ring_from rings g 1) b) → (2 < rings → From (ring_from rings g 2) c)
      → ImageSet rings g s (a + 256 * b + 65536 * c)
  assembled a b c la lb few low fa fb fc = record { within = low; at = λ p l. go p l (p / 8) refl ∙ sym (ap (bit s) (source_at rings g p l)) }
    where
      go : (p : ℕ) → p < 8 * rings → (r : ℕ) → p / 8 ≡ r → bit (a + 256 * b + 65536 * c) p ≡ bit s (8 * ring_from rings g (p / 8) + place_from g (p % 8))
      go p l zero e =
          let q : p ≡ p % 8 = omega arith in
          ap (bit (a + 256 * b + 65536 * c)) q ∙ joined_first a b c la lb (p % 8) (omega arith) ∙ fa (omega arith) (p % 8) (omega arith)
          ∙ ap (λ (x : ℕ). bit s (8 * ring_from rings g x + place_from g (p % 8))) (sym e)
      go p l (suc zero) e =
          let q : p ≡ 8 + p % 8 = omega arith in
          ap (bit (a + 256 * b + 65536 * c)) q ∙ joined_second a b c la lb (p % 8) (omega arith) ∙ fb (omega arith) (p % 8) (omega arith)
          ∙ ap (λ (x : ℕ). bit s (8 * ring_from rings g x + place_from g (p % 8))) (sym e)
      go p l (suc (suc zero)) e =
          let q : p ≡ 16 + p % 8 = omega arith in
          ap (bit (a + 256 * b + 65536 * c)) q ∙ joined_third a b c la lb (p % 8) (omega arith) ∙ fc (omega arith) (p % 8) (omega arith)
          ∙ ap (λ (x : ℕ). bit s (8 * ring_from rings g x + place_from g (p % 8))) (sym e)
      go p l (suc (suc (suc r))) e = absurd (omega arith)

-- the image by the images of the three bytes
module _ (rings g s : ℕ) (few : rings ≤ 3) (h : g < 16) (low : s < 2 ^ (8 * rings)) (a b c : ℕ) (one : RingImage g (s % 256) a)
    (two : RingImage g (s / 256 % 256) b) (three : RingImage g (s / 65536) c) where
  -- rings that are not there are empty
  none : (r x : ℕ) → RingImage g r x → r ≡ 0 → x ≡ 0
  none r x w e = ring_empty g x (subst (λ (y : ℕ). RingImage g y x) e w)

  third_none : s < 65536 → c ≡ 0
  third_none l = none (s / 65536) c three (omega arith)

  second_none : s < 256 → b ≡ 0
  second_none l = none (s / 256 % 256) b two (omega arith)

  first_none : s < 1 → a ≡ 0
  first_none l = none (s % 256) a one (omega arith)

  sum_low : a + 256 * b + 65536 * c < 2 ^ (8 * rings)
  sum_low = go rings refl
    where
      go : (n : ℕ) → rings ≡ n → a + 256 * b + 65536 * c < 2 ^ (8 * rings)
      go zero e = rw e (let l : s < 1 = rw e at low in omega (arith, first_none l, second_none (omega arith), third_none (omega arith)))
      go (suc zero) e = rw e (let l : s < 256 = rw e at low in omega (arith, one.within, second_none l, third_none (omega arith)))
      go (suc (suc zero)) e = rw e (let l : s < 65536 = rw e at low in omega (arith, one.within, two.within, third_none l))
      go (suc (suc (suc zero))) e = rw e (omega (arith, one.within, two.within, three.within))
      go (suc (suc (suc (suc n)))) e = absurd (omega arith)

  stays : (r : ℕ) (x : ℕ) → g < 8 → From rings g s h r x → From rings g s h (ring_from rings g r) x
  stays r x l = subst (λ (i : ℕ). From rings g s h i x) (sym (ring_stays rings g r l))

  turns : (r i : ℕ) (x : ℕ) → 8 ≤ g → rings - 1 - r ≡ i → From rings g s h i x → From rings g s h (ring_from rings g r) x
  turns r i x l e = subst (λ (j : ℕ). From rings g s h j x) (sym (ring_turns rings g r l h ∙ e))

  pub set_turned : g < 8 → ImageSet rings g s (a + 256 * b + 65536 * c)
  set_turned l = assembled rings g s h a b c one.within two.within few sum_low
      (λ n. stays 0 a l (from_first rings g s h a one)) (λ n. stays 1 b l (from_second rings g s h b two)) (λ n. stays 2 c l (from_third rings g s h c three))

  pub set_three : 8 ≤ g → rings ≡ 3 → ImageSet rings g s (c + 256 * b + 65536 * a)
  set_three l e = assembled rings g s h c b a three.within two.within few (rw e (omega (arith, one.within, two.within, three.within)))
      (λ n. turns 0 2 c l (omega arith) (from_third rings g s h c three)) (λ n. turns 1 1 b l (omega arith) (from_second rings g s h b two))
      (λ n. turns 2 0 a l (omega arith) (from_first rings g s h a one))

  pub set_two : 8 ≤ g → rings ≡ 2 → ImageSet rings g s (b + 256 * a)
  set_two l e =
      let z : b + 256 * a + 65536 * 0 ≡ b + 256 * a = omega arith in
      subst (λ (x : ℕ). ImageSet rings g s x) z (assembled rings g s h b a 0 two.within one.within few (rw e (omega (arith, one.within, two.within)))
      (λ n. turns 0 1 b l (omega arith) (from_second rings g s h b two)) (λ n. turns 1 0 a l (omega arith) (from_first rings g s h a one))
      (λ n. absurd (omega arith)))

  pub set_one : 8 ≤ g → rings ≤ 1 → ImageSet rings g s a
  set_one l e =
      let z : a + 256 * 0 + 65536 * 0 ≡ a = omega arith in
      subst (λ (x : ℕ). ImageSet rings g s x) z (assembled rings g s h a 0 0 one.within (omega arith) few small
      (λ n. turns 0 0 a l (omega arith) (from_first rings g s h a one)) (λ n. absurd (omega arith)) (λ n. absurd (omega arith)))
    where
      small : a + 256 * 0 + 65536 * 0 < 2 ^ (8 * rings)
      small = go rings refl
        where
          go : (n : ℕ) → rings ≡ n → a + 256 * 0 + 65536 * 0 < 2 ^ (8 * rings)
          go zero f = rw f (let k : s < 1 = rw f at low in omega (arith, first_none k))
          go (suc zero) f = rw f (omega (arith, one.within))
          go (suc (suc n)) f = absurd (omega arith)

-- a set of a board is a set of 24 points
pub within_all : (rings s : ℕ) → rings ≤ 3 → s < 2 ^ (8 * rings) → s < 16777216
within_all zero s h l = omega arith
within_all (suc zero) s h l = omega arith
within_all (suc (suc zero)) s h l = omega arith
within_all (suc (suc (suc zero))) s h l = omega arith
within_all (suc (suc (suc (suc n)))) s h l = absurd (omega arith)
