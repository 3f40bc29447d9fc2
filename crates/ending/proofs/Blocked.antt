-- Level 0 place by place, as the code goes: closed, blocked, or free to move. Assumes nothing.
use mathlib.Core.Path.{◌≡◌, refl, sym, ap, ◌∙◌}
use mathlib.Core.Bool.{Bool, true, false, ◌&&◌}
use mathlib.Core.List.{List}
use Prim.Native.Nat.{ℕ, zero, suc, ◌+◌, ◌-◌, ◌*◌, ◌≤◌, ◌<◌}
use native.Mathlib.Numerals.{add-one}
use native.Mathlib.Omega.{arith}
use lib.Dec.{eqb, ltb}
use lib.ListN.{length, set, length-set}
use lib.Seq.{get_or-set_other, set_comm}
use borrow.Author.Tests.{eqb-true, ltb-true}
use Rattle.lists.proofs.Tests.{and_left, and_right}
use Rattle.sizes.specs.Size.{size}
use Rattle.ranking.specs.Unrank.{unrank}
use Rattle.ranking.proofs.Inverse.{rank_unrank}
use Rattle.rules.specs.Ply.{blocked}
use Rattle.rules.proofs.Jumps.{three_free}
use Rattle.game.specs.Game.{draw_entry}
use Rattle.tables.specs.declared.Table.{Table}
use Rattle.deciding.specs.Inner.Open.{is_open}
use Rattle.ending.specs.Inner.Blocked.{blocked_place, blocked_first, blocked_range, all_free}

-- a place: closed, blocked, or free to move
module _ (rings : ℕ) (t : Table) (r : ℕ) (now : List ℕ) where
  pub place_closed : is_open t now r ≡ false → now ≡ blocked_place rings t now r
  unfolding blocked_place
  place_closed e = rw (e, blocked_place)

  pub place_blocked : is_open t now r ≡ true → blocked rings (unrank (8 * rings) t.mover t.opponent r) ≡ true
      → set now (t.own.start + r) 0 ≡ blocked_place rings t now r
  unfolding blocked_place
  place_blocked e h = rw (e, h, blocked_place)

  pub place_free : is_open t now r ≡ true → blocked rings (unrank (8 * rings) t.mover t.opponent r) ≡ false → now ≡ blocked_place rings t now r
  unfolding blocked_place
  place_free e h = rw (e, h, blocked_place)

  pub blocked_length : length (blocked_place rings t now r) ≡ length now
  unfolding blocked_place
  blocked_length = go (is_open t now r && blocked rings (unrank (8 * rings) t.mover t.opponent r))
    where
      go : (b : Bool) → length {A = ℕ} (elim b as (λ c. List ℕ) [ true ↦ set now (t.own.start + r) 0 | false ↦ now ]) ≡ length now
      go true = length-set now (t.own.start + r) 0
      go false = refl

module _ (rings : ℕ) (t : Table) (now : List ℕ) where
  pub blocked_none : now ≡ blocked_first rings t now 0
  unfolding blocked_first
  blocked_none = refl

  pub blocked_more : (r : ℕ) (l : List ℕ) → l ≡ blocked_first rings t now r → blocked_place rings t l r ≡ blocked_first rings t now (r + 1)
  unfolding blocked_first
  blocked_more r l e = rw (e, add-one r)

  pub blocked_lengths : (n : ℕ) → length (blocked_first rings t now n) ≡ length now
  unfolding blocked_first
  blocked_lengths zero = refl
  blocked_lengths (suc n) = blocked_length rings t n (blocked_first rings t now n) ∙ blocked_lengths n

  -- where no mover is blocked, level 0 leaves the table as it is
  module _ (free : all_free rings t ≡ true) where
    mover_free : (r : ℕ) → r < size (8 * rings) t.mover t.opponent → blocked rings (unrank (8 * rings) t.mover t.opponent r) ≡ false
    unfolding all_free
    mover_free r h =
        let three = eqb-true t.mover 3 (and_left (eqb t.mover 3) (ltb 3 (8 * rings - t.opponent)) free) in
        let room = ltb-true 3 (8 * rings - t.opponent) (and_right (eqb t.mover 3) (ltb 3 (8 * rings - t.opponent)) free) in
        let w = rank_unrank (8 * rings) t.mover t.opponent r h in
        three_free rings (unrank (8 * rings) t.mover t.opponent r) w.values w.points (w.mover ∙ three) (omega (arith, w.opponent))

    pub free_none : (n : ℕ) → n ≤ size (8 * rings) t.mover t.opponent → now ≡ blocked_first rings t now n
    unfolding blocked_first
    free_none zero h = refl
    free_none (suc n) h = free_none n (omega arith) ∙ go (is_open t (blocked_first rings t now n) n) refl
      where
        go : (c : Bool) → is_open t (blocked_first rings t now n) n ≡ c → blocked_first rings t now n ≡ blocked_place rings t (blocked_first rings t now n) n
        go true e = place_free rings t n (blocked_first rings t now n) e (mover_free n h)
        go false e = place_closed rings t n (blocked_first rings t now n) e

-- places are swept in any order
module _ (rings : ℕ) (t : Table) where
  abbrev stuck : ℕ → Bool
  stuck r = blocked rings (unrank (8 * rings) t.mover t.opponent r)

  abbrev put : ℕ → List ℕ → Bool → List ℕ
  put r now true = set now (t.own.start + r) 0
  put r now false = now

  place_is : (now : List ℕ) (r : ℕ) (c : Bool) → (is_open t now r && stuck r) ≡ c → blocked_place rings t now r ≡ put r now c
  unfolding blocked_place
  place_is now r true e = rw (e, blocked_place)
  place_is now r false e = rw (e, blocked_place)

  -- another place is as open as it was
  open_still : (now : List ℕ) (q r : ℕ) → (q ≡ r → ⊥) → (c : Bool)
      → is_open t (put q now c) r ≡ is_open t now r
  unfolding is_open
  open_still now q r ne true = ap (λ (e : ℕ). eqb e draw_entry) (get_or-set_other now (t.own.start + q) (t.own.start + r) 0 0 (λ e. ne (omega arith)))
  open_still now q r ne false = refl

  place_commutes : (now : List ℕ) (q r : ℕ) → (q ≡ r → ⊥)
      → blocked_place rings t (blocked_place rings t now q) r ≡ blocked_place rings t (blocked_place rings t now r) q
  place_commutes now q r ne = go (is_open t now q && stuck q) refl (is_open t now r && stuck r) refl
    where
      swapped : (a c : Bool) → put r (put q now a) c ≡ put q (put r now c) a
      swapped true true = set_comm now (t.own.start + q) (t.own.start + r) 0 0 (λ e. ne (omega arith))
      swapped true false = refl
      swapped false true = refl
      swapped false false = refl

      go : (a : Bool) → (is_open t now q && stuck q) ≡ a → (c : Bool) → (is_open t now r && stuck r) ≡ c
          → blocked_place rings t (blocked_place rings t now q) r ≡ blocked_place rings t (blocked_place rings t now r) q
      go a e c f =
          ap (λ (l : List ℕ). blocked_place rings t l r) (place_is now q a e)
          ∙ place_is (put q now a) r c (ap (λ (b : Bool). b && stuck r) (open_still now q r ne a) ∙ f)
          ∙ swapped a c
          ∙ sym (ap (λ (l : List ℕ). blocked_place rings t l q) (place_is now r c f)
          ∙ place_is (put r now c) q a (ap (λ (b : Bool). b && stuck q) (open_still now r q (λ z. ne (sym z)) c) ∙ e))

  range_commutes : (a n : ℕ) (now : List ℕ) (r : ℕ) → r < a
      → blocked_place rings t (blocked_range rings t a now n) r ≡ blocked_range rings t a (blocked_place rings t now r) n
  unfolding blocked_range
  range_commutes a zero now r l = refl
  range_commutes a (suc n) now r l =
      place_commutes (blocked_range rings t a now n) (a + n) r (λ e. omega arith)
      ∙ ap (λ (m : List ℕ). blocked_place rings t m (a + n)) (range_commutes a n now r l)

  -- two halves side by side: the first r of each
  pub halves_none : (now : List ℕ) (half : ℕ) → now ≡ blocked_range rings t half (blocked_first rings t now 0) 0
  unfolding blocked_range blocked_first
  halves_none now half = refl

  pub halves_more : (now : List ℕ) (half r : ℕ) → r < half → (l : List ℕ) → l ≡ blocked_range rings t half (blocked_first rings t now r) r
      → blocked_place rings t (blocked_place rings t l r) (half + r) ≡ blocked_range rings t half (blocked_first rings t now (r + 1)) (r + 1)
  unfolding blocked_range
  halves_more now half r h l e =
      ap (λ (m : List ℕ). blocked_place rings t m (half + r))
      (ap (λ (m : List ℕ). blocked_place rings t m r) e ∙ range_commutes half r (blocked_first rings t now r) r h
      ∙ ap (λ (m : List ℕ). blocked_range rings t half m r) (blocked_more rings t now r (blocked_first rings t now r) refl))
      ∙ rw (add-one r)

  -- what comes after the first a positions
  pub range_after : (now : List ℕ) (a n : ℕ) → blocked_range rings t a (blocked_first rings t now a) n ≡ blocked_first rings t now (a + n)
  unfolding blocked_range blocked_first
  range_after now a zero = let e : a ≡ a + 0 = omega arith in ap (blocked_first rings t now) e
  range_after now a (suc n) =
      let e : a + suc n ≡ suc (a + n) = omega arith in
      ap (λ (l : List ℕ). blocked_place rings t l (a + n)) (range_after now a n) ∙ sym (ap (blocked_first rings t now) e)

  pub range_none : (a : ℕ) (now : List ℕ) → now ≡ blocked_range rings t a now 0
  unfolding blocked_range
  range_none a now = refl

  pub range_more : (a : ℕ) (now : List ℕ) (n : ℕ) (l : List ℕ) → l ≡ blocked_range rings t a now n
      → blocked_place rings t l (a + n) ≡ blocked_range rings t a now (n + 1)
  unfolding blocked_range
  range_more a now n l e = rw (e, add-one n)
