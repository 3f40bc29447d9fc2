-- Below the lowest descent the values rise, so the stones stand in two runs: first the mover's, then the opponent's. Assumes nothing.
use mathlib.Core.Path.{◌≡◌, refl, sym, ap, ◌∙◌, subst}
use mathlib.Core.Bool.{Bool, true, false}
use mathlib.Core.List.{List}
use Prim.Native.Nat.{ℕ, zero, suc, ◌+◌, ◌-◌, ◌*◌, ◌^◌, ◌≤◌, ◌<◌, min}
use native.Mathlib.Omega.{arith}
use lib.Dec.{ltb}
use lib.ListN.{get_or}
use borrow.Author.Tests.{ltb-true, ltb-false}
use Rattle.sets.specs.Sets.{bit, with, members, lowest}
use Rattle.sets.proofs.Laws.{bit_empty, bit_with_same, bit_with_other, with_lt}
use Rattle.sets.proofs.Elements.{lowest_member}
use Rattle.board.specs.declared.Position.{Position}
use Rattle.board.specs.Board.{board_of, OnBoard}
use Rattle.sets.proofs.Least.{below_lowest}
use Rattle.ranking.proofs.Digits.{stones}
use Rattle.stepping.proofs.Extremes.{Rises}
use Rattle.stepping.proofs.Descents.{Descent, value_bits, stones_at}

-- the members below n of a set that has the points from a to b there
record Run (s n a b : ℕ) : Type 0 where
  pub before : (q : ℕ) → q < n → q < a → bit s q ≡ 0
  pub within : (q : ℕ) → q < n → a ≤ q → q < b → bit s q ≡ 1
  pub after : (q : ℕ) → q < n → b ≤ q → bit s q ≡ 0

run_less : (s n a b : ℕ) → Run s (suc n) a b → Run s n a b
run_less s n a b r = record {
  before = λ q h. r.before q (omega arith);
  within = λ q h. r.within q (omega arith);
  after = λ q h. r.after q (omega arith);
}

members_run : (s n a b : ℕ) → a ≤ b → Run s n a b → members s n ≡ min b n - min a n
unfolding members
members_run s zero a b h r = omega arith
members_run s (suc n) a b h r = go (ltb n a) (ltb n b) refl refl (members_run s n a b h (run_less s n a b r))
  where
    go : (x y : Bool) → ltb n a ≡ x → ltb n b ≡ y → members s n ≡ min b n - min a n → members s n + bit s n ≡ min b (suc n) - min a (suc n)
    go true y e f i = let k = ltb-true n a e in omega (arith, r.before n (omega arith) k)
    go false true e f i =
        let k = ltb-false n a e in
        let l = ltb-true n b f in
        omega (arith, r.within n (omega arith) k l)
    go false false e f i = let k = ltb-false n b f in omega (arith, r.after n (omega arith) k)

-- k is the least member
record Least (s k : ℕ) : Type 0 where
  pub member : bit s k ≡ 1
  pub below : (q : ℕ) → q < k → bit s q ≡ 0

least : (s k : ℕ) → s < 2 ^ 32 → (s ≡ 0 → ⊥) → k ≡ lowest s → Least s k
least s k fits some e = record {
  member = ap (bit s) e ∙ lowest_member s fits some;
  below = λ q l. below_lowest s q fits some (omega arith);
}

least_le : (s k q : ℕ) → Least s k → bit s q ≡ 1 → k ≤ q
least_le s k q l m = go (ltb q k) refl
  where
    go : (c : Bool) → ltb q k ≡ c → k ≤ q
    go true e = absurd (omega (arith, l.below q (ltb-true q k e)))
    go false e = ltb-false q k e

-- no value is above a later one
rises_on : (b : List ℕ) (n q d : ℕ) → Rises b n → q + d < n → get_or b q 0 ≤ get_or b (q + d) 0
rises_on b n q zero r l = let e : q ≡ q + 0 = omega arith in omega (arith, ap (λ (j : ℕ). get_or b j 0) e)
rises_on b n q (suc d) r l =
    let e : suc (q + d) ≡ q + suc d = omega arith in
    omega (arith, rises_on b n q d r (omega arith), r (q + d) (omega arith), ap (λ (j : ℕ). get_or b j 0) e)

rises_le : (b : List ℕ) (n q k : ℕ) → Rises b n → q ≤ k → k < n → get_or b q 0 ≤ get_or b k 0
rises_le b n q k r h l =
    let e : q + (k - q) ≡ k = omega arith in
    subst (λ (j : ℕ). get_or b q 0 ≤ get_or b j 0) e (rises_on b n q (k - q) r (omega arith))

-- below p the mover has the points from z to t, and the opponent those from t on
pub record Runs (position : Position) (p t z : ℕ) : Type 0 where
  pub opponent_from : t ≤ p
  pub mover_from : z ≤ t
  pub mover : members position.mover p ≡ t - z
  pub opponent : members position.opponent p ≡ p - t

module _ (points : ℕ) (position : Position) (p t z : ℕ) (w : OnBoard points position) (d : Descent points position p)
    (lt : Least (with position.opponent p) t) (lz : Least (stones position) z) where
  value : (q : ℕ) → q < p → get_or (board_of points position) q 0 ≡ bit position.mover q + 2 * bit position.opponent q
  value q l = value_bits points position q (omega (arith, d.low))

  either : (q : ℕ) → q < p → bit (stones position) q ≡ bit position.mover q + bit position.opponent q
  either q l = stones_at points position w q (omega (arith, d.low))

  up : (q k : ℕ) → q ≤ k → k < p → get_or (board_of points position) q 0 ≤ get_or (board_of points position) k 0
  up q k h l = rises_le (board_of points position) p q k d.rises h l

  same : (q : ℕ) → q < p → bit (with position.opponent p) q ≡ bit position.opponent q
  same q l = bit_with_other position.opponent p q (λ e. omega arith)

  theirs : (q : ℕ) → q < p → t ≤ q → bit position.opponent q ≡ 1
  theirs q l h =
      let k : t < p = omega arith in
      omega (arith, same t k, lt.member, value t k, up t q h l, value q l, w.apart q (omega (arith, d.low)))

  before_theirs : (q : ℕ) → q < p → q < t → bit position.opponent q ≡ 0
  before_theirs q l h = sym (same q l) ∙ lt.below q h

  ours : (q : ℕ) → q < p → z ≤ q → q < t → bit position.mover q ≡ 1
  ours q l h k =
      let m : z < p = omega arith in
      omega (arith, before_theirs q l k, lz.member, either z m, value z m, up z q h l, value q l, w.apart q (omega (arith, d.low)))

  low_theirs : t ≤ p
  low_theirs = least_le (with position.opponent p) t p lt (bit_with_same position.opponent p)

  low_ours : z ≤ t
  low_ours = go (ltb t p) refl
    where
      go : (c : Bool) → ltb t p ≡ c → z ≤ t
      go true e =
          let k = ltb-true t p e in
          least_le (stones position) z t lz (omega (arith, either t k, theirs t k (omega arith), w.apart t (omega (arith, d.low))))
      go false e = omega (arith, ltb-false t p e, least_le (stones position) z (p - 1) lz d.stone)

  run_ours : Run position.mover p z t
  run_ours = record {
    before = λ q l h. omega (arith, lz.below q h, either q l);
    within = ours;
    after = λ q l h. omega (arith, theirs q l h, w.apart q (omega (arith, d.low)));
  }

  run_theirs : Run position.opponent p t p
  run_theirs = record {
    before = before_theirs;
    within = λ q l h k. theirs q l h;
    after = λ q l h. absurd (omega arith);
  }

  runs_least : Runs position p t z
  runs_least = record {
    opponent_from = low_theirs;
    mover_from = low_ours;
    mover = members_run position.mover p z t low_ours run_ours ∙ omega (arith, low_theirs);
    opponent = members_run position.opponent p t p low_theirs run_theirs ∙ omega (arith, low_theirs);
  }

-- there are stones, and there is a point in the opponent's with p
pub stones_any : (points : ℕ) (position : Position) (p : ℕ) → Descent points position p → stones position ≡ 0 → ⊥
stones_any points position p d e = omega (arith, d.stone, ap (λ (s : ℕ). bit s (p - 1)) e, bit_empty (p - 1))

pub with_any : (s p : ℕ) → with s p ≡ 0 → ⊥
with_any s p e = omega (arith, bit_with_same s p, ap (λ (x : ℕ). bit x p) e, bit_empty p)

pub runs : (points : ℕ) (position : Position) (p t z : ℕ) → OnBoard points position → Descent points position p → points ≤ 24
    → stones position < 2 ^ 24 → position.opponent < 2 ^ 24 → t ≡ lowest (with position.opponent p) → z ≡ lowest (stones position)
    → Runs position p t z
runs points position p t z w d h hs ho et ez =
    let l : with position.opponent p < 2 ^ 24 = with_lt 24 position.opponent p ho (omega (arith, d.low)) in
    runs_least points position p t z w d (least (with position.opponent p) t (omega arith) (with_any position.opponent p) et)
    (least (stones position) z (omega arith) (stones_any points position p d) ez)
