-- The first number that passes a test, found by passing over those that do not; and where places are numbered from a start. Assumes nothing.
use Rattle.std.proofs.Common.{◌≡◌, ℕ, ◌+◌, ◌-◌, ◌<◌, ◌≤◌, Bool, true, false, ltb, refl, ap, ◌∙◌, arith, ltb-false, ltb-true}
use Rattle.finding.specs.Inner.Finding.{First, NoneBefore}

pub passed_none : (test : ℕ → Bool) (from end : ℕ) → from ≤ end → NoneBefore test from end from
passed_none test from end h = record { low = omega arith; high = h; none = λ j a b. absurd (omega arith) }

-- n numbers more are passed
pub passed_more : {test : ℕ → Bool} {from end i : ℕ} (n : ℕ) → NoneBefore test from end i → ((j : ℕ) → i ≤ j → j < i + n → test j ≡ false)
    → i + n ≤ end → NoneBefore test from end (i + n)
passed_more {test} {from} {end} {i} n w more h = record { low = omega (arith, w.low); high = h; none = λ j a b. go j a b (ltb j i) refl }
  where
    go : (j : ℕ) → from ≤ j → j < i + n → (d : Bool) → ltb j i ≡ d → test j ≡ false
    go j a b true f = w.none j a (ltb-true j i f)
    go j a b false f = more j (ltb-false j i f) b

pub passed_one : {test : ℕ → Bool} {from end i : ℕ} → NoneBefore test from end i → test i ≡ false → i < end → NoneBefore test from end (i + 1)
passed_one {test} {i = i} w e h =
    passed_more 1 w (λ j a b. let q : j ≡ i = omega arith in ap test q ∙ e) (omega arith)

-- the first, once those before it are passed
pub first_here : {test : ℕ → Bool} {from end i : ℕ} → NoneBefore test from end i → test i ≡ true → First test from end i
first_here w e = record { low = w.low; high = w.high; none = w.none; here = λ h. e }

pub first_none : {test : ℕ → Bool} {from end i : ℕ} → NoneBefore test from end i → end ≤ i → First test from end i
first_none w l = record { low = w.low; high = w.high; none = w.none; here = λ h. absurd (omega arith) }

-- another test that says the same
pub first_same : {test other : ℕ → Bool} {from end r : ℕ} → ((i : ℕ) → other i ≡ test i) → First test from end r → First other from end r
first_same {r = r} same w = record { low = w.low; high = w.high; none = λ i a b. same i ∙ w.none i a b; here = λ h. same r ∙ w.here h }

-- a place found is a number found, counted from the start
pub first_from : (test : ℕ → Bool) (start from end r : ℕ) → First test (start + from) (start + end) r → First (λ i. test (start + i)) from end (r - start)
first_from test start from end r w =
    let h = w.low in
    let e : start + (r - start) ≡ r = omega arith in
    record {
      low = omega arith;
      high = omega (arith, w.high);
      none = λ i a b. w.none (start + i) (omega arith) (omega arith);
      here = λ b. ap test e ∙ w.here (omega arith);
    }
