-- A loop over a set's members that writes two lists into one buffer, what each member gives to the first and to the second: its invariant, with its
-- start, its step and its end. Assumes nothing.
use mathlib.Core.Path.{◌≡◌, ap, ◌∙◌}
use mathlib.Core.List.{List}
use Prim.Native.Nat.{ℕ, ◌+◌, ◌^◌, ◌≤◌, ◌<◌}
use native.Mathlib.Omega.{arith}
use lib.ListN.{length, length-append}
use lib.Seq.{sets}
use Rattle.lists.proofs.Dealing.{Dealing, dealing_none, dealing_same, dealing_part, dealing_all}
use Rattle.sets.specs.Sets.{bit}
use Rattle.sets.specs.Inner.Taken.{Taken}
use Rattle.sets.proofs.Passing.{given, given_apart, given_none}

module _ (f g : ℕ → List ℕ) (old : List ℕ) (a b whole : ℕ) where
  -- of what the whole gives from a on and from b on, what the members left give is still to be written at k and at j
  pub record Dealt (list : List ℕ) (k j left : ℕ) : Type 0 where
    pub within : left < 2 ^ 32
    pub among : (q : ℕ) → bit left q ≡ 1 → bit whole q ≡ 1
    pub dealing : Dealing old a (given f whole) b (given g whole) list k (given f left) j (given g left)

  pub dealt_none : whole < 2 ^ 32 → a + length (given f whole) ≤ b → Dealt old a b whole
  dealt_none h r = record { within = h; among = λ q e. e; dealing = dealing_none old a (given f whole) b (given g whole) r }

  module _ {list : List ℕ} {k j left p rest : ℕ} (w : Dealt list k j left) (t : Taken left p rest) where
    -- there is room for what a member gives
    pub dealt_room : b + length (given g whole) ≤ length old → (k + length (f p) ≤ j) × (j + length (g p) ≤ length list)
    dealt_room h = (
      omega (arith, w.dealing.apart, ap length (given_apart f left p rest t), length-append (f p) (given f rest)),
      omega (
        arith,
        w.dealing.place_second,
        w.dealing.long,
        ap length (given_apart g left p rest t),
        length-append (g p) (given g rest),
      ),
    )

    pub dealt_more : {list' : List ℕ} {k' j' : ℕ} → k' ≡ k + length (f p) → j' ≡ j + length (g p) → list' ≡ sets (sets list k (f p)) j (g p)
        → Dealt list' k' j' rest
    dealt_more e d c = record {
      within = omega (arith, w.within, t.less);
      among = λ q i. w.among q (t.among q i);
      dealing =
          rw (e, d, c)
          (dealing_part (f p) (given f rest) (g p) (given g rest)
          (dealing_same (given_apart f left p rest t) (given_apart g left p rest t) w.dealing));
    }

  pub dealt_all : {list : List ℕ} {k j left : ℕ} → Dealt list k j left → left ≡ 0
      → (k ≡ a + length (given f whole)) × (j ≡ b + length (given g whole)) × (list ≡ sets (sets old a (given f whole)) b (given g whole))
  dealt_all w e = dealing_all (dealing_same (ap (given f) e ∙ given_none f) (ap (given g) e ∙ given_none g) w.dealing)
