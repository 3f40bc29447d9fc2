-- Keys of entries, and what each question of a solver asks of an entry of 16 bits. Assumes nothing.
use mathlib.Core.Path.{◌≡◌, refl, sym, ap, ap₂, ◌∙◌}
use mathlib.Core.Bool.{Bool, true, false, not, ◌&&◌, and-false}
use Prim.Native.Nat.{ℕ, suc, ◌+◌, ◌-◌, ◌%◌, ◌≤◌, ◌<◌}
use native.Mathlib.Omega.{arith}
use lib.Dec.{eqb, leb, ltb}
use borrow.Author.Tests.{eqb-true, eqb-false, eq-eqb, ne_eqb, leb-true, le-leb, ltb-true, ltb-false, lt-ltb, le-ltb, not-true}
use Rattle.lists.proofs.Tests.{same_test, and_left, and_right, and_both}
use Rattle.game.specs.Game.{void_entry}
use Rattle.game.specs.Judgement.{is_lost, is_won}
use Rattle.game.proofs.Entries.{lost_is, lost_of, won_test}
use Rattle.asking.specs.Inner.Keys.{key, asked}

-- a won entry comes by its depth, any other after all of these
pub key_won : (e : ℕ) → (eqb (e % 2) 1 && ltb e void_entry) ≡ true → key e ≡ e
unfolding key
key_won e w = let t : is_won e ≡ true = won_test e ∙ w in rw (t, key)

pub key_other : (e : ℕ) → (eqb (e % 2) 1 && ltb e void_entry) ≡ false → key e ≡ 65536 + e
unfolding key
key_other e w = let t : is_won e ≡ false = won_test e ∙ w in rw (t, key)

pub asked_is : (low high e : ℕ) → asked low high e ≡ (leb low (key e) && ltb (key e) high)
unfolding asked
asked_is low high e = refl

-- an entry and its key
data Keyed (e : ℕ) : ℕ → Type 0 where
  depth_odd : e % 2 ≡ 1 → e < void_entry → Keyed e e
  even : e % 2 ≡ 0 → Keyed e (65536 + e)
  no_depth : void_entry ≤ e → Keyed e (65536 + e)

keyed : (e : ℕ) → Keyed e (key e)
keyed e = go (eqb (e % 2) 1) refl (ltb e void_entry) refl
  where
    go : (a : Bool) → eqb (e % 2) 1 ≡ a → (b : Bool) → ltb e void_entry ≡ b → Keyed e (key e)
    go true p true q = rw (key_won e (ap₂ ◌&&◌ p q)) (depth_odd (eqb-true (e % 2) 1 p) (ltb-true e void_entry q))
    go true p false q = rw (key_other e (ap₂ ◌&&◌ p q)) (no_depth (ltb-false e void_entry q))
    go false p b q = rw (key_other e (ap₂ ◌&&◌ p q)) (even (omega (arith, eqb-false (e % 2) 1 p)))

-- a test passes where a key is asked for, and nowhere else
record Agrees (low high k : ℕ) (t : Bool) : Type 0 where
  passes : low ≤ k → k < high → t ≡ true
  asked_for : t ≡ true → (low ≤ k) × (k < high)

agree : (low high e : ℕ) (t : Bool) → ((k : ℕ) → Keyed e k → Agrees low high k t) → asked low high e ≡ t
agree low high e t f =
    let a = f (key e) (keyed e) in
    asked_is low high e
    ∙ same_test (leb low (key e) && ltb (key e) high) t
    (λ h. a.passes (leb-true low (key e) (and_left _ _ h)) (ltb-true (key e) high (and_right (leb low (key e)) _ h)))
    (λ h. let r = a.asked_for h in and_both _ _ (le-leb low (key e) r.0) (lt-ltb (key e) high r.1))

module _ (e : ℕ) (small : e < 65536) where
  -- lost in one ply less than an odd level
  pub asks_before : (level : ℕ) → level % 2 ≡ 1 → level < void_entry → asked (65536 + level - 1) (65536 + level) e ≡ eqb (suc e) level
  asks_before level odd l = agree (65536 + level - 1) (65536 + level) e (eqb (suc e) level) cases
    where
      cases : (k : ℕ) → Keyed e k → Agrees (65536 + level - 1) (65536 + level) k (eqb (suc e) level)
      cases k (depth_odd o h) = omega (arith, eqb-true, eq-eqb)
      cases k (even o) = omega (arith, eqb-true, eq-eqb)
      cases k (no_depth h) = omega (arith, eqb-true, eq-eqb)

  -- lost in fewer plies than one less than an odd level
  pub asks_quicker : (level : ℕ) → level % 2 ≡ 1 → level < void_entry → asked 65536 (65536 + level - 1) e ≡ (is_lost e && ltb (suc e) level)
  asks_quicker level odd l = agree 65536 (65536 + level - 1) e (is_lost e && ltb (suc e) level) cases
    where
      said : (is_lost e && ltb (suc e) level) ≡ true → (e % 2 ≡ 0) × (e < void_entry) × (suc e < level)
      said t =
          let (o, h) = lost_is (and_left (is_lost e) _ t) in
          (o, h, ltb-true (suc e) level (and_right (is_lost e) _ t))

      cases : (k : ℕ) → Keyed e k → Agrees 65536 (65536 + level - 1) k (is_lost e && ltb (suc e) level)
      cases k (depth_odd o h) = record { passes = λ a b. absurd (omega arith); asked_for = λ t. absurd (omega (arith, said t)) }
      cases k (even o) = record {
        passes = λ a b. and_both _ _ (lost_of o (omega arith)) (lt-ltb (suc e) level (omega arith));
        asked_for = λ t. omega (arith, said t);
      }
      cases k (no_depth h) = record { passes = λ a b. absurd (omega arith); asked_for = λ t. absurd (omega (arith, said t)) }

  -- won in one ply less than an even level
  pub asks_slowest : (level : ℕ) → level % 2 ≡ 0 → 0 < level → level < void_entry → asked (level - 1) level e ≡ eqb (suc e) level
  asks_slowest level even-level some l = agree (level - 1) level e (eqb (suc e) level) cases
    where
      cases : (k : ℕ) → Keyed e k → Agrees (level - 1) level k (eqb (suc e) level)
      cases k (depth_odd o h) = omega (arith, eqb-true, eq-eqb)
      cases k (even o) = omega (arith, eqb-true, eq-eqb)
      cases k (no_depth h) = omega (arith, eqb-true, eq-eqb)

  -- not won in fewer plies than a level
  pub asks_not_below : (level : ℕ) → level ≤ void_entry → asked level 131072 e ≡ not (eqb (e % 2) 1 && ltb e level)
  asks_not_below level l = agree level 131072 e (not (eqb (e % 2) 1 && ltb e level)) cases
    where
      cases : (k : ℕ) → Keyed e k → Agrees level 131072 k (not (eqb (e % 2) 1 && ltb e level))
      cases k (depth_odd o h) = rw (eq-eqb (e % 2) 1 o) record {
        passes = λ a b. ap not (le-ltb e level a);
        asked_for = λ t. (ltb-false e level (not-true (ltb e level) t), omega arith);
      }
      cases k (even o) = rw (ne_eqb (e % 2) 1 (λ q. omega arith)) record { passes = λ a b. refl; asked_for = λ t. omega arith }
      cases k (no_depth h) = rw (le-ltb e level (omega arith), and-false (eqb (e % 2) 1))
          record { passes = λ a b. refl; asked_for = λ t. omega arith }

  pub asks_not_won : asked void_entry 131072 e ≡ not (is_won e)
  asks_not_won = asks_not_below void_entry (omega arith) ∙ ap not (sym (won_test e))

  pub asks_lost : asked 65536 131070 e ≡ is_lost e
  asks_lost = agree 65536 131070 e (is_lost e) cases
    where
      cases : (k : ℕ) → Keyed e k → Agrees 65536 131070 k (is_lost e)
      cases k (depth_odd o h) = record { passes = λ a b. absurd (omega arith); asked_for = λ t. absurd (omega (arith, lost_is t)) }
      cases k (even o) = record { passes = λ a b. lost_of o (omega arith); asked_for = λ t. omega (arith, lost_is t) }
      cases k (no_depth h) = record { passes = λ a b. absurd (omega arith); asked_for = λ t. absurd (omega (arith, lost_is t)) }

  pub asks_void : asked 131070 131071 e ≡ eqb e void_entry
  asks_void = agree 131070 131071 e (eqb e void_entry) cases
    where
      cases : (k : ℕ) → Keyed e k → Agrees 131070 131071 k (eqb e void_entry)
      cases k (depth_odd o h) = omega (arith, eqb-true, eq-eqb)
      cases k (even o) = omega (arith, eqb-true, eq-eqb)
      cases k (no_depth h) = omega (arith, eqb-true, eq-eqb)
