-- The certificate of a table: one without void that is its own judgement everywhere holds the true entries, and the table of true entries is its own
-- judgement. By depth, since bare marks of won and lost round a cycle hold each other up. Assumes nothing.
use mathlib.Core.Path.{◌≡◌, refl, sym, ◌∙◌, subst}
use mathlib.Core.Bool.{Bool, true, false}
use mathlib.Core.List.{List, map}
use mathlib.Core.Logic.{◌⊎◌, inl, inr}
use Prim.Native.Nat.{ℕ, zero, suc, ◌≤◌, ◌<◌}
use native.Mathlib.Omega.{arith}
use lib.Dec.{ltb}
use borrow.Author.Tests.{ltb-true, ltb-false}
use Rattle.lists.proofs.Tests.{clash, untrue}
use Rattle.game.specs.Game.{Seed, live, Depth, Entry, draw_entry, void_entry}
use Rattle.game.specs.Judgement.{judge, decided}
use Rattle.game.proofs.Tables.{Ground, Seeded, Upto, live_or_true}
use Rattle.game.proofs.Entries.{entry_depth, depth_entry}
use Rattle.game.proofs.Judging.{judge_range, undecided_draw, draw_undecided}
use Rattle.game.proofs.JudgedDepths.{judge_sound, judge_complete}
use Rattle.game.proofs.Stopping.{Open, OpenOrTrue, decided_ends, undecided_true}

module _ {Pos : Type 0} (next : Pos → List Pos) (seed : Pos → Seed) (S : Pos → Type 0) (g : Ground next seed S) (t : Pos → ℕ) where
  module _ (x : Seeded next seed S t) (no-void : (p : Pos) → S p → seed p ≡ live → t p ≡ void_entry → ⊥)
      (right : (p : Pos) → S p → seed p ≡ live → t p ≡ judge (map t (next p))) where
    upto : (n : ℕ) → n ≤ void_entry → Upto next seed S t n
    upto zero b = record { sound = λ q s l. absurd (omega arith); complete = λ q s k l d. absurd (omega arith) }
    upto (suc n) b = let u = upto n (omega arith) in record {
      sound = λ q s l. sound u q s l (live_or_true next seed S g t x q s);
      complete = λ q s k l d. complete u q s k l d (live_or_true next seed S g t x q s);
    }
      where
        sound : Upto next seed S t n → (q : Pos) → S q → t q < suc n → (seed q ≡ live) ⊎ Entry next seed q (t q) → Depth next seed (t q) q
        sound u q s l (inl e) = let v = right q s e in
            subst (λ (k : ℕ). Depth next seed k q) (sym v) (judge_sound next seed S g t n (omega arith) u q s e (omega arith))
        sound u q s l (inr a) = entry_depth next seed q a (omega arith)

        complete : Upto next seed S t n → (q : Pos) → S q → (k : ℕ) → k < suc n → Depth next seed k q → (seed q ≡ live) ⊎ Entry next seed q (t q) → t q ≡ k
        complete u q s k l d (inl e) = right q s e ∙ judge_complete next seed S g t n (omega arith) u q s e k (omega arith) d
        complete u q s k l d (inr a) = (depth_entry next seed q a d).0

    known : OpenOrTrue next seed S t
    known q s = go (live_or_true next seed S g t x q s)
      where
        valid : seed q ≡ live → (c : Bool) → ltb (t q) void_entry ≡ c → (judge (map t (next q)) ≤ void_entry) ⊎ (judge (map t (next q)) ≡ draw_entry)
            → Open seed t q ⊎ Entry next seed q (t q)
        valid e true f r = let l = ltb-true (t q) void_entry f in inr (inl (l, (upto void_entry (omega arith)).sound q s l))
        valid e false f (inl r) = absurd (no-void q s e (omega (arith, ltb-false (t q) void_entry f, right q s e)))
        valid e false f (inr r) = inl (e, right q s e ∙ r)

        go : (seed q ≡ live) ⊎ Entry next seed q (t q) → Open seed t q ⊎ Entry next seed q (t q)
        go (inl e) = valid e (ltb (t q) void_entry) refl (judge_range next t q)
        go (inr a) = inr a

    pub certified : (p : Pos) → S p → Entry next seed p (t p)
    certified = undecided_true next seed S t g known (λ p s e v. draw_undecided next t p (sym (right p s e) ∙ v))

  pub passes : ((p : Pos) → S p → Entry next seed p (t p)) → (p : Pos) → S p → seed p ≡ live → t p ≡ judge (map t (next p))
  passes all_true p s e = go (all_true p s)
    where
      upto : Upto next seed S t void_entry
      upto = record { sound = λ q s l. entry_depth next seed q (all_true q s) l; complete = λ q s k l d. (depth_entry next seed q (all_true q s) d).0 }

      go : Entry next seed p (t p) → t p ≡ judge (map t (next p))
      go (inl a) = sym (judge_complete next seed S g t void_entry (omega arith) upto p s e (t p) (omega (arith, a.0)) a.1)
      go (inr a) = a.0 ∙ sym (undecided_draw next t p (sym (untrue (decided next t p)
          (λ d. let (n, h) = decided_ends next seed S t g (λ q s. inr (all_true q s)) p s e d in clash h (a.1 n)))))
