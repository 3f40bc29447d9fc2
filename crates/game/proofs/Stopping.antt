-- When a solver may stop. Of a table in which every position is open or has its true entry: where the successors' entries decide no open position, all
-- open ones are drawn; where they decide one, it has a forced end. Assumes nothing.
use mathlib.Core.Path.{◌≡◌, sym, ◌∙◌}
use mathlib.Core.Bool.{Bool, true, false}
use mathlib.Core.List.{List, Memᴰ}
use mathlib.Core.Logic.{◌⊎◌, inl, inr}
use Prim.Native.Nat.{ℕ, zero, suc}
use native.Mathlib.Omega.{arith}
use Rattle.lists.specs.Lists.{is_empty}
use Rattle.lists.proofs.Tests.{untrue, member_any, none_any, fails_all, empty_none}
use Rattle.game.specs.Game.{Seed, live, won, lost, ended, Draw, Entry, draw_entry, void_entry}
use Rattle.game.specs.Judgement.{is_lost, is_won, decided}
use Rattle.game.proofs.Within.{won_zero, won_suc, lost_zero, lost_suc, won_ended, lost_ended, neither_ended}
use Rattle.game.proofs.Steps.{all_won_lost}
use Rattle.game.proofs.Tables.{Ground}
use Rattle.game.proofs.Entries.{lost_is, won_is, entry_lost, entry_won, entry_not_lost, entry_not_won, decided_cases, undecided_no_lost}
use Rattle.game.proofs.Entries.{undecided_not_won}

-- the plies decide, and no depth is known
abbrev pub Open : {Pos : Type 0} → (Pos → Seed) → (Pos → ℕ) → Pos → Type 0
Open seed t p = (seed p ≡ live) × (t p ≡ draw_entry)

module _ {Pos : Type 0} (next : Pos → List Pos) (seed : Pos → Seed) where
  -- positions that hold together: no ply leads from one of them to a lost position outside, and from each some ply stays or leads to one never won
  pub record Trap (U : Pos → Type 0) : Type 0 where
    pub plies : (p : Pos) → U p → seed p ≡ live
    pub no_loss : (p : Pos) → U p → (q : Pos) → Memᴰ q (next p) → U q ⊎ ((n : ℕ) → lost next seed n q ≡ false)
    pub stay : (p : Pos) → U p → (q : Pos) × Memᴰ q (next p) × (U q ⊎ ((n : ℕ) → won next seed n q ≡ false))

  module _ (U : Pos → Type 0) (t : Trap U) where
    held : (n : ℕ) (p : Pos) → U p → (won next seed n p ≡ false) × (lost next seed n p ≡ false)
    held zero p u = let e = t.plies p u in let s = t.stay p u in
        (won_zero next seed p e, lost_zero next seed p e ∙ sym (untrue (is_empty (next p)) (λ h. empty_none (next p) h s.1)))
    held (suc n) p u = let e = t.plies p u in let s = t.stay p u in (
      won_suc next seed n p e ∙ none_any _ (next p) (λ q m. outside q (lost next seed n q) (λ v. (held n q v).1) (λ f. f n) (t.no_loss p u q m)),
      lost_suc next seed n p e ∙ fails_all _ (next p) s.1 (outside s.0 (won next seed n s.0) (λ v. (held n s.0 v).0) (λ f. f n) s.2),
    )
      where
        outside : {C : Type 0} (q : Pos) (b : Bool) → (U q → b ≡ false) → (C → b ≡ false) → U q ⊎ C → b ≡ false
        outside q b r f (inl v) = r v
        outside q b r f (inr c) = f c

    -- all of them are drawn
    pub trap_draw : (p : Pos) → U p → Draw next seed p
    trap_draw p u n = let s = held n p u in neither_ended next seed n p s.0 s.1

  module _ (S : Pos → Type 0) (t : Pos → ℕ) where
    abbrev pub OpenOrTrue : Type 0
    OpenOrTrue = (q : Pos) → S q → Open seed t q ⊎ Entry next seed q (t q)

    module _ (g : Ground next seed S) (k : OpenOrTrue) where
      is_lost_lem : (q : Pos) → S q → is_lost (t q) ≡ true → lost next seed (t q) q ≡ true
      is_lost_lem q s h = go (k q s)
        where
          go : Open seed t q ⊎ Entry next seed q (t q) → lost next seed (t q) q ≡ true
          go (inl o) = absurd (omega (arith, o.1, (lost_is h).1))
          go (inr a) = (entry_lost next seed q a h).holds

      is_won_lem : (q : Pos) → S q → is_won (t q) ≡ true → won next seed (t q) q ≡ true
      is_won_lem q s h = go (k q s)
        where
          go : Open seed t q ⊎ Entry next seed q (t q) → won next seed (t q) q ≡ true
          go (inl o) = absurd (omega (arith, o.1, (won_is h).1))
          go (inr a) = (entry_won next seed q a h).holds

      -- a position that its successors' entries decide has a forced end
      pub decided_ends : (p : Pos) → S p → seed p ≡ live → decided next t p ≡ true → (n : ℕ) × (ended next seed n p ≡ true)
      decided_ends p s e h = go (decided_cases next t p h)
        where
          go : ((q : Pos) × Memᴰ q (next p) × (is_lost (t q) ≡ true)) ⊎ ((q : Pos) → Memᴰ q (next p) → is_won (t q) ≡ true)
              → (n : ℕ) × (ended next seed n p ≡ true)
          go (inl (q, m, l)) =
              (suc (t q), won_ended next seed (suc (t q)) p (won_suc next seed (t q) p e ∙ member_any _ (next p) m (is_lost_lem q (g.closed p s e q m) l)))
          go (inr w) = (
            void_entry,
            lost_ended next seed void_entry p
                (all_won_lost next seed void_entry p e (λ q m. (t q, (won_is (w q m)).1, is_won_lem q (g.closed p s e q m) (w q m)))),
          )

      -- where no open position is decided, every entry is true
      module _ (still : (p : Pos) → S p → seed p ≡ live → t p ≡ draw_entry → decided next t p ≡ false) where
        Left : Pos → Type 0
        Left p = S p × Open seed t p

        trap : Trap Left
        unfolding Left
        trap = record {
          plies = λ p o. o.1.0;
          no_loss = λ p (s, (e, v)) q m. let r = g.closed p s e q m in low q r (undecided_no_lost next t p (still p s e v) q m) (k q r);
          stay = λ p (s, (e, v)). let (q, m, w) = undecided_not_won next t p (still p s e v) in let r = g.closed p s e q m in (q, m, up q r w (k q r));
        }
          where
            low : (q : Pos) → S q → is_lost (t q) ≡ false → Open seed t q ⊎ Entry next seed q (t q) → Left q ⊎ ((n : ℕ) → lost next seed n q ≡ false)
            low q r f (inl o) = inl (r, o)
            low q r f (inr a) = inr (entry_not_lost next seed q a f)

            up : (q : Pos) → S q → is_won (t q) ≡ false → Open seed t q ⊎ Entry next seed q (t q) → Left q ⊎ ((n : ℕ) → won next seed n q ≡ false)
            up q r f (inl o) = inl (r, o)
            up q r f (inr a) = inr (entry_not_won next seed q a f)

        pub undecided_true : (p : Pos) → S p → Entry next seed p (t p)
        unfolding Left
        undecided_true p s = go (k p s)
          where
            go : Open seed t p ⊎ Entry next seed p (t p) → Entry next seed p (t p)
            go (inl o) = inr (o.1, trap_draw Left trap p (s, o))
            go (inr a) = a
