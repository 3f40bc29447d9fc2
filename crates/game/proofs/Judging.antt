-- What a judgement by the successors' entries says, as cases: no successor; the least lost one; the greatest where all are won; or a draw. It is a draw
-- exactly where the entries do not decide. Assumes nothing.
use mathlib.Core.Path.{◌≡◌, refl, sym, ◌∙◌, ap, subst}
use mathlib.Core.Bool.{Bool, true, false, true≢false}
use mathlib.Core.List.Memᴰ
use mathlib.Core.List.{List, [], ◌∷◌, map, Memᴰ}
use mathlib.Core.Logic.{◌⊎◌, inl, inr}
use Prim.Native.Nat.{ℕ, suc, ◌≤◌, ◌<◌, min, max}
use native.Mathlib.Omega.{arith}
use lib.Dec.{ltb}
use borrow.Author.Tests.{ltb-true, ltb-false}
use Rattle.lists.specs.Lists.{all, is_empty}
use Rattle.lists.proofs.Members.{map_member, member_map}
use Rattle.lists.proofs.Tests.{clash, untrue, all_member, all_fails, empty_none, none_empty}
use Rattle.game.specs.Game.{draw_entry, void_entry}
use Rattle.game.specs.Judgement.{is_lost, is_won, least_lost, greatest, judge, decided}
use Rattle.game.proofs.Entries.{lost_is, won_is, decided_cases, undecided_no_lost, undecided_not_won}

-- the least lost entry: it is lost and a member where it is an entry, and no lost member is less
pub least_lost_low : (es : List ℕ) (x : ℕ) → Memᴰ x es → is_lost x ≡ true → least_lost es ≤ x
least_lost_low [] x m h = absurd (Memᴰ.not-nil m)
least_lost_low (e ∷ es) x m h = go (is_lost e) refl (Memᴰ.cases_cons m) (λ k. least_lost_low es x k h)
  where
    go : (b : Bool) → is_lost e ≡ b → (x ≡ e) ⊎ Memᴰ x es → (Memᴰ x es → least_lost es ≤ x) → least_lost (e ∷ es) ≤ x
    go true f (inl p) r = rw (f, least_lost) (omega arith)
    go true f (inr k) r = rw (f, least_lost) (omega (arith, r k))
    go false f (inl p) r = clash (ap is_lost (sym p) ∙ h) f
    go false f (inr k) r = rw (f, least_lost) (r k)

abbrev LostMember : ℕ → List ℕ → Type 0
LostMember x es = Memᴰ x es × (is_lost x ≡ true)

pub least_lost_in : (es : List ℕ) → least_lost es < void_entry → LostMember (least_lost es) es
least_lost_in [] h = absurd (omega arith)
least_lost_in (e ∷ es) h = go (is_lost e) refl (ltb e (least_lost es)) refl h (λ l. least_lost_in es l)
  where
    go : (b : Bool) → is_lost e ≡ b → (c : Bool) → ltb e (least_lost es) ≡ c → least_lost (e ∷ es) < void_entry
        → (least_lost es < void_entry → LostMember (least_lost es) es) → LostMember (least_lost (e ∷ es)) (e ∷ es)
    go true f true i l r =
        let q : min e (least_lost es) ≡ e = omega (arith, ltb-true e (least_lost es) i) in rw (f, least_lost) (rw q (Memᴰ.head refl, f))
    go true f false i l r =
        let q : min e (least_lost es) ≡ least_lost es = omega (arith, ltb-false e (least_lost es) i) in
        let s = r (rw q at (rw (f, least_lost) at l)) in
        rw (f, least_lost) (rw q (Memᴰ.tail s.0, s.1))
    go false f c i l r = let s = r (rw (f, least_lost) at l) in rw (f, least_lost) (Memᴰ.tail s.0, s.1)

-- the greatest entry: a member, and no member is greater
pub greatest_high : (es : List ℕ) (x : ℕ) → Memᴰ x es → x ≤ greatest es
greatest_high [] x m = absurd (Memᴰ.not-nil m)
greatest_high (e ∷ es) x m = go (Memᴰ.cases_cons m) (λ k. greatest_high es x k)
  where
    go : (x ≡ e) ⊎ Memᴰ x es → (Memᴰ x es → x ≤ greatest es) → x ≤ max e (greatest es)
    go (inl p) r = omega arith
    go (inr k) r = omega (arith, r k)

pub greatest_in : (es : List ℕ) → is_empty es ≡ false → Memᴰ (greatest es) es
greatest_in [] h = absurd (true≢false h)
greatest_in (e ∷ []) h = let q : max e 0 ≡ e = omega arith in Memᴰ.head q
greatest_in (e ∷ x ∷ xs) h = go (ltb e (greatest (x ∷ xs))) refl (greatest_in (x ∷ xs) refl)
  where
    go : (b : Bool) → ltb e (greatest (x ∷ xs)) ≡ b → Memᴰ (greatest (x ∷ xs)) (x ∷ xs) → Memᴰ (greatest (e ∷ x ∷ xs)) (e ∷ x ∷ xs)
    go true f m =
        let q : max e (greatest (x ∷ xs)) ≡ greatest (x ∷ xs) = omega (arith, ltb-true e (greatest (x ∷ xs)) f) in rw q (Memᴰ.tail m)
    go false f m = let q : max e (greatest (x ∷ xs)) ≡ e = omega (arith, ltb-false e (greatest (x ∷ xs)) f) in Memᴰ.head q

module _ {Pos : Type 0} (next : Pos → List Pos) (t : Pos → ℕ) (p : Pos) where
  -- the cases of a judgement v of p
  pub data Judged (v : ℕ) : Type 0 where
    blocked : v ≡ 0 → is_empty (next p) ≡ true → Judged v
    win : (q : Pos) → Memᴰ q (next p) → v ≡ suc (t q) → is_lost (t q) ≡ true
        → ((r : Pos) → Memᴰ r (next p) → is_lost (t r) ≡ true → t q ≤ t r) → Judged v
    loss : (q : Pos) → Memᴰ q (next p) → v ≡ suc (t q) → ((r : Pos) → Memᴰ r (next p) → (is_won (t r) ≡ true) × (t r ≤ t q)) → Judged v
    draw : (q : Pos) → Memᴰ q (next p) → v ≡ draw_entry → is_won (t q) ≡ false
        → ((r : Pos) → Memᴰ r (next p) → is_lost (t r) ≡ false) → Judged v

  pub judged : Judged (judge (map t (next p)))
  unfolding judge
  judged = go (is_empty es) refl (ltb (least_lost es) void_entry) refl (all (λ e. is_won e) es) refl
    where
      es : List ℕ
      es = map t (next p)

      go : (a : Bool) → is_empty es ≡ a → (b : Bool) → ltb (least_lost es) void_entry ≡ b → (c : Bool) → all (λ e. is_won e) es ≡ c → Judged (judge es)
      go true f b g c h = blocked (rw (f, judge)) (none_empty (next p) (λ q m. empty_none es f (member_map t (next p) m)))
      go false f true g c h =
          let s = least_lost_in es (ltb-true (least_lost es) void_entry g) in
          let (q, m, v) = map_member t (next p) s.0 in
          let j : judge es ≡ suc (least_lost es) = rw (f, g, judge) in
          win q m (j ∙ ap suc v) (ap is_lost (sym v) ∙ s.1)
          (λ r k l. subst (λ (x : ℕ). x ≤ t r) v (least_lost_low es (t r) (member_map t (next p) k) l))
      go false f false g true h =
          let (q, m, v) = map_member t (next p) (greatest_in es f) in
          let j : judge es ≡ suc (greatest es) = rw (f, g, h, judge) in
          loss q m (j ∙ ap suc v) (λ r k. let i = member_map t (next p) k in
          (all_member _ es h (t r) i, subst (λ (x : ℕ). t r ≤ x) v (greatest_high es (t r) i)))
      go false f false g false h =
          let (x, i, w) = all_fails _ es h in
          let (q, m, v) = map_member t (next p) i in
          draw q m (rw (f, g, h, judge)) (ap is_won (sym v) ∙ w)
          (λ r k. sym (untrue (is_lost (t r)) (λ l.
          omega (arith, least_lost_low es (t r) (member_map t (next p) k) l, (lost_is l).1, ltb-false (least_lost es) void_entry g))))

  -- a judgement is an entry, or the 65,534 that a loss too deep for an entry would take
  pub judge_range : (judge (map t (next p)) ≤ void_entry) ⊎ (judge (map t (next p)) ≡ draw_entry)
  judge_range = go judged
    where
      go : Judged (judge (map t (next p))) → (judge (map t (next p)) ≤ void_entry) ⊎ (judge (map t (next p)) ≡ draw_entry)
      go (blocked v h) = inl (omega arith)
      go (win q m v l h) = inl (omega (arith, (lost_is l).1))
      go (loss q m v h) = inl (omega (arith, (won_is (h q m).0).1))
      go (draw q m v w h) = inr v

  -- judged a draw, exactly where not decided
  pub undecided_draw : decided next t p ≡ false → judge (map t (next p)) ≡ draw_entry
  undecided_draw u = go judged
    where
      go : Judged (judge (map t (next p))) → judge (map t (next p)) ≡ draw_entry
      go (blocked v h) = absurd (empty_none (next p) h (undecided_not_won next t p u).1)
      go (win q m v l h) = clash l (undecided_no_lost next t p u q m)
      go (loss q m v h) = let (r, k, w) = undecided_not_won next t p u in clash (h r k).0 w
      go (draw q m v w h) = v

  pub draw_undecided : judge (map t (next p)) ≡ draw_entry → decided next t p ≡ false
  draw_undecided j = go judged
    where
      go : Judged (judge (map t (next p))) → decided next t p ≡ false
      go (blocked v h) = absurd (omega arith)
      go (win q m v l h) = absurd (omega (arith, (lost_is l).1))
      go (loss q m v h) = absurd (omega (arith, (won_is (h q m).0).1))
      go (draw q m v w h) = sym (untrue (decided next t p) (λ d. never (decided_cases next t p d)))
        where
          never : ((r : Pos) × Memᴰ r (next p) × (is_lost (t r) ≡ true)) ⊎ ((r : Pos) → Memᴰ r (next p) → is_won (t r) ≡ true) → ⊥
          never (inl (r, k, l)) = clash l (h r k)
          never (inr a) = clash (a q m) w
