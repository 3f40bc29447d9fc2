-- Where a ply leads, for any rule of removal that names opposing stones: to a board of the same points whose counts are (o, m) without a removal and
-- (o - 1, m) with one. So a tablebase is closed under plies, but for movers with two stones. Assumes nothing.
use mathlib.Core.Path.{◌≡◌, refl, sym, ap, subst, ◌∙◌}
use mathlib.Core.Bool.{Bool, true, false}
use mathlib.Core.List.{List, [], ◌∷◌, map, Memᴰ}
use mathlib.Core.Logic.{◌⊎◌, inl, inr, ⊎_elim}
use Prim.Native.Nat.{ℕ, zero, suc, ◌+◌, ◌*◌, ◌≤◌, ◌<◌}
use native.Mathlib.Nat.{not-suc-le-zero, le_of_suc-le-suc}
use native.Mathlib.Omega.{arith}
use lib.Dec.{eqb}
use lib.ListN.{get_or, set, length, length-set, length-map, get_or-map}
use lib.Seq.{get_or-set_same, get_or-set_other}
use borrow.Author.Tests.{eqb-true, eqb-false, eq-eqb, ne_eqb}
use Rattle.board.specs.Board.{Values, count, digit}
use Rattle.board.proofs.Sides.{more_digit}
use Rattle.rules.specs.Ply.{Rule, slide, no_removal, move_number, from_of, to_of, removed_of, moves, remove, exchange, after_ply, successors}
use Rattle.rules.specs.Inner.Making.{Makeable}
use Rattle.rules.proofs.Listed.{Move, Listed, move_of, removal_cases, successor_of, TakesOpponent}

-- a store moves one unit from the old value's count to the new one's
pub count_set : (v : ℕ) (b : List ℕ) (p x : ℕ) → p < length b → count v (set b p x) + digit (eqb (get_or b p 0) v) ≡ count v b + digit (eqb x v)
count_set v [] p x h = absurd (not-suc-le-zero h)
count_set v (y ∷ b) zero x h = omega (arith, more_digit (eqb x v) (count v b), more_digit (eqb y v) (count v b))
count_set v (y ∷ b) (suc p) x h =
    omega (arith, count_set v b p x (le_of_suc-le-suc h), more_digit (eqb y v) (count v (set b p x)), more_digit (eqb y v) (count v b))

pub values_set : (b : List ℕ) (p x : ℕ) → x ≤ 2 → Values b → Values (set b p x)
values_set [] p x h v = tt
values_set (y ∷ b) zero x h v = (h, v.1)
values_set (y ∷ b) (suc p) x h v = (v.0, values_set b p x h v.1)

-- the sides change names
pub exchange_counts : (b : List ℕ) → Values b → (count 1 (map (λ v. exchange v) b) ≡ count 2 b) × (count 2 (map (λ v. exchange v) b) ≡ count 1 b)
unfolding exchange
exchange_counts [] h = (refl, refl)
exchange_counts (zero ∷ b) h = exchange_counts b h.1
exchange_counts (suc zero ∷ b) h = let s = exchange_counts b h.1 in (s.0, ap suc s.1)
exchange_counts (suc (suc zero) ∷ b) h = let s = exchange_counts b h.1 in (ap suc s.0, s.1)
exchange_counts (suc (suc (suc v)) ∷ b) h = absurd (omega arith)

pub exchange_values : (b : List ℕ) → Values (map (λ v. exchange v) b)
unfolding exchange
exchange_values [] = tt
exchange_values (zero ∷ b) = (omega arith, exchange_values b)
exchange_values (suc zero ∷ b) = (omega arith, exchange_values b)
exchange_values (suc (suc v) ∷ b) = (omega arith, exchange_values b)

-- the parts of a move number
pub record Parts (n from to removed : ℕ) : Type 0 where
  pub from_is : from_of n ≡ from
  pub to_is : to_of n ≡ to
  pub removed_is : removed_of n ≡ removed

pub parts_of : (n from to removed : ℕ) → to < 32 → removed < 32 → n ≡ move_number from to removed → Parts n from to removed
parts_of n from to removed h l e = record { from_is = omega arith; to_is = omega arith; removed_is = omega arith }

-- the board after a move of these parts
pub after_parts : (b : List ℕ) (n from to removed : ℕ) → Parts n from to removed → after_ply b n ≡ map (λ v. exchange v) (remove (slide b from to) removed)
unfolding after_ply
after_parts b n from to removed q = rw (q.from_is, q.to_is, q.removed_is)

-- each step of a ply
pub slide_is : (b : List ℕ) (from to : ℕ) → slide b from to ≡ set (set b from 0) to 1
unfolding slide
slide_is b from to = refl

pub remove_none : (b : List ℕ) (r : ℕ) → r ≡ no_removal → remove b r ≡ b
unfolding remove
remove_none b r e = rw (eq-eqb r no_removal e, remove)

pub remove_one : (b : List ℕ) (r : ℕ) → (r ≡ no_removal → ⊥) → remove b r ≡ set b r 0
unfolding remove
remove_one b r n = rw (ne_eqb r no_removal n, remove)

pub exchange_at : (b : List ℕ) (p : ℕ) → get_or (map (λ v. exchange v) b) p 0 ≡ exchange (get_or b p 0)
unfolding exchange
exchange_at b p = get_or-map (λ v. exchange v) b p 0

-- a slide keeps the points and their values
-- the other side's stones were one's own
pub exchange_own : (v : ℕ) → eqb (exchange v) 2 ≡ eqb v 1
unfolding exchange
exchange_own zero = refl
exchange_own (suc zero) = refl
exchange_own (suc (suc v)) = sym (ne_eqb (suc (suc v)) 1 (λ e. omega arith))

pub slide_length : (b : List ℕ) (from to : ℕ) → length (slide b from to) ≡ length b
unfolding slide
slide_length b from to = length-set (set b from 0) to 1 ∙ length-set b from 0

pub slide_values : (b : List ℕ) (from to : ℕ) → Values b → Values (slide b from to)
unfolding slide
slide_values b from to d = values_set (set b from 0) to 1 (omega arith) (values_set b from 0 (omega arith) d)

pub after_length : (b : List ℕ) (n : ℕ) → length (after_ply b n) ≡ length b
unfolding after_ply
after_length b n = length-map (remove slid (removed_of n)) (λ v. exchange v) ∙ go (eqb (removed_of n) no_removal) refl
  where
    slid : List ℕ
    slid = slide b (from_of n) (to_of n)

    go : (t : Bool) → eqb (removed_of n) no_removal ≡ t → length (remove slid (removed_of n)) ≡ length b
    go true e = ap length (remove_none slid (removed_of n) (eqb-true (removed_of n) no_removal e)) ∙ slide_length b (from_of n) (to_of n)
    go false e =
        ap length (remove_one slid (removed_of n) (eqb-false (removed_of n) no_removal e)) ∙ length-set slid (removed_of n) 0
        ∙ slide_length b (from_of n) (to_of n)

-- a point of another value is another point
pub other_point : (b : List ℕ) (p q : ℕ) {x y : ℕ} → get_or b p 0 ≡ x → get_or b q 0 ≡ y → (x ≡ y → ⊥) → p ≡ q → ⊥
other_point b p q ex ey n e = n (sym ex ∙ ap (λ (i : ℕ). get_or b i 0) e ∙ ey)

-- a board after a slide, point by point
module _ (b : List ℕ) (from to : ℕ) (own : get_or b from 0 ≡ 1) (vacant : get_or b to 0 ≡ 0) where
  pub apart : to ≡ from → ⊥
  apart e = other_point b to from vacant own (λ z. omega arith) e

  pub slide_to : to < length b → get_or (slide b from to) to 0 ≡ 1
  unfolding slide
  slide_to h = get_or-set_same (set b from 0) to 1 0 (omega (arith, length-set b from 0))

  pub slide_from : from < length b → get_or (slide b from to) from 0 ≡ 0
  unfolding slide
  slide_from h = get_or-set_other (set b from 0) to from 1 0 (λ e. apart (sym e)) ∙ get_or-set_same b from 0 0 h

  pub slide_other : (p : ℕ) → (p ≡ from → ⊥) → (p ≡ to → ⊥) → get_or (slide b from to) p 0 ≡ get_or b p 0
  unfolding slide
  slide_other p f t = get_or-set_other (set b from 0) to p 1 0 t ∙ get_or-set_other b from p 0 0 f

  -- an opposing stone before the slide is one after it
  pub opposing_slid : (r : ℕ) → get_or b r 0 ≡ 2 → get_or (slide b from to) r 0 ≡ 2
  opposing_slid r e = slide_other r (other_point b r from e own (λ z. omega arith)) (other_point b r to e vacant (λ z. omega arith)) ∙ e

  pub slid_opposing : from < length b → to < length b → (r : ℕ) → get_or (slide b from to) r 0 ≡ 2 → get_or b r 0 ≡ 2
  slid_opposing hf ht r e =
      sym (slide_other r (other_point (slide b from to) r from e (slide_from hf) (λ z. omega arith))
      (other_point (slide b from to) r to e (slide_to ht) (λ z. omega arith))) ∙ e

-- a slide keeps both counts
module _ (b : List ℕ) (from to : ℕ) (hf : from < length b) (ht : to < length b) (own : get_or b from 0 ≡ 1) (vacant : get_or b to 0 ≡ 0) where
  pub slide_counts : (count 1 (slide b from to) ≡ count 1 b) × (count 2 (slide b from to) ≡ count 2 b)
  unfolding slide
  slide_counts =
      let f : get_or (set b from 0) to 0 ≡ 0 = get_or-set_other b from to 0 0 (apart b from to own vacant) ∙ vacant in
      let h : to < length (set b from 0) = omega (arith, length-set b from 0) in
      let a₁ = rw own at (count_set 1 b from 0 hf) in
      let a₂ = rw own at (count_set 2 b from 0 hf) in
      let c₁ = rw f at (count_set 1 (set b from 0) to 1 h) in
      let c₂ = rw f at (count_set 2 (set b from 0) to 1 h) in
      (omega arith, omega arith)

-- one opposing stone is removed, or none
abbrev pub Removed : List ℕ → ℕ → Type 0
Removed b r = (r ≡ no_removal) ⊎ ((r < length b) × (r < 24) × (get_or b r 0 ≡ 2))

removed_low : (b : List ℕ) (r : ℕ) → Removed b r → r < 32
removed_low b r (inl e) = omega arith
removed_low b r (inr h) = omega (arith, h.1)

-- counts after a ply: (o, m) without a removal, (o - 1, m) with one
abbrev pub MoverLeft : List ℕ → List ℕ → ℕ → Type 0
MoverLeft b c removed = ((removed ≡ no_removal) × (count 1 c ≡ count 2 b)) ⊎ ((removed < 24) × (suc (count 1 c) ≡ count 2 b))

-- where a ply leads
pub record Leads (b c : List ℕ) (removed : ℕ) : Type 0 where
  pub values : Values c
  pub points : length c ≡ length b
  pub opponent : count 2 c ≡ count 1 b
  pub mover : MoverLeft b c removed

-- the board once the stone has slid and the removal is made, before the sides change names
pub record BeforeExchange (b c : List ℕ) (removed : ℕ) : Type 0 where
  pub values : Values c
  pub points : length c ≡ length b
  pub mover : count 1 c ≡ count 1 b
  pub opponent : ((removed ≡ no_removal) × (count 2 c ≡ count 2 b)) ⊎ ((removed < 24) × (suc (count 2 c) ≡ count 2 b))

exchanged : (b c : List ℕ) (removed : ℕ) → BeforeExchange b c removed → Leads b (map (λ v. exchange v) c) removed
exchanged b c removed w = let s = exchange_counts c w.values in
    record { values = exchange_values c; points = length-map c (λ v. exchange v) ∙ w.points; opponent = s.1 ∙ w.mover; mover = go s.0 w.opponent }
  where
    go : count 1 (map (λ v. exchange v) c) ≡ count 2 c → ((removed ≡ no_removal) × (count 2 c ≡ count 2 b)) ⊎ ((removed < 24) × (suc (count 2 c) ≡ count 2 b))
        → MoverLeft b (map (λ v. exchange v) c) removed
    go q (inl x) = inl (x.0, q ∙ x.1)
    go q (inr x) = inr (x.0, ap suc q ∙ x.1)

pub removed_before : (b : List ℕ) (from to r : ℕ) → from < length b → to < length b → get_or b from 0 ≡ 1 → get_or b to 0 ≡ 0 → Values b
    → Removed (slide b from to) r → BeforeExchange b (remove (slide b from to) r) r
unfolding remove
removed_before b from to r hf ht own vacant d g = go g
  where
    dc : Values (slide b from to)
    dc = slide_values b from to d

    n : (count 1 (slide b from to) ≡ count 1 b) × (count 2 (slide b from to) ≡ count 2 b)
    n = slide_counts b from to hf ht own vacant

    go : Removed (slide b from to) r → BeforeExchange b (remove (slide b from to) r) r
    go (inl e) = rw (eq-eqb r no_removal e, remove)
        record { values = dc; points = slide_length b from to; mover = n.0; opponent = inl (e, n.1) }
    go (inr h) =
        let a₁ = rw h.2 at (count_set 1 (slide b from to) r 0 h.0) in
        let a₂ = rw h.2 at (count_set 2 (slide b from to) r 0 h.0) in
        rw (ne_eqb r no_removal (λ q. omega (arith, h.1)), remove)
        record {
          values = values_set (slide b from to) r 0 (omega arith) dc;
          points = length-set (slide b from to) r 0 ∙ slide_length b from to;
          mover = omega (arith, n.0);
          opponent = inr (h.1, omega (arith, n.1));
        }

module _ (rule : Rule) (takes : TakesOpponent rule) (rings : ℕ) (small : rings ≤ 3) (b : List ℕ) (v : Values b)
    (points : length b ≡ 8 * rings) where
  pub removed_of_lem : (from to r : ℕ) → Move rule rings b from to r → Removed (slide b from to) r
  removed_of_lem from to r m = go (removal_cases rule rings (slide b from to) to m.removal)
    where
      go : (r ≡ no_removal) ⊎ Memᴰ r (rule rings (slide b from to)) → Removed (slide b from to) r
      go (inl e) = inl e
      go (inr i) =
          let w = takes rings (slide b from to) r i in
          let l = slide_length b from to in
          inr (omega (arith, w.0), omega (arith, w.0), w.1)

  -- a move number gives back the move's parts
  pub listed_parts : (n : ℕ) (l : Listed rule rings b n) → Parts n l.from l.to l.removed
  listed_parts n l =
      parts_of n l.from l.to l.removed (omega (arith, l.move.to_low))
      (removed_low (slide b l.from l.to) l.removed (removed_of_lem l.from l.to l.removed l.move)) l.number

  -- a listed move can be made
  pub listed_makeable : (n : ℕ) → Memᴰ n (moves rule rings b) → Makeable rings b n
  listed_makeable n i = go (move_of rule rings b n i)
    where
      go : Listed rule rings b n → Makeable rings b n
      go l =
          let q = listed_parts n l in
          let m = l.move in
          let lf : l.from < length b = omega (arith, m.from_low) in
          let lt : l.to < length b = omega (arith, m.to_low) in
          let taken : Removed (slide b l.from l.to) l.removed
          → (l.removed ≡ no_removal) ⊎ ((l.removed < 8 * rings) × (get_or b l.removed 0 ≡ 2)) =
          λ r. ⊎_elim (λ e. inl e) (λ h. inr (
            omega (arith, h.0, slide_length b l.from l.to),
            slid_opposing b l.from l.to m.own m.vacant lf lt l.removed h.2,
          )) r in
          record {
            from_low = rw q.from_is m.from_low;
            to_low = rw q.to_is m.to_low;
            own = rw q.from_is m.own;
            vacant = rw q.to_is m.vacant;
            removed = rw q.removed_is (taken (removed_of_lem l.from l.to l.removed m));
          }

-- where a move that can be made leads, by whatever rule
module _ (rings : ℕ) (small : rings ≤ 3) (b : List ℕ) (v : Values b) (points : length b ≡ 8 * rings) (n : ℕ) (m : Makeable rings b n) where
  pub makeable_from : from_of n < length b
  makeable_from = omega (arith, m.from_low)

  pub makeable_to : to_of n < length b
  makeable_to = omega (arith, m.to_low)

  pub makeable_removed : Removed (slide b (from_of n) (to_of n)) (removed_of n)
  makeable_removed = go m.removed
    where
      go : (removed_of n ≡ no_removal) ⊎ ((removed_of n < 8 * rings) × (get_or b (removed_of n) 0 ≡ 2)) → Removed (slide b (from_of n) (to_of n)) (removed_of n)
      go (inl e) = inl e
      go (inr h) = inr (
        omega (arith, h.0, slide_length b (from_of n) (to_of n)),
        omega (arith, h.0),
        opposing_slid b (from_of n) (to_of n) m.own m.vacant (removed_of n) h.1,
      )

  pub makeable_leads : Leads b (after_ply b n) (removed_of n)
  makeable_leads =
      rw (after_parts b n (from_of n) (to_of n) (removed_of n) record { from_is = refl; to_is = refl; removed_is = refl })
      (exchanged b (remove (slide b (from_of n) (to_of n)) (removed_of n)) (removed_of n)
      (removed_before b (from_of n) (to_of n) (removed_of n) makeable_from makeable_to m.own m.vacant v makeable_removed))

pub ply_leads : (rule : Rule) → TakesOpponent rule → (rings : ℕ) → rings ≤ 3 → (b : List ℕ) → Values b → length b ≡ 8 * rings → (n : ℕ)
    → Memᴰ n (moves rule rings b) → Leads b (after_ply b n) (removed_of n)
ply_leads rule takes rings small b v points n i = makeable_leads rings small b v points n (listed_makeable rule takes rings small b v points n i)

-- a mover has two stones only by a removal from three
pub two_stones : (b c : List ℕ) (removed : ℕ) → Leads b c removed → 3 ≤ count 2 b → count 1 c ≡ 2 → (removed < 24) × (count 2 b ≡ 3)
two_stones b c removed l three two = go l.mover
  where
    go : MoverLeft b c removed → (removed < 24) × (count 2 b ≡ 3)
    go (inl q) = absurd (omega (arith, q.1))
    go (inr q) = (q.0, omega (arith, q.1))

-- a position of a tablebase of largest count k, or one that a ply from there leads to: the mover may be left with two stones
pub record Reached (rings k : ℕ) (b : List ℕ) : Type 0 where
  pub values : Values b
  pub points : length b ≡ 8 * rings
  pub mover_low : 2 ≤ count 1 b
  pub mover_high : count 1 b ≤ k
  pub opponent_low : 3 ≤ count 2 b
  pub opponent_high : count 2 b ≤ k

-- every successor of a position of a tablebase is in that tablebase, or has a mover with two stones
pub successor_reached : (rule : Rule) → TakesOpponent rule → (rings k : ℕ) → rings ≤ 3 → (b : List ℕ) → Reached rings k b
    → 3 ≤ count 1 b → (c : List ℕ) → Memᴰ c (successors rule rings b) → Reached rings k c
successor_reached rule takes rings k small b w three c m =
    let a = successor_of rule rings b c m in
    subst (λ (x : List ℕ). Reached rings k x) (sym a.2)
    (go (after_ply b a.0) (removed_of a.0) (ply_leads rule takes rings small b w.values w.points a.0 a.1))
  where
    go : (x : List ℕ) (r : ℕ) → Leads b x r → Reached rings k x
    go x r l = record {
      values = l.values;
      points = l.points ∙ w.points;
      mover_low = (left l.mover).0;
      mover_high = (left l.mover).1;
      opponent_low = omega (arith, l.opponent);
      opponent_high = omega (arith, l.opponent, w.mover_high);
    }
      where
        left : MoverLeft b x r → (2 ≤ count 1 x) × (count 1 x ≤ k)
        left (inl q) = (omega (arith, q.1, w.opponent_low), omega (arith, q.1, w.opponent_high))
        left (inr q) = (omega (arith, q.1, w.opponent_low), omega (arith, q.1, w.opponent_high))
