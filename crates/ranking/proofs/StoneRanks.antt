-- Ranking a board stone by stone: what a stone adds is one product of two binomials, and the vacant points between two stones add nothing.
-- Assumes nothing.
use mathlib.Core.Path.{◌≡◌, refl, sym, ap, ◌∙◌, subst}
use mathlib.Core.Bool.{Bool, true, false, cond}
use mathlib.Core.List.{List, [], ◌∷◌}
use Prim.Native.Nat.{ℕ, zero, suc, ◌+◌, ◌-◌, ◌*◌, ◌≤◌, ◌<◌}
use native.Mathlib.Numerals.{add-one}
use native.Mathlib.Omega.{arith}
use lib.ListN.{length, get_or, take}
use lib.Seq.{length-take-le, take_all}
use Rattle.lists.specs.Lists.{range, keep}
use Rattle.lists.proofs.Keep.{keep_yes, keep_no}
use Rattle.board.specs.Board.{Values, count, digit}
use Rattle.board.proofs.Sides.{digit_lt}
use Rattle.board.proofs.Counts.{count_all, values_take}
use Rattle.sizes.specs.Inner.Binomial.{binomial}
use Rattle.sizes.proofs.Products.{size_chosen, size_low}
use Rattle.ranking.specs.Rank.{rank}
use Rattle.ranking.specs.Unrank.{below}
use Rattle.ranking.proofs.Steps.{Ranking, ranking_none, ranking_more}

-- what a stone at p adds, with s stones up to it of which o are the opponent's
pub below_stone : (x : Bool) (p s o : ℕ) → o ≤ s
    → binomial p (cond x o s) * binomial (cond x (p + 1 - o) s) (s - o) ≡ below (suc (digit x)) p (s - o) o
below_stone true p s o h = sym (size_low p (s - o) o)
below_stone false p s o h =
    let e : s - o + o ≡ s = omega arith in
    sym (size_chosen p (s - o) o ∙ ap (λ (k : ℕ). binomial p k * binomial k (s - o)) e)

pub cond_le : (x : Bool) (a b n : ℕ) → a ≤ n → b ≤ n → cond x a b ≤ n
cond_le true a b n h l = h
cond_le false a b n h l = l

-- no more stones than points
pub ranking_few : {b : List ℕ} {i m o r : ℕ} → Ranking b i m o r → Values b → m + o ≤ i
ranking_few {b} {i} w vs =
    omega (arith, w.mover, w.opponent, count_all (take i b) (values_take i b vs), length-take-le i b w.within)

-- a vacant point
ranking_vacant : {b : List ℕ} {i m o r : ℕ} → Ranking b i m o r → Values b → i < length b → get_or b i 0 ≡ 0 → Ranking b (suc i) m o r
ranking_vacant {b} {i} {m} {o} {r} w vs h e =
    let n = ranking_more 0 0 w vs h (sym e) refl in
    record {
      within = omega (arith, n.within);
      mover = omega (arith, n.mover, ap (λ (k : ℕ). count 1 (take k b)) (add-one i));
      opponent = omega (arith, n.opponent, ap (λ (k : ℕ). count 2 (take k b)) (add-one i));
      rank_is = omega (arith, n.rank_is, ap (λ (k : ℕ). rank (take k b)) (add-one i));
    }

-- a stone
ranking_stone : {b : List ℕ} {i m o r : ℕ} (x : Bool) (v : ℕ) → Ranking b i m o r → Values b → i < length b → get_or b i 0 ≡ suc (digit x)
    → v ≡ below (suc (digit x)) i (m + (1 - digit x)) (o + digit x) → Ranking b (i + 1) (m + (1 - digit x)) (o + digit x) (r + v)
ranking_stone true v w vs h e f = ranking_more 2 v w vs h (sym e) f
ranking_stone false v w vs h e f = ranking_more 1 v w vs h (sym e) f

-- the points that pass the test f are the stones
module _ (b : List ℕ) (f : ℕ → Bool) where
  -- those from point i on
  abbrev pub from : ℕ → List ℕ
  from i = keep f (range i (length b - i))

  -- a loop's state: some points are passed, and the stones from there on are left
  pub record RankedBelow (left : List ℕ) (m o r : ℕ) : Type 0 where
    pub at : ℕ
    pub ranking : Ranking b at m o r
    pub rest : left ≡ from at

  -- the next stone is at p, and the points below it are passed
  pub record Next (p : ℕ) (left : List ℕ) (m o r : ℕ) : Type 0 where
    pub low : p < length b
    pub stone : f p ≡ true
    pub ranking : Ranking b p m o r
    pub rest : left ≡ from (suc p)

  -- what the stones left say: with none, the rank is the board's
  abbrev pub Coming : List ℕ → ℕ → ℕ → ℕ → Type 0
  Coming [] m o r = r ≡ rank b
  Coming (p ∷ left) m o r = Next p left m o r

  pub passed_none : RankedBelow (from 0) 0 0 0
  passed_none = record { at = 0; ranking = ranking_none b; rest = refl }

module _ (b : List ℕ) (f : ℕ → Bool) (vs : Values b) (vacant : (q : ℕ) → q < length b → f q ≡ false → get_or b q 0 ≡ 0) where
  coming_from : (n i m o r : ℕ) (left : List ℕ) → Ranking b i m o r → i + n ≡ length b → keep f (range i n) ≡ left → Coming b f left m o r
  coming_from zero i m o r left w e h =
      subst (λ (l : List ℕ). Coming b f l m o r) h (w.rank_is ∙ ap rank (take_all i b (omega arith)))
  coming_from (suc n) i m o r left w e h = go (f i) refl (coming_from n (suc i) m o r left)
    where
      go : (c : Bool) → f i ≡ c → (Ranking b (suc i) m o r → suc i + n ≡ length b → keep f (range (suc i) n) ≡ left → Coming b f left m o r)
          → Coming b f left m o r
      go true t rest =
          let k : n ≡ length b - suc i = omega arith in
          subst (λ (l : List ℕ). Coming b f l m o r) (sym (keep_yes f i (range (suc i) n) t) ∙ h)
          (record { low = omega arith; stone = t; ranking = w; rest = ap (λ (j : ℕ). keep f (range (suc i) j)) k })
      go false t rest = rest (ranking_vacant w vs (omega arith) (vacant i (omega arith) t)) (omega arith) (sym (keep_no f i (range (suc i) n) t) ∙ h)

  pub passed_coming : (left : List ℕ) {m o r : ℕ} → RankedBelow b f left m o r → Coming b f left m o r
  passed_coming left w = coming_from (length b - w.at) w.at _ _ _ left w.ranking (omega (arith, w.ranking.within)) (sym w.rest)

  pub passed_more : {p : ℕ} {left : List ℕ} {s o r : ℕ} (x : Bool) (v : ℕ) → o ≤ s → Next b f p left (s - o) o r → get_or b p 0 ≡ suc (digit x)
      → v ≡ below (suc (digit x)) p (s + 1 - (o + digit x)) (o + digit x) → RankedBelow b f left (s + 1 - (o + digit x)) (o + digit x) (r + v)
  passed_more {p} {left} {s} {o} {r} x v l w e h =
      let d : s + 1 - (o + digit x) ≡ s - o + (1 - digit x) = omega (arith, digit_lt x) in
      record {
        at = p + 1;
        ranking = rw d (ranking_stone x v w.ranking vs w.low e (rw d at h));
        rest = w.rest ∙ ap (from b f) (sym (add-one p));
      }
