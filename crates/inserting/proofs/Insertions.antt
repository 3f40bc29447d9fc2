-- One stone more at a vacant point: the rank is what the points below add, the stone itself, and what the points above add with one stone more below them.
-- So a walk up the points keeps their sum, and gives the rank at each vacant point. Assumes nothing.
use mathlib.Core.Path.{◌≡◌, refl, sym, ap, ap₂, ◌∙◌, subst}
use mathlib.Core.Bool.{Bool, true, false}
use mathlib.Core.List.{List, [], ◌∷◌, ◌++◌, append-nil, append_assoc}
use Prim.Native.Nat.{ℕ, zero, suc, ◌+◌, ◌-◌, ◌*◌, ◌^◌, ◌≤◌, ◌<◌}
use native.Mathlib.Numerals.{add-one}
use native.Mathlib.Omega.{arith}
use lib.Dec.{eqb}
use lib.ListN.{length, get_or, set, take, drop, length-append, length-drop, length-set, take-append-drop}
use lib.Seq.{drop-cons, set_split, length-take-le}
use borrow.Author.Tests.{ne_eqb}
use Rattle.board.specs.Board.{Values, count, digit}
use Rattle.board.proofs.Sides.{digit_lt, more_digit}
use Rattle.board.proofs.Counts.{count_append, count_more, count_all, values_append, values_take, values_drop}
use Rattle.sizes.specs.Size.{size}
use Rattle.inserting.specs.declared.Insertion.{Insertion}
use Rattle.ranking.specs.Rank.{rank}
use Rattle.ranking.specs.Unrank.{below}
use Rattle.inserting.specs.Inner.Inserting.{added, Inserting, Vacant}
use Rattle.ranking.proofs.Inverse.{rank_low}
use Rattle.ranking.proofs.Steps.{below_small, rank_more, Ranking, ranking_more, ranking_small}

-- a rank is what the first points add, and what the others add above them
rank_added : (a xs : List ℕ) → Values xs → rank (a ++ xs) ≡ rank a + added xs (length a) (count 1 a) (count 2 a)
unfolding added
rank_added a [] vs = ap rank (append-nil a) ∙ omega arith
rank_added a (x ∷ xs) vs =
    let c : List ℕ = a ++ (x ∷ []) in
    let l : length c ≡ suc (length a) = length-append a (x ∷ []) ∙ omega arith in
    let r = rank_more a x vs.0 in
    let e : added xs (length c) (count 1 c) (count 2 c) ≡ added xs (suc (length a)) (count 1 a + digit (eqb x 1)) (count 2 a + digit (eqb x 2)) =
    rw (l, count_more 1 a x, count_more 2 a x) in
    let f : below x (length a) (count 1 c) (count 2 c) ≡ below x (length a) (count 1 a + digit (eqb x 1)) (count 2 a + digit (eqb x 2)) =
    rw (count_more 1 a x, count_more 2 a x) in
    ap rank (sym (append_assoc a (x ∷ []) xs)) ∙ rank_added c xs vs.1 ∙ omega (arith, r, e, f)

-- what is added is small
added_small : (xs : List ℕ) (i m o : ℕ) → i + length xs ≤ 24 → added xs i m o ≤ length xs * 2 ^ 49
unfolding added
added_small [] i m o h = omega arith
added_small (x ∷ xs) i m o h =
    let n : length (x ∷ xs) ≡ suc (length xs) = refl in
    omega (
      arith,
      below_small x i (m + digit (eqb x 1)) (o + digit (eqb x 2)) (omega arith),
      added_small xs (suc i) (m + digit (eqb x 1)) (o + digit (eqb x 2)) (omega arith),
    )

-- one value more
added_cons : (v : ℕ) (xs : List ℕ) (i m o : ℕ)
    → added (v ∷ xs) i m o
    ≡ below v i (m + digit (eqb v 1)) (o + digit (eqb v 2)) + added xs (i + 1) (m + digit (eqb v 1)) (o + digit (eqb v 2))
unfolding added
added_cons v xs i m o = rw (add-one i)

-- the digits of a value
one_side : (v : ℕ) → digit (eqb v 1) + digit (eqb v 2) ≤ 1
one_side zero = omega arith
one_side (suc zero) = omega arith
one_side (suc (suc v)) = omega (arith, ap digit (ne_eqb (suc (suc v)) 1 (λ e. omega arith)), digit_lt (eqb (suc (suc v)) 2))

-- and of a stone's
mine : (x : Bool) → digit (eqb (suc (digit x)) 1) ≡ 1 - digit x
mine true = refl
mine false = refl

other : (x : Bool) → digit (eqb (suc (digit x)) 2) ≡ digit x
other true = refl
other false = refl

module _ (b : List ℕ) (vs : Values b) (short : length b ≤ 24) where
  added_at : (i m o v : ℕ) → i < length b → v ≡ get_or b i 0
      → added (drop i b) i m o
      ≡ below v i (m + digit (eqb v 1)) (o + digit (eqb v 2)) + added (drop (i + 1) b) (i + 1) (m + digit (eqb v 1)) (o + digit (eqb v 2))
  added_at i m o v h e =
      let d : drop i b ≡ v ∷ drop (i + 1) b = drop-cons b i 0 h ∙ ap₂ (λ (x k : ℕ). x ∷ drop k b) (sym e) (sym (add-one i)) in
      ap (λ (l : List ℕ). added l i m o) d ∙ added_cons v (drop (i + 1) b) i m o

  -- the rank with a value at a point
  rank_put : (i v : ℕ) → i < length b → v ≤ 2
      → rank (set b i v)
      ≡ rank (take i b) + (below v i (count 1 (take i b) + digit (eqb v 1)) (count 2 (take i b) + digit (eqb v 2))
      + added (drop (i + 1) b) (i + 1) (count 1 (take i b) + digit (eqb v 1)) (count 2 (take i b) + digit (eqb v 2)))
  rank_put i v h l =
      let s : set b i v ≡ take i b ++ (v ∷ drop (i + 1) b) = set_split b i v h ∙ ap (λ (k : ℕ). take i b ++ (v ∷ drop k b)) (sym (add-one i)) in
      let n : length (take i b) ≡ i = length-take-le i b (omega arith) in
      ap rank s ∙ rank_added (take i b) (v ∷ drop (i + 1) b) (l, values_drop (i + 1) b vs)
      ∙ ap (λ (k : ℕ). rank (take i b) + added (v ∷ drop (i + 1) b) k (count 1 (take i b)) (count 2 (take i b))) n
      ∙ ap (λ (k : ℕ). rank (take i b) + k) (added_cons v (drop (i + 1) b) i (count 1 (take i b)) (count 2 (take i b)))

  -- no more stones than points
  pub stones_few : (i : ℕ) → i ≤ length b → count 1 (take i b) + count 2 (take i b) ≤ i
  stones_few i h = omega (arith, count_all (take i b) (values_take i b vs), length-take-le i b h)

  at : (i : ℕ) → i ≤ length b → Ranking b i (count 1 (take i b)) (count 2 (take i b)) (rank (take i b))
  at i h = record { within = h; mover = refl; opponent = refl; rank_is = refl }

  rank_small : (i : ℕ) → i ≤ length b → rank (take i b) < 2 ^ 48
  rank_small i h =
      (ranking_small (at i h) vs short).rank_low

  module _ (x : Bool) where
    -- the numbers of a walk
    pub record Low (walk : Insertion) : Type 0 where
      pub few : walk.stones ≤ walk.at
      pub some : walk.o ≤ walk.stones
      pub gain_low : walk.gain < 2 ^ 55

    pub inserting_low : (walk : Insertion) → Inserting b x walk → Low walk
    inserting_low walk w =
        let i : ℕ = walk.at in
        let n : length (drop i b) ≡ length b - i = length-drop i b in
        record {
          few = omega (arith, w.both, stones_few i w.within);
          some = omega (arith, w.both, w.opponent);
          gain_low = omega (
            arith,
            w.gain_is,
            rank_small i w.within,
            added_small (drop i b) i (count 1 (take i b) + (1 - digit x)) (count 2 (take i b) + digit x) (omega (arith, w.within)),
          );
        }

    -- what all points but i add, where i has one stone more
    around : (i : ℕ) → Vacant b i
        → added (drop i b) i (count 1 (take i b) + (1 - digit x)) (count 2 (take i b) + digit x)
        ≡ added (drop (i + 1) b) (i + 1) (count 1 (take i b) + (1 - digit x)) (count 2 (take i b) + digit x)
    around i v =
        let m : ℕ = count 1 (take i b) + (1 - digit x) in
        let o : ℕ = count 2 (take i b) + digit x in
        let c : m + 0 ≡ m = omega arith in
        let d : o + 0 ≡ o = omega arith in
        added_at i m o 0 v.low (sym v.empty) ∙ ap₂ (λ (k l : ℕ). 0 + added (drop (i + 1) b) (i + 1) k l) c d ∙ omega arith

    put_at : (i : ℕ) → Vacant b i
        → rank (set b i (suc (digit x)))
        ≡ rank (take i b) + added (drop i b) i (count 1 (take i b) + (1 - digit x)) (count 2 (take i b) + digit x)
        + below (suc (digit x)) i (count 1 (take i b) + (1 - digit x)) (count 2 (take i b) + digit x)
    put_at i v =
        let m : ℕ = count 1 (take i b) in
        let o : ℕ = count 2 (take i b) in
        let r = rank_put i (suc (digit x)) v.low (omega (arith, digit_lt x)) in
        let f : below (suc (digit x)) i (m + digit (eqb (suc (digit x)) 1)) (o + digit (eqb (suc (digit x)) 2))
        ≡ below (suc (digit x)) i (m + (1 - digit x)) (o + digit x) =
        ap₂ (λ (k l : ℕ). below (suc (digit x)) i (m + k) (o + l)) (mine x) (other x) in
        let g : added (drop (i + 1) b) (i + 1) (m + digit (eqb (suc (digit x)) 1)) (o + digit (eqb (suc (digit x)) 2))
        ≡ added (drop (i + 1) b) (i + 1) (m + (1 - digit x)) (o + digit x) =
        ap₂ (λ (k l : ℕ). added (drop (i + 1) b) (i + 1) (m + k) (o + l)) (mine x) (other x) in
        omega (arith, r, f, g, around i v)

    -- what the new stone adds, by the counts of the walk
    here_is : (walk : Insertion) → Inserting b x walk
        → below (suc (digit x)) walk.at (walk.stones + 1 - (walk.o + digit x)) (walk.o + digit x)
        ≡ below (suc (digit x)) walk.at (count 1 (take walk.at b) + (1 - digit x)) (count 2 (take walk.at b) + digit x)
    here_is walk w =
        let m : walk.stones + 1 - (walk.o + digit x) ≡ count 1 (take walk.at b) + (1 - digit x) = omega (arith, w.both, w.opponent, digit_lt x) in
        ap₂ (λ (k l : ℕ). below (suc (digit x)) walk.at k l) m (ap (λ (k : ℕ). k + digit x) w.opponent)

    pub inserting_rank : (walk : Insertion) → Inserting b x walk → Vacant b walk.at
        → walk.gain + below (suc (digit x)) walk.at (walk.stones + 1 - (walk.o + digit x)) (walk.o + digit x)
        ≡ rank (set b walk.at (suc (digit x)))
    inserting_rank walk w v = omega (arith, w.gain_is, here_is walk w, put_at walk.at v)

    -- begun at a vacant point, with the rank there
    pub inserting_first : (i s o c whole : ℕ) → Vacant b i → s ≡ count 1 (take i b) + count 2 (take i b) → o ≡ count 2 (take i b)
        → c ≡ below (suc (digit x)) i (s + 1 - (o + digit x)) (o + digit x) → whole ≡ rank (set b i (suc (digit x)))
        → (c ≤ whole) × Inserting b x record { at = i; stones = s; o = o; gain = whole - c }
    inserting_first i s o c whole v es eo ec ew =
        let m : s + 1 - (o + digit x) ≡ count 1 (take i b) + (1 - digit x) = omega (arith, es, eo, digit_lt x) in
        let k : c ≡ below (suc (digit x)) i (count 1 (take i b) + (1 - digit x)) (count 2 (take i b) + digit x) =
        ec ∙ ap₂ (λ (k l : ℕ). below (suc (digit x)) i k l) m (ap (λ (k : ℕ). k + digit x) eo) in
        let r = put_at i v in
        let e = v.empty in (
          omega (arith, r, k, ew),
          record {
            within = omega (arith, v.low);
            both = es;
            opponent = eo;
            room = omega (arith, es, stones_few i (omega (arith, v.low)), ap (λ (y : ℕ). digit (eqb y 1)) e, ap (λ (y : ℕ). digit (eqb y 2)) e);
            gain_is = omega (arith, r, k, ew);
          },
        )

    -- a point passed, whatever stands there
    module _ (walk : Insertion) (w : Inserting b x walk) (low : walk.at < length b) where
      passed : (v u e : ℕ) → v ≡ get_or b walk.at 0
          → u ≡ below v walk.at (count 1 (take walk.at b) + digit (eqb v 1)) (count 2 (take walk.at b) + digit (eqb v 2))
          → e ≡ below v walk.at (count 1 (take walk.at b) + (1 - digit x) + digit (eqb v 1)) (count 2 (take walk.at b) + digit x + digit (eqb v 2))
          → (e ≤ walk.gain + u) × Inserting b x record {
            at = walk.at + 1;
            stones = walk.stones + digit (eqb v 1) + digit (eqb v 2);
            o = walk.o + digit (eqb v 2);
            gain = walk.gain + u - e;
          }
      passed v u e ev eu ee =
          let i : ℕ = walk.at in
          let m : ℕ = count 1 (take i b) in
          let o : ℕ = count 2 (take i b) in
          let n = ranking_more v u (at i w.within) vs low ev eu in
          let a = added_at i (m + (1 - digit x)) (o + digit x) v low ev in
          let m' : m + (1 - digit x) + digit (eqb v 1) ≡ count 1 (take (i + 1) b) + (1 - digit x) = omega (arith, n.mover) in
          let o' : o + digit x + digit (eqb v 2) ≡ count 2 (take (i + 1) b) + digit x = omega (arith, n.opponent) in
          let r = ap₂ (λ (k l : ℕ). added (drop (i + 1) b) (i + 1) k l) m' o' in (
            omega (arith, w.gain_is, a, ee),
            record {
              within = omega arith;
              both = omega (arith, w.both, n.mover, n.opponent);
              opponent = omega (arith, w.opponent, n.opponent);
              room = omega (
                arith,
                w.room,
                one_side (get_or b (i + 1) 0),
                ap (λ (y : ℕ). digit (eqb y 1)) ev,
                ap (λ (y : ℕ). digit (eqb y 2)) ev,
              );
              gain_is = omega (arith, w.gain_is, n.rank_is, a, ee, r);
            },
          )

      pub passed_vacant : get_or b walk.at 0 ≡ 0
          → Inserting b x record { at = walk.at + 1; stones = walk.stones; o = walk.o; gain = walk.gain }
      passed_vacant e =
          let n = (passed 0 0 0 (sym e) refl refl).1 in
          record {
            within = n.within;
            both = omega (arith, n.both);
            opponent = omega (arith, n.opponent);
            room = omega (arith, n.room);
            gain_is = omega (arith, n.gain_is);
          }

      -- a stone leaves a vacant point below it
      pub stone_room : (y : Bool) → get_or b walk.at 0 ≡ suc (digit y) → walk.stones < walk.at
      stone_room y e =
          omega (arith, w.room, ap (λ (v : ℕ). digit (eqb v 1) + digit (eqb v 2)) e, mine y, other y, digit_lt y)

      pub passed_stone : (y : Bool) (u e : ℕ) → get_or b walk.at 0 ≡ suc (digit y)
          → u ≡ below (suc (digit y)) walk.at (walk.stones + 1 - (walk.o + digit y)) (walk.o + digit y)
          → e ≡ below (suc (digit y)) walk.at (walk.stones + 1 + 1 - (walk.o + digit y + digit x)) (walk.o + digit y + digit x)
          → (e ≤ walk.gain + u)
          × Inserting b x record { at = walk.at + 1; stones = walk.stones + 1; o = walk.o + digit y; gain = walk.gain + u - e }
      passed_stone y u e ey eu ee =
          let i : ℕ = walk.at in
          let v : ℕ = suc (digit y) in
          let m : ℕ = count 1 (take i b) in
          let o : ℕ = count 2 (take i b) in
          let m1 : walk.stones + 1 - (walk.o + digit y) ≡ m + digit (eqb v 1) = omega (arith, w.both, w.opponent, mine y, digit_lt y) in
          let o1 : walk.o + digit y ≡ o + digit (eqb v 2) = omega (arith, w.opponent, other y) in
          let m2 : walk.stones + 1 + 1 - (walk.o + digit y + digit x) ≡ m + (1 - digit x) + digit (eqb v 1) =
          omega (arith, w.both, w.opponent, mine y, digit_lt y, digit_lt x) in
          let o2 : walk.o + digit y + digit x ≡ o + digit x + digit (eqb v 2) = omega (arith, w.opponent, other y) in
          let n = passed v u e (sym ey) (eu ∙ ap₂ (λ (k l : ℕ). below v i k l) m1 o1) (ee ∙ ap₂ (λ (k l : ℕ). below v i k l) m2 o2) in (
            n.0,
            record {
              within = n.1.within;
              both = omega (arith, n.1.both, mine y, other y, digit_lt y);
              opponent = omega (arith, n.1.opponent, other y);
              room = omega (arith, n.1.room, mine y, other y, digit_lt y);
              gain_is = n.1.gain_is;
            },
          )

    -- the new rank is one of the table with one stone more
    pub put_low : (i : ℕ) → Vacant b i → rank (set b i (suc (digit x))) < size (length b) (count 1 b + (1 - digit x)) (count 2 b + digit x)
    put_low i v =
        let c : List ℕ = set b i (suc (digit x)) in
        let s : c ≡ take i b ++ (suc (digit x) ∷ drop (suc i) b) = set_split b i (suc (digit x)) v.low in
        let t : b ≡ take i b ++ (0 ∷ drop (suc i) b) =
        sym (take-append-drop i b) ∙ ap (λ (l : List ℕ). take i b ++ l) (drop-cons b i 0 v.low ∙ ap (λ (y : ℕ). y ∷ drop (suc i) b) v.empty) in
        let n : (u y : ℕ) → count u (take i b ++ (y ∷ drop (suc i) b)) ≡ count u (take i b) + (count u (drop (suc i) b) + digit (eqb y u)) =
        λ u y. count_append u (take i b) (y ∷ drop (suc i) b) ∙ ap (λ (k : ℕ). count u (take i b) + k) (more_digit (eqb y u) (count u (drop (suc i) b))) in
        let m : count 1 c ≡ count 1 b + (1 - digit x) =
        omega (arith, ap (count 1) s, n 1 (suc (digit x)), mine x, ap (count 1) t, n 1 0) in
        let o : count 2 c ≡ count 2 b + digit x = omega (arith, ap (count 2) s, n 2 (suc (digit x)), other x, ap (count 2) t, n 2 0) in
        let w : Values c =
        subst Values (sym s) (values_append (take i b) (suc (digit x) ∷ drop (suc i) b) (values_take i b vs)
        (omega (arith, digit_lt x), values_drop (suc i) b vs)) in
        subst (λ (k : ℕ). rank c < k) (ap₂ (size (length c)) m o ∙ ap (λ (k : ℕ). size k (count 1 b + (1 - digit x)) (count 2 b + digit x))
        (length-set b i (suc (digit x)))) (rank_low c w)
