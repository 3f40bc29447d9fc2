-- One entry written at all images of a board of a pair: the images hold it, all other boards of the pair's game keep their entries.
-- Assumes nothing.
use mathlib.Core.Path.{◌≡◌, refl, sym, ap, subst, ◌∙◌}
use mathlib.Core.Bool.{Bool, true, false}
use mathlib.Core.List.{List}
use mathlib.Core.Logic.{◌⊎◌, inl, inr}
use Prim.Native.Nat.{ℕ, zero, suc, ◌+◌, ◌*◌, ◌≤◌, ◌<◌}
use native.Mathlib.Decide.{ℕ_discrete}
use native.Mathlib.Omega.{arith}
use lib.Dec.{ltb}
use lib.ListN.{length, set}
use borrow.Author.Tests.{ltb-true, ltb-false}
use Rattle.lists.proofs.Tests.{clash}
use Rattle.board.specs.Board.{count}
use Rattle.ranking.specs.Rank.{rank}
use Rattle.layout.specs.Layout.{start, tablebase_length}
use Rattle.outcomes.specs.Places.{place_of, entry_at, successor_entry}
use Rattle.outcomes.specs.Pair.{Pair, in_pair}
use Rattle.outcomes.specs.Filled.{BothTables, Kept}
use Rattle.outcomes.proofs.Boards.{place_within}
use Rattle.outcomes.proofs.Ranked.{InTable, place_at, rank_in, one_board}
use Rattle.outcomes.proofs.PairGame.{OnPair, InPair, in_pair_lem, pair_table, PairReached, of_pair, two_left, below, reached, stands, stands_own}
use Rattle.outcomes.proofs.Entries.{entry_two, entry_three, written_here, written_elsewhere, kept_same, kept_set, kept_then}
use Rattle.symmetry.specs.Symmetries.{symmetries, image}
use Rattle.invariance.proofs.PairMaps.{image_table}
use Rattle.classing.specs.Inner.Classes.{images_written}
use Rattle.classing.proofs.Written.{images_length}

module _ (rings k m o : ℕ) (pair : Pair rings k m o) where
  -- one entry written, seen from the pair's game
  pub seen_elsewhere : (now p : List ℕ) (v : ℕ) → InPair rings m o p → (q : List ℕ) → OnPair rings m o q → (q ≡ p → ⊥)
      → successor_entry rings k (set now (place_of rings k p) v) q ≡ successor_entry rings k now q
  seen_elsewhere now p v i q s ne = at (ltb (count 1 q) 3) refl
    where
      at : (c : Bool) → ltb (count 1 q) 3 ≡ c → successor_entry rings k (set now (place_of rings k p) v) q ≡ successor_entry rings k now q
      at true f = let l = ltb-true (count 1 q) 3 f in entry_two rings k (set now (place_of rings k p) v) q l ∙ sym (entry_two rings k now q l)
      at false f = let l = ltb-false (count 1 q) 3 f in
          entry_three rings k (set now (place_of rings k p) v) q l
          ∙ written_elsewhere rings k now p v q (stands_own rings k m o pair p i) (stands rings k m o pair q s l) ne ∙ sym (entry_three rings k now q l)

  -- boards of the pair are told apart by their places
  pub same_board : (p q : List ℕ) → InPair rings m o p → InPair rings m o q → (p ≡ q) ⊎ (p ≡ q → ⊥)
  same_board p q i j = go (ℕ_discrete (place_of rings k p) (place_of rings k q))
    where
      go : Dec (place_of rings k p ≡ place_of rings k q) → (p ≡ q) ⊎ (p ≡ q → ⊥)
      go (yes e) = inl (one_board rings k p q (stands_own rings k m o pair p i) (stands_own rings k m o pair q j) e)
      go (no d) = inr (λ e. d (ap (place_of rings k) e))

  pub same_on : (p q : List ℕ) → InPair rings m o p → OnPair rings m o q → (q ≡ p) ⊎ (q ≡ p → ⊥)
  same_on p q i s = go (reached q s)
    where
      out : in_pair m o q ≡ false → q ≡ p → ⊥
      out f e = clash (ap (in_pair m o) e ∙ in_pair_lem i) f

      go : PairReached rings m o q → (q ≡ p) ⊎ (q ≡ p → ⊥)
      go (of_pair j) = same_board q p j i
      go (two_left f l) = inr (out f)
      go (below f l) = inr (out f)

  module _ (x y : ℕ) (both : BothTables m o x y) (b : List ℕ) (w : InTable rings x y b) (from : ℕ) (from_is : from ≡ start (8 * rings) k x y) where
    image_of : (g : ℕ) → g < symmetries → InTable rings x y (image rings g b)
    image_of g h = image_table rings pair.small g h x y b w

    own : (g : ℕ) → g < symmetries → InPair rings m o (image rings g b)
    own g h = pair_table both (image_of g h)

    place_is : (g : ℕ) → g < symmetries → from + rank (image rings g b) ≡ place_of rings k (image rings g b)
    place_is g h = ap (λ (s : ℕ). s + rank (image rings g b)) from_is ∙ sym (place_at rings k x y (image rings g b) (image_of g h))

    -- whether a board is one of the first n images
    abbrev Among : ℕ → List ℕ → Type 0
    Among n q = (g : ℕ) × (g < n) × (image rings g b ≡ q)

    among : (n : ℕ) → n ≤ symmetries → (q : List ℕ) → InPair rings m o q → Among n q ⊎ (Among n q → ⊥)
    among zero h q i = inr (λ (g, l, e). omega arith)
    among (suc n) h q i = go (same_board (image rings n b) q (own n h) i) (among n (omega arith) q i)
      where
        go : (image rings n b ≡ q) ⊎ (image rings n b ≡ q → ⊥) → Among n q ⊎ (Among n q → ⊥) → Among (suc n) q ⊎ (Among (suc n) q → ⊥)
        go (inl e) r = inl (n, omega arith, e)
        go (inr d) (inl (g, l, e)) = inl (g, omega arith, e)
        go (inr d) (inr none) = inr (λ (g, l, e). last g l e (ℕ_discrete g n))
          where
            last : (g : ℕ) → g < suc n → image rings g b ≡ q → Dec (g ≡ n) → ⊥
            last g l e (yes z) = d (ap (λ (i : ℕ). image rings i b) (sym z) ∙ e)
            last g l e (no z) = none (g, omega (arith, z), e)

    pub apart : (n : ℕ) → n ≤ symmetries → (q : List ℕ) → OnPair rings m o q → Among n q ⊎ (Among n q → ⊥)
    apart n h q s = go (reached q s)
      where
        out : in_pair m o q ≡ false → Among n q → ⊥
        out f (g, l, e) = clash (ap (in_pair m o) (sym e) ∙ in_pair_lem (own g (omega arith))) f

        go : PairReached rings m o q → Among n q ⊎ (Among n q → ⊥)
        go (of_pair i) = among n h q i
        go (two_left f l) = inr (out f)
        go (below f l) = inr (out f)

    module _ (v : ℕ) (now : List ℕ) where
      abbrev after : ℕ → List ℕ
      after n = images_written rings from b v now n

      step : (n : ℕ) → n < symmetries → after (suc n) ≡ set (after n) (place_of rings k (image rings n b)) v
      unfolding images_written
      step n h = ap (λ (j : ℕ). set (images_written rings from b v now n) j v) (place_is n h)

      pub written_kept : (n : ℕ) → n ≤ symmetries → Kept rings k (BothTables m o) now (images_written rings from b v now n)
      unfolding images_written
      written_kept zero h = kept_same rings k (BothTables m o) now
      written_kept (suc n) h =
          kept_then rings k (BothTables m o) now (images_written rings from b v now n) (images_written rings from b v now (suc n))
          (written_kept n (omega arith))
          (subst (λ (s : ℕ). Kept rings k (BothTables m o) (images_written rings from b v now n)
          (set (images_written rings from b v now n) (s + rank (image rings n b)) v)) (sym from_is)
          (kept_set rings k (BothTables m o) (images_written rings from b v now n) x y (rank (image rings n b)) v both
          (rank_in rings x y (image rings n b) (image_of n h))))

      -- all other boards keep their entries
      pub written_others : (n : ℕ) → n ≤ symmetries → (q : List ℕ) → OnPair rings m o q → (Among n q → ⊥)
          → successor_entry rings k (images_written rings from b v now n) q ≡ successor_entry rings k now q
      unfolding images_written
      written_others zero h q s none = refl
      written_others (suc n) h q s none =
          ap (λ (l : List ℕ). successor_entry rings k l q) (step n h)
          ∙ seen_elsewhere (after n) (image rings n b) v (own n h) q s (λ e. none (n, omega arith, sym e))
          ∙ written_others n (omega arith) q s (λ (g, l, e). none (g, omega arith, e))

      -- the images hold it
      module _ (room : length now ≡ tablebase_length (8 * rings) k) where
        pub written_images : (n : ℕ) → n ≤ symmetries → (q : List ℕ) → Among n q → entry_at rings k (images_written rings from b v now n) q ≡ v
        written_images zero h q (g, l, e) = absurd (omega arith)
        written_images (suc n) h q (g, l, e) =
            go (same_board (image rings n b) q (own n h) in_q) (ℕ_discrete g n) (λ i. written_images n (omega arith) q i)
          where
            in_q : InPair rings m o q
            in_q = subst (λ (c : List ℕ). InPair rings m o c) e (own g (omega arith))

            fits : place_of rings k (image rings n b) < length (after n)
            fits =
                let s = stands_own rings k m o pair (image rings n b) (own n h) in
                omega (arith, images_length rings from b v now n, room, place_within rings k (image rings n b) s)

            go : (image rings n b ≡ q) ⊎ (image rings n b ≡ q → ⊥) → Dec (g ≡ n) → (Among n q → entry_at rings k (after n) q ≡ v)
                → entry_at rings k (after (suc n)) q ≡ v
            go (inl f) z r =
                ap (λ (l : List ℕ). entry_at rings k l q) (step n h)
                ∙ ap (entry_at rings k (set (after n) (place_of rings k (image rings n b)) v)) (sym f)
                ∙ written_here rings k (after n) (image rings n b) v fits
            go (inr d) (yes z) r = absurd (d (ap (λ (i : ℕ). image rings i b) (sym z) ∙ e))
            go (inr d) (no z) r =
                ap (λ (l : List ℕ). entry_at rings k l q) (step n h)
                ∙ written_elsewhere rings k (after n) (image rings n b) v q (stands_own rings k m o pair (image rings n b) (own n h))
                (stands_own rings k m o pair q in_q) (λ f. d (sym f)) ∙ r (g, omega (arith, z), e)
