-- Entries of boards in a tablebase: by the number of the mover's stones, after one entry is written, and where a fill leaves them alone.
-- Assumes nothing.
use mathlib.Core.Path.{◌≡◌, refl, sym, ap, subst, ◌∙◌}
use mathlib.Core.Bool.{false, true≢false}
use mathlib.Core.List.{List}
use Prim.Native.Nat.{ℕ, ◌+◌, ◌*◌, ◌≤◌, ◌<◌}
use lib.ListN.{length, get_or, set, length-set}
use lib.Seq.{get_or-set_same, get_or-set_other}
use borrow.Author.Tests.{lt-ltb, le-ltb}
use Rattle.board.specs.Board.{count}
use Rattle.sizes.specs.Size.{size}
use Rattle.ranking.specs.Rank.{rank}
use Rattle.ranking.specs.Unrank.{unrank}
use Rattle.layout.specs.Layout.{start}
use Rattle.outcomes.specs.Places.{place_of, entry_at, successor_entry}
use Rattle.outcomes.specs.Pair.{Pair, in_pair}
use Rattle.outcomes.specs.Filled.{BothTables, Kept}
use Rattle.outcomes.proofs.Boards.{InTables}
use Rattle.outcomes.proofs.Ranked.{unrank_in, place_unrank, one_board}
use Rattle.outcomes.proofs.PairGame.{OnPair, pair_table, in_pair_lem, stands, stands_own}

module _ (rings k : ℕ) (tablebase b : List ℕ) where
  pub entry_place : entry_at rings k tablebase b ≡ get_or tablebase (place_of rings k b) 0
  unfolding entry_at
  entry_place = refl

  pub entry_rank : get_or tablebase (start (8 * rings) k (count 1 b) (count 2 b) + rank b) 0 ≡ entry_at rings k tablebase b
  unfolding entry_at place_of
  entry_rank = refl

  pub entry_two : count 1 b < 3 → successor_entry rings k tablebase b ≡ 0
  unfolding successor_entry
  entry_two h = rw (lt-ltb (count 1 b) 3 h, successor_entry)

  pub entry_three : 3 ≤ count 1 b → successor_entry rings k tablebase b ≡ entry_at rings k tablebase b
  unfolding successor_entry
  entry_three h = rw (le-ltb (count 1 b) 3 h, successor_entry)

-- the board of a rank, and its entry
pub entry_unrank : (rings k x y r : ℕ) (tablebase : List ℕ) → r < size (8 * rings) x y
    → entry_at rings k tablebase (unrank (8 * rings) x y r) ≡ get_or tablebase (start (8 * rings) k x y + r) 0
unfolding entry_at
entry_unrank rings k x y r tablebase h = ap (λ (i : ℕ). get_or tablebase i 0) (place_unrank rings k x y r h)

-- one entry written
module _ (rings k : ℕ) (tablebase p : List ℕ) (v : ℕ) where
  pub written_here : place_of rings k p < length tablebase → entry_at rings k (set tablebase (place_of rings k p) v) p ≡ v
  unfolding entry_at
  written_here h = get_or-set_same tablebase (place_of rings k p) v 0 h

  pub written_elsewhere : (q : List ℕ) → InTables rings k p → InTables rings k q → (q ≡ p → ⊥)
      → entry_at rings k (set tablebase (place_of rings k p) v) q ≡ entry_at rings k tablebase q
  unfolding entry_at
  written_elsewhere q s t ne = get_or-set_other tablebase (place_of rings k p) (place_of rings k q) v 0 (λ e. ne (one_board rings k q p t s e))

-- every other entry is as it was
pub kept_same : (rings k : ℕ) (T : ℕ → ℕ → Type 0) (tablebase : List ℕ) → Kept rings k T tablebase tablebase
kept_same rings k T tablebase = record { same_length = refl; rest = λ j none. refl }

pub kept_then : (rings k : ℕ) (T : ℕ → ℕ → Type 0) (a b c : List ℕ) → Kept rings k T a b → Kept rings k T b c → Kept rings k T a c
kept_then rings k T a b c v w = record { same_length = w.same_length ∙ v.same_length; rest = λ j none. w.rest j none ∙ v.rest j none }

pub kept_set : (rings k : ℕ) (T : ℕ → ℕ → Type 0) (tablebase : List ℕ) (x y r v : ℕ) → T x y → r < size (8 * rings) x y
    → Kept rings k T tablebase (set tablebase (start (8 * rings) k x y + r) v)
kept_set rings k T tablebase x y r v t h = record {
  same_length = length-set tablebase (start (8 * rings) k x y + r) v;
  rest = λ j none. get_or-set_other tablebase (start (8 * rings) k x y + r) j v 0 (λ e. none x y r t h (sym e));
}

-- a board of the tablebase that is in no table of T keeps its entry
pub kept_standing : (rings k : ℕ) (T : ℕ → ℕ → Type 0) (before after : List ℕ) → Kept rings k T before after
    → ((x y r : ℕ) → T x y → r < size (8 * rings) x y → InTables rings k (unrank (8 * rings) x y r))
    → (b : List ℕ) → InTables rings k b → (T (count 1 b) (count 2 b) → ⊥) → entry_at rings k after b ≡ entry_at rings k before b
unfolding entry_at
kept_standing rings k T before after w stand b s out = w.rest (place_of rings k b) (λ x y r t h e.
    let c = unrank (8 * rings) x y r in
    let i = unrank_in rings x y r h in
    let q : c ≡ b = one_board rings k c b (stand x y r t h) s (place_unrank rings k x y r h ∙ e) in
    out (subst (λ (n : ℕ). T n (count 2 b)) (sym i.mover ∙ ap (count 1) q) (subst (λ (n : ℕ). T x n) (sym i.opponent ∙ ap (count 2) q) t)))

module _ (rings k m o : ℕ) (pair : Pair rings k m o) where
  pub pair_stands : (x y r : ℕ) → BothTables m o x y → r < size (8 * rings) x y → InTables rings k (unrank (8 * rings) x y r)
  pair_stands x y r t h = stands_own rings k m o pair (unrank (8 * rings) x y r) (pair_table t (unrank_in rings x y r h))

  -- the lower tables of a pair keep their entries
  pub kept_lower : (before after : List ℕ) → Kept rings k (BothTables m o) before after → (b : List ℕ) → OnPair rings m o b → in_pair m o b ≡ false
      → 3 ≤ count 1 b → entry_at rings k after b ≡ entry_at rings k before b
  kept_lower before after w b p out three =
      kept_standing rings k (BothTables m o) before after w pair_stands b (stands rings k m o pair b p three)
      (λ t. true≢false (sym (in_pair_lem {rings = rings} record { values = p.values; points = p.points; counts = t }) ∙ out))
