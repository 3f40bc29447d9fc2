-- The list of moves (document 02, A2), captures first: it has the legal moves, each once; captures stand before all others, and both rise. A
-- capture removes a stone that the rule of removal names, so a mill that removes nothing is none. Assumes nothing.
use mathlib.Core.Path.{◌≡◌, refl, sym, ap, ◌∙◌}
use mathlib.Core.Bool.{Bool, true, false, not}
use mathlib.Core.List.{List, ◌++◌, map, Memᴰ}
use mathlib.Core.Logic.{◌⊎◌, inl, inr}
use Prim.Native.Nat.{ℕ, ◌+◌, ◌*◌, ◌≤◌, ◌<◌}
use native.Mathlib.Omega.{arith}
use lib.Dec.{eqb}
use lib.ListN.{length, length-append, get_or}
use borrow.Author.Tests.{eq-eqb}
use Rattle.lists.specs.Lists.{keep, member, is_empty, Rising}
use Rattle.lists.proofs.Keep.{keep_map}
use Rattle.lists.proofs.Parted.{parted_member, member_parted, parted_length, parted_empty, parted_first, parted_rises, parted_once}
use Rattle.lists.proofs.Tests.{same_test, clash, member_is, is_member, keep_same}
use Rattle.board.specs.Board.{Values}
use Rattle.rules.specs.Ply.{Rule, slide, no_removal, removals, move_number, from_of, to_of, removed_of, slide_moves, moves}
use Rattle.rules.specs.MoveList.{is_capture, captures, others, captures_first}
use Rattle.rules.proofs.Listed.{TakesOpponent, move_of, removal_cases}
use Rattle.rules.proofs.Leads.{listed_parts}
use Rattle.rules.proofs.Rises.{RisingRule, removal_low, moves_rising}

-- a move that removes nothing is no capture, and any other is one
pub not_capture : (move : ℕ) → removed_of move ≡ no_removal → is_capture move ≡ false
unfolding is_capture
not_capture move e = ap not (eq-eqb (removed_of move) no_removal e)

pub capture_is : (move : ℕ) → is_capture move ≡ not (eqb (removed_of move) no_removal)
unfolding is_capture
capture_is move = refl

-- the list of any moves
module _ (ms : List ℕ) where
  pub listed_are : captures_first ms ≡ captures ms ++ others ms
  unfolding captures_first
  listed_are = refl

  -- the same members
  pub listed_legal : {m : ℕ} → Memᴰ m (captures_first ms) → Memᴰ m ms
  unfolding captures_first
  listed_legal i = parted_member (λ m. is_capture m) ms i

  pub legal_listed : {m : ℕ} → Memᴰ m ms → Memᴰ m (captures_first ms)
  unfolding captures_first
  legal_listed i = member_parted (λ m. is_capture m) ms i

  pub member_listed : (m : ℕ) → member m (captures_first ms) ≡ member m ms
  member_listed m =
      same_test _ _ (λ e. is_member m ms (listed_legal (member_is m (captures_first ms) e)))
      (λ e. is_member m (captures_first ms) (legal_listed (member_is m ms e)))

  -- the same length
  pub listed_length : length (captures_first ms) ≡ length ms
  unfolding captures_first
  listed_length = parted_length (λ m. is_capture m) ms

  pub listed_total : length (captures ms) + length (others ms) ≡ length (captures_first ms)
  listed_total = sym (ap length listed_are ∙ length-append (captures ms) (others ms))

  pub listed_empty : is_empty (captures_first ms) ≡ is_empty ms
  unfolding captures_first
  listed_empty = parted_empty (λ m. is_capture m) ms

-- of two places of a list: captures stand before all others, both parts rise, and no number stands twice
pub record Ordered (list : List ℕ) (i j : ℕ) : Type 0 where
  pub captures_before : is_capture (get_or list j 0) ≡ true → is_capture (get_or list i 0) ≡ true
  pub parts_rise : is_capture (get_or list i 0) ≡ is_capture (get_or list j 0) → get_or list i 0 < get_or list j 0
  pub once : get_or list i 0 ≡ get_or list j 0 → ⊥

listed_ordered : (ms : List ℕ) → Rising ms → (i j : ℕ) → i < j → j < length (captures_first ms) → Ordered (captures_first ms) i j
unfolding captures_first
listed_ordered ms rising i j before last = record {
  captures_before = parted_first (λ m. is_capture m) ms i j before last;
  parts_rise = parted_rises (λ m. is_capture m) ms i j before last rising;
  once = parted_once (λ m. is_capture m) ms i j before last rising;
}

module _ (rule : Rule) (takes : TakesOpponent rule) (rings : ℕ) (small : rings ≤ 3) where
  -- a capture removes a stone that the rule names
  pub capture_takes : (b : List ℕ) → Values b → length b ≡ 8 * rings → (n : ℕ) → Memᴰ n (moves rule rings b) → is_capture n ≡ true
      → Memᴰ (removed_of n) (rule rings (slide b (from_of n) (to_of n)))
  capture_takes b values points n i c =
      let l = move_of rule rings b n i in
      let p = listed_parts rule takes rings small b values points n l in
      rw (p.from_is, p.to_is, p.removed_is) (go l.removed p.removed_is (removal_cases rule rings (slide b l.from l.to) l.to l.move.removal))
    where
      go : {c : List ℕ} (r : ℕ) → removed_of n ≡ r → (r ≡ no_removal) ⊎ Memᴰ r (rule rings c) → Memᴰ r (rule rings c)
      go r e (inl q) = clash c (not_capture n (e ∙ q))
      go r e (inr k) = k

  -- so is a board's list ordered, for any rule that names opposing stones by rising number
  pub moves_ordered : RisingRule rule → (b : List ℕ) (i j : ℕ) → i < j → j < length (captures_first (moves rule rings b))
      → Ordered (captures_first (moves rule rings b)) i j
  moves_ordered rises b = listed_ordered (moves rule rings b) (moves_rising rule takes rises rings small b)

  -- the captures and the others among the moves of a slide, by what they remove
  module _ (rises : RisingRule rule) (b : List ℕ) (from to : ℕ) where
    low : (r : ℕ) → Memᴰ r (removals rule rings (slide b from to) to) → removed_of (move_number from to r) ≡ r
    low r i = omega (arith, removal_low rule takes rises rings small (slide b from to) to r i)

    pub captures_slide : captures (slide_moves rule rings b from to)
        ≡ map (λ r. move_number from to r) (keep (λ r. not (eqb r no_removal)) (removals rule rings (slide b from to) to))
    captures_slide =
        keep_map (λ m. is_capture m) (λ r. move_number from to r) (removals rule rings (slide b from to) to)
        ∙ ap (map (λ r. move_number from to r))
        (keep_same _ _ (removals rule rings (slide b from to) to)
        (λ r i. capture_is (move_number from to r) ∙ ap (λ (x : ℕ). not (eqb x no_removal)) (low r i)))

    pub others_slide : others (slide_moves rule rings b from to)
        ≡ map (λ r. move_number from to r) (keep (λ r. eqb r no_removal) (removals rule rings (slide b from to) to))
    others_slide =
        keep_map (λ m. not (is_capture m)) (λ r. move_number from to r) (removals rule rings (slide b from to) to)
        ∙ ap (map (λ r. move_number from to r))
        (keep_same _ _ (removals rule rings (slide b from to) to)
        (λ r i. ap not (capture_is (move_number from to r)) ∙ twice (eqb (removed_of (move_number from to r)) no_removal) ∙ ap (λ (x : ℕ). eqb x no_removal) (low r i)))
      where
        twice : (t : Bool) → not (not t) ≡ t
        twice true = refl
        twice false = refl
