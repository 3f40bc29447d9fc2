-- A move number, tested part by part on a position's sets, for any rule of removal that names opposing stones; and the sets after a move that can be
-- made, whatever rule allows it. Assumes nothing.
use mathlib.Core.Path.{◌≡◌, refl, sym, ap, ap₂, subst, ◌∙◌}
use mathlib.Core.Bool.{true}
use mathlib.Core.List.{List, Memᴰ}
use mathlib.Core.Logic.{inl, inr, ⊎_elim}
use Prim.Native.Nat.{ℕ, ◌+◌, ◌*◌, ◌^◌, ◌<◌}
use native.Mathlib.Omega.{arith}
use lib.Dec.{eqb}
use lib.ListN.{length}
use Rattle.lists.specs.Lists.{member}
use Rattle.lists.proofs.Tests.{is_member, member_is}
use Rattle.sets.specs.Sets.{bit, with, without, set_from}
use Rattle.sets.proofs.Laws.{bit_cases, without_absent}
use Rattle.sets.proofs.Elements.{bit_from, from_bit, bit_low}
use Rattle.board.specs.declared.Position.{Position}
use Rattle.board.specs.Board.{Values, digit, set_of, position_of, board_of}
use Rattle.board.proofs.Sides.{length_board, board_values, bit_set, position_sides}
use Rattle.board.proofs.Stores.{set_without}
use Rattle.board.proofs.OneToOne.{mover_set_lem, opponent_set, mover_at, mover_bit}
use Rattle.rules.specs.Ply.{Rule, destinations, slide, removals, move_number, from_of, to_of, removed_of, moves, remove, after_ply}
use Rattle.rules.specs.Inner.Making.{Makeable}
use Rattle.plies.specs.Inner.Positions.{Placed}
use Rattle.rules.proofs.Listed.{Move, TakesOpponent, move_of, of_move, destination_of, of_destination, destination_vacant}
use Rattle.rules.proofs.Leads.{Removed, listed_parts, listed_makeable, makeable_from, makeable_to, makeable_removed, removed_before, after_parts, remove_none, remove_one}
use Rattle.rules.proofs.OnSets.{slide_mover, slide_opponent, exchange_sets}
use Rattle.plies.proofs.OnPositions.{opponent_small}

-- a stone of the mover's, one of its destinations and one of the removals make a listed move
pub number_listed : (rule : Rule) (rings : ℕ) (position : Position) → Placed rings position → (from to removed : ℕ) → bit position.mover from ≡ 1
    → bit (set_from (destinations rings (board_of (8 * rings) position) from)) to ≡ 1
    → bit (set_from (removals rule rings (slide (board_of (8 * rings) position) from to) to)) removed ≡ 1
    → member (move_number from to removed) (moves rule rings (board_of (8 * rings) position)) ≡ true
number_listed rule rings position placed from to removed f t r =
    let b : List ℕ = board_of (8 * rings) position in
    let own = mover_at (8 * rings) position placed.on from f in
    let m = from_bit (destinations rings b from) to t in
    let v = destination_vacant rings b from to m in
    is_member (move_number from to removed) _ (of_move rule rings b from to removed record {
      from_low = own.0;
      to_low = v.0;
      own = own.1;
      vacant = v.1;
      reach = destination_of rings b from to m;
      removal = from_bit (removals rule rings (slide b from to) to) removed r;
    })

module _ (rule : Rule) (takes : TakesOpponent rule) (rings : ℕ) (position : Position) (placed : Placed rings position) (n : ℕ) where
  -- a listed number can be made
  pub number_makeable : member n (moves rule rings (board_of (8 * rings) position)) ≡ true → Makeable rings (board_of (8 * rings) position) n
  number_makeable e =
      listed_makeable rule takes rings placed.small (board_of (8 * rings) position) (board_values (8 * rings) position placed.on)
      (length_board (8 * rings) position) n (member_is n _ e)

  -- its parts make a move, and a move's parts a listed number
  parts : Memᴰ n (moves rule rings (board_of (8 * rings) position))
      → Move rule rings (board_of (8 * rings) position) (from_of n) (to_of n) (removed_of n)
  parts m =
      let b : List ℕ = board_of (8 * rings) position in
      let l = move_of rule rings b n m in
      let q = listed_parts rule takes rings placed.small b (board_values (8 * rings) position placed.on)
      (length_board (8 * rings) position) n l in
      rw (q.from_is, q.to_is, q.removed_is) l.move

  number : n ≡ 1024 * from_of n + 32 * to_of n + removed_of n
  number = omega arith

  -- the three tests
  pub from_listed : member n (moves rule rings (board_of (8 * rings) position)) ≡ true → bit position.mover (from_of n) ≡ 1
  from_listed e = let v = parts (member_is n _ e) in mover_bit (8 * rings) position placed.on (from_of n) v.from_low v.own

  pub to_listed : member n (moves rule rings (board_of (8 * rings) position)) ≡ true
      → bit (set_from (destinations rings (board_of (8 * rings) position) (from_of n))) (to_of n) ≡ 1
  to_listed e = let v = parts (member_is n _ e) in
      bit_from (destinations rings (board_of (8 * rings) position) (from_of n)) (to_of n)
      (of_destination rings (board_of (8 * rings) position) (from_of n) (to_of n) v.to_low v.vacant v.reach)

  pub removed_listed : member n (moves rule rings (board_of (8 * rings) position)) ≡ true
      → bit (set_from (removals rule rings (slide (board_of (8 * rings) position) (from_of n) (to_of n)) (to_of n))) (removed_of n) ≡ 1
  removed_listed e = let v = parts (member_is n _ e) in bit_from _ (removed_of n) v.removal

  pub all_listed : bit position.mover (from_of n) ≡ 1 → bit (set_from (destinations rings (board_of (8 * rings) position) (from_of n))) (to_of n) ≡ 1
      → bit (set_from (removals rule rings (slide (board_of (8 * rings) position) (from_of n) (to_of n)) (to_of n))) (removed_of n) ≡ 1
      → member n (moves rule rings (board_of (8 * rings) position)) ≡ true
  all_listed f t r =
      subst (λ (k : ℕ). member k (moves rule rings (board_of (8 * rings) position)) ≡ true) (sym number)
      (number_listed rule rings position placed (from_of n) (to_of n) (removed_of n) f t r)

-- the sets after a move that can be made
module _ (rings : ℕ) (position : Position) (placed : Placed rings position) (n : ℕ) (makeable : Makeable rings (board_of (8 * rings) position) n) where
  abbrev board : List ℕ
  board = board_of (8 * rings) position

  whole : length board ≡ 8 * rings
  whole = length_board (8 * rings) position

  values : Values board
  values = board_values (8 * rings) position placed.on

  lf : from_of n < length board
  lf = makeable_from rings placed.small board values whole n makeable

  lt : to_of n < length board
  lt = makeable_to rings placed.small board values whole n makeable

  abbrev slid : List ℕ
  slid = slide board (from_of n) (to_of n)

  slid_mover : set_of 1 slid ≡ with (without position.mover (from_of n)) (to_of n)
  slid_mover = slide_mover board (from_of n) (to_of n) lf lt
      ∙ ap (λ (s : ℕ). with (without s (from_of n)) (to_of n)) (mover_set_lem (8 * rings) position placed.on)

  slid_opponent : set_of 2 slid ≡ position.opponent
  slid_opponent = slide_opponent board (from_of n) (to_of n) lf lt makeable.own makeable.vacant ∙ opponent_set (8 * rings) position placed.on

  removed : Removed slid (removed_of n)
  removed = makeable_removed rings placed.small board values whole n makeable

  removed_sets : (r : ℕ) → Removed slid r → (set_of 1 (remove slid r) ≡ set_of 1 slid) × (set_of 2 (remove slid r) ≡ without (set_of 2 slid) r)
  removed_sets r (inl q) =
      let z : bit (set_of 2 slid) r ≡ 0 = ⊎_elim (λ a. a) (λ a. absurd (omega (arith, q, bit_low 24 (set_of 2 slid) r small a)))
      (bit_cases (set_of 2 slid) r) in
      rw (remove_none slid r q) (refl, sym (without_absent (set_of 2 slid) r z))
    where
      small : set_of 2 slid < 2 ^ 24
      small = rw slid_opponent (opponent_small rings position placed)
  removed_sets r (inr h) =
      rw (remove_one slid r (λ q. omega (arith, h.1))) (
        set_without 1 slid r 0 h.0 refl ∙ without_absent (set_of 1 slid) r (bit_set 1 slid r h.0 ∙ ap (λ (x : ℕ). digit (eqb x 1)) h.2),
        set_without 2 slid r 0 h.0 refl,
      )

  -- the opponent's stones, less the one removed, are the next mover's
  pub after_sets : position_of (after_ply board n)
      ≡ record { mover = without position.opponent (removed_of n); opponent = with (without position.mover (from_of n)) (to_of n) }
  after_sets =
      let w = removed_before board (from_of n) (to_of n) (removed_of n) lf lt makeable.own makeable.vacant values removed in
      let x = exchange_sets (remove slid (removed_of n)) w.values in
      let r = removed_sets (removed_of n) removed in
      let a = after_parts board n (from_of n) (to_of n) (removed_of n) (record { from_is = refl; to_is = refl; removed_is = refl }) in
      position_sides (after_ply board n)
      ∙ ap₂ (λ (m o : ℕ). sides m o) (ap (set_of 1) a ∙ x.0 ∙ r.1 ∙ ap (λ (s : ℕ). without s (removed_of n)) slid_opponent)
      (ap (set_of 2) a ∙ x.1 ∙ r.0 ∙ slid_mover)
    where
      sides : ℕ → ℕ → Position
      sides m o = record { mover = m; opponent = o }
