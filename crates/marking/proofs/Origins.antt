-- The boards before a ply on a position's sets: stone by stone, by where the stone may have come from. Assumes nothing.
use mathlib.Core.Path.{◌≡◌, refl, sym, ap, ap₂, ◌∙◌}
use mathlib.Core.Bool.{Bool, true, false, ◌||◌}
use mathlib.Core.List.{List, [], ◌∷◌, ◌++◌}
use Prim.Native.Nat.{ℕ, zero, suc, ◌*◌}
use native.Mathlib.Omega.{arith}
use lib.Dec.{eqb}
use lib.ListN.{get_or}
use borrow.Author.Tests.{ne_eqb}
use Rattle.lists.specs.Lists.{keep, each}
use Rattle.lists.proofs.Keep.{keep_yes, keep_no}
use Rattle.lists.proofs.Tests.{keep_same}
use Rattle.sets.specs.Sets.{bit, has, elements, set_from}
use Rattle.board.specs.declared.Position.{Position}
use Rattle.geometry.specs.Geometry.{points, adjoin}
use Rattle.board.specs.Board.{count, board_of}
use Rattle.board.proofs.Sides.{length_board}
use Rattle.board.proofs.OneToOne.{opponent_set}
use Rattle.inserting.proofs.Puts.{mover_ones, opponent_ones}
use Rattle.rules.specs.Ply.{holds, holding, in_mill, destinations, exchange}
use Rattle.rules.specs.Predecessors.{moved, origins, restored, predecessors}
use Rattle.rules.proofs.Leads.{exchange_at}
use Rattle.rules.proofs.OnSets.{holding_set, in_mill_set}
use Rattle.plies.specs.Inner.Positions.{Placed}
use Rattle.plies.proofs.StoneMoves.{elements_destinations, destinations_vacant}
use Rattle.marks.specs.Inner.Putting.{VacantAll}
use Rattle.returning.proofs.Before.{turned, turned_placed, turned_board}
use Rattle.marking.specs.Inner.Stones.{may_have_moved, before_stone}

-- what each member that passes a test gives
each_kept : (f : ℕ → List (List ℕ)) (g : ℕ → Bool) (l : List ℕ) → each f (keep g l) ≡ each (λ x. elim (g x) [ true ↦ f x | false ↦ [] ]) l
each_kept f g [] = refl
each_kept f g (x ∷ l) = go (g x) refl (each_kept f g l)
  where
    given : Bool → List (List ℕ)
    given b = elim b [ true ↦ f x | false ↦ [] ]

    rest : List (List ℕ)
    rest = each (λ x. elim (g x) [ true ↦ f x | false ↦ [] ]) l

    go : (b : Bool) → g x ≡ b → each f (keep g l) ≡ rest → each f (keep g (x ∷ l)) ≡ given (g x) ++ rest
    go true e r = ap (each f) (keep_yes g x l e) ∙ ap (λ (k : List (List ℕ)). f x ++ k) r ∙ ap (λ (b : Bool). given b ++ rest) (sym e)
    go false e r = ap (each f) (keep_no g x l e) ∙ r ∙ ap (λ (b : Bool). given b ++ rest) (sym e)

module _ (rings : ℕ) (position : Position) (placed : Placed rings position) where
  abbrev board : List ℕ
  board = board_of (8 * rings) position

  -- a stone comes from where it might go on to, were its side to move
  origins_destinations : (to : ℕ) → origins rings board to ≡ destinations rings (board_of (8 * rings) (turned position)) to
  unfolding origins destinations holding exchange
  origins_destinations to =
      ap₂ (λ (n : ℕ) (l : List ℕ). keep (λ from. eqb n 3 || adjoin to from) l) stones
      (keep_same (holds board 0) (holds (board_of (8 * rings) (turned position)) 0) (points rings) (λ p m. same p))
    where
      stones : count 2 board ≡ count 1 (board_of (8 * rings) (turned position))
      stones =
          opponent_ones (8 * rings) (omega (arith, placed.small)) position placed.on
          ∙ sym (mover_ones (8 * rings) (omega (arith, placed.small)) (turned position) (turned_placed rings position placed).on)

      vacant : (v : ℕ) → eqb v 0 ≡ eqb (exchange v) 0
      vacant zero = refl
      vacant (suc zero) = refl
      vacant (suc (suc v)) = ne_eqb (suc (suc v)) 0 (λ e. omega arith)

      same : (p : ℕ) → holds board 0 p ≡ holds (board_of (8 * rings) (turned position)) 0 p
      same p =
          vacant (get_or board p 0) ∙ ap (λ (v : ℕ). eqb v 0) (sym (exchange_at board p))
          ∙ ap (λ (b : List ℕ). eqb (get_or b p 0) 0) (sym (turned_board rings position placed))

  pub origins_given : (to froms : ℕ) → froms ≡ set_from (destinations rings (board_of (8 * rings) (turned position)) to)
      → elements 32 froms ≡ origins rings board to
  origins_given to froms e =
      ap (elements 32) e ∙ elements_destinations rings placed.small (board_of (8 * rings) (turned position)) to ∙ sym (origins_destinations to)

  pub origins_vacant : (to froms : ℕ) → bit position.opponent to ≡ 1 → froms ≡ set_from (destinations rings (board_of (8 * rings) (turned position)) to)
      → VacantAll rings position froms
  origins_vacant to froms stone e from h =
      let s = destinations_vacant rings (turned position) (turned_placed rings position placed) to stone from (sym (ap (λ (x : ℕ). bit x from) e) ∙ h) in
      record { low = s.low; free = s.none; none = s.free }

  -- who may have moved last
  pub moved_any : (to : ℕ) → may_have_moved false rings board to ≡ true
  unfolding may_have_moved
  moved_any to = refl

  pub moved_mill : (to : ℕ) → may_have_moved true rings board to ≡ in_mill rings (λ q. has position.opponent q) to
  unfolding may_have_moved
  moved_mill to =
      in_mill_set rings placed.small board (length_board (8 * rings) position) 2 to
      ∙ ap (λ (s : ℕ). in_mill rings (λ q. has s q) to) (opponent_set (8 * rings) position placed.on)

  pub stone_moved : (capture : Bool) (to : ℕ) → may_have_moved capture rings board to ≡ true
      → before_stone capture rings board to ≡ each (λ from. restored capture rings board to from) (origins rings board to)
  unfolding before_stone
  stone_moved capture to e = rw (e, before_stone)

  pub stone_still : (capture : Bool) (to : ℕ) → may_have_moved capture rings board to ≡ false → before_stone capture rings board to ≡ []
  unfolding before_stone
  stone_still capture to e = rw (e, before_stone)

  -- all boards before a ply, over the set of the side that moved
  pub predecessors_given : (capture : Bool)
      → predecessors capture rings board ≡ each (λ to. before_stone capture rings board to) (elements 32 position.opponent)
  unfolding predecessors moved before_stone may_have_moved
  predecessors_given capture = go capture
    where
      stones : holding rings board 2 ≡ elements 32 position.opponent
      stones = holding_set rings placed.small board (length_board (8 * rings) position) 2 ∙ ap (elements 32)
          (opponent_set (8 * rings) position placed.on)

      go : (capture : Bool) → predecessors capture rings board ≡ each (λ to. before_stone capture rings board to) (elements 32 position.opponent)
      go true =
          each_kept (λ to. each (λ from. restored true rings board to from) (origins rings board to)) (λ to. in_mill rings (holds board 2) to)
          (holding rings board 2)
          ∙ ap (each (λ to. before_stone true rings board to)) stones
      go false = ap (each (λ to. before_stone false rings board to)) stones
