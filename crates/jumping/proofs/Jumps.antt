-- A stone lifted to go to any of its destinations: the position without it, the sides' names changed, and the board once it is put down. Assumes nothing.
use mathlib.Core.Path.{◌≡◌, refl, sym, ap, ap₂, subst, ◌∙◌}
use mathlib.Core.Bool.{Bool, true, false}
use mathlib.Core.List.Memᴰ
use mathlib.Core.List.{List, [], ◌∷◌}
use mathlib.Core.Logic.{inl, inr, ⊎_elim}
use Prim.Native.Nat.{ℕ, ◌+◌, ◌*◌, ◌^◌, ◌<◌}
use native.Mathlib.Omega.{arith}
use lib.ListN.{set}
use Rattle.lists.specs.Lists.{any}
use Rattle.sets.specs.Sets.{bit, with, without, elements}
use Rattle.sets.proofs.Laws.{bit_cases, bit_without_other, without_absent}
use Rattle.sets.proofs.Elements.{bit_low, from_one, elements_from}
use Rattle.board.specs.declared.Position.{Position}
use Rattle.board.specs.Board.{count, board_of, OnBoard}
use Rattle.board.proofs.Sides.{length_board}
use Rattle.board.proofs.OneToOne.{mover_at, vacant_at}
use Rattle.inserting.specs.Inner.Inserting.{Inserting, Vacant}
use Rattle.inserting.proofs.Puts.{take_mover_on, put_stone_board}
use Rattle.rules.specs.Ply.{no_removal, removed_of, move_number, after_ply}
use Rattle.rules.specs.Inner.Making.{Makeable}
use Rattle.rules.proofs.Leads.{MoverLeft, Parts, parts_of}
use Rattle.plies.specs.Inner.Positions.{Placed, Slide}
use Rattle.plies.proofs.OnPositions.{opponent_small}
use Rattle.making.proofs.After.{after_leads, after_board}
use Rattle.making.proofs.Numbers.{after_sets}
use Rattle.jumping.specs.declared.Jump.{Jump}
use Rattle.jumping.specs.Inner.Jumping.{Jumping}

-- nothing but 31
pub removes_none : (s : ℕ) → s ≡ 2 ^ 31 → elements 32 s ≡ 31 ∷ []
removes_none s e =
    ap (elements 32) (e ∙ sym (from_one 31)) ∙ elements_from 32 (31 ∷ []) (tt, tt) (λ p m. omega (arith, Memᴰ.eq_of_singleton m))

pub any_one : (f : ℕ → Bool) (x : ℕ) → any f (x ∷ []) ≡ f x
any_one f x = go (f x)
  where
    go : (b : Bool) → elim b [ true ↦ true | false ↦ false ] ≡ b
    go true = refl
    go false = refl

abbrev sides : ℕ → ℕ → Position
sides m o = record { mover = m; opponent = o }

module _ (rings : ℕ) (position : Position) (placed : Placed rings position) (from o : ℕ) (own : bit position.mover from ≡ 1)
    (made : o ≡ without position.mover from) where
  abbrev board : List ℕ
  board = board_of (8 * rings) position

  abbrev pub lifted : Position
  lifted = sides position.opponent o

  low : from < 8 * rings
  low = bit_low (8 * rings) position.mover from placed.on.mover_within own

  pub lifted_placed : Placed rings lifted
  lifted_placed =
      let w = take_mover_on (8 * rings) position placed.on from low (omega (arith, placed.on.apart from low, own)) in
      record {
        small = placed.small;
        on = subst (λ (k : ℕ). OnBoard (8 * rings) (sides position.opponent k)) (sym made) (record {
          mover_within = w.opponent_within;
          opponent_within = w.mover_within;
          apart = λ q h. omega (arith, w.apart q h);
        });
      }

  pub lifted_vacant : (to : ℕ) → Slide rings position from to → Vacant (board_of (8 * rings) lifted) to
  lifted_vacant to s =
      let other : (to ≡ from → ⊥) = λ e. omega (arith, s.free, ap (bit position.mover) e, own) in
      record {
        low = subst (λ (n : ℕ). to < n) (sym (length_board (8 * rings) lifted)) s.low;
        empty = vacant_at (8 * rings) lifted lifted_placed.on to s.low s.none
            (ap (λ (k : ℕ). bit k to) made ∙ bit_without_other position.mover from to other ∙ s.free);
      }

  -- no stone at 31
  none : without position.opponent no_removal ≡ position.opponent
  none =
      without_absent position.opponent no_removal (⊎_elim (λ z. z)
      (λ e. absurd (omega (arith, bit_low 24 position.opponent no_removal (opponent_small rings position placed) e)))
      (bit_cases position.opponent no_removal))

  module _ (to : ℕ) (s : Slide rings position from to) where
    parts : Parts (move_number from to no_removal) from to no_removal
    parts = parts_of (move_number from to no_removal) from to no_removal (omega (arith, s.low, placed.small)) (omega arith) refl

    -- a slide can be made without a removal
    jumpable : Makeable rings board (move_number from to no_removal)
    jumpable = record {
      from_low = rw parts.from_is low;
      to_low = rw parts.to_is s.low;
      own = rw parts.from_is (mover_at (8 * rings) position placed.on from own).1;
      vacant = rw parts.to_is (vacant_at (8 * rings) position placed.on to s.low s.free s.none);
      removed = inl parts.removed_is;
    }

    pub jumped : set (board_of (8 * rings) lifted) to 2 ≡ after_ply board (move_number from to no_removal)
    jumped =
        let n : ℕ = move_number from to no_removal in
        sym (put_stone_board (8 * rings) lifted lifted_placed.on to (lifted_vacant to s) true)
        ∙ sym (ap (board_of (8 * rings)) (after_sets rings position placed n jumpable
        ∙ ap₂ sides (ap (without position.opponent) parts.removed_is ∙ none)
        (ap₂ (λ (f t : ℕ). with (without position.mover f) t) parts.from_is parts.to_is ∙ ap (λ (k : ℕ). with k to) (sym made))))
        ∙ after_board rings position placed n jumpable

    pub jumped_stays : count 1 (after_ply board (move_number from to no_removal)) ≡ count 2 board
    jumped_stays = go (after_leads rings position placed (move_number from to no_removal) jumpable).mover
      where
        go : MoverLeft board (after_ply board (move_number from to no_removal)) (removed_of (move_number from to no_removal))
            → count 1 (after_ply board (move_number from to no_removal)) ≡ count 2 board
        go (inl q) = q.1
        go (inr q) = absurd (omega (arith, q.0, parts.removed_is))

  pub jumping : (to : ℕ) → Slide rings position from to → (jump : Jump) → jump.lifted ≡ lifted → jump.walk.at ≡ to
      → Inserting (board_of (8 * rings) lifted) true jump.walk → jump.slide ≡ 1024 * from + 32 * to → Jumping rings position jump
  jumping to s jump l e w n = record {
    placed = rw l lifted_placed;
    vacant = rw (l, e) (lifted_vacant to s);
    inserting = rw l w;
    makeable = rw n (jumpable to s);
    leads = rw (l, n, e) (jumped to s);
    stays = rw n (jumped_stays to s);
  }
