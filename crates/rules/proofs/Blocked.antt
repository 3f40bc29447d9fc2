-- A mover is blocked under every rule of removal or under none: a stone that can go to a point has a ply there, whatever it removes. Assumes nothing.
use mathlib.Core.Path.{◌≡◌, refl, ap, ◌∙◌}
use mathlib.Core.Bool.{Bool, true, false}
use mathlib.Core.List.{List, [], ◌∷◌, Memᴰ}
use Prim.Native.Nat.{ℕ}
use Rattle.lists.specs.Lists.{all, is_empty, or_else}
use Rattle.lists.proofs.Tests.{same_test, all_member, member_all, empty_none, none_empty, empty_map}
use Rattle.rules.specs.Ply.{Rule, holds, holding, in_mill, destinations, slide, no_removal, removals, moves, blocked, after_ply, successors}
use Rattle.rules.proofs.Listed.{holding_is, is_holding, destination_vacant, destination_of, of_destination, move_of, of_move, successors_are}

module _ (rule : Rule) (rings : ℕ) (b : List ℕ) where
  -- something is removed, or nothing is
  some_removal : (to : ℕ) → (r : ℕ) × Memᴰ r (removals rule rings b to)
  unfolding removals
  some_removal to = go (in_mill rings (holds b 1) to) (rule rings b)
    where
      go : (c : Bool) (l : List ℕ) → (r : ℕ) × Memᴰ r (elim c as (λ d. List ℕ) [ true ↦ or_else l (no_removal ∷ []) | false ↦ no_removal ∷ [] ])
      go true [] = (no_removal, Memᴰ.head refl)
      go true (x ∷ l) = (x, Memᴰ.head refl)
      go false l = (no_removal, Memᴰ.head refl)

module _ (rule : Rule) (rings : ℕ) (b : List ℕ) where
  -- so a stone that can go somewhere has a move
  move_there : (from to : ℕ) → Memᴰ from (holding rings b 1) → Memᴰ to (destinations rings b from)
      → (n : ℕ) × Memᴰ n (moves rule rings b)
  move_there from to f t =
      let (r, removal) = some_removal rule rings (slide b from to) to in
      let own = holding_is rings b 1 from f in
      let vacant = destination_vacant rings b from to t in (
        _,
        of_move rule rings b from to r record {
          from_low = own.0;
          to_low = vacant.0;
          own = own.1;
          vacant = vacant.1;
          reach = destination_of rings b from to t;
          removal = removal;
        },
      )

  pub blocked_moves : is_empty (moves rule rings b) ≡ blocked rings b
  unfolding blocked
  blocked_moves = same_test _ _ stuck none
    where
      stuck : is_empty (moves rule rings b) ≡ true → blocked rings b ≡ true
      stuck e =
          member_all (λ from. is_empty (destinations rings b from)) (holding rings b 1)
          (λ from f. none_empty (destinations rings b from) (λ to t. empty_none (moves rule rings b) e (move_there from to f t).1))

      none : blocked rings b ≡ true → is_empty (moves rule rings b) ≡ true
      none e = none_empty (moves rule rings b) (λ n m.
          let l = move_of rule rings b n m in
          let v = l.move in
          empty_none (destinations rings b l.from)
          (all_member (λ from. is_empty (destinations rings b from)) (holding rings b 1) e l.from
          (is_holding rings b 1 l.from v.from_low v.own))
          (of_destination rings b l.from l.to v.to_low v.vacant v.reach))

  pub blocked_successors : is_empty (successors rule rings b) ≡ blocked rings b
  blocked_successors = ap is_empty (successors_are rule rings b) ∙ empty_map (λ n. after_ply b n) (moves rule rings b) ∙ blocked_moves

-- what a search over the stones goes by
pub blocked_is : (rings : ℕ) (b : List ℕ) → blocked rings b ≡ all (λ from. is_empty (destinations rings b from)) (holding rings b 1)
unfolding blocked
blocked_is rings b = refl
