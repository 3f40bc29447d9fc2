-- An entry by computation: a position that has ended within n, and not within n - 1, has entry n. Assumes nothing.
use mathlib.Core.Path.{◌≡◌}
use mathlib.Core.Bool.{true}
use mathlib.Core.List.{List}
use mathlib.Core.Logic.{inl}
use Prim.Native.Nat.{ℕ, zero, suc, ◌<◌}
use borrow.Author.Tests.{not-true}
use Rattle.lists.proofs.Tests.{and_left, and_right}
use Rattle.game.specs.Game.{Seed, ended, depth_is, Entry, void_entry}
use Rattle.game.proofs.Least.{least_zero, least_at}
use Rattle.game.proofs.Within.{ended_mono}

module _ {Pos : Type 0} (next : Pos → List Pos) (seed : Pos → Seed) where
  pub entry_is : (n : ℕ) (p : Pos) → depth_is next seed n p ≡ true → n < void_entry → Entry next seed p n
  unfolding depth_is
  entry_is zero p h l = inl (l, least_zero _ h)
  entry_is (suc n) p h l =
      inl (l, least_at _ (ended_mono next seed p) n (not-true _ (and_right (ended next seed (suc n) p) _ h)) (and_left (ended next seed (suc n) p) _ h))
