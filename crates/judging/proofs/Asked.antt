-- What a solver's questions find among the successors of a position, in a tablebase of entries of 16 bits. Assumes nothing.
use mathlib.Core.Path.{◌≡◌}
use mathlib.Core.Bool.{not, ◌&&◌}
use mathlib.Core.List.{List}
use Prim.Native.Nat.{ℕ, suc, ◌+◌, ◌-◌, ◌≤◌, ◌<◌, ◌%◌}
use lib.Dec.{eqb, ltb}
use lib.ListN.{get_or}
use Rattle.lists.specs.Lists.{any, all}
use Rattle.lists.proofs.Tests.{any_same, all_none}
use Rattle.game.specs.Game.{void_entry}
use Rattle.game.specs.Judgement.{is_lost, is_won}
use Rattle.probing.specs.Inner.Probes.{probe}
use Rattle.probing.proofs.Reading.{probe_small}
use Rattle.asking.specs.Inner.Keys.{asked}
use Rattle.asking.proofs.Keys.{asks_before, asks_quicker, asks_slowest, asks_not_below, asks_not_won, asks_lost, asks_void}

module _ (tablebase : List ℕ) (fits : (i : ℕ) → get_or tablebase i 0 < 65536) (same fewer o : ℕ) (next : List (List ℕ)) where
  abbrev entry : List ℕ → ℕ
  entry b = probe tablebase same fewer o b

  small : (b : List ℕ) → probe tablebase same fewer o b < 65536
  small b = probe_small tablebase same fewer o b fits

  -- one is lost in one ply less than an odd level
  pub some_before : (level : ℕ) → level % 2 ≡ 1 → level < void_entry
      → any (λ b. asked (65536 + level - 1) (65536 + level) (entry b)) next ≡ any (λ b. eqb (suc (entry b)) level) next
  some_before level odd l = any_same _ _ next (λ b m. asks_before (entry b) (small b) level odd l)

  -- one is lost in fewer plies than that
  pub some_quicker : (level : ℕ) → level % 2 ≡ 1 → level < void_entry
      → any (λ b. asked 65536 (65536 + level - 1) (entry b)) next ≡ any (λ b. is_lost (entry b) && ltb (suc (entry b)) level) next
  some_quicker level odd l = any_same _ _ next (λ b m. asks_quicker (entry b) (small b) level odd l)

  -- one is won in one ply less than an even level
  pub some_slowest : (level : ℕ) → level % 2 ≡ 0 → 0 < level → level < void_entry
      → any (λ b. asked (level - 1) level (entry b)) next ≡ any (λ b. eqb (suc (entry b)) level) next
  some_slowest level even some l = any_same _ _ next (λ b m. asks_slowest (entry b) (small b) level even some l)

  -- all are won in fewer plies than a level
  pub all_below : (level : ℕ) → level ≤ void_entry
      → all (λ b. eqb (entry b % 2) 1 && ltb (entry b) level) next ≡ not (any (λ b. asked level 131072 (entry b)) next)
  all_below level l = all_none _ _ next (λ b m. asks_not_below (entry b) (small b) level l)

  pub all_won : all (λ b. is_won (entry b)) next ≡ not (any (λ b. asked void_entry 131072 (entry b)) next)
  all_won = all_none _ _ next (λ b m. asks_not_won (entry b) (small b))

  pub some_lost : any (λ b. asked 65536 131070 (entry b)) next ≡ any (λ b. is_lost (entry b)) next
  some_lost = any_same _ _ next (λ b m. asks_lost (entry b) (small b))

  pub some_void : any (λ b. asked 131070 131071 (entry b)) next ≡ any (λ b. eqb (entry b) void_entry) next
  some_void = any_same _ _ next (λ b m. asks_void (entry b) (small b))
