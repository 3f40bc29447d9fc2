-- All starred cases hold, by computation from the definitions; and what the test of an entry says. Assumes nothing.
use mathlib.Core.Path.{◌≡◌, refl}
use mathlib.Core.Bool.{true}
use mathlib.Core.List.{List, reverse}
use Prim.Native.Nat.{ℕ, ◌<◌}
use Rattle.lists.specs.Lists.{all}
use Rattle.geometry.specs.Geometry.{points, follows, inward, adjoin, ring_mills, cross_mills, mills}
use Rattle.sizes.specs.Size.{size}
use Rattle.ranking.specs.Rank.{reading_rank, rank}
use Rattle.layout.specs.Layout.{tables, tablebase_length}
use Rattle.rules.specs.Ply.{holding, in_mill, destinations, slide, unshielded, if_all_shielded, removable, removals, moves, remove, exchange, after_ply, successors}
use Rattle.game.specs.Game.{won_by, lost_by, won, lost, ended, depth_is, void_entry}
use Rattle.game.proofs.Computed.{entry_is as entry_told}
use Rattle.outcomes.specs.Whole.{whole_seed, TrueEntry}
use Rattle.refusals.specs.Conditions.{value_wrong}
use Rattle.rank_calls.specs.RankCall.{rank_call}
use Rattle.starred.specs.Cases.{entry_is, case_holds, starred}

pub starred_hold : all (λ c. case_holds c) starred ≡ true
unfolding case_holds rank_call value_wrong rank reading_rank size tables tablebase_length depth_is ended won lost won_by lost_by whole_seed successors after_ply slide remove exchange moves
    holding in_mill destinations unshielded if_all_shielded removable removals points follows inward adjoin ring_mills cross_mills mills
starred_hold = refl

-- a case of an entry states the true entry
pub entry_case : (rings : ℕ) (reading : List ℕ) (e : ℕ) → case_holds (entry_is rings reading e) ≡ true → e < void_entry
    → TrueEntry (removable 1) rings (reverse reading) e
unfolding case_holds
entry_case rings reading e h l = entry_told (successors (removable 1) rings) (λ b. whole_seed b) e (reverse reading) h l
