-- One of the tables of a pair: the board, the place and the entry of a rank, and what is read of its successors. Assumes nothing.
use mathlib.Core.Path.{◌≡◌, sym, ap, ap₂, ◌∙◌}
use mathlib.Core.Bool.{Bool, ◌&&◌}
use mathlib.Core.List.{List, Memᴰ}
use Prim.Native.Nat.{ℕ, ◌+◌, ◌*◌, ◌≤◌, ◌<◌}
use lib.Dec.{eqb}
use lib.ListN.{get_or}
use Rattle.sizes.specs.Size.{size}
use Rattle.ranking.specs.Unrank.{unrank}
use Rattle.layout.specs.Layout.{start}
use Rattle.rules.specs.Ply.{Rule, successors}
use Rattle.rules.proofs.Listed.{TakesOpponent}
use Rattle.game.specs.Game.{draw_entry}
use Rattle.game.specs.Judgement.{hit, decided}
use Rattle.game.proofs.Agree.{hit_agree, decided_agree}
use Rattle.outcomes.specs.Places.{place_of, entry_at, successor_entry}
use Rattle.outcomes.specs.Pair.{Pair}
use Rattle.outcomes.specs.Filled.{BothTables}
use Rattle.outcomes.proofs.Ranked.{unrank_in, place_unrank}
use Rattle.outcomes.proofs.PairGame.{InPair, pair_table}
use Rattle.outcomes.proofs.Entries.{entry_unrank}
use Rattle.tables.specs.declared.Table.{Table}
use Rattle.tables.specs.Inner.Tables.{Located}
use Rattle.deciding.specs.Inner.Open.{is_open, board_at, judged, open_decided}
use Rattle.probing.proofs.Probed.{probed}

-- one of the tables of a pair, and where the other starts
pub record Side (rings k m o x y : ℕ) (t : Table) (same : ℕ) : Type 0 where
  pub both : BothTables m o x y
  pub low : 3 ≤ y
  pub located : Located (8 * rings) k x y t
  pub same_is : same ≡ start (8 * rings) k y x

module _ (rings k m o : ℕ) (pair : Pair rings k m o) (x y : ℕ) (t : Table) (same : ℕ) (side : Side rings k m o x y t same) where
  pub sizes : size (8 * rings) t.mover t.opponent ≡ size (8 * rings) x y
  sizes = ap₂ (size (8 * rings)) side.located.mover_is side.located.opponent_is

  pub ranked_is : (r : ℕ) → board_at rings t same r ≡ unrank (8 * rings) x y r
  ranked_is r = ap₂ (λ (u v : ℕ). unrank (8 * rings) u v r) side.located.mover_is side.located.opponent_is

  -- the position of rank r: its board, its place and its entry
  module _ (r : ℕ) (h : r < size (8 * rings) x y) where
    pub board_in_lem : InPair rings m o (unrank (8 * rings) x y r)
    board_in_lem = pair_table side.both (unrank_in rings x y r h)

    pub place_is : t.own.start + r ≡ place_of rings k (unrank (8 * rings) x y r)
    place_is = ap (λ (s : ℕ). s + r) side.located.start_is ∙ sym (place_unrank rings k x y r h)

    module _ (now : List ℕ) where
      pub entry_is : get_or now (t.own.start + r) 0 ≡ entry_at rings k now (unrank (8 * rings) x y r)
      entry_is = ap (λ (s : ℕ). get_or now (s + r) 0) side.located.start_is ∙ sym (entry_unrank rings k x y r now h)

      pub open_is : is_open t now r ≡ eqb (entry_at rings k now (unrank (8 * rings) x y r)) draw_entry
      unfolding is_open
      open_is = ap (λ (e : ℕ). eqb e draw_entry) entry_is

module _ (rule : Rule) (takes : TakesOpponent rule) (rings k m o : ℕ) (pair : Pair rings k m o) (x y : ℕ) (t : Table) (same : ℕ)
    (side : Side rings k m o x y t same)
    (r : ℕ) (h : r < size (8 * rings) x y) (now : List ℕ) where
  -- its successors are judged by their entries
  agree : (q : List ℕ) → Memᴰ q (successors rule rings (unrank (8 * rings) x y r)) → judged rings t same now q ≡ successor_entry rings k now q
  agree q i =
      rw (side.same_is, side.located.lower_start_is, side.located.opponent_is)
      (probed rule takes rings k x y pair.small side.low (unrank (8 * rings) x y r) (unrank_in rings x y r h) now q i)

  pub hit_is : (n : ℕ) → hit (successors rule rings) (judged rings t same now) n (board_at rings t same r)
      ≡ hit (successors rule rings) (λ b. successor_entry rings k now b) n (unrank (8 * rings) x y r)
  hit_is n =
      ap (hit (successors rule rings) (judged rings t same now) n) (ranked_is rings k m o pair x y t same side r)
      ∙ hit_agree (successors rule rings) (judged rings t same now) (λ b. successor_entry rings k now b) (unrank (8 * rings) x y r) agree n

  pub decided_is : open_decided rule rings t same now r ≡ (eqb (entry_at rings k now (unrank (8 * rings) x y r)) draw_entry
      && decided (successors rule rings) (λ b. successor_entry rings k now b) (unrank (8 * rings) x y r))
  unfolding open_decided
  decided_is = ap₂ (λ (a b : Bool). a && b) (open_is rings k m o pair x y t same side r h now)
      (ap (decided (successors rule rings) (judged rings t same now)) (ranked_is rings k m o pair x y t same side r)
      ∙ decided_agree (successors rule rings) (judged rings t same now) (λ b. successor_entry rings k now b) (unrank (8 * rings) x y r) agree)
