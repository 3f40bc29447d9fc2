-- The marks of a level: an open board with a picked successor of the depth below is marked, so that an image of every position of the level's depth
-- is marked, or the position has the level already. Assumes nothing.
use mathlib.Core.Path.{◌≡◌, refl, sym, ap, ap₂, subst, ◌∙◌}
use mathlib.Core.Bool.{Bool, true, false}
use mathlib.Core.List.{List, Memᴰ}
use mathlib.Core.Logic.{◌⊎◌, inl, inr}
use Prim.Native.Nat.{ℕ, suc, ◌+◌, ◌-◌, ◌*◌, ◌≤◌, ◌<◌}
use native.Mathlib.Omega.{arith}
use lib.Dec.{ltb}
use lib.ListN.{length, get_or}
use borrow.Author.Tests.{ltb-true, ltb-false}
use Rattle.board.specs.Board.{Values, count}
use Rattle.ranking.specs.Rank.{rank}
use Rattle.layout.specs.Layout.{start}
use Rattle.rules.specs.Ply.{Rule, successors}
use Rattle.rules.proofs.Listed.{successor_of, TakesOpponent}
use Rattle.rules.proofs.Leads.{ply_leads}
use Rattle.rules.proofs.Found.{Predecessor, found}
use Rattle.game.specs.Game.{draw_entry, void_entry, Depth}
use Rattle.game.proofs.Levels.{Fresh, Within}
use Rattle.outcomes.specs.Places.{place_of, entry_at, successor_entry}
use Rattle.outcomes.specs.Pair.{Pair, pair_seed, LowerValid}
use Rattle.outcomes.proofs.Ranked.{InTable, place_at}
use Rattle.outcomes.proofs.PairGame.{OnPair, InPair, on_pair, pair_table}
use Rattle.outcomes.proofs.Entries.{entry_place, entry_rank, entry_two, entry_three}
use Rattle.outcomes.proofs.PairLevels.{Amid, pair_live, pair_ground, pair_entry}
use Rattle.symmetry.specs.Symmetries.{image}
use Rattle.game.proofs.Mapped.{sources_image, map_depth}
use Rattle.invariance.specs.Symmetric.{LowerSymmetric}
use Rattle.invariance.proofs.Groups.{Group}
use Rattle.invariance.proofs.PairMaps.{image_table}
use Rattle.invariance.proofs.Plies.{Commutes}
use Rattle.classing.proofs.Picked.{Picks}
use Rattle.tables.specs.declared.Table.{Table}
use Rattle.deciding.specs.Inner.Fits.{Fits}
use Rattle.tables.proofs.Lower.{lower_starts}
use Rattle.levels.proofs.Sides.{Side}
use Rattle.sweeping.specs.Inner.Levels.{same_source, lower_source, level_marks}
use Rattle.layers.specs.Inner.Layers.{is_source}
use Rattle.levels.proofs.Judging.{mapped, SymmetricTable}
use Rattle.levels.proofs.LevelMarks.{same_found, lower_found, source_stored, source_two}

module _ (rule : Rule) (takes : TakesOpponent rule) (commutes : Commutes rule) (rings k m o : ℕ) (pair : Pair rings k m o) (before : List ℕ)
    (valid : LowerValid rings k m o before) (maps : ℕ) (group : Group maps)
    (mirrored : LowerSymmetric maps rings k m o before) (picked : List ℕ → Bool) (picks : Picks rings maps picked)
    (x y : ℕ) (t : Table) (same : ℕ) (side : Side rings k m o x y t same) (level : ℕ) (pos : 0 < level) (low : level < void_entry) (clean : List ℕ)
    (fits : Fits (length clean) rings t same) (D : List ℕ → Type 0) (w : Amid rule takes rings k m o pair before valid level D clean)
    (symmetric : SymmetricTable rule takes commutes rings k m o pair before valid maps group mirrored (λ b. successor_entry rings k clean b)) where
  three : 3 ≤ t.opponent
  three = omega (arith, side.low, side.located.opponent_is)

  abbrev marks_of : List ℕ
  marks_of = level_marks rings t same level picked clean

  in_own : (p : List ℕ) → InTable rings x y p → InTable rings t.mover t.opponent p
  in_own p i = record {
    values = i.values;
    points = i.points;
    mover = i.mover ∙ sym side.located.mover_is;
    opponent = i.opponent ∙ sym side.located.opponent_is;
  }

  own_place : (p : List ℕ) → InTable rings x y p → t.own.start + rank p ≡ place_of rings k p
  own_place p i = ap (λ (s : ℕ). s + rank p) side.located.start_is ∙ sym (place_at rings k x y p i)

  -- an open board of the table with a picked successor of the depth below is marked
  module _ (p : List ℕ) (i : InTable rings x y p) (blank : successor_entry rings k clean p ≡ draw_entry)
      (q : List ℕ) (ply : Memᴰ q (successors rule rings p)) (v : successor_entry rings k clean q ≡ level - 1) (chosen : picked q ≡ true) where
    own_blank : get_or clean (t.own.start + rank p) 0 ≡ draw_entry
    own_blank =
        ap (λ (j : ℕ). get_or clean j 0) (own_place p i) ∙ sym (entry_place rings k clean p)
        ∙ sym (pair_entry rings k m o pair before valid clean p (pair_table side.both i)) ∙ blank

    after : Values q × (length q ≡ 8 * rings) × (count 2 q ≡ count 1 p)
    after =
        let a = successor_of rule rings p q ply in
        let l = ply_leads rule takes rings pair.small p i.values i.points a.0 a.1 in
        subst (λ (c : List ℕ). Values c × (length c ≡ 8 * rings) × (count 2 c ≡ count 1 p)) (sym a.2) (l.values, l.points ∙ i.points, l.opponent)

    whose : (u : ℕ) → count 1 q ≡ u → InTable rings u t.mover q
    whose u e = record { values = after.0; points = after.1; mover = e; opponent = after.2 ∙ (in_own p i).mover }

    entry_of : (u s : ℕ) → count 1 q ≡ u → 3 ≤ u → s ≡ start (8 * rings) k u x → get_or clean (s + rank q) 0 ≡ level - 1
    entry_of u s e h f =
        ap (λ (z : ℕ). get_or clean (z + rank q) 0)
        (f ∙ ap₂ (start (8 * rings) k) (sym e) (sym (after.2 ∙ i.mover)))
        ∙ entry_rank rings k clean q ∙ sym (entry_three rings k clean q (omega arith)) ∙ v

    marked_place_lem : get_or marks_of (t.own.start + rank p) 0 ≡ void_entry
    marked_place_lem = go (found rule takes rings pair.small p i.values i.points q ply)
      where
        removed : count 1 q ≡ t.opponent - 1 → (c : Bool) → ltb (t.opponent - 1) 3 ≡ c
            → is_source (lower_source t) (level - 1) clean (rank q) ≡ true
        removed e true f =
            let h = ltb-true (t.opponent - 1) 3 f in
            source_two (lower_source t) (level - 1) clean (rank q) h (sym v ∙ entry_two rings k clean q (omega arith))
        removed e false f =
            let h = ltb-false (t.opponent - 1) 3 f in
            let z : t.opponent ≡ y = side.located.opponent_is in
            source_stored (lower_source t) (level - 1) clean (rank q) h
            (entry_of (t.opponent - 1) t.lower.start e h (side.located.lower_start_is ∙ lower_starts (8 * rings) k x y (omega arith)
            ∙ ap (λ (n : ℕ). start (8 * rings) k (n - 1) x) (sym z)))

        go : Predecessor rings p q → get_or marks_of (t.own.start + rank p) 0 ≡ void_entry
        go (inl (f, e)) =
            let u : count 1 q ≡ t.opponent = e ∙ (in_own p i).opponent in
            same_found rings t same level picked low three clean fits p (in_own p i) own_blank q (whose t.opponent u) f chosen
            (source_stored (same_source t same) (level - 1) clean (rank q) three
            (entry_of t.opponent same u three (side.same_is ∙ ap (λ (n : ℕ). start (8 * rings) k n x) (sym side.located.opponent_is))))
        go (inr (f, e)) =
            let u : count 1 q ≡ t.opponent - 1 = omega (arith, (in_own p i).opponent) in
            lower_found rings t same level picked low three clean fits p (in_own p i) own_blank q (whose (t.opponent - 1) u) f chosen
            (removed u (ltb (t.opponent - 1) 3) refl)

    is_marked_lem : entry_at rings k marks_of p ≡ void_entry
    is_marked_lem = entry_place rings k marks_of p ∙ ap (λ (j : ℕ). get_or marks_of j 0) (sym (own_place p i)) ∙ marked_place_lem

  -- a board of the table that has the level's depth has the level's entry, or an image of it is marked
  module _ (p : List ℕ) (i : InTable rings x y p) (d : Depth (successors rule rings) (λ c. pair_seed rings k m o before c) level p) where
    on_p : OnPair rings m o p
    on_p = on_pair (pair_table side.both i)

    pub found_image : (successor_entry rings k clean p ≡ level)
        ⊎ ((g : ℕ) × (g < maps) × (entry_at rings k marks_of (image rings g p) ≡ void_entry))
    found_image =
        let e : level ≡ suc (level - 1) = omega arith in
        let (q, ply, on-q, all-images) =
        sources_image (successors rule rings) (λ c. pair_seed rings k m o before c) (OnPair rings m o) maps (λ g c. image rings g c)
        (mapped rule takes commutes rings k m o pair before valid maps group mirrored) (pair_ground rule takes rings k m o pair before valid)
        (level - 1) (omega arith) (λ b. successor_entry rings k clean b) D
        (subst (λ (n : ℕ). Within (successors rule rings) (λ c. pair_seed rings k m o before c) (OnPair rings m o)
        (λ b. successor_entry rings k clean b) n D) e w)
        symmetric
        p on_p (pair_live rings k m o pair before valid p (pair_table side.both i))
        (subst (λ (n : ℕ). Depth (successors rule rings) (λ c. pair_seed rings k m o before c) n p) e d) in
        let (g, l, c) = picks q on-q.points in
        let a = all-images g l in
        go g l (image rings g q) a.0 a.1 c
        (w.fresh (image rings g p) (on_pair (own_image g l))
        (pair_live rings k m o pair before valid (image rings g p) (own_image g l)) (depth_image g l).below)
      where
        in_image : (g : ℕ) → g < maps → InTable rings x y (image rings g p)
        in_image g l = image_table rings pair.small g (omega (arith, group.high)) x y p i

        own_image : (g : ℕ) → g < maps → InPair rings m o (image rings g p)
        own_image g l = pair_table side.both (in_image g l)

        depth_image : (g : ℕ) → g < maps → Depth (successors rule rings) (λ c. pair_seed rings k m o before c) level (image rings g p)
        depth_image g l =
            map_depth (successors rule rings) (λ c. pair_seed rings k m o before c) (OnPair rings m o) maps (λ h c. image rings h c)
            (mapped rule takes commutes rings k m o pair before valid maps group mirrored)
            (pair_ground rule takes rings k m o pair before valid).closed g l level p on_p d

        go : (g : ℕ) → g < maps → (q : List ℕ) → Memᴰ q (successors rule rings (image rings g p)) → successor_entry rings k clean q ≡ level - 1
            → picked q ≡ true → Fresh (successors rule rings) (λ c. pair_seed rings k m o before c) (OnPair rings m o) level
            (successor_entry rings k clean (image rings g p))
            (image rings g p)
            → (successor_entry rings k clean p ≡ level) ⊎ ((g : ℕ) × (g < maps) × (entry_at rings k marks_of (image rings g p) ≡ void_entry))
        go g l q ply v c (inl blank) = inr (g, l, is_marked_lem (image rings g p) (in_image g l) blank q ply v c)
        go g l q ply v c (inr f) = inl (sym (symmetric g l p on_p) ∙ f.0)
