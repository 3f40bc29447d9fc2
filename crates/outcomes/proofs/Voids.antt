-- Void among the successors of a board, and in the lower tables of a pair: it is looked for in their parts of the tablebase, and where there is none
-- they hold depths and draws. Assumes nothing.
use mathlib.Core.Path.{◌≡◌, refl, sym, ap, ap₂, ◌∙◌}
use mathlib.Core.Bool.{Bool, true, false, ◌&&◌, ◌||◌}
use mathlib.Core.List.{List, Memᴰ}
use mathlib.Core.Logic.{◌⊎◌, inl, inr}
use Prim.Native.Nat.{ℕ, suc, ◌+◌, ◌-◌, ◌*◌, ◌≤◌, ◌<◌}
use native.Mathlib.Omega.{arith}
use lib.Dec.{leb, ltb}
use lib.ListN.{length, get_or, take, drop, length-drop}
use lib.Seq.{length-take-le, get_or-take, get_or-drop}
use borrow.Author.Tests.{le-leb, eqb-false, ltb-true, ltb-false}
use Rattle.lists.specs.Lists.{any}
use Rattle.lists.proofs.Members.{get_d_member}
use Rattle.lists.proofs.Tests.{or_left, or_right, any_same, any_none}
use Rattle.sizes.specs.Size.{size}
use Rattle.layout.specs.Layout.{start, end, tablebase_length}
use Rattle.layout.proofs.OneToOne.{InRange, end_is, end_within}
use Rattle.rules.specs.Ply.{Rule, successors}
use Rattle.game.specs.Game.{draw_entry, void_entry}
use Rattle.outcomes.specs.Places.{successor_entry, is_void, successor_void, table_void, lower_void}
use Rattle.outcomes.specs.Pair.{Pair, LowerTables, LowerValid}

module _ (rule : Rule) (rings k : ℕ) (tablebase : List ℕ) where
  -- void among the successors, by what is read of them
  pub read_void : (b : List ℕ) (read : List ℕ → ℕ) → ((c : List ℕ) → Memᴰ c (successors rule rings b)
      → read c ≡ successor_entry rings k tablebase c)
      → any (λ c. is_void (read c)) (successors rule rings b) ≡ successor_void rule rings k tablebase b
  unfolding successor_void
  read_void b read h = any_same _ _ (successors rule rings b) (λ c m. ap is_void (h c m))

module _ (rings k : ℕ) (tablebase : List ℕ) where
  -- void in a table, by its part
  pub part_void : (x y a e : ℕ) → a ≡ start (8 * rings) k x y → e ≡ end (8 * rings) k x y
      → any (λ v. is_void v) (take (e - a) (drop a tablebase)) ≡ table_void rings k tablebase x y
  unfolding table_void
  part_void x y a e f g =
      let n : e - a ≡ size (8 * rings) x y = omega (arith, f, g, end_is (8 * rings) k x y) in
      ap₂ (λ (i j : ℕ). any (λ v. is_void v) (take i (drop j tablebase))) n f

  pub lower_void_lem : (m o : ℕ) → lower_void rings k tablebase m o
      ≡ ((leb 3 (o - 1) && table_void rings k tablebase (o - 1) m) || (leb 3 (m - 1) && table_void rings k tablebase (m - 1) o))
  unfolding lower_void
  lower_void_lem m o = refl

  module _ (room : length tablebase ≡ tablebase_length (8 * rings) k) (small : (i : ℕ) → get_or tablebase i 0 < 65536) where
    -- a table without void
    table_valid : (x y : ℕ) → InRange k x y → table_void rings k tablebase x y ≡ false → (r : ℕ) → r < size (8 * rings) x y
        → (get_or tablebase (start (8 * rings) k x y + r) 0 < void_entry) ⊎ (get_or tablebase (start (8 * rings) k x y + r) 0 ≡ draw_entry)
    unfolding table_void
    table_valid x y w e r h =
        let a = start (8 * rings) k x y in
        let n = size (8 * rings) x y in
        let l : length (take n (drop a tablebase)) ≡ n =
        length-take-le n (drop a tablebase) (omega (arith, length-drop a tablebase, room, end_within (8 * rings) k w, end_is (8 * rings) k x y)) in
        let at : get_or (take n (drop a tablebase)) r 0 ≡ get_or tablebase (a + r) 0 = get_or-take n (drop a tablebase) r 0 h ∙ get_or-drop a tablebase r 0 in
        let d = eqb-false (get_or (take n (drop a tablebase)) r 0) void_entry
        (any_none (λ v. is_void v) (take n (drop a tablebase)) e (get_or (take n (drop a tablebase)) r 0)
        (get_d_member (take n (drop a tablebase)) r 0 (omega (arith, l)))) in
        go (ltb (get_or tablebase (a + r) 0) void_entry) refl (λ q. d (at ∙ q))
      where
        go : (b : Bool) → ltb (get_or tablebase (start (8 * rings) k x y + r) 0) void_entry ≡ b → (get_or tablebase (start (8 * rings) k x y + r) 0 ≡ void_entry → ⊥)
            → (get_or tablebase (start (8 * rings) k x y + r) 0 < void_entry) ⊎ (get_or tablebase (start (8 * rings) k x y + r) 0 ≡ draw_entry)
        go true f d = inl (ltb-true _ void_entry f)
        go false f d = inr (omega (arith, ltb-false (get_or tablebase (start (8 * rings) k x y + r) 0) void_entry f, d, small (start (8 * rings) k x y + r)))

    -- no void: depths and draws
    pub void_free : (m o : ℕ) → Pair rings k m o → lower_void rings k tablebase m o ≡ false → LowerValid rings k m o tablebase
    void_free m o p e x y r t h = go t
      where
        parts : ((leb 3 (o - 1) && table_void rings k tablebase (o - 1) m) || (leb 3 (m - 1) && table_void rings k tablebase (m - 1) o)) ≡ false
        parts = sym (lower_void_lem m o) ∙ e

        free : (u w : ℕ) → 3 ≤ u → (leb 3 u && table_void rings k tablebase u w) ≡ false → table_void rings k tablebase u w ≡ false
        free u w l f = sym (ap (λ (b : Bool). b && table_void rings k tablebase u w) (le-leb 3 u l)) ∙ f

        first : suc x ≡ o → y ≡ m → table_void rings k tablebase x y ≡ false
        first f g =
            let u : o - 1 ≡ x = omega arith in
            ap₂ (table_void rings k tablebase) (sym u) g ∙ free (o - 1) m (omega (arith, t.0)) (or_left _ _ parts)

        second : suc x ≡ m → y ≡ o → table_void rings k tablebase x y ≡ false
        second f g =
            let u : m - 1 ≡ x = omega arith in
            ap₂ (table_void rings k tablebase) (sym u) g
            ∙ free (m - 1) o (omega (arith, t.0)) (or_right (leb 3 (o - 1) && table_void rings k tablebase (o - 1) m) _ parts)

        go : LowerTables m o x y → (get_or tablebase (start (8 * rings) k x y + r) 0 < void_entry) ⊎ (get_or tablebase (start (8 * rings) k x y + r) 0 ≡ draw_entry)
        go (l, inl (f, g)) = table_valid x y record {
          mover_low = l;
          mover_high = omega (arith, p.opponent_high);
          opponent_low = omega (arith, p.mover_low);
          opponent_high = omega (arith, p.mover_high);
        } (first f g) r h
        go (l, inr (f, g)) = table_valid x y record {
          mover_low = l;
          mover_high = omega (arith, p.mover_high);
          opponent_low = omega (arith, p.opponent_low);
          opponent_high = omega (arith, p.opponent_high);
        } (second f g) r h
