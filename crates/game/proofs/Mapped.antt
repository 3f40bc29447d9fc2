-- What maps keep: images end within the same n, so they have one depth and one entry, and a table that is exact below a level has one entry for all
-- images of a position. Who is an image of whom. Assumes nothing.
use mathlib.Core.Path.{◌≡◌, refl, sym, ap, subst, ◌∙◌}
use mathlib.Core.List.{List, Memᴰ}
use mathlib.Core.Logic.{◌⊎◌, inl, inr}
use Prim.Native.Nat.{ℕ, suc, ◌≤◌, ◌<◌}
use Rattle.game.specs.Game.{Seed, live, ends, drawn, ended, Depth, Entry, void_entry}
use Rattle.game.proofs.Depths.{NotBefore, before_or_not}
use Rattle.game.proofs.Tables.{Ground}
use Rattle.game.proofs.Levels.{Exact, Within, sources}
use Rattle.game.proofs.Maps.{Maps, Image, Symmetric}
use Rattle.game.proofs.Alike.{Alike, alike_ended, alike_depth, alike_entry}

module _ {Pos : Type 0} (next : Pos → List Pos) (seed : Pos → Seed) (S : Pos → Type 0) (maps : ℕ) (act : ℕ → Pos → Pos)
    (w : Maps next seed S maps act) where
  -- every position is its own image, the image of its images, and of theirs
  pub image_self : (p : Pos) → S p → Image next seed S maps act p p
  image_self p s = w.stays p s

  pub image_sym : (p q : Pos) → S p → Image next seed S maps act p q → Image next seed S maps act q p
  image_sym p q s (g, l, e) = let h = w.undone g l p s in (h.0, h.1, ap (act h.0) (sym e) ∙ h.2)

  pub image_trans : (p q r : Pos) → S p → Image next seed S maps act p q → Image next seed S maps act q r → Image next seed S maps act p r
  image_trans p q r s (g, l, e) (h, m, f) = let i = w.composed h g m l p s in (i.0, i.1, sym i.2 ∙ ap (act h) e ∙ f)

  pub image_seed : (p q : Pos) → S p → Image next seed S maps act p q → seed q ≡ seed p
  image_seed p q s (g, l, e) = ap seed (sym e) ∙ w.seeds g l p s

  module _ (closed : (p : Pos) → S p → seed p ≡ live → (q : Pos) → Memᴰ q (next p) → S q) where
    abbrev Paired : ℕ → Pos → Pos → Type 0
    Paired g p q = S p × (q ≡ act g p)

    paired : (g : ℕ) → g < maps → Alike next seed next seed (Paired g)
    paired g l = record {
      seeds = λ a b r. ap seed r.1 ∙ w.seeds g l a r.0;
      forth = λ a b r e x m. (
        act g x,
        subst (λ (c : Pos). Memᴰ (act g x) (next c)) (sym r.1) (w.forth g l a r.0 e x m),
        (closed a r.0 e x m, refl),
      );
      back = λ a b r e y m.
          let s = w.back g l a r.0 e y (subst (λ (c : Pos). Memᴰ y (next c)) r.1 m) in
          (s.0, s.1, (closed a r.0 e s.0 s.1, s.2));
    }

    -- an image ends within the same n
    pub map_ended : (g : ℕ) → g < maps → (n : ℕ) (p : Pos) → S p → ended next seed n (act g p) ≡ ended next seed n p
    map_ended g l n p s = alike_ended next seed next seed (Paired g) (paired g l) n p (act g p) (s, refl)

    pub map_depth : (g : ℕ) → g < maps → (n : ℕ) (p : Pos) → S p → Depth next seed n p → Depth next seed n (act g p)
    map_depth g l n p s = alike_depth next seed next seed (Paired g) (paired g l) n p (act g p) (s, refl)

    pub map_entry : (g : ℕ) → g < maps → (p : Pos) → S p → (e : ℕ) → Entry next seed p e → Entry next seed (act g p) e
    map_entry g l p s = alike_entry next seed next seed (Paired g) (paired g l) p (act g p) (s, refl)

    pub image_depth : (n : ℕ) (p q : Pos) → S p → Image next seed S maps act p q → Depth next seed n p → Depth next seed n q
    image_depth n p q s (g, l, e) d = subst (λ (x : Pos). Depth next seed n x) e (map_depth g l n p s d)

    pub image_late : (n : ℕ) (p q : Pos) → S p → Image next seed S maps act p q → NotBefore next seed n p → NotBefore next seed n q
    image_late n p q s (g, l, e) o k h = ap (ended next seed k) (sym e) ∙ map_ended g l k p s ∙ o k h

  -- a table that agrees on S
  pub symmetric_same : (t u : Pos → ℕ) → ((q : Pos) → S q → u q ≡ t q) → Symmetric next seed S maps act t → Symmetric next seed S maps act u
  symmetric_same t u same symmetric g l p s = same (act g p) (w.within g l p s) ∙ symmetric g l p s ∙ sym (same p s)

  module _ (ground : Ground next seed S) where
    -- a table that is exact below a level is symmetric: so that need not be kept between levels
    pub exact_symmetric : (t : Pos → ℕ) (n : ℕ) → Exact next seed S t n → Symmetric next seed S maps act t
    exact_symmetric t n x g l p s = go (seed p) refl
      where
        i : Image next seed S maps act p (act g p)
        i = (g, l, refl)

        at : seed p ≡ live → ((k : ℕ) × (k < n) × Depth next seed k p) ⊎ NotBefore next seed n p → t (act g p) ≡ t p
        at e (inl (k, h, d)) =
            x.low (act g p) (w.within g l p s) (w.seeds g l p s ∙ e) k h (map_depth ground.closed g l k p s d) ∙ sym (x.low p s e k h d)
        at e (inr o) =
            x.blank (act g p) (w.within g l p s) (w.seeds g l p s ∙ e) (image_late ground.closed n p (act g p) s i o) ∙ sym (x.blank p s e o)

        go : (v : Seed) → seed p ≡ v → t (act g p) ≡ t p
        go live e = at e (before_or_not next seed n p)
        go (ends d) e = x.seeds.at_end (act g p) (w.within g l p s) (w.seeds g l p s ∙ e) ∙ sym (x.seeds.at_end p s e)
        go drawn e = x.seeds.at_draw (act g p) (w.within g l p s) (w.seeds g l p s ∙ e) ∙ sym (x.seeds.at_draw p s e)

    -- what level n + 1 must visit: each image of the successor by which a position is found is a successor of the position's image, and its entry
    -- is n too; so it is enough to go back from one image of each
    pub sources_image : (n : ℕ) → suc n ≤ void_entry → (t : Pos → ℕ) (D : Pos → Type 0) → Within next seed S t (suc n) D → Symmetric next seed S maps act t
        → (p : Pos) → S p → seed p ≡ live → Depth next seed (suc n) p
        → (q : Pos) × Memᴰ q (next p) × S q × ((g : ℕ) → g < maps → Memᴰ (act g q) (next (act g p)) × (t (act g q) ≡ n))
    sources_image n b t D x symmetric p s e d =
        let (q, m, v) = sources next seed S ground n b t D x p s e d in
        let r = ground.closed p s e q m in
        (q, m, r, λ g l. (w.forth g l p s e q m, symmetric g l q r ∙ v))
