-- A level by classes: one position is judged, and what it gets is written at all its images. What holds in the middle of a level is kept, and so is
-- that images have one entry; afterwards all images of the position are done. Assumes nothing.
use mathlib.Core.Path.{◌≡◌, refl, sym, ap, ◌∙◌}
use mathlib.Core.Bool.{true}
use mathlib.Core.List.{List}
use mathlib.Core.Logic.{◌⊎◌, inl, inr}
use Prim.Native.Nat.{ℕ, ◌<◌}
use native.Mathlib.Omega.{arith}
use Rattle.game.specs.Game.{Seed, live, Depth, draw_entry, void_entry}
use Rattle.game.specs.Judgement.{hit, visit}
use Rattle.game.proofs.Depths.{NotBefore, before_or_not}
use Rattle.game.proofs.Hits.{visit_hit, hit_ended, depth_hit}
use Rattle.game.proofs.Tables.{Ground}
use Rattle.game.proofs.Levels.{Within, Visited, within_upto, pass}
use Rattle.game.proofs.Maps.{Maps, Image, Symmetric}
use Rattle.game.proofs.Mapped.{image_sym, image_trans, image_seed, image_depth}

module _ {Pos : Type 0} (next : Pos → List Pos) (seed : Pos → Seed) (S : Pos → Type 0) (ground : Ground next seed S) (n : ℕ) (low : n < void_entry) where
  module _ (t : Pos → ℕ) (D : Pos → Type 0) (w : Within next seed S t n D) (p : Pos) (s : S p) (e : seed p ≡ live) where
    -- an open position that the level hits has that depth
    hit_depth : t p ≡ draw_entry → hit next t n p ≡ true → Depth next seed n p
    hit_depth v h = record {
      holds = hit_ended next seed S ground t n (within_upto next seed S ground n (omega arith) t D w) p s e h;
      below = late (before_or_not next seed n p);
    }
      where
        late : ((k : ℕ) × (k < n) × Depth next seed k p) ⊎ NotBefore next seed n p → NotBefore next seed n p
        late (inl (k, l, d)) = absurd (omega (arith, w.low p s e k l d))
        late (inr o) = o

    -- what has that depth is hit
    pub depth_hit_now : Depth next seed n p → hit next t n p ≡ true
    depth_hit_now d = depth_hit next seed S ground t n (within_upto next seed S ground n (omega arith) t D w) p s e d

  module _ (maps : ℕ) (act : ℕ → Pos → Pos) (m : Maps next seed S maps act) where
    -- a position of S whose plies decide is judged
    module _ (t : Pos → ℕ) (D : Pos → Type 0) (w : Within next seed S t n D) (symmetric : Symmetric next seed S maps act t) (p : Pos) (s : S p)
        (e : seed p ≡ live) where
      abbrev Of : Pos → Type 0
      Of q = Image next seed S maps act p q

      image_entry : (q : Pos) → Of q → t q ≡ t p
      image_entry q (g, l, f) = ap t (sym f) ∙ symmetric g l p s

      -- where it is open and hit, the level is written at all its images and nowhere else
      module _ (u : Pos → ℕ) (open-p : t p ≡ draw_entry) (hit-p : hit next t n p ≡ true) (here : (q : Pos) → Of q → u q ≡ n)
          (elsewhere : (q : Pos) → S q → (Of q → ⊥) → u q ≡ t q) (apart : (q : Pos) → S q → Of q ⊎ (Of q → ⊥)) where
        depth_p : Depth next seed n p
        depth_p = hit_depth t D w p s e open-p hit-p

        pub written : Within next seed S u n (λ q. D q ⊎ Of q)
        written = pass next seed S ground n low t u D (λ q. D q ⊎ Of q) w record {
          given = λ q r dead. elsewhere q r (λ i. dead (image_seed next seed S maps act m p q s i ∙ e));
          each = λ q r f. each q r f (apart q r);
        }
          where
            visited : (q : Pos) → S q → seed q ≡ live → Of q → u q ≡ visit next t n q
            visited q r f i =
                here q i ∙ sym (visit_hit next t n q (image_entry q i ∙ open-p)
                (depth_hit_now t D w q r f (image_depth next seed S maps act m ground.closed n p q s i depth_p)))

            old : (q : Pos) → (Of q → ⊥) → D q ⊎ Of q → D q
            old q out (inl d) = d
            old q out (inr i) = absurd (out i)

            each : (q : Pos) → S q → seed q ≡ live → Of q ⊎ (Of q → ⊥) → Visited next seed S t u n D (λ x. D x ⊎ Of x) q
            each q r f (inl i) = inr (visited q r f i)
            each q r f (inr out) = inl (λ d. old q out d, elsewhere q r out)

        pub written_symmetric : Symmetric next seed S maps act u
        written_symmetric g l q r = go (apart q r)
          where
            i : Image next seed S maps act q (act g q)
            i = (g, l, refl)

            go : Of q ⊎ (Of q → ⊥) → u (act g q) ≡ u q
            go (inl a) = here (act g q) (image_trans next seed S maps act m p q (act g q) s a i) ∙ sym (here q a)
            go (inr out) =
                elsewhere (act g q) (m.within g l q r)
                (λ a. out (image_trans next seed S maps act m p (act g q) q s a (image_sym next seed S maps act m q (act g q) r i)))
                ∙ symmetric g l q r ∙ sym (elsewhere q r out)
