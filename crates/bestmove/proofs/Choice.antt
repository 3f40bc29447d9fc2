-- The best move: a running best ends with it; it is listed and leads to the best entry, and that is the least lost one where some is lost. Assumes
-- nothing.
use mathlib.Core.Path.{◌≡◌, refl, sym, ap, ap₂, subst, ◌∙◌}
use mathlib.Core.Bool.{Bool, true, false}
use mathlib.Core.List.Memᴰ
use mathlib.Core.List.{List, [], ◌∷◌, map, Memᴰ}
use mathlib.Core.Logic.{◌⊎◌, inl, inr}
use Prim.Native.Nat.{ℕ, ◌≤◌}
use native.Mathlib.Omega.{arith}
use lib.Dec.{eqb}
use borrow.Author.Tests.{eqb-true, eq-eqb}
use Rattle.lists.specs.Lists.{any, is_empty}
use Rattle.lists.proofs.Members.{map_member, member_map, map_same}
use Rattle.lists.proofs.Tests.{same_test, clash, any_member, member_any, empty_map}
use Rattle.game.specs.Game.{draw_entry}
use Rattle.game.specs.Judgement.{is_lost}
use Rattle.game.proofs.Entries.{lost_is}
use Rattle.game.proofs.Judging.{least_lost_low, least_lost_in, greatest_in}
use Rattle.bestmove.specs.Best.{best_entry, first_that, best_move}
use Rattle.bestmove.specs.Inner.Worth.{worth}
use Rattle.bestmove.proofs.FirstGreatest.{kept, kept_member, kept_top, kept_first}
use Rattle.bestmove.proofs.Worths.{Told, worth_one, best_lost, best_draw, best_won, best_is}

-- the first that passes, by equal tests of the members
first_same : (f g : ℕ → Bool) (l : List ℕ) → ((x : ℕ) → Memᴰ x l → f x ≡ g x) → first_that f l ≡ first_that g l
first_same f g [] h = refl
first_same f g (x ∷ xs) h = go (h x (Memᴰ.head refl)) (first_same f g xs (λ y m. h y (Memᴰ.tail m)))
  where
    go : f x ≡ g x → first_that f xs ≡ first_that g xs → first_that f (x ∷ xs) ≡ first_that g (x ∷ xs)
    go p q = ap₂ (λ (b : Bool) (r : ℕ). elim b as (λ c. ℕ) [ true ↦ x | false ↦ r ]) p q

-- so the best move is one, by equal entries of the members
pub best_same : (f g : ℕ → ℕ) (ms : List ℕ) → ((m : ℕ) → Memᴰ m ms → f m ≡ g m) → best_move f ms ≡ best_move g ms
unfolding best_move
best_same f g ms h = first_same _ _ ms (λ m i. ap₂ eqb (h m i) (ap best_entry (map_same f g ms h)))

-- it is a member that passes, where one does
first_passes : (f : ℕ → Bool) (l : List ℕ) (x : ℕ) → Memᴰ x l → f x ≡ true → Memᴰ (first_that f l) l × (f (first_that f l) ≡ true)
first_passes f [] x m e = absurd (Memᴰ.not-nil m)
first_passes f (y ∷ ys) x m e = go (f y) refl (Memᴰ.cases_cons m) (λ k. first_passes f ys x k e)
  where
    go : (b : Bool) → f y ≡ b → (x ≡ y) ⊎ Memᴰ x ys → (Memᴰ x ys → Memᴰ (first_that f ys) ys × (f (first_that f ys) ≡ true))
        → Memᴰ (first_that f (y ∷ ys)) (y ∷ ys) × (f (first_that f (y ∷ ys)) ≡ true)
    go true p c r = rw (p, first_that) (Memᴰ.head refl, p)
    go false p (inl q) r = clash (ap f (sym q) ∙ e) p
    go false p (inr k) r = let s = r k in rw (p, first_that) (Memᴰ.tail s.0, s.1)

-- a running best, where no successor's entry is void
module _ (f : ℕ → ℕ) (m : ℕ) (ms : List ℕ) (told : (x : ℕ) → Memᴰ x (m ∷ ms) → Told (f x)) where
  abbrev best : ℕ
  best = kept (λ x. worth (f x)) m ms

  listed : Memᴰ best (m ∷ ms)
  listed = kept_member (λ x. worth (f x)) m ms

  pub kept_entry : f best ≡ best_entry (map f (m ∷ ms))
  kept_entry = sym (best_is (map f (m ∷ ms)) all (f best) (member_map f (m ∷ ms) listed) top)
    where
      all : (e : ℕ) → Memᴰ e (map f (m ∷ ms)) → Told e
      all e i = let (x, k, p) = map_member f (m ∷ ms) i in rw p (told x k)

      top : (e : ℕ) → Memᴰ e (map f (m ∷ ms)) → worth e ≤ worth (f best)
      top e i = let (x, k, p) = map_member f (m ∷ ms) i in rw p (kept_top (λ x. worth (f x)) m ms x k)

  pub kept_move : best ≡ best_move f (m ∷ ms)
  unfolding best_move
  kept_move = sym (kept_first (λ x. worth (f x)) m ms) ∙ first_same _ _ (m ∷ ms) same
    where
      same : (x : ℕ) → Memᴰ x (m ∷ ms) → eqb (worth (f x)) (worth (f best)) ≡ eqb (f x) (best_entry (map f (m ∷ ms)))
      same x i =
          same_test _ _ (λ h. eq-eqb (f x) _ (worth_one (f x) (f best) (told x i) (told best listed) (eqb-true _ _ h) ∙ kept_entry))
          (λ h. eq-eqb (worth (f x)) _ (ap worth (eqb-true (f x) _ h ∙ sym kept_entry)))

-- where some entry is lost, the best is the least lost one
pub best_least : (es : List ℕ) (x : ℕ) → Memᴰ x es → is_lost x ≡ true → (is_lost (best_entry es) ≡ true) × (best_entry es ≤ x)
best_least es x m l =
    let low = least_lost_low es x m l in
    rw (best_lost es (member_any (λ e. is_lost e) es m l)) ((least_lost_in es (omega (arith, (lost_is l).1))).1, low)

-- the best entry is one of them
best_member : (es : List ℕ) → is_empty es ≡ false → Memᴰ (best_entry es) es
best_member es some = go (any (λ x. is_lost x) es) refl (any (λ x. eqb x draw_entry) es) refl
  where
    go : (a : Bool) → any (λ x. is_lost x) es ≡ a → (b : Bool) → any (λ x. eqb x draw_entry) es ≡ b → Memᴰ (best_entry es) es
    go true p b q = let (x, i, l) = any_member (λ x. is_lost x) es p in
        rw (best_lost es p) (least_lost_in es (omega (arith, least_lost_low es x i l, (lost_is l).1))).0
    go false p true q = let (x, i, d) = any_member (λ x. eqb x draw_entry) es q in
        rw (best_draw es p q) (subst (λ (e : ℕ). Memᴰ e es) (eqb-true x draw_entry d) i)
    go false p false q = rw (best_won es p q) (greatest_in es some)

-- the best move is listed, and leads to the best entry
pub best_listed_lem : (f : ℕ → ℕ) (ms : List ℕ) → is_empty ms ≡ false → Memᴰ (best_move f ms) ms × (f (best_move f ms) ≡ best_entry (map f ms))
unfolding best_move
best_listed_lem f ms some =
    let (x, i, p) = map_member f ms (best_member (map f ms) (empty_map f ms ∙ some)) in
    let s = first_passes (λ m. eqb (f m) (best_entry (map f ms))) ms x i (eq-eqb (f x) _ (sym p)) in
    (s.0, eqb-true _ _ s.1)
