-- The best entry goes by which entries there are, in whatever order: so the first listed best move of one order is worth what that of another is
-- (document 02, A2: "another move of equal worth"). Assumes nothing.
use mathlib.Core.Path.{◌≡◌, refl, sym, ◌∙◌}
use mathlib.Core.Bool.{Bool, true, false}
use mathlib.Core.List.{List, map, Memᴰ}
use Prim.Native.Nat.{ℕ, ◌≤◌}
use native.Mathlib.Omega.{arith}
use lib.Dec.{eqb}
use Rattle.lists.specs.Lists.{any, is_empty}
use Rattle.lists.proofs.Members.{map_member, member_map}
use Rattle.lists.proofs.Tests.{same_test, untrue, any_member, member_any, empty_none, first_member, empty_map}
use Rattle.rules.specs.MoveList.{captures_first}
use Rattle.rules.proofs.CapturesFirst.{listed_legal, legal_listed, listed_empty}
use Rattle.game.specs.Game.{draw_entry}
use Rattle.game.specs.Judgement.{is_lost, least_lost, greatest}
use Rattle.game.proofs.Entries.{lost_is}
use Rattle.game.proofs.Judging.{least_lost_low, least_lost_in, greatest_high, greatest_in}
use Rattle.bestmove.specs.Best.{best_entry, best_move}
use Rattle.bestmove.proofs.Choice.{best_listed_lem}
use Rattle.bestmove.proofs.Worths.{best_lost, best_draw, best_won}

-- every member of one list is one of the other
abbrev Within : List ℕ → List ℕ → Type 0
Within es fs = (x : ℕ) → Memᴰ x es → Memᴰ x fs

any_within : (f : ℕ → Bool) (es fs : List ℕ) → Within es fs → Within fs es → any f es ≡ any f fs
any_within f es fs h k =
    same_test (any f es) (any f fs) (λ t. let (x, i, p) = any_member f es t in member_any f fs (h x i) p)
    (λ t. let (x, i, p) = any_member f fs t in member_any f es (k x i) p)

-- the least lost one of a list is no higher than that of a list within it
least_within : (es fs : List ℕ) → Within fs es → any (λ e. is_lost e) fs ≡ true → least_lost es ≤ least_lost fs
least_within es fs k t =
    let (x, i, l) = any_member (λ e. is_lost e) fs t in
    let s = least_lost_in fs (omega (arith, least_lost_low fs x i l, (lost_is l).1)) in
    least_lost_low es (least_lost fs) (k (least_lost fs) s.0) s.1

-- and the greatest no lower
greatest_within : (es fs : List ℕ) → Within fs es → is_empty fs ≡ false → greatest fs ≤ greatest es
greatest_within es fs k some = greatest_high es (greatest fs) (k (greatest fs) (greatest_in fs some))

module _ (es fs : List ℕ) (h : Within es fs) (k : Within fs es) (some : is_empty es ≡ false) where
  filled : is_empty fs ≡ false
  filled = let (x, i) = first_member es some in sym (untrue (is_empty fs) (λ z. empty_none fs z (h x i)))

  same_best : best_entry es ≡ best_entry fs
  same_best = go (any (λ e. is_lost e) es) refl (any (λ e. eqb e draw_entry) es) refl
    where
      lost : any (λ e. is_lost e) es ≡ any (λ e. is_lost e) fs
      lost = any_within (λ e. is_lost e) es fs h k

      drawn : any (λ e. eqb e draw_entry) es ≡ any (λ e. eqb e draw_entry) fs
      drawn = any_within (λ e. eqb e draw_entry) es fs h k

      go : (a : Bool) → any (λ e. is_lost e) es ≡ a → (b : Bool) → any (λ e. eqb e draw_entry) es ≡ b → best_entry es ≡ best_entry fs
      go true p b q =
          let e : least_lost es ≡ least_lost fs = omega (arith, least_within es fs k (sym lost ∙ p), least_within fs es h p) in
          best_lost es p ∙ e ∙ sym (best_lost fs (sym lost ∙ p))
      go false p true q = best_draw es p q ∙ sym (best_draw fs (sym lost ∙ p) (sym drawn ∙ q))
      go false p false q =
          let e : greatest es ≡ greatest fs = omega (arith, greatest_within es fs k filled, greatest_within fs es h some) in
          best_won es p q ∙ e ∙ sym (best_won fs (sym lost ∙ p) (sym drawn ∙ q))

-- the best move of the list with captures first leads to the entry that the best of the rising list leads to
pub equal_worth : (f : ℕ → ℕ) (ms : List ℕ) → is_empty ms ≡ false → f (best_move f (captures_first ms)) ≡ f (best_move f ms)
equal_worth f ms some =
    (best_listed_lem f (captures_first ms) (listed_empty ms ∙ some)).1
    ∙ same_best (map f (captures_first ms)) (map f ms)
    (λ e i. let (m, j, p) = map_member f (captures_first ms) i in rw p (member_map f ms (listed_legal ms j)))
    (λ e i. let (m, j, p) = map_member f ms i in rw p (member_map f (captures_first ms) (legal_listed ms j)))
    (empty_map f (captures_first ms) ∙ listed_empty ms ∙ some)
    ∙ sym (best_listed_lem f ms some).1
