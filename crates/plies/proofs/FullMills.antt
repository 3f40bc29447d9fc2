-- Mills on sets: a mill is full where a set has three points in common with it, and a point has two mills at the most. Assumes nothing.
use mathlib.Core.Path.{◌≡◌, refl, sym, ap, ap₂, ◌∙◌}
use mathlib.Core.Bool.{Bool, true, false, not, ◌&&◌, ◌||◌, false≢true}
use mathlib.Core.List.{List, [], ◌∷◌}
use Prim.Native.Nat.{ℕ, zero, suc, ◌^◌, ◌≤◌, ◌<◌}
use native.Mathlib.Omega.{arith}
use lib.Bits.{bit_and, and_le_l, and_zero_r}
use lib.Count.{ones}
use lib.Dec.{eqb, leb}
use lib.ListN.{length, get_or}
use borrow.Author.Tests.{leb-true, eqb-false, not-true}
use Rattle.lists.specs.Lists.{all, any, member}
use Rattle.lists.proofs.Table.{every, every_at}
use Rattle.lists.proofs.Members.{keep_member}
use Rattle.lists.proofs.Tests.{any_both, any_same, and_left, and_right}
use Rattle.sets.specs.Sets.{has, members, shared, with, set_from}
use Rattle.sets.proofs.Laws.{members_all, ones_three, three_members}
use Rattle.sets.proofs.Elements.{from_none, from_three}
use Rattle.geometry.specs.Geometry.{ring_mills, cross_mills, mills, mills_through}
use Rattle.geometry.proofs.Geometry.{proper, mill_proper}
use Rattle.rules.specs.Ply.{in_mill}
use Rattle.rules.proofs.Mills.{in_mill_any}

-- a set has all three points of a mill
abbrev pub full : ℕ → List ℕ → Bool
full s l = eqb (shared s (set_from l)) 3

full_none : (s : ℕ) → s < 2 ^ 32 → full s [] ≡ false
unfolding ones
full_none s h =
    let z : bit_and s (set_from []) ≡ 0 = ap (bit_and s) from_none ∙ and_zero_r s in
    ap (λ (x : ℕ). eqb x 3) (ap (λ (x : ℕ). members x 32) z ∙ members_all 0 32 (omega arith))

pub full_three : (s : ℕ) → s < 2 ^ 32 → (l : List ℕ) → proper l ≡ true → full s l ≡ all (λ p. has s p) l
full_three s h [] e = absurd (false≢true e)
full_three s h (a ∷ []) e = absurd (false≢true e)
full_three s h (a ∷ b ∷ []) e = absurd (false≢true e)
full_three s h (a ∷ b ∷ c ∷ []) e =
    let k = and_right (not (eqb b a)) (not (eqb c a) && not (eqb c b)) e in
    let ba = eqb-false b a (not-true (eqb b a) (and_left (not (eqb b a)) (not (eqb c a) && not (eqb c b)) e)) in
    let ca = eqb-false c a (not-true (eqb c a) (and_left (not (eqb c a)) (not (eqb c b)) k)) in
    let cb = eqb-false c b (not-true (eqb c b) (and_right (not (eqb c a)) (not (eqb c b)) k)) in
    let m : ℕ = with (with (with 0 a) b) c in
    ap (λ (t : ℕ). eqb (shared s t) 3) (from_three a b c)
    ∙ ap (λ (x : ℕ). eqb x 3) (members_all (bit_and s m) 32 (omega (arith, and_le_l s m)) ∙ ones_three s a b c ba ca cb)
    ∙ three_members s a b c ∙ three (has s a) (has s b) (has s c)
  where
    three : (x y z : Bool) → (x && (y && z)) ≡ elim x [ true ↦ elim y [ true ↦ elim z [ true ↦ true | false ↦ false ] | false ↦ false ] | false ↦ false ]
    three true true true = refl
    three true true false = refl
    three true false z = refl
    three false y z = refl
full_three s h (a ∷ b ∷ c ∷ d ∷ l) e = absurd (false≢true e)

-- a point has two mills at the most
two_at : ℕ → ℕ → Bool
two_at rings p = leb (length (mills_through rings p)) 2

two_mills : (rings p : ℕ) → rings ≤ 3 → p < 24 → length (mills_through rings p) ≤ 2
unfolding two_at mills_through mills ring_mills cross_mills
two_mills rings p h l = go rings h
  where
    at : (rings : ℕ) → every 24 (two_at rings) ≡ true → length (mills_through rings p) ≤ 2
    at rings t = leb-true _ _ (every_at 24 (two_at rings) t p l)

    go : (rings : ℕ) → rings ≤ 3 → length (mills_through rings p) ≤ 2
    go zero h = at 0 refl
    go (suc zero) h = at 1 refl
    go (suc (suc zero)) h = at 2 refl
    go (suc (suc (suc zero))) h = at 3 refl
    go (suc (suc (suc (suc r)))) h = absurd (omega arith)

-- so a set's point stands in a mill where one of its two is full
pub in_mill_is : (rings s p : ℕ) → rings ≤ 3 → s < 2 ^ 32 → p < 24
    → (full s (get_or (mills_through rings p) 0 []) || full s (get_or (mills_through rings p) 1 [])) ≡ in_mill rings (λ q. has s q) p
unfolding mills_through
in_mill_is rings s p h w l =
    either (mills_through rings p) (two_mills rings p h l)
    ∙ any_same (full s) (λ mill. all (λ q. has s q) mill) (mills_through rings p)
    (λ x m. full_three s w x (mill_proper rings h x (keep_member (λ mill. member p mill) (mills rings) m).0))
    ∙ sym (in_mill_any rings (λ q. has s q) p ∙ any_both (λ mill. member p mill) (λ mill. all (λ q. has s q) mill) (mills rings))
  where
    either : (ls : List (List ℕ)) → length ls ≤ 2 → (full s (get_or ls 0 []) || full s (get_or ls 1 [])) ≡ any (full s) ls
    either [] k = ap₂ ◌||◌ (full_none s w) (full_none s w)
    either (x ∷ []) k = ap (λ (b : Bool). full s x || b) (full_none s w) ∙ one (full s x)
      where
        one : (b : Bool) → (b || false) ≡ elim b [ true ↦ true | false ↦ false ]
        one true = refl
        one false = refl
    either (x ∷ y ∷ []) k = two (full s x) (full s y)
      where
        two : (a b : Bool) → (a || b) ≡ elim a [ true ↦ true | false ↦ elim b [ true ↦ true | false ↦ false ] ]
        two true b = refl
        two false true = refl
        two false false = refl
    either (x ∷ y ∷ z ∷ ls) k = absurd (omega arith)
