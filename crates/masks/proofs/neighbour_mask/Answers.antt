-- `masks::neighbour_mask` meets its contract: the neighbours taken one after the other. Assumes nothing.
use mathlib.Core.Path.{◌≡◌, sym, ap, ◌∙◌}
use mathlib.Core.List.{List}
use Prim.Native.Nat.{ℕ, suc, ◌<◌}
use native.Mathlib.Omega.{arith}
use lib.ListN.{length, get_or, drop}
use lib.Seq.{drop-cons, drop-length}
use Rattle.sets.specs.Sets.{with, with_all, set_from}
use Rattle.sets.proofs.Elements.{with_none, with_more, from_is}
use Rattle.geometry.specs.Geometry.{neighbours}
use Rattle.geometry.proofs.Geometry.{neighbours_few, neighbours_some, neighbour_low}
use Rattle.masks.proofs.neighbour_mask.Goals as goal
use Rattle.masks.proofs.neighbour_mask.Goals.{After-with-three, After-with-two, Else-degree-eq3}

-- one neighbour more, where the set so far and the neighbours left make the whole
more : (l : List ℕ) (j s q t : ℕ) → j < length l → q ≡ get_or l j 0 → t ≡ with s q → with_all s (drop j l) ≡ set_from l
    → with_all t (drop (suc j) l) ≡ set_from l
more l j s q t h e f w =
    ap (λ (x : ℕ). with_all x (drop (suc j) l)) (f ∙ ap (with s) e) ∙ sym (with_more s (get_or l j 0) (drop (suc j) l))
    ∙ ap (with_all s) (sym (drop-cons l j 0 h)) ∙ w

-- none is left
last : (l : List ℕ) (j s : ℕ) → j ≡ length l → with_all s (drop j l) ≡ set_from l → s ≡ set_from l
last l j s e w = sym (with_none s) ∙ ap (with_all s) (sym (ap (λ (i : ℕ). drop i l) e ∙ drop-length l)) ∙ w

-- the first two
two : (c : After-with-two)
    → with_all c.with-two.result (drop 2 (neighbours 3 c.args.p))
    ≡ set_from (neighbours 3 c.args.p)
two c =
    let p : ℕ = c.args.p in
    let l : List ℕ = neighbours 3 p in
    let some = neighbours_some p c.requires in
    more l 1 c.with-first.result c.neighbour-2.result c.with-two.result (omega (arith, some)) c.neighbour-2.ensures
    c.with-two.ensures
    (more l 0 0 c.neighbour.result c.with-first.result (omega (arith, some)) c.neighbour.ensures c.with-first.ensures (sym
    (from_is l)))

-- and a third
three : (c : After-with-three)
    → with_all c.with-three.result (drop 3 (neighbours 3 c.args.p))
    ≡ set_from (neighbours 3 c.args.p)
three c =
    let p : ℕ = c.args.p in
    let l : List ℕ = neighbours 3 p in
    more l 2 c.with-two.result c.neighbour-3.result c.with-three.result
    (omega (arith, neighbours_some p c.requires, c.if-degree-eq2.false, c.degree-degree.ensures))
    c.neighbour-3.ensures c.with-three.ensures
    (two c.before.before.before)

pub with-first-requires : goal.with-first-requires
with-first-requires c =
    omega (arith, c.neighbour.ensures, neighbour_low c.args.p 0 (omega (arith, neighbours_some c.args.p c.requires)))

pub with-two-requires : goal.with-two-requires
with-two-requires c =
    omega (arith, c.neighbour-2.ensures, neighbour_low c.args.p 1 (omega (arith, neighbours_some c.args.p c.requires)))

pub returns-then-degree-eq2 : goal.returns-then-degree-eq2
returns-then-degree-eq2 c =
    last (neighbours 3 c.args.p) 2 c.with-two.result
    (omega (arith, c.if-degree-eq2.true, c.degree-degree.ensures)) (two (goal.at.returns-then-degree-eq2 c).After-with-two)

pub with-three-requires : goal.with-three-requires
with-three-requires c =
    omega (
      arith,
      c.neighbour-3.ensures,
      neighbour_low c.args.p 2 (omega (arith, neighbours_some c.args.p c.requires, c.if-degree-eq2.false, c.degree-degree.ensures)),
    )

pub returns-then-degree-eq3 : goal.returns-then-degree-eq3
returns-then-degree-eq3 c =
    last (neighbours 3 c.args.p) 3 c.with-three.result (omega (arith, c.if-degree-eq3.true, c.degree-degree.ensures)) (three (goal.at.returns-then-degree-eq3 c).After-with-three)

-- there is a fourth, and no fifth
four : (c : Else-degree-eq3) → length (neighbours 3 c.args.p) ≡ 4
four c =
    omega (arith, neighbours_some c.args.p c.requires, neighbours_few c.args.p c.requires, c.if-degree-eq2.false, c.if-degree-eq3.false, c.degree-degree.ensures)

pub with-requires : goal.with-requires
with-requires c =
    omega (arith, c.neighbour-4.ensures, neighbour_low c.args.p 3 (omega (arith, four (goal.at.with-requires c).Else-degree-eq3)))

pub returns : goal.returns
returns c =
    let l : List ℕ = neighbours 3 c.args.p in
    last l 4 c.with.result (omega (arith, four (goal.at.returns c).Else-degree-eq3))
    (more l 3 c.with-three.result c.neighbour-4.result c.with.result (omega (arith, four (goal.at.returns c).Else-degree-eq3)) c.neighbour-4.ensures
    c.with.ensures
    (three (goal.at.returns c).After-with-three))
