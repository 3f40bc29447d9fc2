-- `parts::mark_entry` meets its contract: the entry in the part that is lent, and nothing else. Assumes nothing.
use mathlib.Core.Path.{◌≡◌, ap, ◌∙◌}
use mathlib.Core.Bool.{Bool, true, false}
use mathlib.Core.List.{List}
use Prim.Native.Nat.{ℕ, ◌+◌, ◌-◌, ◌<◌}
use native.Mathlib.Omega.{arith}
use lib.Dec.{eqb}
use lib.ListN.{length, get_or, set, drop}
use lib.Seq.{get_or-take, get_or-drop}
use borrow.Rule.Slice.PartMut.{mid_of, put_mid, mid_len, put_same, set_mid_at}
use Rattle.game.specs.Game.{draw_entry, void_entry}
use Rattle.parts.proofs.mark_entry.Goals as goal

-- a mark in the part is a mark in the whole
mark-mid : (a k j : ℕ) (xs : List ℕ) → j < k → j < length (mid_of a k xs)
    → put_mid a k xs (elim (eqb (get_or (mid_of a k xs) j 0) draw_entry) [ true ↦ set (mid_of a k xs) j void_entry | false ↦ mid_of a k xs ])
    ≡ elim (eqb (get_or xs (a + j) 0) draw_entry) [ true ↦ set xs (a + j) void_entry | false ↦ xs ]
mark-mid a k j xs l h =
    go (eqb (get_or (mid_of a k xs) j 0) draw_entry)
    ∙ ap (λ (t : Bool). elim t [ true ↦ set xs (a + j) void_entry | false ↦ xs ])
    (ap (λ (e : ℕ). eqb e draw_entry) (get_or-take k (drop a xs) j 0 l ∙ get_or-drop a xs j 0))
  where
    go : (t : Bool) → put_mid a k xs (elim t [ true ↦ set (mid_of a k xs) j void_entry | false ↦ mid_of a k xs ])
        ≡ elim t [ true ↦ set xs (a + j) void_entry | false ↦ xs ]
    go true = set_mid_at a k j xs void_entry h
    go false = put_same a k xs

pub returns : goal.returns
returns c =
    let a = c.args in
    let l = mid_len a.part.start a.part.end a.tablebase.now c.requires.1 in
    ap (put_mid a.part.start (a.part.end - a.part.start) a.tablebase.now) c.mark.ensures
    ∙ mark-mid a.part.start (a.part.end - a.part.start) a.r a.tablebase.now (omega (arith, c.requires.0)) (omega (arith, l, c.requires.0))
