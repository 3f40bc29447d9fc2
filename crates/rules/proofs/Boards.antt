-- Worked boards, computed by the definitions: their lists of moves under an edition, each as the rules of documents 01 and 02 (A11) give it by hand,
-- captures first (A2); and boards after a ply. Assumes nothing.
use mathlib.Core.Path.{◌≡◌, refl}
use mathlib.Core.Bool.{Bool, true, false}
use mathlib.Core.List.{List, [], ◌∷◌, reverse}
use Prim.Native.Nat.{ℕ}
use lib.Dec.{eqb}
use Rattle.lists.specs.Lists.{all}
use Rattle.geometry.specs.Geometry.{points, follows, inward, adjoin, ring_mills, cross_mills, mills}
use Rattle.rules.specs.MoveList.{is_capture, captures_first, listed_moves}
use Rattle.rules.specs.Ply.{holding, in_mill, destinations, slide, unshielded, if_all_shielded, removable, removals, moves, remove, exchange, after_ply}

-- a board read from its highest point down, and its moves under an edition
pub record Worked : Type 0 where
  pub rings : ℕ
  pub edition : ℕ
  pub reading : List ℕ
  pub numbers : List ℕ

abbrev worked : ℕ → ℕ → List ℕ → List ℕ → Worked
worked rings edition b ns = record { rings = rings; edition = edition; reading = b; numbers = ns }

abbrev same : List ℕ → List ℕ → Bool
same [] [] = true
same [] (y ∷ ys) = false
same (x ∷ xs) [] = false
same (x ∷ xs) (y ∷ ys) = elim (eqb x y) [ true ↦ same xs ys | false ↦ false ]

pub holds_at : Worked → Bool
holds_at w = same (listed_moves (removable w.edition) w.rings (reverse w.reading)) w.numbers

abbrev pub boards : List Worked
boards =
    -- document 01's own position
    worked 1 1 (0 ∷ 2 ∷ 1 ∷ 2 ∷ 2 ∷ 0 ∷ 1 ∷ 1 ∷ []) (5187 ∷ 5188 ∷ 5190 ∷ 95 ∷ 255 ∷ 1119 ∷ 1279 ∷ 5375 ∷ [])
    -- all opposing stones stand in a mill: any one may go
    ∷ worked 1 1 (0 ∷ 1 ∷ 0 ∷ 1 ∷ 1 ∷ 2 ∷ 2 ∷ 2 ∷ []) (3232 ∷ 3233 ∷ 3234 ∷ 3327 ∷ 4287 ∷ 4351 ∷ 6335 ∷ 6399 ∷ [])
    -- and under edition 2 none: the mill removes nothing, which is no capture
    ∷ worked 1 2 (0 ∷ 1 ∷ 0 ∷ 1 ∷ 1 ∷ 2 ∷ 2 ∷ 2 ∷ []) (3263 ∷ 3327 ∷ 4287 ∷ 4351 ∷ 6335 ∷ 6399 ∷ [])
    -- a mill shields its stones while another stands outside, under both editions
    ∷ worked 1 1 (2 ∷ 1 ∷ 0 ∷ 1 ∷ 1 ∷ 2 ∷ 2 ∷ 2 ∷ []) (3239 ∷ 4287 ∷ 6335 ∷ [])
    ∷ worked 1 2 (2 ∷ 1 ∷ 0 ∷ 1 ∷ 1 ∷ 2 ∷ 2 ∷ 2 ∷ []) (3239 ∷ 4287 ∷ 6335 ∷ [])
    -- 1 to 2 is no mill with 0: the vacated point no longer counts
    ∷ worked 1 1 (2 ∷ 2 ∷ 2 ∷ 0 ∷ 1 ∷ 0 ∷ 1 ∷ 1 ∷ []) (3141 ∷ 3142 ∷ 3143 ∷ 95 ∷ 159 ∷ 1119 ∷ 1183 ∷ 3231 ∷ [])
    -- four stones do not jump: a blocked mover
    ∷ worked 1 1 (2 ∷ 0 ∷ 2 ∷ 1 ∷ 1 ∷ 2 ∷ 1 ∷ 1 ∷ []) []
    -- two rings: a stone comes in from the other ring
    ∷ worked 2 1 (0 ∷ 0 ∷ 0 ∷ 1 ∷ 0 ∷ 0 ∷ 1 ∷ 0 ∷ 0 ∷ 2 ∷ 2 ∷ 2 ∷ 0 ∷ 1 ∷ 0 ∷ 1 ∷ [])
    (9252 ∷ 9253 ∷ 9254 ∷ 63 ∷ 255 ∷ 2111 ∷ 2175 ∷ 9503 ∷ 9567 ∷ 12671 ∷ 12735 ∷ [])
    -- three rings: mills across the rings, one of each side
    ∷ worked 3 1 (1 ∷ 0 ∷ 0 ∷ 2 ∷ 2 ∷ 1 ∷ 0 ∷ 0 ∷ 0 ∷ 0 ∷ 0 ∷ 0 ∷ 2 ∷ 0 ∷ 1 ∷ 0 ∷ 0 ∷ 0 ∷ 0 ∷ 0 ∷ 2 ∷ 0 ∷ 1 ∷ 0 ∷ [])
    (18996 ∷ 1055 ∷ 1119 ∷ 9503 ∷ 9567 ∷ 9791 ∷ 24063 ∷ 24095 ∷ 24287 ∷ [])
    ∷ []

pub worked_hold : all (λ w. holds_at w) boards ≡ true
unfolding holds_at is_capture captures_first moves holding in_mill destinations slide unshielded if_all_shielded removable removals points follows inward adjoin ring_mills cross_mills mills
worked_hold = refl

-- under a rule that names no stone, document 01's own position: from 5 to 2 closes a mill and removes nothing, which is no capture
pub nothing_removed : same (captures_first (moves (λ rings b. []) 1 (reverse (0 ∷ 2 ∷ 1 ∷ 2 ∷ 2 ∷ 0 ∷ 1 ∷ 1 ∷ []))))
    (95 ∷ 255 ∷ 1119 ∷ 1279 ∷ 5215 ∷ 5375 ∷ []) ≡ true
unfolding is_capture captures_first moves holding in_mill destinations slide removals points follows inward adjoin ring_mills cross_mills mills
nothing_removed = refl

-- a board, one of its moves, and the board after it
pub record Ply : Type 0 where
  pub before : List ℕ
  pub move : ℕ
  pub next : List ℕ

abbrev ply : List ℕ → ℕ → List ℕ → Ply
ply b n c = record { before = b; move = n; next = c }

pub leads_to : Ply → Bool
leads_to p = same (after_ply (reverse p.before) p.move) (reverse p.next)

abbrev pub plies : List Ply
plies =
    -- a stone is removed: the next mover has two
    ply (0 ∷ 2 ∷ 1 ∷ 2 ∷ 2 ∷ 0 ∷ 1 ∷ 1 ∷ []) 5187 (0 ∷ 1 ∷ 0 ∷ 1 ∷ 0 ∷ 2 ∷ 2 ∷ 2 ∷ [])
    -- none is
    ∷ ply (0 ∷ 2 ∷ 1 ∷ 2 ∷ 2 ∷ 0 ∷ 1 ∷ 1 ∷ []) 95 (0 ∷ 1 ∷ 2 ∷ 1 ∷ 1 ∷ 2 ∷ 2 ∷ 0 ∷ [])
    ∷ []

pub plies_lead : all (λ p. leads_to p) plies ≡ true
unfolding leads_to after_ply slide remove exchange
plies_lead = refl
