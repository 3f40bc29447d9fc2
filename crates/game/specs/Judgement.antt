-- Entries judged by the entries of the successors (document 01: "A win takes 1 + the least lost successor; a loss takes 1 + the greatest when all
-- successors are won."). Assumes nothing.
use Rattle.std.specs.Prelude.{Bool, true, false, ◌&&◌, ◌||◌, List, [], ◌∷◌, ℕ, suc, ◌%◌, min, max, ltb, eqb}
use Rattle.lists.specs.Lists.{any, all, is_empty}
use Rattle.game.specs.Game.{draw_entry, void_entry}

-- "Even is lost for the mover, odd is won."
unfoldable pub is_lost : ℕ → Bool
is_lost e = eqb (e % 2) 0 && ltb e void_entry

unfoldable pub is_won : ℕ → Bool
is_won e = eqb (e % 2) 1 && ltb e void_entry

-- the least lost entry, draw where none is lost
abbrev pub least_lost : List ℕ → ℕ
least_lost [] = draw_entry
least_lost (e ∷ es) = elim (is_lost e) [ true ↦ min e (least_lost es) | false ↦ least_lost es ]

abbrev pub greatest : List ℕ → ℕ
greatest [] = 0
greatest (e ∷ es) = max e (greatest es)

-- no successor is a loss in 0; else a win, a loss or a draw by the successors' entries
unfoldable pub judge : List ℕ → ℕ
judge es = elim (is_empty es) [
  | true ↦ 0
  | false ↦ elim (ltb (least_lost es) void_entry) [
    | true ↦ suc (least_lost es)
    | false ↦ elim (all (λ e. is_won e) es) [ true ↦ suc (greatest es) | false ↦ draw_entry ]
  ]
]

module _ {Pos : Type 0} (next : Pos → List Pos) (t : Pos → ℕ) where
  -- the successors' entries in t give p depth n: for odd n one of them is n - 1; for even n all are won within fewer than n
  unfoldable pub hit : ℕ → Pos → Bool
  hit n p = elim (eqb (n % 2) 1) [
    | true ↦ any (λ q. eqb (suc (t q)) n) (next p)
    | false ↦ all (λ q. eqb (t q % 2) 1 && ltb (t q) n) (next p)
  ]

  -- they give it some depth: one is lost, or all are won
  unfoldable pub decided : Pos → Bool
  decided p = any (λ q. is_lost (t q)) (next p) || all (λ q. is_won (t q)) (next p)

  -- what a visit at level n leaves at p: n where the entry is draw and level n hits p, else the entry
  unfoldable pub visit : ℕ → Pos → ℕ
  visit n p = elim (eqb (t p) draw_entry && hit n p) [ true ↦ n | false ↦ t p ]
