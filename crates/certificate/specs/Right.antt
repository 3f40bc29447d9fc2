-- When an entry is right by the entries of the successors (document 02, A8). Assumes nothing.
use Rattle.std.specs.Prelude.{Bool, not, ◌&&◌, ◌||◌, List, ℕ, suc, eqb, ltb}
use Rattle.lists.specs.Lists.{any, all, is_empty}
use Rattle.game.specs.Game.{draw_entry}
use Rattle.game.specs.Judgement.{is_lost, is_won, least_lost, greatest}

-- "0 for a blocked mover"
abbrev pub blocked_right : ℕ → List ℕ → Bool
blocked_right n es = eqb n 0 && is_empty es

-- "odd n with a quickest lost successor of n − 1"
abbrev pub won_right : ℕ → List ℕ → Bool
won_right n es = is_won n && eqb (suc (least_lost es)) n

-- "even n above 0 with all successors won and the slowest at n − 1"
abbrev pub lost_right : ℕ → List ℕ → Bool
lost_right n es = is_lost n && ltb 0 n && all (λ e. is_won e) es && eqb (suc (greatest es)) n

-- "draw with no lost successor and at least one successor not won"
abbrev pub draw_right : ℕ → List ℕ → Bool
draw_right n es = eqb n draw_entry && not (any (λ e. is_lost e) es) && any (λ e. not (is_won e)) es

-- an entry n is right where the successors' entries are es. "Void is never right": it is none of the four
unfoldable pub right : ℕ → List ℕ → Bool
right n es = blocked_right n es || won_right n es || lost_right n es || draw_right n es
