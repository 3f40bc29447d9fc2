-- A mover with three stones is not blocked where a point is vacant. Assumes nothing.
use mathlib.Core.Path.{◌≡◌, refl, sym}
use mathlib.Core.Bool.{Bool, true, false}
use mathlib.Core.List.{List, [], ◌∷◌}
use Prim.Native.Nat.{ℕ, suc, ◌+◌, ◌*◌, ◌<◌}
use native.Mathlib.Omega.{arith}
use lib.Dec.{eqb}
use lib.ListN.{get_or, length}
use borrow.Author.Tests.{eqb-true, eq-eqb}
use Rattle.lists.specs.Lists.{is_empty}
use Rattle.lists.proofs.Tests.{untrue, fails_all, empty_none}
use Rattle.board.specs.Board.{Values, count}
use Rattle.board.proofs.Counts.{count_all}
use Rattle.rules.specs.Ply.{holding, destinations, blocked}
use Rattle.rules.proofs.Listed.{is_holding, of_destination}

-- a value that is counted stands at some point
stands : (v : ℕ) (b : List ℕ) → 0 < count v b → (p : ℕ) × (p < length b) × (get_or b p 0 ≡ v)
stands v [] h = absurd (omega arith)
stands v (x ∷ b) h = go (eqb x v) refl (λ l. stands v b l)
  where
    go : (c : Bool) → eqb x v ≡ c → (0 < count v b → (p : ℕ) × (p < length b) × (get_or b p 0 ≡ v))
        → (p : ℕ) × (p < suc (length b)) × (get_or (x ∷ b) p 0 ≡ v)
    go true e rest = (0, omega arith, eqb-true x v e)
    go false e rest = let (p, l, q) = rest (rw e at h) in (suc p, omega arith, q)

pub three_free : (rings : ℕ) (b : List ℕ) → Values b → length b ≡ 8 * rings → count 1 b ≡ 3 → 3 + count 2 b < 8 * rings → blocked rings b ≡ false
unfolding blocked
three_free rings b values points three room =
    let (from, l, own) = stands 1 b (omega arith) in
    let (to, m, vacant) = stands 0 b (omega (arith, count_all b values)) in
    let free = of_destination rings b from to (omega arith) vacant (rw (eq-eqb (count 1 b) 3 three)) in
    fails_all (λ from. is_empty (destinations rings b from)) (holding rings b 1) (is_holding rings b 1 from (omega arith) own)
    (sym (untrue (is_empty (destinations rings b from)) (λ e. empty_none (destinations rings b from) e free)))
