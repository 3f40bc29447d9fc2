-- Outcomes (document 01, "A ply"): won and lost within n plies, depth, draw, entry. A game is given by the plies from each position and by what
-- is given of a position beforehand. Won and lost are said of the mover. Assumes nothing.
use Rattle.std.specs.Prelude.{◌≡◌, Bool, true, false, not, ◌&&◌, ◌||◌, List, ◌⊎◌, ℕ, zero, suc, ◌<◌, ◌%◌, leb, eqb}
use Rattle.lists.specs.Lists.{any, all, is_empty}

-- what is given of a position: nothing, so that the plies decide; an ending of a depth; or a drawn end
pub data Seed : Type 0 where
  live : Seed
  ends : ℕ → Seed
  drawn : Seed

-- a given depth: "won if that depth is odd and lost if it is even, within every n from the depth on and within none below"
unfoldable pub won_by : ℕ → ℕ → Bool
won_by d n = eqb (d % 2) 1 && leb d n

unfoldable pub lost_by : ℕ → ℕ → Bool
lost_by d n = eqb (d % 2) 0 && leb d n

-- f passes at n and at no smaller number
pub record Least (f : ℕ → Bool) (n : ℕ) : Type 0 where
  pub holds : f n ≡ true
  pub below : (k : ℕ) → k < n → f k ≡ false

-- "Entry: 65,535 draw; 65,534 void; else plies to the end."
abbrev pub draw_entry : ℕ
draw_entry = 65535

abbrev pub void_entry : ℕ
void_entry = 65534

module _ {Pos : Type 0} (next : Pos → List Pos) (seed : Pos → Seed) where
  -- a position with no ply is lost within every n and won within none; any other is neither within 0, and "within n + 1 it is won exactly when
  -- some ply leads to a position lost within n, and lost exactly when every ply leads to one won within n"
  unfoldable mutual
    pub won : ℕ → Pos → Bool
    won zero p = elim (seed p) [ live ↦ false | ends d ↦ won_by d zero | drawn ↦ false ]
    won (suc n) p = elim (seed p) [ live ↦ any (λ q. lost n q) (next p) | ends d ↦ won_by d (suc n) | drawn ↦ false ]

    pub lost : ℕ → Pos → Bool
    lost zero p = elim (seed p) [ live ↦ is_empty (next p) | ends d ↦ lost_by d zero | drawn ↦ false ]
    lost (suc n) p = elim (seed p) [ live ↦ all (λ q. won n q) (next p) | ends d ↦ lost_by d (suc n) | drawn ↦ false ]

  -- "A position won or lost within some n has a forced end"
  unfoldable pub ended : ℕ → Pos → Bool
  ended n p = won n p || lost n p

  -- won, or lost, within n and within no fewer
  abbrev pub WonIn : ℕ → Pos → Type 0
  WonIn n p = Least (λ (k : ℕ). won k p) n

  abbrev pub LostIn : ℕ → Pos → Type 0
  LostIn n p = Least (λ (k : ℕ). lost k p) n

  -- "its depth is the least such n"
  abbrev pub Depth : ℕ → Pos → Type 0
  Depth n p = Least (λ (k : ℕ). ended k p) n

  -- the same as a test: ended within n, and not within n - 1
  unfoldable pub depth_is : ℕ → Pos → Bool
  depth_is zero p = ended zero p
  depth_is (suc n) p = ended (suc n) p && not (ended n p)

  -- "A position that is neither within any n is a draw."
  abbrev pub Draw : Pos → Type 0
  Draw p = (n : ℕ) → ended n p ≡ false

  -- one side can force a win within n plies and within no fewer: the mover where n is odd, the other where it is even
  abbrev pub ForcedIn : ℕ → Pos → Type 0
  ForcedIn n p = ((n % 2 ≡ 1) × WonIn n p) ⊎ ((n % 2 ≡ 0) × LostIn n p)

  -- the entry of a position: its depth, or draw
  abbrev pub Entry : Pos → ℕ → Type 0
  Entry p e = ((e < void_entry) × Depth e p) ⊎ ((e ≡ draw_entry) × Draw p)

-- "The outcome is the side that can force the win, with the depth, or draw."
pub data Outcome : Type 0 where
  mover_wins : (depth : ℕ) → Outcome
  opponent_wins : (depth : ℕ) → Outcome
  neither : Outcome

abbrev pub HasOutcome : {Pos : Type 0} → (Pos → List Pos) → (Pos → Seed) → Pos → Outcome → Type 0
HasOutcome next seed p (mover_wins n) = WonIn next seed n p
HasOutcome next seed p (opponent_wins n) = LostIn next seed n p
HasOutcome next seed p neither = Draw next seed p

-- the outcome that an entry states: "Even is lost for the mover, odd is won."
unfoldable pub outcome_of : ℕ → Outcome
outcome_of e = elim (eqb e draw_entry) [
  | true ↦ neither
  | false ↦ elim (eqb (e % 2) 1) [ true ↦ mover_wins e | false ↦ opponent_wins e ]
]
