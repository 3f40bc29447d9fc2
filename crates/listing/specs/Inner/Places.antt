-- Moves written into a list, captures at one place and the others at another behind it. Assumes nothing.
use Rattle.std.specs.Prelude.{List, ℕ, ◌+◌, ◌≤◌, length}
use Rattle.std.proofs.lemmas.List.Edits.{sets}
use Rattle.rules.specs.MoveList.{captures, others}

-- the list once the moves are written, the captures from k on and the others from j on
abbrev pub dealt : List ℕ → ℕ → ℕ → List ℕ → List ℕ
dealt list k j ms = sets (sets list k (captures ms)) j (others ms)

-- a list of so many places has room for them, and the captures end before the others start
pub record Room (places k j : ℕ) (ms : List ℕ) : Type 0 where
  pub captures_fit : k + length (captures ms) ≤ j
  pub others_fit : j + length (others ms) ≤ places
