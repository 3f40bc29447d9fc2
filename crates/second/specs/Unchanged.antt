-- Where the second solver answers that it did not solve, a lent buffer is as it was. Assumes nothing.
use Rattle.std.specs.Prelude.{Bool, true, false, ◌≡◌, List, ℕ}

-- whether it solved, the buffer at entry, the buffer at exit
abbrev pub UnchangedUnless : Bool → List ℕ → List ℕ → Type 0
UnchangedUnless true before after = Unit {0}
UnchangedUnless false before after = after ≡ before
