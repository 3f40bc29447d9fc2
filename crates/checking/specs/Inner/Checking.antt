-- What the check of a tablebase asks of its caller, and what it answers of a list of boards. Assumes nothing.
use Rattle.std.specs.Prelude.{◌≡◌, Bool, true, false, Result, Ok, Err, List, ℕ, ◌*◌, ◌≤◌, ◌<◌}
use Rattle.lists.specs.Lists.{all}
use Rattle.board.specs.Board.{position_of}
use Rattle.sizes.specs.Size.{size}
use Rattle.ranking.specs.Unrank.{unrank}
use Rattle.layout.specs.Layout.{start, tablebase_length}
use Rattle.tables.specs.declared.Table.{Table}
use Rattle.tables.specs.Inner.Tables.{Located}
use Rattle.seeking.specs.declared.Cursor.{Cursor}
use Rattle.certificate.specs.Certificate.{passing}
use Rattle.checking.specs.declared.Kind.{Kind}

-- a tablebase of a length, whole for its kind
pub record Whole (length : ℕ) (kind : Kind) : Type 0 where
  pub small : kind.rings ≤ 3
  pub largest_low : 3 ≤ kind.k
  pub largest_high : kind.k ≤ 9
  pub exact : length ≡ tablebase_length (8 * kind.rings) kind.k

-- t is table (m, o), and the table of its successors without a removal starts at `same`
pub record TableOf (kind : Kind) (m o : ℕ) (t : Table) (same : ℕ) : Type 0 where
  pub bounds : (3 ≤ m) × (m ≤ kind.k) × (3 ≤ o) × (o ≤ kind.k)
  pub located : Located (8 * kind.rings) kind.k m o t
  pub same_is : same ≡ start (8 * kind.rings) kind.k o m

-- a cursor stands at a position of table t
pub record StandsIn (kind : Kind) (t : Table) (at : Cursor) : Type 0 where
  pub rank_low : at.rank < size (8 * kind.rings) t.mover t.opponent
  pub position_is : at.position ≡ position_of (unrank (8 * kind.rings) t.mover t.opponent at.rank)

-- what is answered: how many entries are right before the first that is not, or how many there are
abbrev pub count_of : Result ℕ ℕ → ℕ
count_of (Ok n) = n
count_of (Err n) = n

-- and whether all are right
abbrev pub all_of : Result ℕ ℕ → Bool
all_of (Ok n) = true
all_of (Err n) = false

pub record Tested (f : List ℕ → Bool) (boards : List (List ℕ)) (answer : Result ℕ ℕ) : Type 0 where
  pub count_is : count_of answer ≡ passing f boards
  pub all_is : all_of answer ≡ all f boards
