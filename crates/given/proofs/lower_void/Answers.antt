-- `given::lower_void` meets its contract. Assumes nothing.
use mathlib.Core.Path.{sym, ap₂, ◌∙◌}
use mathlib.Core.Bool.{Bool, ◌||◌}
use Rattle.outcomes.proofs.Voids.{lower_void_lem}
use Rattle.filling.proofs.PairTables.{turned_pair}
use Rattle.filling.proofs.NextLevel.{lower_room}
use Rattle.given.proofs.LowerVoid.{lower_part_void}
use lib.ListN.{length}
use borrow.Author.Rules.{rules}
use Rattle.given.proofs.lower_void.Goals as goal

pub returns : goal.returns
returns c =
    let a = c.args in
    ap₂ (λ (x y : Bool). x || y)
    (c.void_within.ensures ∙ lower_part_void a.rings a.k a.m a.o c.table_of-first.result
    c.table_of-first.ensures c.requires.0.opponent_low a.tablebase.now)
    (c.void_within-2.ensures ∙ lower_part_void a.rings a.k a.o a.m c.table_of-second.result
    c.table_of-second.ensures c.requires.0.mover_low a.tablebase.now)
    ∙ sym (lower_void_lem a.rings a.k a.tablebase.now a.m a.o)

pub void_within-requires : goal.void_within-requires
void_within-requires c =
    lower_room c.args.rings c.args.k c.args.m c.args.o c.table_of-first.result
    c.table_of-first.ensures c.requires.0
    (length c.args.tablebase.now) c.requires.2

pub void_within-requires-2 : goal.void_within-requires-2
void_within-requires-2 c =
    lower_room c.args.rings c.args.k c.args.o c.args.m c.table_of-second.result
    c.table_of-second.ensures (turned_pair c.requires.0)
    (length c.args.tablebase.now) c.requires.2
