-- `layers::find_source` meets its contract. Assumes nothing.
use native.Mathlib.Omega.{arith}
use Rattle.layers.proofs.Marked.{source_all, source_none, source_first}
use borrow.Author.Rules.{rules}
use Rattle.layers.proofs.find_source.Goals as goal

pub returns-then-depth-eq0 : goal.returns-then-depth-eq0
returns-then-depth-eq0 c =
    let a = c.args in
    source_all a.layer.source a.layer.depth a.tablebase.now a.r a.size c.requires.0 c.if-source-lt3.true c.if-depth-eq0.true

pub returns-then-source-lt3 : goal.returns-then-source-lt3
returns-then-source-lt3 c =
    let a = c.args in
    source_none a.layer.source a.layer.depth a.tablebase.now a.r a.size c.requires.0 c.if-source-lt3.true c.if-depth-eq0.false

pub overflow_add-start : goal.overflow_add-start
overflow_add-start c = omega (arith, c.requires.0, c.requires.1 (omega (arith, c.if-source-lt3.false)))

pub overflow_add-start-2 : goal.overflow_add-start-2
overflow_add-start-2 c = omega (arith, c.requires.0, c.requires.1 (omega (arith, c.if-source-lt3.false)))

pub find-requires : goal.find-requires
find-requires c = (omega (arith, c.requires.0), c.requires.1 (omega (arith, c.if-source-lt3.false)))

pub returns : goal.returns
returns c =
    let a = c.args in
    source_first a.layer.source a.layer.depth a.tablebase.now a.r a.size c.requires.0 (omega (arith, c.if-source-lt3.false))
    c.find.result c.find.ensures
