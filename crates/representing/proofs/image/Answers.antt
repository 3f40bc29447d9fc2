-- `representing::image` meets its contract. The invariant: the points passed hold what stands at their sources. Assumes nothing.
use mathlib.Core.Path.{◌≡◌, sym, ap, ◌∙◌}
use Prim.Native.Nat.{ℕ}
use native.Mathlib.Omega.{arith}
use borrow.Author.Rules.{rules}
use lib.ListN.{length, get_or, length-set}
use Rattle.lists.proofs.Table.{stored_more}
use Rattle.symmetry.specs.Symmetries.{source}
use Rattle.symmetry.proofs.Images.{image_is}
use Rattle.representing.proofs.image.Goals as goal

pub loop-p-preserved : goal.loop-p-preserved
loop-p-preserved c =
    let a = c.args in
    let v : ℕ = get_or a.board c.source.result 0 in (
      length-set c.loop-p.out c.loop-p.p v ∙ c.loop-p.invariant.0,
      stored_more (λ p. get_or a.board (source a.rings a.g p) 0) c.loop-p.out c.loop-p.p v (omega arith)
          (ap (λ (q : ℕ). get_or a.board q 0) c.source.ensures.0) c.loop-p.invariant.1,
    )

pub returns : goal.returns
returns c =
    let a = c.args in
    let l : length a.board ≡ 24 = search rules in
    image_is a.rings a.g a.board c.loop-p.out (c.loop-p.invariant.0 ∙ sym l) (λ k h. c.loop-p.invariant.1 k (omega arith))
