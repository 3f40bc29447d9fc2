-- `plies::choices::unshielded` meets its contract. The invariant: what is there, with the unshielded among the stones left, is the whole. Assumes
-- nothing.
use mathlib.Core.Path.{◌≡◌, sym, ap, ◌∙◌}
use mathlib.Core.Bool.{Bool, not}
use mathlib.Core.List.{List}
use Prim.Native.Nat.{ℕ, ◌^◌, ◌<◌}
use native.Mathlib.Omega.{arith}
use Rattle.lists.specs.Lists.{keep}
use Rattle.sets.specs.Sets.{has, elements, with_all, set_from}
use Rattle.sets.proofs.Elements.{bit_low, elements_none, with_none, with_kept, from_is}
use Rattle.rules.specs.Ply.{in_mill}
use Rattle.plies.proofs.choices.unshielded.Goals as goal

pub loop-left-init : goal.loop-left-init
loop-left-init c =
    let a = c.args in
    (c.requires.side_bound, sym (from_is (keep (λ p. not (in_mill a.rings (λ q. has a.side q) p)) (elements 32 a.side))))

pub take_lowest-p-requires : goal.take_lowest-p-requires
take_lowest-p-requires c = c.loop-left-test.true

pub with_unshielded-s-requires : goal.with_unshielded-s-requires
with_unshielded-s-requires c =
    record { masks = c.requires.masks; p_bound = bit_low 24 c.loop-left.left c.take_lowest-p.result.lowest c.loop-left.invariant.0 c.take_lowest-p.ensures.member }

pub loop-left-smaller : goal.loop-left-smaller
loop-left-smaller c = omega (arith, c.take_lowest-p.ensures.less)

pub loop-left-preserved : goal.loop-left-preserved
loop-left-preserved c =
    let a = c.args in
    let f : ℕ → Bool = λ p. not (in_mill a.rings (λ q. has a.side q) p) in
    let t = c.take_lowest-p.ensures in (
      omega (arith, t.less, c.loop-left.invariant.0),
      ap (λ (s : ℕ). with_all s (keep f (elements 32 c.take_lowest-p.result.rest))) c.with_unshielded-s.ensures
          ∙ sym (with_kept f c.loop-left.s c.take_lowest-p.result.lowest (elements 32 c.take_lowest-p.result.rest))
          ∙ ap (λ (l : List ℕ). with_all c.loop-left.s (keep f l)) (sym t.apart) ∙ c.loop-left.invariant.1,
    )

pub returns : goal.returns
returns c =
    let a = c.args in
    let f : ℕ → Bool = λ p. not (in_mill a.rings (λ q. has a.side q) p) in
    sym (ap (λ (l : List ℕ). with_all c.loop-left.s (keep f l)) (ap (elements 32) c.loop-left-test.false ∙ elements_none 32)
    ∙ with_none c.loop-left.s) ∙ c.loop-left.invariant.1
