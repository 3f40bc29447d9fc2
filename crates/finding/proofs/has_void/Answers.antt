-- `finding::has_void` meets its contract. The invariant: what the entries passed say, and those that are left. Assumes nothing.
use Rattle.std.proofs.Common.{◌≡◌, ℕ, suc, Bool, true, false, ◌||◌, eqb, get_or, length, drop, sym, refl, ap, ◌∙◌, arith, drop-cons, add-one}
use lib.Seq.{drop-length}
use Rattle.lists.specs.Lists.{any}
use Rattle.game.specs.Game.{void_entry}
use Rattle.finding.proofs.has_void.Goals as goal

-- one entry more
step : (a b c : Bool) → ((a || b) || c) ≡ (b || elim a [ true ↦ true | false ↦ c ])
step true true c = refl
step true false c = refl
step false true c = refl
step false false c = refl

none : (b : Bool) → b ≡ (b || false)
none true = refl
none false = refl

pub loop-e-preserved : goal.loop-e-preserved
loop-e-preserved c =
    let p = c.args.part.now in
    let i : ℕ = c.loop-e.e-index in
    let f = c.loop-e.found in
    ap (λ (k : ℕ). (eqb (get_or p i 0) void_entry || f) || any (λ e. eqb e void_entry) (drop k p)) (add-one i)
    ∙ step (eqb (get_or p i 0) void_entry) f (any (λ e. eqb e void_entry) (drop (suc i) p))
    ∙ sym (ap (λ l. f || any (λ e. eqb e void_entry) l) (drop-cons p i 0 (omega arith))) ∙ c.loop-e.invariant

pub returns : goal.returns
returns c =
    let p = c.args.part.now in
    let e : c.loop-e.e-index ≡ length p = omega arith in
    none c.loop-e.found ∙ rw (e, drop-length p) at c.loop-e.invariant
