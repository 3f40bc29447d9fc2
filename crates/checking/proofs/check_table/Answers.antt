-- `checking::check_table` meets its contract. The invariant: the ranks passed have right entries. Assumes nothing.
use mathlib.Core.Path.{◌≡◌, sym, ap, subst, ◌∙◌}
use mathlib.Core.Bool.{Bool}
use mathlib.Core.List.{List, [], ◌∷◌}
use Prim.Native.Nat.{ℕ, ◌+◌, ◌-◌, ◌*◌}
use native.Mathlib.Omega.{arith}
use Rattle.sizes.specs.Size.{size as size_of}
use Rattle.ranking.specs.Unrank.{unrank}
use Rattle.layout.specs.Layout.{table as table_of}
use Rattle.layout.proofs.OneToOne.{end_is}
use Rattle.rules.specs.Ply.{removable}
use Rattle.tables.specs.declared.Table.{Table}
use Rattle.tables.specs.Inner.Tables.{Located}
use Rattle.seeking.proofs.Positions.{stands_at}
use Rattle.certificate.specs.Certificate.{boards_of, entry_right}
use Rattle.certificate.proofs.Passing.{Going, parts_from, going_none, part_passed, part_failed, parts_passed, one_passed, one_failed}
use Rattle.certificate.proofs.Boards.{all_ranks}
use Rattle.checking.proofs.Places.{table_is, stands_in, board_here}
use Rattle.checking.proofs.check_table.Goals as goal
use Rattle.checking.proofs.check_table.Goals.{After-nowhere-at, After-place_right}

abbrev test : (c : After-nowhere-at) → List ℕ → Bool
test c = let a = c.args in entry_right (removable a.kind.edition) a.kind.rings a.kind.k a.tablebase.now

abbrev tested : (c : After-nowhere-at) → List (List ℕ)
tested c = let a = c.args in boards_of (8 * a.kind.rings) (table_of a.m a.o)

abbrev board : (c : After-nowhere-at) → ℕ → List ℕ
board c i = let a = c.args in unrank (8 * a.kind.rings) a.m a.o i

abbrev part : (c : After-nowhere-at) → ℕ → List (List ℕ)
part c i = board c i ∷ []

-- the table, and its size
abbrev own : (c : After-nowhere-at) → Table
own c = c.table_of-table.result

abbrev entries : (c : After-nowhere-at) → ℕ
entries c = (own c).own.end - (own c).own.start

located : (c : After-nowhere-at)
    → Located (8 * c.args.kind.rings) c.args.kind.k c.args.m c.args.o (own c)
located c = c.table_of-table.ensures

said : (c : After-place_right)
    → c.place_right.result
    ≡ entry_right (removable c.args.kind.edition) c.args.kind.rings c.args.kind.k c.args.tablebase.now
    (unrank (8 * c.args.kind.rings) c.args.m c.args.o c.loop-r.r)
said c =
    let a = c.args in
    c.place_right.ensures
    ∙ ap (entry_right (removable a.kind.edition) a.kind.rings a.kind.k a.tablebase.now)
    (board_here a.kind a.m a.o c.table_of-table.result c.table_of-table.ensures c.seek-at.result c.loop-r.r c.seek-at.ensures.0)

pub returns-then-not-place_right : goal.returns-then-not-place_right
returns-then-not-place_right c =
    let (w, z) = one_failed (test (goal.at.returns-then-not-place_right c).After-nowhere-at) _ (sym (said (goal.at.returns-then-not-place_right c).After-place_right) ∙ c.if-not-place_right.true) in
    let (e, f) = part_failed (part (goal.at.returns-then-not-place_right c).After-nowhere-at) (test (goal.at.returns-then-not-place_right c).After-nowhere-at) (tested (goal.at.returns-then-not-place_right c).After-nowhere-at) c.loop-r.r c.loop-r.r (entries (goal.at.returns-then-not-place_right c).After-nowhere-at) c.loop-r.invariant.2 c.loop-r-test.true w in
    record { count_is = omega (arith, z, e); all_is = f }

pub returns : goal.returns
returns c =
    let (e, f) = parts_passed (part (goal.at.returns c).After-nowhere-at) (test (goal.at.returns c).After-nowhere-at) (tested (goal.at.returns c).After-nowhere-at) c.loop-r.r c.loop-r.r (entries (goal.at.returns c).After-nowhere-at) c.loop-r.invariant.2 (omega (arith, c.loop-r-test.false)) in
    record { count_is = omega arith ∙ e; all_is = f }

pub loop-r-init : goal.loop-r-init
loop-r-init c =
    let a = c.args in
    let e : entries (goal.at.loop-r-init c).After-nowhere-at ≡ size_of (8 * a.kind.rings) a.m a.o =
    omega (arith, (located (goal.at.loop-r-init c).After-nowhere-at).start_is, (located (goal.at.loop-r-init c).After-nowhere-at).end_is, end_is (8 * a.kind.rings) a.kind.k a.m a.o) in (
      e,
      λ h. absurd (omega (arith, c.nowhere-at.ensures)),
      going_none (test (goal.at.loop-r-init c).After-nowhere-at) (tested (goal.at.loop-r-init c).After-nowhere-at) _ (ap (λ (n : ℕ). parts_from (part (goal.at.loop-r-init c).After-nowhere-at) 0 n) e ∙ all_ranks (8 * a.kind.rings) a.m a.o),
    )

pub loop-r-preserved : goal.loop-r-preserved
loop-r-preserved c =
    let a = c.args in
    let h = c.loop-r-test.true in
    let (w, z) = one_passed (test (goal.at.loop-r-preserved c).After-nowhere-at) _ (sym (said (goal.at.loop-r-preserved c).After-place_right) ∙ c.if-not-place_right.false) in
    let k = c.seek-at.ensures in (
      c.loop-r.invariant.0,
      stands_at a.kind.rings a.m a.o (entries (goal.at.loop-r-preserved c).After-nowhere-at) c.loop-r.r c.seek-at.result k.0 k.1,
      subst (λ (i : ℕ). Going (test (goal.at.loop-r-preserved c).After-nowhere-at) (tested (goal.at.loop-r-preserved c).After-nowhere-at) (c.loop-r.r + i) (parts_from (part (goal.at.loop-r-preserved c).After-nowhere-at) (c.loop-r.r + 1) (entries (goal.at.loop-r-preserved c).After-nowhere-at))) z
          (part_passed (part (goal.at.loop-r-preserved c).After-nowhere-at) (test (goal.at.loop-r-preserved c).After-nowhere-at) (tested (goal.at.loop-r-preserved c).After-nowhere-at) c.loop-r.r c.loop-r.r (entries (goal.at.loop-r-preserved c).After-nowhere-at) c.loop-r.invariant.2 h w),
    )

pub overflow_mul-points : goal.overflow_mul-points
overflow_mul-points c = omega (arith, c.requires.whole.0.small)

pub table_of-table-requires : goal.table_of-table-requires
table_of-table-requires c =
    let p = c.requires.whole in (omega (arith, p.0.small), p.0.largest_high, p.1, p.2, p.3, p.4)

pub start-same-requires : goal.start-same-requires
start-same-requires c =
    let p = c.requires.whole in (omega (arith, p.0.small), p.0.largest_high, p.3, p.4, p.1, p.2)

pub overflow_sub-size : goal.overflow_sub-size
overflow_sub-size c =
    let a = c.args in
    let l = c.table_of-table.ensures in
    omega (arith, l.start_is, l.end_is, end_is (8 * a.kind.rings) a.kind.k a.m a.o)

pub seek-at-requires : goal.seek-at-requires
seek-at-requires c =
    let i = c.loop-r.invariant in record { rings_bound = (c.requires.whole.0.small, omega (arith, c.loop-r-test.true, i.0)); stands = λ h. i.1 (omega (arith, c.loop-r-test.true)) }

pub place_right-requires : goal.place_right-requires
place_right-requires c =
    let a = c.args in
    let p = c.requires.whole in
    let t = own (goal.at.place_right-requires c).After-nowhere-at in record {
      masks = c.requires.masks;
      whole = (
        p.0,
        table_is a.kind a.m a.o t (located (goal.at.place_right-requires c).After-nowhere-at) (p.1, p.2, p.3, p.4) c.start-same.result
            c.start-same.ensures.0,
        stands_in a.kind a.m a.o t (located (goal.at.place_right-requires c).After-nowhere-at) c.seek-at.result c.loop-r.r (omega (arith, c.loop-r-test.true, c.loop-r.invariant.0))
            c.seek-at.ensures.0 c.seek-at.ensures.1,
      );
    }
