-- `solver::solve_pair` meets its contract. Assumes nothing.
use mathlib.Core.Path.{◌≡◌, sym, subst}
use Prim.Native.Nat.{ℕ}
use lib.ListN.{length}
use Rattle.outcomes.specs.Pair.{LowerValid}
use Rattle.invariance.specs.Symmetric.{LowerSymmetric}
use Rattle.filling.specs.Inner.Solve.{Setting, PairFill, deep_of}
use Rattle.rules.specs.Ply.{removable}
use Rattle.solver.proofs.solve_pair.Goals as goal

-- what holds of the counts holds of a table's
by-counts : (P : ℕ → ℕ → Type 0) {x y m o : ℕ} → x ≡ m → y ≡ o → P m o → P x y
by-counts P {x} {y} {m} {o} e f p = subst (λ (z : ℕ). P z y) (sym e) (subst (λ (z : ℕ). P m z) (sym f) p)

pub solve_tables-requires : goal.solve_tables-requires
solve_tables-requires c =
    let a = c.args in
    let p = c.requires.pair_given.0 in
    let t = c.table_of-first.ensures in record {
      masks = c.requires.masks;
      pair_solving = record {
        setting = by-counts (λ x y. Setting (length a.tablebase.now) a.bounds.rings a.bounds.k x y c.table_of-first.result
            c.table_of-second.result) t.mover_is t.opponent_is
            record { pair = p.pair; few = p.few; room = p.room; first = t; second = c.table_of-second.ensures };
        valid = by-counts (λ x y. LowerValid a.bounds.rings a.bounds.k x y a.tablebase.now) t.mover_is t.opponent_is p.valid;
        limit_low = p.limit_low;
        used = c.requires.pair_given.1;
        symmetric = by-counts (λ x y. LowerSymmetric a.maps a.bounds.rings a.bounds.k x y a.tablebase.now) t.mover_is t.opponent_is
            c.requires.pair_given.2;
      };
    }

pub returns : goal.returns
returns c =
    let a = c.args in
    let t = c.table_of-first.ensures in
    by-counts (λ x y. PairFill (removable a.bounds.edition) a.bounds.rings a.bounds.k x y a.bounds.limit a.tablebase.now
    c.solve_tables.new.tablebase
    (deep_of c.solve_tables.result))
    (sym t.mover_is) (sym t.opponent_is) c.solve_tables.ensures
