-- The marks of a level: an open board of the table before a picked one of the depth below is marked. Assumes nothing.
use mathlib.Core.Path.{◌≡◌, sym, subst, ◌∙◌}
use mathlib.Core.Bool.{Bool, true, false}
use mathlib.Core.List.{List, Memᴰ}
use mathlib.Core.Logic.{inl, inr}
use Prim.Native.Nat.{ℕ, ◌+◌, ◌-◌, ◌*◌, ◌≤◌, ◌<◌}
use native.Mathlib.Omega.{arith}
use lib.ListN.{length, get_or}
use borrow.Author.Tests.{eq-eqb, lt-ltb, le-ltb}
use Rattle.sizes.specs.Size.{size}
use Rattle.ranking.specs.Rank.{rank}
use Rattle.rules.specs.Predecessors.{predecessors}
use Rattle.game.specs.Game.{draw_entry, void_entry}
use Rattle.outcomes.proofs.Ranked.{InTable, rank_in, unrank_of}
use Rattle.tables.specs.declared.Table.{Table}
use Rattle.layers.specs.declared.Source.{Source}
use Rattle.deciding.specs.Inner.Fits.{Fits}
use Rattle.sweeping.proofs.Sources.{same_leads, lower_leads}
use Rattle.sweeping.specs.Inner.Levels.{same_source, lower_source, level_marks}
use Rattle.layers.specs.Inner.Layers.{is_source, marked_from}
use Rattle.levels.proofs.Sources.{MarkedIn, MarkedPart, part_then, closed_still, from_marked, source_same, from_closed}

module _ (rings : ℕ) (t : Table) (same level : ℕ) (picked : List ℕ → Bool) (low : level < void_entry) (three : 3 ≤ t.opponent) (clean : List ℕ)
    (fits : Fits (length clean) rings t same) where
  abbrev own : ℕ
  own = size (8 * rings) t.mover t.opponent

  abbrev once : List ℕ
  once = marked_from rings t.own.start (same_source t same) false (level - 1) picked clean (size (8 * rings) t.opponent t.mover)

  once_marked : MarkedPart t.own.start own clean once
  once_marked =
      from_marked rings t (same_source t same) false (same_leads t same) (level - 1) (omega arith) picked clean
      (size (8 * rings) t.opponent t.mover) (omega arith)

  rest_marked : MarkedPart t.own.start own once (level_marks rings t same level picked clean)
  unfolding level_marks
  rest_marked =
      from_marked rings t (lower_source t) true (lower_leads t three) (level - 1) (omega arith) picked once
      (size (8 * rings) (t.opponent - 1) t.mover) (omega arith)

  pub all_marked : MarkedPart t.own.start own clean (level_marks rings t same level picked clean)
  all_marked = part_then once_marked rest_marked

  -- an open board before a picked one of the depth below is marked
  module _ (p : List ℕ) (i : InTable rings t.mover t.opponent p) (blank : get_or clean (t.own.start + rank p) 0 ≡ draw_entry) where
    fits_in : t.own.start + rank p < length clean
    fits_in = omega (arith, fits.end_is, fits.room, rank_in rings t.mover t.opponent p i)

    closed_marked : (get_or (level_marks rings t same level picked clean) (t.own.start + rank p) 0 ≡ draw_entry → ⊥)
        → get_or (level_marks rings t same level picked clean) (t.own.start + rank p) 0 ≡ void_entry
    closed_marked c = go (all_marked.at (t.own.start + rank p))
      where
        go : MarkedIn t.own.start own clean (level_marks rings t same level picked clean) (t.own.start + rank p)
            → get_or (level_marks rings t same level picked clean) (t.own.start + rank p) 0 ≡ void_entry
        go (inl e) = absurd (c (e ∙ blank))
        go (inr e) = e.1

    pub same_found : (q : List ℕ) → InTable rings t.opponent t.mover q → Memᴰ p (predecessors false rings q) → picked q ≡ true
        → is_source (same_source t same) (level - 1) clean (rank q) ≡ true
        → get_or (level_marks rings t same level picked clean) (t.own.start + rank p) 0 ≡ void_entry
    same_found q j f c e =
        let back = sym (unrank_of rings t.opponent t.mover q j) in
        closed_marked (closed_still rest_marked (t.own.start + rank p)
        (from_closed rings t (same_source t same) false (same_leads t same) (level - 1) (omega arith) picked clean
        (size (8 * rings) t.opponent t.mover) (omega arith)
        (rank q) (rank_in rings t.opponent t.mover q j) e (subst (λ (b : List ℕ). picked b ≡ true) back c) p
        (subst (λ (b : List ℕ). Memᴰ p (predecessors false rings b)) back f) fits_in))

    pub lower_found : (q : List ℕ) → InTable rings (t.opponent - 1) t.mover q → Memᴰ p (predecessors true rings q) → picked q ≡ true
        → is_source (lower_source t) (level - 1) clean (rank q) ≡ true
        → get_or (level_marks rings t same level picked clean) (t.own.start + rank p) 0 ≡ void_entry
    unfolding level_marks
    lower_found q j f c e =
        let back = sym (unrank_of rings (t.opponent - 1) t.mover q j) in
        closed_marked (from_closed rings t (lower_source t) true (lower_leads t three) (level - 1) (omega arith) picked once
        (size (8 * rings) (t.opponent - 1) t.mover)
        (omega arith) (rank q) (rank_in rings (t.opponent - 1) t.mover q j)
        (source_same rings t (lower_source t) true (lower_leads t three) (level - 1) (omega arith) picked t.own.start own clean once once_marked
        (rank q) ∙ e)
        (subst (λ (b : List ℕ). picked b ≡ true) back c) p
        (subst (λ (b : List ℕ). Memᴰ p (predecessors true rings b)) back f)
        (omega (arith, fits_in, once_marked.same_length)))

-- a position of the depth, stored or not
pub source_stored : (s : Source) (depth : ℕ) (now : List ℕ) (r : ℕ) → 3 ≤ s.mover → get_or now (s.start + r) 0 ≡ depth → is_source s depth now r ≡ true
unfolding is_source
source_stored s depth now r h e = rw (le-ltb s.mover 3 h, is_source) (eq-eqb (get_or now (s.start + r) 0) depth e)

pub source_two : (s : Source) (depth : ℕ) (now : List ℕ) (r : ℕ) → s.mover < 3 → depth ≡ 0 → is_source s depth now r ≡ true
unfolding is_source
source_two s depth now r h e = rw (lt-ltb s.mover 3 h, is_source) (eq-eqb depth 0 e)
