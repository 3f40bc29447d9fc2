-- The whole game on the boards that a tablebase reaches: a mover with two stones has lost, else the plies decide. Where the tables hold true entries,
-- so is the entry by which a successor is judged, and none of a board's successors is void. Assumes nothing.
use mathlib.Core.Path.{◌≡◌, refl, sym, subst, subst₂, ◌∙◌}
use mathlib.Core.Bool.{Bool, true, false}
use mathlib.Core.List.{List, Memᴰ}
use mathlib.Core.Logic.{◌⊎◌, inl, inr, ⊎_elim}
use Prim.Native.Nat.{ℕ, ◌*◌, ◌≤◌, ◌<◌}
use native.Mathlib.Omega.{arith}
use lib.Dec.{ltb}
use borrow.Author.Tests.{ltb-true, ltb-false, lt-ltb, le-ltb, ne_eqb}
use Rattle.lists.proofs.Tests.{none_any}
use Rattle.board.specs.Board.{count}
use Rattle.ranking.specs.Rank.{rank}
use Rattle.layout.proofs.OneToOne.{InRange, table_listed}
use Rattle.rules.specs.Ply.{Rule, successors}
use Rattle.rules.proofs.Leads.{Reached, successor_reached}
use Rattle.rules.proofs.Listed.{TakesOpponent}
use Rattle.game.specs.Game.{live, ends, drawn, void_entry}
use Rattle.game.proofs.Depths.{ends_depth}
use Rattle.game.proofs.Tables.{Ground, Seeded}
use Rattle.outcomes.specs.Places.{entry_at, successor_entry, is_void, successor_void}
use Rattle.outcomes.specs.Whole.{whole_seed, TrueEntry}
use Rattle.outcomes.specs.Filled.{AllTables}
use Rattle.outcomes.specs.Order.{TrueEntries}
use Rattle.outcomes.proofs.Boards.{InTables}
use Rattle.outcomes.proofs.Ranked.{in_tables, own_table, rank_in, unrank_of}
use Rattle.outcomes.proofs.Entries.{entry_rank, entry_two, entry_three}

pub whole_two : (b : List ℕ) → count 1 b < 3 → whole_seed b ≡ ends 0
unfolding whole_seed
whole_two b h = rw (lt-ltb (count 1 b) 3 h, whole_seed)

pub whole_live : (b : List ℕ) → 3 ≤ count 1 b → whole_seed b ≡ live
unfolding whole_seed
whole_live b h = rw (le-ltb (count 1 b) 3 h, whole_seed)

-- one or the other
two_or_three : (b : List ℕ) → (count 1 b < 3) ⊎ (3 ≤ count 1 b)
two_or_three b = go (ltb (count 1 b) 3) refl
  where
    go : (t : Bool) → ltb (count 1 b) 3 ≡ t → (count 1 b < 3) ⊎ (3 ≤ count 1 b)
    go true e = inl (ltb-true (count 1 b) 3 e)
    go false e = inr (ltb-false (count 1 b) 3 e)

pub whole_cases : (b : List ℕ) → (whole_seed b ≡ live) ⊎ (whole_seed b ≡ ends 0)
whole_cases b = ⊎_elim (λ h. inr (whole_two b h)) (λ h. inl (whole_live b h)) (two_or_three b)

pub live_three : (b : List ℕ) → whole_seed b ≡ live → 3 ≤ count 1 b
live_three b e = ⊎_elim (λ h. clash (sym (whole_two b h) ∙ e)) (λ h. h) (two_or_three b)
  where
    clash : ends 0 ≡ live → 3 ≤ count 1 b
    clash z = let f : ◌≡◌ {A = ℕ} 0 1 = cc in absurd (omega arith)

-- where the plies decide, they lead to boards that a tablebase reaches
pub whole_closed : (rule : Rule) → TakesOpponent rule → (rings k : ℕ) → rings ≤ 3 → (b : List ℕ) → Reached rings k b → whole_seed b ≡ live
    → (c : List ℕ) → Memᴰ c (successors rule rings b)
    → Reached rings k c
whole_closed rule takes rings k small b w e = successor_reached rule takes rings k small b w (live_three b e)

-- those boards are closed under plies, and the given endings on them have their entries in every tablebase
module _ (rule : Rule) (takes : TakesOpponent rule) (rings k : ℕ) where
  -- what is given is a loss in 0
  ends_zero : (b : List ℕ) {d : ℕ} → whole_seed b ≡ ends d → (count 1 b < 3) × (d ≡ 0)
  ends_zero b {d} e = ⊎_elim (λ h. (h, same (sym e ∙ whole_two b h))) (λ h. clash (sym (whole_live b h) ∙ e)) (two_or_three b)
    where
      same : ends d ≡ ends 0 → d ≡ 0
      same z = cc

      clash : live ≡ ends d → (count 1 b < 3) × (d ≡ 0)
      clash z = let f : ◌≡◌ {A = ℕ} 0 1 = cc in absurd (omega arith)

  never_drawn : {C : Type 0} (b : List ℕ) → whole_seed b ≡ drawn → C
  never_drawn {C} b e = ⊎_elim (λ h. two (sym (whole_two b h) ∙ e)) (λ h. three (sym (whole_live b h) ∙ e)) (two_or_three b)
    where
      two : ends 0 ≡ drawn → C
      two z = let f : ◌≡◌ {A = ℕ} 0 1 = cc in absurd (omega arith)

      three : live ≡ drawn → C
      three z = let f : ◌≡◌ {A = ℕ} 0 1 = cc in absurd (omega arith)

  pub whole_ground : rings ≤ 3 → Ground (successors rule rings) (λ b. whole_seed b) (Reached rings k)
  whole_ground small = record {
    closed = λ b w e c m. whole_closed rule takes rings k small b w e c m;
    given_low = λ b w e. omega (arith, (ends_zero b e).1);
  }

  pub whole_seeded : (tablebase : List ℕ) → Seeded (successors rule rings) (λ b. whole_seed b) (Reached rings k) (λ b. successor_entry rings k tablebase b)
  whole_seeded tablebase = record {
    at_end = λ b w e. let (h, z) = ends_zero b e in entry_two rings k tablebase b h ∙ sym z;
    at_draw = λ b w e. never_drawn b e;
  }

-- a board of a table that holds true entries
pub table_true : (rule : Rule) → (rings k : ℕ) (T : ℕ → ℕ → Type 0) (tablebase : List ℕ) → TrueEntries rule rings k T tablebase → (b : List ℕ)
    → InTables rings k b → T (count 1 b) (count 2 b) → TrueEntry rule rings b (entry_at rings k tablebase b)
table_true rule rings k T tablebase entries b s t =
    let w = own_table rings k b s in
    subst₂ (λ (c : List ℕ) (e : ℕ). TrueEntry rule rings c e) (unrank_of rings (count 1 b) (count 2 b) b w) (entry_rank rings k tablebase b)
    (entries (count 1 b) (count 2 b) (rank b) t (rank_in rings (count 1 b) (count 2 b) b w))

-- a true entry is not void
pub not_void : (rule : Rule) → (rings : ℕ) (b : List ℕ) (e : ℕ) → TrueEntry rule rings b e → is_void e ≡ false
not_void rule rings b e (inl a) = ne_eqb e void_entry (λ z. omega (arith, a.0))
not_void rule rings b e (inr a) = ne_eqb e void_entry (λ z. omega (arith, a.0))

pub board_reached : (rings k : ℕ) (b : List ℕ) → InTables rings k b → Reached rings k b
board_reached rings k b s = record {
  values = s.values;
  points = s.points;
  mover_low = omega (arith, s.is_table.mover_low);
  mover_high = s.is_table.mover_high;
  opponent_low = s.is_table.opponent_low;
  opponent_high = s.is_table.opponent_high;
}

-- and one that it reaches, with three stones or more, is a board of it
pub reached_board : (rings k : ℕ) (b : List ℕ) → Reached rings k b → 3 ≤ count 1 b → InTables rings k b
reached_board rings k b w h =
    let r : InRange k (count 1 b) (count 2 b) = record {
      mover_low = h;
      mover_high = w.mover_high;
      opponent_low = w.opponent_low;
      opponent_high = w.opponent_high;
    } in
    in_tables rings k b w.values w.points r

-- a tablebase that holds the true entries
module _ (rule : Rule) (takes : TakesOpponent rule) (rings k : ℕ) (tablebase : List ℕ)
    (entries : TrueEntries rule rings k (AllTables rings k) tablebase) where
  pub board_true : (b : List ℕ) → InTables rings k b → TrueEntry rule rings b (entry_at rings k tablebase b)
  board_true b s =
      table_true rule rings k (AllTables rings k) tablebase entries b s (table_listed (8 * rings) k (count 1 b) (count 2 b) s.is_table)

  pub reached_true : (b : List ℕ) → Reached rings k b → TrueEntry rule rings b (successor_entry rings k tablebase b)
  reached_true b w = ⊎_elim two three (two_or_three b)
    where
      two : count 1 b < 3 → TrueEntry rule rings b (successor_entry rings k tablebase b)
      two h =
          subst (λ (e : ℕ). TrueEntry rule rings b e) (sym (entry_two rings k tablebase b h))
          (inl (omega arith, ends_depth (successors rule rings) (λ c. whole_seed c) b (whole_two b h)))

      three : 3 ≤ count 1 b → TrueEntry rule rings b (successor_entry rings k tablebase b)
      three h = subst (λ (e : ℕ). TrueEntry rule rings b e) (sym (entry_three rings k tablebase b h)) (board_true b (reached_board rings k b w h))

  -- no successor of a board of the tablebase is void
  pub successors_told : rings ≤ 3 → (b : List ℕ) → InTables rings k b → successor_void rule rings k tablebase b ≡ false
  unfolding successor_void
  successors_told small b s =
      none_any (λ c. is_void (successor_entry rings k tablebase c)) (successors rule rings b) (λ c m.
      not_void rule rings c (successor_entry rings k tablebase c)
      (reached_true c (whole_closed rule takes rings k small b (board_reached rings k b s) (whole_live b s.is_table.mover_low) c m)))
