-- The marks of a level: only open places of the table are marked, the depths stand where they stood, and every position before a picked one of the
-- depth below is marked or not open. Assumes nothing.
use mathlib.Core.Path.{◌≡◌, refl, sym, ap, subst, ◌∙◌}
use mathlib.Core.Bool.{Bool, true, false}
use mathlib.Core.List.{List, Memᴰ}
use mathlib.Core.Logic.{◌⊎◌, inl, inr}
use Prim.Native.Nat.{ℕ, zero, suc, ◌+◌, ◌*◌, ◌≤◌, ◌<◌}
use native.Mathlib.Decide.{ℕ_discrete}
use native.Mathlib.Omega.{arith}
use lib.Dec.{eqb, ltb}
use lib.ListN.{length, get_or}
use borrow.Author.Tests.{ne_eqb}
use Rattle.lists.proofs.Members.{map_member, member_map}
use Rattle.board.specs.Board.{digit}
use Rattle.sizes.specs.Size.{size}
use Rattle.ranking.specs.Rank.{rank}
use Rattle.ranking.specs.Unrank.{unrank}
use Rattle.rules.specs.Predecessors.{predecessors}
use Rattle.rules.proofs.Found.{predecessor_of}
use Rattle.game.specs.Game.{draw_entry, void_entry}
use Rattle.outcomes.proofs.Ranked.{InTable, unrank_in, rank_in}
use Rattle.marks.specs.Inner.Marks.{marked, places}
use Rattle.marks.proofs.Marks.{marked_length, marked_at, marked_closed}
use Rattle.tables.specs.declared.Table.{Table}
use Rattle.layers.specs.declared.Source.{Source}
use Rattle.sweeping.specs.Inner.Levels.{LeadsTo}
use Rattle.layers.specs.Inner.Layers.{is_source, gone_back, marked_place, marked_from}

-- an entry is as it was, or a mark in place of draw at one of n places
abbrev pub MarkedIn : ℕ → ℕ → List ℕ → List ℕ → ℕ → Type 0
MarkedIn start n old new j =
    (get_or new j 0 ≡ get_or old j 0) ⊎ ((get_or old j 0 ≡ draw_entry) × (get_or new j 0 ≡ void_entry) × ((r : ℕ) × (r < n) × (start + r ≡ j)))

pub record MarkedPart (start n : ℕ) (old new : List ℕ) : Type 0 where
  pub same_length : length new ≡ length old
  pub at : (j : ℕ) → MarkedIn start n old new j

pub part_none : (start n : ℕ) (l : List ℕ) → MarkedPart start n l l
part_none start n l = record { same_length = refl; at = λ j. inl refl }

pub part_then : {start n : ℕ} {a b c : List ℕ} → MarkedPart start n a b → MarkedPart start n b c → MarkedPart start n a c
part_then {start} {n} {a} {b} {c} v w = record { same_length = w.same_length ∙ v.same_length; at = λ j. go j (v.at j) (w.at j) }
  where
    go : (j : ℕ) → MarkedIn start n a b j → MarkedIn start n b c j → MarkedIn start n a c j
    go j (inl e) (inl f) = inl (f ∙ e)
    go j (inl e) (inr f) = inr (sym e ∙ f.0, f.1, f.2)
    go j (inr e) (inl f) = inr (e.0, f ∙ e.1, e.2)
    go j (inr e) (inr f) = absurd (omega (arith, e.1, f.0))

-- what is closed stays closed
pub closed_still : {start n : ℕ} {a b : List ℕ} → MarkedPart start n a b → (j : ℕ) → (get_or a j 0 ≡ draw_entry → ⊥) → get_or b j 0 ≡ draw_entry → ⊥
closed_still {start} {n} {a} {b} w j c d = go (w.at j)
  where
    go : MarkedIn start n a b j → ⊥
    go (inl e) = c (sym e ∙ d)
    go (inr e) = c e.0

module _ (rings : ℕ) (t : Table) (s : Source) (capture : Bool) (leads : LeadsTo t s capture) (depth : ℕ) (low : depth < void_entry)
    (picked : List ℕ → Bool) where
  abbrev own : ℕ
  own = size (8 * rings) t.mover t.opponent

  abbrev theirs : ℕ
  theirs = size (8 * rings) s.mover s.opponent

  abbrev board : ℕ → List ℕ
  board r = unrank (8 * rings) s.mover s.opponent r

  -- a board before one of table s is of table t
  pub before_in : (r : ℕ) → r < theirs → (b : List ℕ) → Memᴰ b (predecessors capture rings (board r)) → InTable rings t.mover t.opponent b
  before_in r h b m =
      let w = unrank_in rings s.mover s.opponent r h in
      let p = predecessor_of capture rings (board r) w.values w.points b m in
      record {
        values = p.values;
        points = p.points;
        mover = p.mover ∙ w.opponent ∙ leads.mover_is;
        opponent = p.opponent ∙ ap (λ (n : ℕ). n + digit capture) w.mover ∙ leads.opponent_is;
      }

  boards_marked : (r : ℕ) → r < theirs → (tablebase : List ℕ)
      → MarkedPart t.own.start own tablebase (marked (places t.own.start (predecessors capture rings (board r))) tablebase)
  boards_marked r h tablebase = record {
    same_length = marked_length js tablebase;
    at = λ j. go j (marked_at js tablebase j);
  }
    where
      js : List ℕ
      js = places t.own.start (predecessors capture rings (board r))

      go : (j : ℕ)
          → (get_or (marked js tablebase) j 0 ≡ get_or tablebase j 0)
          ⊎ ((get_or tablebase j 0 ≡ draw_entry) × (get_or (marked js tablebase) j 0 ≡ void_entry) × Memᴰ j js)
          → MarkedIn t.own.start own tablebase (marked js tablebase) j
      go j (inl e) = inl e
      go j (inr e) =
          let b = map_member (λ c. t.own.start + rank c) (predecessors capture rings (board r)) e.2 in
          inr (e.0, e.1, (rank b.0, rank_in rings t.mover t.opponent b.0 (before_in r h b.0 b.1), sym b.2))

  gone_marked : (r : ℕ) → r < theirs → (tablebase : List ℕ)
      → MarkedPart t.own.start own tablebase (gone_back rings t.own.start capture picked (board r) tablebase)
  unfolding gone_back
  gone_marked r h tablebase = go (picked (board r)) refl
    where
      go : (b : Bool) → picked (board r) ≡ b → MarkedPart t.own.start own tablebase (gone_back rings t.own.start capture picked (board r) tablebase)
      go true e = rw (e, gone_back) (boards_marked r h tablebase)
      go false e = rw (e, gone_back) (part_none t.own.start own tablebase)

  place_marked : (r : ℕ) → r < theirs → (tablebase : List ℕ)
      → MarkedPart t.own.start own tablebase (marked_place rings t.own.start s capture depth picked tablebase r)
  unfolding marked_place
  place_marked r h tablebase = go (is_source s depth tablebase r) refl
    where
      go : (b : Bool) → is_source s depth tablebase r ≡ b
          → MarkedPart t.own.start own tablebase (marked_place rings t.own.start s capture depth picked tablebase r)
      go true e = rw (e, marked_place) (gone_marked r h tablebase)
      go false e = rw (e, marked_place) (part_none t.own.start own tablebase)

  pub from_marked : (tablebase : List ℕ) (n : ℕ) → n ≤ theirs
      → MarkedPart t.own.start own tablebase (marked_from rings t.own.start s capture depth picked tablebase n)
  unfolding marked_from
  from_marked tablebase zero h = part_none t.own.start own tablebase
  from_marked tablebase (suc n) h =
      part_then (from_marked tablebase n (omega arith)) (place_marked n h (marked_from rings t.own.start s capture depth picked tablebase n))

  -- marks do not change which positions have the depth
  pub source_same : (start n : ℕ) (a b : List ℕ) → MarkedPart start n a b → (r : ℕ)
      → is_source s depth b r ≡ is_source s depth a r
  unfolding is_source
  source_same start n a b w r = ap (λ (x : Bool). elim (ltb s.mover 3) as (λ c. Bool) [ true ↦ eqb depth 0 | false ↦ x ]) (go (w.at (s.start + r)))
    where
      go : MarkedIn start n a b (s.start + r) → eqb (get_or b (s.start + r) 0) depth ≡ eqb (get_or a (s.start + r) 0) depth
      go (inl e) = ap (λ (x : ℕ). eqb x depth) e
      go (inr e) = rw (e.0, e.1) (ne_eqb void_entry depth (λ q. omega arith) ∙ sym (ne_eqb draw_entry depth (λ q. omega arith)))

  -- every board before a picked one of that depth is closed in the end
  place_closed : (tablebase : List ℕ) (r : ℕ) → is_source s depth tablebase r ≡ true → picked (board r) ≡ true
      → (b : List ℕ) → Memᴰ b (predecessors capture rings (board r)) → t.own.start + rank b < length tablebase
      → get_or (marked_place rings t.own.start s capture depth picked tablebase r) (t.own.start + rank b) 0 ≡ draw_entry → ⊥
  unfolding marked_place gone_back
  place_closed tablebase r e f b m h = rw (e, f, marked_place, gone_back)
      (marked_closed (places t.own.start (predecessors capture rings (board r))) tablebase (t.own.start + rank b)
      (member_map (λ c. t.own.start + rank c) (predecessors capture rings (board r)) m) h)

  pub from_closed : (tablebase : List ℕ) (n : ℕ) → n ≤ theirs → (r : ℕ) → r < n → is_source s depth tablebase r ≡ true → picked (board r) ≡ true
      → (b : List ℕ) → Memᴰ b (predecessors capture rings (board r)) → t.own.start + rank b < length tablebase
      → get_or (marked_from rings t.own.start s capture depth picked tablebase n) (t.own.start + rank b) 0 ≡ draw_entry → ⊥
  unfolding marked_from
  from_closed tablebase zero h r l e p b m f d = omega arith
  from_closed tablebase (suc n) h r l e p b m f d = go (ℕ_discrete r n) (λ k. from_closed tablebase n (omega arith) r k e p b m f)
    where
      w : MarkedPart t.own.start own tablebase (marked_from rings t.own.start s capture depth picked tablebase n)
      w = from_marked tablebase n (omega arith)

      go : Dec (r ≡ n) → (r < n → get_or (marked_from rings t.own.start s capture depth picked tablebase n) (t.own.start + rank b) 0 ≡ draw_entry → ⊥) → ⊥
      go (no k) lower =
          closed_still (place_marked n h (marked_from rings t.own.start s capture depth picked tablebase n)) (t.own.start + rank b)
          (lower (omega (arith, k))) d
      go (yes q) lower =
          place_closed (marked_from rings t.own.start s capture depth picked tablebase n) n
          (source_same t.own.start own tablebase (marked_from rings t.own.start s capture depth picked tablebase n) w n
          ∙ subst (λ (i : ℕ). is_source s depth tablebase i ≡ true) q e)
          (subst (λ (i : ℕ). picked (board i) ≡ true) q p)
          b (subst (λ (i : ℕ). Memᴰ b (predecessors capture rings (board i))) q m) (omega (arith, w.same_length)) d
