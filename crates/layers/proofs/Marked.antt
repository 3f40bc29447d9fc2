-- The ranks of a layer are sought one after the other, those passed over change nothing; and the room for the positions before. Assumes nothing.
use mathlib.Core.Path.{◌≡◌, refl, sym, ap, ◌∙◌}
use mathlib.Core.Bool.{Bool, true, false}
use mathlib.Core.List.{List}
use Prim.Native.Nat.{ℕ, zero, suc, ◌+◌, ◌-◌, ◌*◌, ◌≤◌, ◌<◌}
use native.Mathlib.Numerals.{add-one}
use native.Mathlib.Omega.{arith}
use lib.ListN.{length}
use borrow.Author.Tests.{eq-eqb, ne_eqb, lt-ltb, le-ltb}
use Rattle.board.specs.Board.{count, digit}
use Rattle.sizes.specs.Size.{size}
use Rattle.ranking.specs.Unrank.{unrank}
use Rattle.rules.specs.Predecessors.{predecessors}
use Rattle.finding.specs.Inner.Finding.{First, is_at}
use Rattle.finding.proofs.Firsts.{first_same, first_from}
use Rattle.outcomes.proofs.Ranked.{unrank_in}
use Rattle.marks.specs.Inner.Marks.{marked, places}
use Rattle.marks.specs.Inner.Putting.{Room}
use Rattle.marks.proofs.Marks.{marked_length}
use Rattle.seeking.proofs.Positions.{passed_over}
use Rattle.layers.specs.declared.Source.{Source}
use Rattle.layers.specs.Inner.Layers.{is_source, gone_back, marked_place, marked_from}

-- the positions of a depth: all or none of two stones, else by their entries
module _ (s : Source) (depth : ℕ) (now : List ℕ) (r size : ℕ) (h : r ≤ size) where
  pub source_all : s.mover < 3 → depth ≡ 0 → First (is_source s depth now) r size r
  unfolding is_source
  source_all m e = record {
    low = omega arith;
    high = h;
    none = λ i a b. absurd (omega arith);
    here = λ b. rw (lt-ltb s.mover 3 m, is_source) (eq-eqb depth 0 e);
  }

  pub source_none : s.mover < 3 → (depth ≡ 0 → ⊥) → First (is_source s depth now) r size size
  unfolding is_source
  source_none m e = record {
    low = h;
    high = omega arith;
    none = λ i a b. rw (lt-ltb s.mover 3 m, is_source) (ne_eqb depth 0 e);
    here = λ b. absurd (omega arith);
  }

  pub source_first : 3 ≤ s.mover → (j : ℕ) → First (is_at depth now) (s.start + r) (s.start + size) j → First (is_source s depth now) r size (j - s.start)
  unfolding is_source
  source_first m j f =
      let is : (i : ℕ) → is_source s depth now i ≡ is_at depth now (s.start + i) = λ i. rw (le-ltb s.mover 3 m, is_source) in
      first_same is (first_from (is_at depth now) s.start r size j f)

-- the table before has room for the boards before a position of s
pub room_before : (rings n : ℕ) (s : Source) (capture : Bool) (start end : ℕ)
    → Room (8 * rings) s.opponent (s.mover + digit capture) start end n → (r : ℕ)
    → r < size (8 * rings) s.mover s.opponent → (c : List ℕ) → c ≡ unrank (8 * rings) s.mover s.opponent r
    → Room (8 * rings) (count 2 c) (count 1 c + digit capture) start end n
room_before rings n s capture start end w r h c e =
    let i = unrank_in rings s.mover s.opponent r h in
    let m : count 2 c ≡ s.opponent = ap (count 2) e ∙ i.opponent in
    let o : count 1 c ≡ s.mover = ap (count 1) e ∙ i.mover in
    rw (m, o) w

-- a position that is picked is gone back from, another is not
module _ (rings start : ℕ) (capture : Bool) (picked : List ℕ → Bool) (b now : List ℕ) where
  pub gone_picked : picked b ≡ true → marked (places start (predecessors capture rings b)) now ≡ gone_back rings start capture picked b now
  unfolding gone_back
  gone_picked e = rw (e, gone_back)

  pub gone_passed : picked b ≡ false → now ≡ gone_back rings start capture picked b now
  unfolding gone_back
  gone_passed e = rw (e, gone_back)

  gone_length : length (gone_back rings start capture picked b now) ≡ length now
  unfolding gone_back
  gone_length = go (picked b) refl
    where
      go : (c : Bool) → picked b ≡ c → length (gone_back rings start capture picked b now) ≡ length now
      go true e = rw (e, gone_back) (marked_length (places start (predecessors capture rings b)) now)
      go false e = rw (e, gone_back)

module _ (rings start : ℕ) (s : Source) (capture : Bool) (depth : ℕ) (picked : List ℕ → Bool) where
  -- a position of the depth, as the code has it
  pub marked_place_lem : (r : ℕ) (now : List ℕ) → is_source s depth now r ≡ true → (b : List ℕ) → b ≡ unrank (8 * rings) s.mover s.opponent r
      → gone_back rings start capture picked b now ≡ marked_place rings start s capture depth picked now r
  unfolding marked_place
  marked_place_lem r now e b f = rw (e, f, marked_place)

  source_out : (r : ℕ) (now : List ℕ) → is_source s depth now r ≡ false → marked_place rings start s capture depth picked now r ≡ now
  unfolding marked_place
  source_out r now e = rw (e, marked_place)

  pub place_length : (r : ℕ) (now : List ℕ) → length (marked_place rings start s capture depth picked now r) ≡ length now
  unfolding marked_place
  place_length r now = go (is_source s depth now r) refl
    where
      go : (b : Bool) → is_source s depth now r ≡ b → length (marked_place rings start s capture depth picked now r) ≡ length now
      go true e = rw (e, marked_place) (gone_length rings start capture picked (unrank (8 * rings) s.mover s.opponent r) now)
      go false e = ap length (source_out r now e)

  module _ (tablebase : List ℕ) where
    pub from_none : tablebase ≡ marked_from rings start s capture depth picked tablebase 0
    unfolding marked_from
    from_none = refl

    pub from_step : (r : ℕ) (now : List ℕ) → now ≡ marked_from rings start s capture depth picked tablebase r
        → marked_place rings start s capture depth picked now r ≡ marked_from rings start s capture depth picked tablebase (r + 1)
    unfolding marked_from
    from_step r now e = rw (e, add-one r)

    pub from_over : (from end r : ℕ) (now : List ℕ) → First (is_source s depth now) from end r
        → now ≡ marked_from rings start s capture depth picked tablebase from → now ≡ marked_from rings start s capture depth picked tablebase r
    unfolding marked_from
    from_over from end r now w e =
        sym (passed_over (λ i. marked_from rings start s capture depth picked tablebase i) now (is_source s depth now) from end r w
        (λ i f g. ap (λ (l : List ℕ). marked_place rings start s capture depth picked l i) f ∙ source_out i now g) (sym e))

    pub from_length : (n : ℕ) → length (marked_from rings start s capture depth picked tablebase n) ≡ length tablebase
    unfolding marked_from
    from_length zero = refl
    from_length (suc n) = place_length n (marked_from rings start s capture depth picked tablebase n) ∙ from_length n
