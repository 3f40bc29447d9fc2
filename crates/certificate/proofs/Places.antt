-- The boards of a tablebase stand in the order of its entries: the index of a board is its place. So the index that a verdict gives is the place of the
-- first entry that is not right. Assumes nothing.
use mathlib.Core.Path.{◌≡◌, refl, sym, ap, ap₂, subst, ◌∙◌}
use mathlib.Core.Bool.{Bool, true, false}
use mathlib.Core.List.Memᴰ
use mathlib.Core.List.{List, [], ◌∷◌, ◌++◌, map, map-append, Memᴰ}
use mathlib.Core.Logic.{◌⊎◌, inl, inr}
use Prim.Native.Nat.{ℕ, zero, suc, ◌+◌, ◌-◌, ◌*◌, ◌≤◌, ◌<◌}
use native.Mathlib.Omega.{arith}
use lib.ListN.{length, get_or, drop, length-append, length-map}
use Rattle.lists.specs.Lists.{range, each, all}
use Rattle.lists.proofs.Joined.{range_split}
use Rattle.lists.proofs.Lengths.{length_range}
use Rattle.lists.proofs.Members.{member_map, range_member}
use Rattle.lists.proofs.Tests.{clash, all_member}
use Rattle.sizes.specs.Size.{size}
use Rattle.ranking.specs.Unrank.{unrank}
use Rattle.layout.specs.Layout.{table, row, entries, start}
use Rattle.layout.proofs.Places.{row_part, rows_part, row_more, rows_more, start_is}
use Rattle.rules.specs.Ply.{Rule}
use Rattle.outcomes.specs.Places.{place_of}
use Rattle.outcomes.proofs.Boards.{InTables}
use Rattle.outcomes.proofs.Ranked.{place_unrank}
use Rattle.certificate.specs.Certificate.{boards_of, boards, entry_right, passing, certificate}
use Rattle.certificate.proofs.Passing.{parts_from}
use Rattle.certificate.proofs.Boards.{boards_length, all_rows, all_tables, tables_listed, listed_board}
use Rattle.certificate.proofs.Verdict.{verdict_failed}

module _ {A : Type 0} (place : A → ℕ) where
  -- the members have the places from a on, one after the other
  abbrev InPlace : ℕ → List A → Type 0
  InPlace a l = map place l ≡ range a (length l)

  in_place_both : (a : ℕ) (xs ys : List A) → InPlace a xs → InPlace (a + length xs) ys → InPlace a (xs ++ ys)
  in_place_both a xs ys e f =
      map-append place xs ys ∙ ap₂ ◌++◌ e f ∙ sym (range_split a (length xs) (length ys)) ∙ ap (range a) (sym (length-append xs ys))

  -- so do parts that follow one another
  in_place_parts : (part : ℕ → List A) (begins : ℕ → ℕ) (n i : ℕ)
      → ((j : ℕ) → i ≤ j → j < i + n → InPlace (begins j) (part j) × (begins (suc j) ≡ begins j + length (part j)))
      → InPlace (begins i) (each part (range i n))
  in_place_parts part begins zero i h = refl
  in_place_parts part begins (suc n) i h =
      let (e, f) = h i (omega arith) (omega arith) in
      in_place_both (begins i) (part i) (each part (range (suc i) n)) e
      (subst (λ (a : ℕ). InPlace a (each part (range (suc i) n))) f
      (in_place_parts part begins n (suc i) (λ j a b. h j (omega arith) (omega arith))))

module _ (rings k : ℕ) where
  abbrev points : ℕ
  points = 8 * rings

  abbrev place : List ℕ → ℕ
  place b = place_of rings k b

  -- the boards of a table
  ranks_placed : (m o n r : ℕ) → r + n ≤ size points m o → map place (map (λ i. unrank points m o i) (range r n)) ≡ range (start points k m o + r) n
  ranks_placed m o zero r h = refl
  ranks_placed m o (suc n) r h =
      let e : start points k m o + suc r ≡ suc (start points k m o + r) = omega arith in
      ap₂ ◌∷◌ (place_unrank rings k m o r (omega arith)) (ranks_placed m o n (suc r) (omega arith) ∙ ap (λ (a : ℕ). range a n) e)

  size_of : (m o : ℕ) → length (boards_of points (table m o)) ≡ size points m o
  size_of m o = length-map (range 0 (size points m o)) (λ i. unrank points m o i) ∙ length_range (size points m o) 0

  table_placed : (m o : ℕ) → InPlace place (start points k m o) (boards_of points (table m o))
  table_placed m o =
      let e : start points k m o + 0 ≡ start points k m o = omega arith in
      ranks_placed m o (size points m o) 0 (omega arith) ∙ ap₂ range e (sym (size_of m o))

  module _ (low : 3 ≤ k) where
    -- of a row
    row_placed : (m : ℕ) → 3 ≤ m → m ≤ k → InPlace place (rows_part points k (m - 3)) (each (λ t. boards_of points t) (row k m))
    row_placed m a b =
        let e : rows_part points k (m - 3) + row_part points m (3 - 3) ≡ rows_part points k (m - 3) = omega arith in
        subst (λ (l : List (List ℕ)). InPlace place (rows_part points k (m - 3)) l) (all_tables points k m low)
        (subst (λ (s : ℕ). InPlace place s (parts_from (λ o. boards_of points (table m o)) 3 (k + 1))) e
        (in_place_parts place (λ o. boards_of points (table m o)) (λ o. rows_part points k (m - 3) + row_part points m (o - 3)) (k + 1 - 3) 3 at))
      where
        at : (o : ℕ) → 3 ≤ o → o < 3 + (k + 1 - 3)
            → InPlace place (rows_part points k (m - 3) + row_part points m (o - 3)) (boards_of points (table m o))
            × (rows_part points k (m - 3) + row_part points m (suc o - 3)
            ≡ rows_part points k (m - 3) + row_part points m (o - 3) + length (boards_of points (table m o)))
        at o c d =
            let e : suc o - 3 ≡ suc (o - 3) = omega arith in
            let f : 3 + (o - 3) ≡ o = omega arith in (
              subst (λ (s : ℕ). InPlace place s (boards_of points (table m o))) (start_is points k m o a b c (omega arith)) (table_placed m o),
              omega (arith, ap (row_part points m) e, row_more points m (o - 3), ap (size points m) f, size_of m o),
            )

    -- of the tablebase
    pub boards_placed : map place (boards points k) ≡ range 0 (length (boards points k))
    boards_placed =
        subst (λ (l : List (List ℕ)). InPlace place 0 l) (all_rows points k low)
        (in_place_parts place (λ m. each (λ t. boards_of points t) (row k m)) (λ m. rows_part points k (m - 3)) (k + 1 - 3) 3 at)
      where
        at : (m : ℕ) → 3 ≤ m → m < 3 + (k + 1 - 3)
            → InPlace place (rows_part points k (m - 3)) (each (λ t. boards_of points t) (row k m))
            × (rows_part points k (suc m - 3) ≡ rows_part points k (m - 3) + length (each (λ t. boards_of points t) (row k m)))
        at m a b =
            let e : suc m - 3 ≡ suc (m - 3) = omega arith in
            let f : 3 + (m - 3) ≡ m = omega arith in (
              row_placed m a (omega arith),
              ap (rows_part points k) e ∙ rows_more points k (m - 3) ∙ ap (λ (x : ℕ). rows_part points k (m - 3) + entries points (row k x)) f
                  ∙ ap (λ (n : ℕ). rows_part points k (m - 3) + n) (sym (boards_length points (row k m))),
            )

-- the first member that fails: those before it pass, and it stands at the index that is counted
record FirstFailing {A : Type 0} (f : A → Bool) (l : List A) : Type 0 where
  before : List A
  here : A
  after : List A
  parted : l ≡ before ++ (here ∷ after)
  counted : passing f l ≡ length before
  passed : all f before ≡ true
  fails : f here ≡ false

first_failing : {A : Type 0} (f : A → Bool) (l : List A) → all f l ≡ false → FirstFailing f l
first_failing f [] h = clash refl h
first_failing {A} f (x ∷ l) h = go (f x) refl (λ e. first_failing f l e)
  where
    go : (b : Bool) → f x ≡ b → (all f l ≡ false → FirstFailing f l) → FirstFailing f (x ∷ l)
    go false e r = record { before = []; here = x; after = l; parted = refl; counted = rw (e, passing); passed = refl; fails = e }
    go true e r =
        let w = r (rw (e, all) at h) in record {
          before = x ∷ w.before;
          here = w.here;
          after = w.after;
          parted = ap (λ (t : List A). x ∷ t) w.parted;
          counted = rw (e, passing) (ap suc w.counted);
          passed = rw (e, all) w.passed;
          fails = w.fails;
        }

-- members in place: one after some others stands so far on, and so do all after it
module _ {A : Type 0} (place : A → ℕ) where
  shorter : (a n : ℕ) (x : A) (l : List A) → map place (x ∷ l) ≡ range a n → (place x ≡ a) × ((m : ℕ) × (map place l ≡ range (suc a) m))
  shorter a zero x l e = absurd (omega (arith, ap length e))
  shorter a (suc n) x l e = (ap (λ (t : List ℕ). get_or t 0 0) e, (n, ap (λ (t : List ℕ). drop 1 t) e))

  stands_at : (a n : ℕ) (xs : List A) (y : A) (ys : List A) → map place (xs ++ (y ∷ ys)) ≡ range a n → place y ≡ a + length xs
  stands_at a n [] y ys e = (shorter a n y ys e).0 ∙ omega arith
  stands_at a n (x ∷ xs) y ys e =
      let (m, f) = (shorter a n x (xs ++ (y ∷ ys)) e).1 in
      omega (arith, stands_at (suc a) m xs y ys f)

  stands_after : (a n : ℕ) (xs ys : List A) → map place (xs ++ ys) ≡ range a n → (y : A) → Memᴰ y ys → a + length xs ≤ place y
  stands_after a n [] ys e y m =
      omega (arith, range_member n a (subst (λ (l : List ℕ). Memᴰ (place y) l) e (member_map place ys m)))
  stands_after a n (x ∷ xs) ys e y m =
      let (k, f) = (shorter a n x (xs ++ ys) e).1 in
      omega (arith, stands_after (suc a) k xs ys f y m)

-- a verdict that gives an index: there stands an entry that is not right, and every entry before it is
module _ (rule : Rule) (rings k : ℕ) (tablebase : List ℕ) (i : ℕ) where
  pub record FailsFirst : Type 0 where
    pub board : List ℕ
    pub in_tables : InTables rings k board
    pub at : place_of rings k board ≡ i
    pub wrong : entry_right rule rings k tablebase board ≡ false
    pub before : (b : List ℕ) → InTables rings k b → place_of rings k b < i → entry_right rule rings k tablebase b ≡ true

  pub fails_first : 3 ≤ k → certificate rule rings k tablebase ≡ 0 ∷ i ∷ [] → FailsFirst
  fails_first low e = record {
    board = w.here;
    in_tables = listed_board rings k w.here (subst (λ (l : List (List ℕ)). Memᴰ w.here l) (sym w.parted)
        (Memᴰ.append_right w.before (Memᴰ.head refl)));
    at = stands_at (λ b. place_of rings k b) 0 (length tested) w.before w.here w.after order ∙ omega (arith, w.counted, verdict.1);
    wrong = w.fails;
    before = λ b s l. early b l (Memᴰ.append_cases w.before (subst (λ (t : List (List ℕ)). Memᴰ b t) w.parted (tables_listed rings k b s)));
  }
    where
      test : List ℕ → Bool
      test b = entry_right rule rings k tablebase b

      tested : List (List ℕ)
      tested = boards (8 * rings) k

      verdict : (all test tested ≡ false) × (passing test tested ≡ i)
      verdict = verdict_failed rule rings k tablebase i e

      w : FirstFailing test tested
      w = first_failing test tested verdict.0

      order : map (λ b. place_of rings k b) (w.before ++ (w.here ∷ w.after)) ≡ range 0 (length tested)
      order = ap (map (λ b. place_of rings k b)) (sym w.parted) ∙ boards_placed rings k low

      early : (b : List ℕ) → place_of rings k b < i → Memᴰ b w.before ⊎ Memᴰ b (w.here ∷ w.after) → test b ≡ true
      early b l (inl m) = all_member test w.before w.passed b m
      early b l (inr m) =
          absurd (omega (arith, stands_after (λ c. place_of rings k c) 0 (length tested) w.before (w.here ∷ w.after) order b m, w.counted, verdict.1))
