-- A solver that fills a table level by level. A table that is exact below n becomes exact below n + 1 by visits at level n, in any order, of every
-- position of depth n; which levels can be passed over; when the table is done; and what one look after the last level tells. Assumes nothing.
use mathlib.Core.Path.{◌≡◌, refl, sym, ◌∙◌, subst}
use mathlib.Core.Bool.{Bool, true, false}
use mathlib.Core.List.{List, Memᴰ}
use mathlib.Core.Logic.{◌⊎◌, inl, inr}
use Prim.Native.Nat.{ℕ, zero, suc, ◌≤◌, ◌<◌}
use native.Mathlib.Omega.{arith}
use lib.Dec.{ltb}
use borrow.Author.Tests.{ltb-true, ltb-false}
use Rattle.lists.proofs.Tests.{clash, untrue}
use Rattle.game.specs.Game.{Seed, live, ends, drawn, ended, Depth, Entry, draw_entry, void_entry}
use Rattle.game.specs.Judgement.{hit, visit, decided}
use Rattle.game.proofs.Least.{least_find}
use Rattle.game.proofs.Within.{ended_mono}
use Rattle.game.proofs.Depths.{depth_step, NotBefore, before_or_not}
use Rattle.game.proofs.Tables.{Ground, Seeded, Upto, live_or_true}
use Rattle.game.proofs.Hits.{visit_hit, visit_miss, visit_known, hit_ended, depth_hit}
use Rattle.game.proofs.Entries.{entry_depth, depth_entry}
use Rattle.game.proofs.Stopping.{Open, OpenOrTrue, decided_ends, undecided_true}

module _ {Pos : Type 0} (next : Pos → List Pos) (seed : Pos → Seed) (S : Pos → Type 0) where
  -- every live position of S has its depth if that is below n, and draw otherwise
  pub record Exact (t : Pos → ℕ) (n : ℕ) : Type 0 where
    pub seeds : Seeded next seed S t
    pub low : (p : Pos) → S p → seed p ≡ live → (k : ℕ) → k < n → Depth next seed k p → t p ≡ k
    pub blank : (p : Pos) → S p → seed p ≡ live → NotBefore next seed n p → t p ≡ draw_entry

  -- the entry v of p in the middle of level n, where p is not known from the levels below: draw, or a true n
  abbrev pub Fresh : ℕ → ℕ → Pos → Type 0
  Fresh n v p = (v ≡ draw_entry) ⊎ ((v ≡ n) × Depth next seed n p)

  -- in the middle of level n; the positions of D are done
  pub record Within (t : Pos → ℕ) (n : ℕ) (D : Pos → Type 0) : Type 0 where
    pub seeds : Seeded next seed S t
    pub low : (p : Pos) → S p → seed p ≡ live → (k : ℕ) → k < n → Depth next seed k p → t p ≡ k
    pub fresh : (p : Pos) → S p → seed p ≡ live → NotBefore next seed n p → Fresh n (t p) p
    pub done : (p : Pos) → S p → seed p ≡ live → D p → Depth next seed n p → t p ≡ n

  -- u is t at q, which is done only if it was before, or a visit's value
  abbrev pub Visited : (Pos → ℕ) → (Pos → ℕ) → ℕ → (Pos → Type 0) → (Pos → Type 0) → Pos → Type 0
  Visited t u n D D' q = ((D' q → D q) × (u q ≡ t q)) ⊎ (u q ≡ visit next t n q)

  -- u comes from t by visits, one, some or all at once: D were done before, D' are done now
  pub record Pass (t u : Pos → ℕ) (n : ℕ) (D D' : Pos → Type 0) : Type 0 where
    pub given : (q : Pos) → S q → (seed q ≡ live → ⊥) → u q ≡ t q
    pub each : (q : Pos) → S q → seed q ≡ live → Visited t u n D D' q

  pub exact_start : (t : Pos → ℕ) → Seeded next seed S t → ((p : Pos) → S p → seed p ≡ live → t p ≡ draw_entry) → Exact t 0
  exact_start t x start = record { seeds = x; low = λ p s e k l d. absurd (omega arith); blank = λ p s e o. start p s e }

  pub level_start : (t : Pos → ℕ) (n : ℕ) → Exact t n → Within t n (λ p. ⊥)
  level_start t n x = record { seeds = x.seeds; low = x.low; fresh = λ p s e o. inl (x.blank p s e o); done = λ p s e d. absurd d }

  -- fewer positions are done
  pub within_fewer : (t : Pos → ℕ) (n : ℕ) (D E : Pos → Type 0) → ((p : Pos) → E p → D p) → Within t n D → Within t n E
  within_fewer t n D E f w = record { seeds = w.seeds; low = w.low; fresh = w.fresh; done = λ p s e d x. w.done p s e (f p d) x }

  -- in the middle of level n, and before, a table holds every depth below n
  module _ (g : Ground next seed S) (n : ℕ) (b : n ≤ void_entry) where
    pub within_upto : (t : Pos → ℕ) (D : Pos → Type 0) → Within t n D → Upto next seed S t n
    within_upto t D w = record {
      sound = λ q s l. sound q s l (live_or_true next seed S g t w.seeds q s);
      complete = λ q s k l d. complete q s k l d (live_or_true next seed S g t w.seeds q s);
    }
      where
        low : (q : Pos) → S q → seed q ≡ live → t q < n → ((k : ℕ) × (k < n) × Depth next seed k q) ⊎ NotBefore next seed n q → Depth next seed (t q) q
        low q s e l (inl (k, i, d)) = subst (λ (k : ℕ). Depth next seed k q) (sym (w.low q s e k i d)) d
        low q s e l (inr o) = none (w.fresh q s e o)
          where
            none : Fresh n (t q) q → Depth next seed (t q) q
            none (inl v) = absurd (omega arith)
            none (inr v) = absurd (omega (arith, v.0))

        sound : (q : Pos) → S q → t q < n → (seed q ≡ live) ⊎ Entry next seed q (t q) → Depth next seed (t q) q
        sound q s l (inl e) = low q s e l (before_or_not next seed n q)
        sound q s l (inr a) = entry_depth next seed q a (omega arith)

        complete : (q : Pos) → S q → (k : ℕ) → k < n → Depth next seed k q → (seed q ≡ live) ⊎ Entry next seed q (t q) → t q ≡ k
        complete q s k l d (inl e) = w.low q s e k l d
        complete q s k l d (inr a) = (depth_entry next seed q a d).0

    pub exact_upto : (t : Pos → ℕ) → Exact t n → Upto next seed S t n
    exact_upto t x = within_upto t (λ p. ⊥) (level_start t n x)

  -- what level n + 1 must visit: only positions with a successor whose entry is n, also in the middle of that level
  pub sources : (g : Ground next seed S) (n : ℕ) → suc n ≤ void_entry → (t : Pos → ℕ) (D : Pos → Type 0) → Within t (suc n) D
      → (p : Pos) → S p → seed p ≡ live → Depth next seed (suc n) p → (q : Pos) × Memᴰ q (next p) × (t q ≡ n)
  sources g n b t D w p s e d =
      let (q, m, y) = depth_step next seed n p e d in
      (q, m, (within_upto g (suc n) b t D w).complete q (g.closed p s e q m) n (omega arith) y)

  -- level n, where it is an entry
  module _ (g : Ground next seed S) (n : ℕ) (b : n < void_entry) where
    -- visits keep what holds in the middle of a level
    pub pass : (t u : Pos → ℕ) (D D' : Pos → Type 0) → Within t n D → Pass t u n D D' → Within u n D'
    pass t u D D' w v = record {
      seeds = record {
        at_end = λ q s e. v.given q s (λ l. other_end (sym e ∙ l)) ∙ w.seeds.at_end q s e;
        at_draw = λ q s e. v.given q s (λ l. other_draw (sym e ∙ l)) ∙ w.seeds.at_draw q s e;
      };
      low = λ p s e k l d. is_low p s e k l d (v.each p s e);
      fresh = λ p s e o. is_fresh p s e o (v.each p s e);
      done = λ p s e m d. is_done p s e m d (v.each p s e);
    }
      where
        other_end : {d : ℕ} → ends d ≡ live → ⊥
        other_end x = let z : ◌≡◌ {A = ℕ} 0 1 = cc in omega arith

        other_draw : drawn ≡ live → ⊥
        other_draw x = let z : ◌≡◌ {A = ℕ} 0 1 = cc in omega arith

        upto : Upto next seed S t n
        upto = within_upto g n (omega arith) t D w

        visit_fresh : (p : Pos) → S p → seed p ≡ live → NotBefore next seed n p → Fresh n (t p) p → (h : Bool) → hit next t n p ≡ h
            → Fresh n (visit next t n p) p
        visit_fresh p s e o (inl x) true f =
            inr (visit_hit next t n p x f, record { holds = hit_ended next seed S g t n upto p s e f; below = o })
        visit_fresh p s e o (inl x) false f = inl (visit_miss next t n p f ∙ x)
        visit_fresh p s e o (inr x) h f = inr (visit_known next t n p (omega (arith, x.0)) ∙ x.0, x.1)

        visit_done : (p : Pos) → S p → seed p ≡ live → Depth next seed n p → Fresh n (t p) p → visit next t n p ≡ n
        visit_done p s e d (inl x) = visit_hit next t n p x (depth_hit next seed S g t n upto p s e d)
        visit_done p s e d (inr x) = visit_known next t n p (omega (arith, x.0)) ∙ x.0

        is_low : (p : Pos) → S p → seed p ≡ live → (k : ℕ) → k < n → Depth next seed k p → Visited t u n D D' p → u p ≡ k
        is_low p s e k l d (inl x) = x.1 ∙ w.low p s e k l d
        is_low p s e k l d (inr x) = let a = w.low p s e k l d in x ∙ visit_known next t n p (omega arith) ∙ a

        is_fresh : (p : Pos) → S p → seed p ≡ live → NotBefore next seed n p → Visited t u n D D' p → Fresh n (u p) p
        is_fresh p s e o (inl x) = subst (λ (k : ℕ). Fresh n k p) (sym x.1) (w.fresh p s e o)
        is_fresh p s e o (inr x) = subst (λ (k : ℕ). Fresh n k p) (sym x) (visit_fresh p s e o (w.fresh p s e o) (hit next t n p) refl)

        is_done : (p : Pos) → S p → seed p ≡ live → D' p → Depth next seed n p → Visited t u n D D' p → u p ≡ n
        is_done p s e m d (inl x) = x.1 ∙ w.done p s e (x.0 m) d
        is_done p s e m d (inr x) = x ∙ visit_done p s e d (w.fresh p s e d.below)

    -- a table that agrees on S
    pub within_same : (t u : Pos → ℕ) → ((q : Pos) → S q → u q ≡ t q) → (D : Pos → Type 0) → Within t n D → Within u n D
    within_same t u same D w = pass t u D D w record { given = λ q s dead. same q s; each = λ q s e. inl (λ d. d, same q s) }

    -- one visit, at p
    pub one : (t u : Pos → ℕ) (D : Pos → Type 0) (p : Pos) → Within t n D
        → ((q : Pos) → S q → (seed q ≡ live → ⊥) → u q ≡ t q)
        → ((q : Pos) → S q → seed q ≡ live → ((q ≡ p → ⊥) × (u q ≡ t q)) ⊎ (u q ≡ visit next t n q))
        → Within u n (λ q. D q ⊎ (q ≡ p))
    one t u D p w given each = pass t u D (λ q. D q ⊎ (q ≡ p)) w (record { given = given; each = λ q s e. go q (each q s e) })
      where
        stays : {q : Pos} → (q ≡ p → ⊥) → D q ⊎ (q ≡ p) → D q
        stays o (inl d) = d
        stays o (inr z) = absurd (o z)

        go : (q : Pos) → ((q ≡ p → ⊥) × (u q ≡ t q)) ⊎ (u q ≡ visit next t n q) → Visited t u n D (λ q. D q ⊎ (q ≡ p)) q
        go q (inl x) = inl (λ m. stays x.0 m, x.1)
        go q (inr x) = inr x

    -- the level is done once every position of depth n is
    pub level_done : (t : Pos → ℕ) (D : Pos → Type 0) → Within t n D → ((p : Pos) → S p → seed p ≡ live → Depth next seed n p → D p) → Exact t (suc n)
    level_done t D w all = record {
      seeds = w.seeds;
      low = λ p s e k l d. is_low p s e k l d (ltb k n) refl;
      blank = λ p s e o. is_blank p s e o (w.fresh p s e (λ k l. o k (omega arith)));
    }
      where
        is_low : (p : Pos) → S p → seed p ≡ live → (k : ℕ) → k < suc n → Depth next seed k p → (c : Bool) → ltb k n ≡ c → t p ≡ k
        is_low p s e k l d true f = w.low p s e k (ltb-true k n f) d
        is_low p s e k l d false f =
            let q : k ≡ n = omega (arith, ltb-false k n f) in
            let y = subst (λ (i : ℕ). Depth next seed i p) q d in
            w.done p s e (all p s e y) y ∙ sym q

        is_blank : (p : Pos) → S p → seed p ≡ live → NotBefore next seed (suc n) p → Fresh n (t p) p → t p ≡ draw_entry
        is_blank p s e o (inl x) = x
        is_blank p s e o (inr x) = clash x.1.holds (o n (omega arith))

    -- the level at once, for a test C that every position of depth n passes: those that pass it are visited, the others keep their entries
    pub level : (t u : Pos → ℕ) (C : Pos → Bool) → Exact t n
        → ((p : Pos) → S p → seed p ≡ live → Depth next seed n p → C p ≡ true)
        → ((q : Pos) → S q → (seed q ≡ live → ⊥) → u q ≡ t q)
        → ((q : Pos) → S q → seed q ≡ live → C q ≡ true → u q ≡ visit next t n q)
        → ((q : Pos) → S q → seed q ≡ live → C q ≡ false → u q ≡ t q)
        → Exact u (suc n)
    level t u C x covers given visited kept = level_done u (λ p. C p ≡ true)
        (pass t u (λ p. ⊥) (λ p. C p ≡ true) (level_start t n x) (record { given = given; each = λ q s e. go q s e (C q) refl })) covers
      where
        go : (q : Pos) → S q → seed q ≡ live → (c : Bool) → C q ≡ c → Visited t u n (λ p. ⊥) (λ p. C p ≡ true) q
        go q s e true f = inr (visited q s e f)
        go q s e false f = inl (λ h. clash h f, kept q s e f)

  -- a table that is exact below n holds true entries, but for the open positions
  module _ (g : Ground next seed S) (n : ℕ) (b : n ≤ void_entry) (t : Pos → ℕ) (x : Exact t n) where
    exact_known : OpenOrTrue next seed S t
    exact_known q s = go (live_or_true next seed S g t x.seeds q s)
      where
        found : seed q ≡ live → ((k : ℕ) × (k < n) × Depth next seed k q) ⊎ NotBefore next seed n q → Open seed t q ⊎ Entry next seed q (t q)
        found e (inl (k, l, d)) = let a = x.low q s e k l d in inr (inl (omega arith, subst (λ (i : ℕ). Depth next seed i q) (sym a) d))
        found e (inr o) = inl (e, x.blank q s e o)

        go : (seed q ≡ live) ⊎ Entry next seed q (t q) → Open seed t q ⊎ Entry next seed q (t q)
        go (inl e) = found e (before_or_not next seed n q)
        go (inr a) = inr a

    -- an open position that its successors' entries decide ends, and not within fewer than n plies
    pub beyond : (p : Pos) → S p → seed p ≡ live → t p ≡ draw_entry → decided next t p ≡ true
        → ((k : ℕ) × (ended next seed k p ≡ true)) × NotBefore next seed n p
    beyond p s e v h = (decided_ends next seed S t g exact_known p s e h, late (before_or_not next seed n p))
      where
        late : ((k : ℕ) × (k < n) × Depth next seed k p) ⊎ NotBefore next seed n p → NotBefore next seed n p
        late (inl (k, l, d)) = absurd (omega (arith, x.low p s e k l d))
        late (inr o) = o

    -- or none is decided, and every entry is true
    pub settled : ((p : Pos) → S p → seed p ≡ live → t p ≡ draw_entry → decided next t p ≡ false) → (p : Pos) → S p → Entry next seed p (t p)
    settled = undecided_true next seed S t g exact_known

  -- after level n
  module _ (g : Ground next seed S) (n : ℕ) (b : n < void_entry) (t : Pos → ℕ) (x : Exact t (suc n)) where
    -- an entry from n on that states a depth below k
    abbrev pub Between : ℕ → Type 0
    Between k = (q : Pos) × S q × (n ≤ t q) × (t q < k) × (t q < void_entry)

    -- a position of depth k above n shows one: it has a successor of depth k - 1, whose entry is that, or which is open and above n too
    pub occurs : (k : ℕ) → n < k → (p : Pos) → S p → seed p ≡ live → Depth next seed k p → Between k
    occurs zero l p s e d = absurd (omega arith)
    occurs (suc j) l p s e d =
        let (q, m, y) = depth_step next seed j p e d in
        let r = g.closed p s e q m in
        go q r y (ltb n j) refl (live_or_true next seed S g t x.seeds q r) (λ v i. occurs j i q r v y)
      where
        go : (q : Pos) → S q → Depth next seed j q → (c : Bool) → ltb n j ≡ c → (seed q ≡ live) ⊎ Entry next seed q (t q)
            → (seed q ≡ live → n < j → Between j) → Between (suc j)
        go q r y true f (inl v) lower = let w = lower v (ltb-true n j f) in (w.0, w.1, w.2, omega (arith, w.3), w.4)
        go q r y true f (inr a) lower = let w = depth_entry next seed q a y in let i = ltb-true n j f in
            (q, r, omega (arith, w.0), omega (arith, w.0), w.1)
        go q r y false f c lower =
            let i = ltb-false n j f in
            let a = (exact_upto g (suc n) b t x).complete q r j (omega arith) y in
            (q, r, omega arith, omega arith, omega arith)

    -- levels can be passed over where no entry from n on occurs below them
    pub skip : (m : ℕ) → n ≤ m → ((q : Pos) → S q → n ≤ t q → t q < m → ⊥) → Exact t (suc m)
    skip m h none = record {
      seeds = x.seeds;
      low = λ p s e k l d. is_low p s e k l d (ltb n k) refl;
      blank = λ p s e o. x.blank p s e (λ k l. o k (omega arith));
    }
      where
        is_low : (p : Pos) → S p → seed p ≡ live → (k : ℕ) → k < suc m → Depth next seed k p → (c : Bool) → ltb n k ≡ c → t p ≡ k
        is_low p s e k l d true f = let w = occurs k (ltb-true n k f) p s e d in absurd (none w.0 w.1 w.2 (omega (arith, w.3)))
        is_low p s e k l d false f = let i = ltb-false n k f in x.low p s e k (omega arith) d

    -- no entry from n on occurs: all that is open is drawn, and every entry is true
    pub stop : ((q : Pos) → S q → n ≤ t q → t q < void_entry → ⊥) → (p : Pos) → S p → Entry next seed p (t p)
    stop none p s = go (exact_known g (suc n) b t x p s)
      where
        deep : seed p ≡ live → t p ≡ draw_entry → (k : ℕ) → Depth next seed k p → (c : Bool) → ltb n k ≡ c → ⊥
        deep e v k d true f = let w = occurs k (ltb-true n k f) p s e d in none w.0 w.1 w.2 w.4
        deep e v k d false f = let i = ltb-false n k f in omega (arith, x.low p s e k (omega arith) d)

        go : Open seed t p ⊎ Entry next seed p (t p) → Entry next seed p (t p)
        go (inl (e, v)) = inr (
          v,
          λ k. sym (untrue (ended next seed k p)
              (λ h. let w = least_find _ (ended_mono next seed p) k h in deep e v w.0 w.2 (ltb n w.0) refl)),
        )
        go (inr a) = a
