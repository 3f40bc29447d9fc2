-- The marked ranks of a table are sought one after the other and judged; those passed over change nothing. Assumes nothing.
use mathlib.Core.Path.{◌≡◌, refl, sym, ap, ◌∙◌}
use mathlib.Core.Bool.{Bool, true, false}
use mathlib.Core.List.{List}
use Prim.Native.Nat.{ℕ, zero, suc, ◌+◌, ◌-◌}
use native.Mathlib.Numerals.{add-one}
use lib.ListN.{length, set, length-set}
use Rattle.sizes.specs.Size.{size}
use Rattle.rules.specs.Ply.{Rule, successors}
use Rattle.game.specs.Game.{draw_entry, void_entry}
use Rattle.game.specs.Judgement.{hit}
use Rattle.finding.specs.Inner.Finding.{First, is_at}
use Rattle.finding.proofs.Firsts.{first_from}
use Rattle.classing.specs.Inner.Classes.{images_written}
use Rattle.classing.proofs.Written.{images_length}
use Rattle.tables.specs.declared.Table.{Table}
use Rattle.seeking.proofs.Positions.{passed_over}
use Rattle.deciding.specs.Inner.Open.{board_at, judged}
use Rattle.settling.specs.Inner.Settled.{is_marked, judged_class, judged_first}

pub mark_first : (t : Table) (now : List ℕ) (r size j : ℕ) → First (is_at void_entry now) (t.own.start + r) (t.own.start + size) j
    → First (is_marked t now) r size (j - t.own.start)
unfolding is_marked
mark_first t now r size j f = first_from (is_at void_entry now) t.own.start r size j f

module _ (rule : Rule) (rings : ℕ) (t : Table) (same level maps : ℕ) where
  -- a marked position, as the code judges it
  pub judged_hit : (r : ℕ) (now : List ℕ) → is_marked t now r ≡ true → hit (successors rule rings) (judged rings t same now) level
      (board_at rings t same r) ≡ true
      → (b : List ℕ) → b ≡ board_at rings t same r → images_written rings t.own.start b level now maps
      ≡ judged_class rule rings t same level maps now r
  unfolding judged_class
  judged_hit r now e h b f = rw (e, h, f, judged_class)

  pub judged_miss : (r : ℕ) (now : List ℕ) → is_marked t now r ≡ true → hit (successors rule rings) (judged rings t same now) level
      (board_at rings t same r) ≡ false
      → set now (t.own.start + r) draw_entry ≡ judged_class rule rings t same level maps now r
  unfolding judged_class
  judged_miss r now e h = rw (e, h, judged_class)

  judged_out : (r : ℕ) (now : List ℕ) → is_marked t now r ≡ false → judged_class rule rings t same level maps now r ≡ now
  unfolding judged_class
  judged_out r now g = rw (g, judged_class)

  pub judged_length : (r : ℕ) (now : List ℕ) → length (judged_class rule rings t same level maps now r) ≡ length now
  unfolding judged_class
  judged_length r now = go (is_marked t now r) refl (hit (successors rule rings) (judged rings t same now) level (board_at rings t same r)) refl
    where
      go : (b : Bool) → is_marked t now r ≡ b → (c : Bool) → hit (successors rule rings) (judged rings t same now) level (board_at rings t same r) ≡ c
          → length (judged_class rule rings t same level maps now r) ≡ length now
      go true e true f = rw (e, f, judged_class) (images_length rings t.own.start (board_at rings t same r) level now maps)
      go true e false f = rw (e, f, judged_class) (length-set now (t.own.start + r) draw_entry)
      go false e c f = ap length (judged_out r now e)

  module _ (tablebase : List ℕ) where
    pub judged_none : tablebase ≡ judged_first rule rings t same level maps tablebase 0
    unfolding judged_first
    judged_none = refl

    pub judged_step : (r : ℕ) (now : List ℕ) → now ≡ judged_first rule rings t same level maps tablebase r
        → judged_class rule rings t same level maps now r ≡ judged_first rule rings t same level maps tablebase (r + 1)
    unfolding judged_first
    judged_step r now e = rw (e, add-one r)

    pub judged_over : (from end r : ℕ) (now : List ℕ) → First (is_marked t now) from end r
        → now ≡ judged_first rule rings t same level maps tablebase from
        → now ≡ judged_first rule rings t same level maps tablebase r
    unfolding judged_first
    judged_over from end r now w e =
        sym (passed_over (λ i. judged_first rule rings t same level maps tablebase i) now (is_marked t now) from end r w
        (λ i f g. ap (λ (l : List ℕ). judged_class rule rings t same level maps l i) f ∙ judged_out i now g) (sym e))

    pub judged_lengths : (n : ℕ) → length (judged_first rule rings t same level maps tablebase n) ≡ length tablebase
    unfolding judged_first
    judged_lengths zero = refl
    judged_lengths (suc n) = judged_length n (judged_first rule rings t same level maps tablebase n) ∙ judged_lengths n
