-- `listing::list_moves` meets its contract. Assumes nothing.
use mathlib.Core.Path.{◌≡◌, sym, ap, ap₂, ◌∙◌}
use mathlib.Core.Bool.{not}
use mathlib.Core.List.{List}
use Prim.Native.Nat.{ℕ, ◌+◌, ◌*◌}
use native.Mathlib.Nat.{zero-add}
use native.Mathlib.Omega.{arith}
use lib.ListN.{length}
use lib.Seq.{sets}
use Rattle.lists.proofs.Writing.{sets_append}
use Rattle.sets.specs.Sets.{bit, elements}
use Rattle.sets.proofs.Elements.{bit_low}
use Rattle.sets.proofs.Dealt.{Dealt, dealt_none, dealt_room, dealt_more, dealt_all}
use Rattle.board.specs.Board.{board_of}
use Rattle.rules.specs.Ply.{destinations, removable, stone_moves, moves}
use Rattle.rules.specs.MoveList.{is_capture, captures, others}
use Rattle.rules.proofs.CapturesFirst.{listed_are, listed_total}
use Rattle.plies.proofs.OnPositions.{mover_small}
use Rattle.plies.proofs.StoneMoves.{destinations_vacant, from_stone, stone_given, mover_fits}
use Rattle.listing.specs.Inner.Places.{dealt}
use Rattle.listing.proofs.MoveCounts.{moves_kept}
use Rattle.listing.proofs.list_moves.Goals as goal
use Rattle.listing.proofs.list_moves.Goals.{After-destinations-tos, After-take_lowest-from, Start}

-- the moves of the position
abbrev legal : (c : Start) → List ℕ
legal c = moves (removable c.args.edition) c.args.rings (board_of (8 * c.args.rings) c.args.position)

-- it is one of the mover's
own : (c : After-take_lowest-from) → bit c.args.position.mover c.take_lowest-from.result.lowest ≡ 1
own c =
    c.loop-left.invariant.among c.take_lowest-from.result.lowest c.take_lowest-from.ensures.member

-- its moves are those to the set of its destinations
found : (c : After-destinations-tos)
    → stone_moves (removable c.args.edition) c.args.rings
    (board_of (8 * c.args.rings) c.args.position)
    c.take_lowest-from.result.lowest (elements 32 c.destinations-tos.result)
    ≡ from_stone (removable c.args.edition) c.args.rings
    c.args.position
    c.requires.playable.placed c.take_lowest-from.result.lowest
found c =
    stone_given (removable c.args.edition) c.args.rings c.args.position c.requires.playable.placed c.take_lowest-from.result.lowest
    c.destinations-tos.result
    c.destinations-tos.ensures

pub loop-left-init : goal.loop-left-init
loop-left-init c =
    let a = c.args in
    dealt_none _ _ a.list.now 0 a.others a.position.mover (mover_fits a.rings a.position c.requires.playable.placed)
    (omega (arith, c.requires.others_value, ap length (moves_kept (removable a.edition) a.rings a.position c.requires.playable.placed (λ m. is_capture m))))

pub take_lowest-from-requires : goal.take_lowest-from-requires
take_lowest-from-requires c = c.loop-left-test.true

pub destinations-tos-requires : goal.destinations-tos-requires
destinations-tos-requires c =
    record {
      playable = c.requires.playable;
      from_bound = bit_low 24 c.args.position.mover c.take_lowest-from.result.lowest
          (mover_small c.args.rings c.args.position c.requires.playable.placed) (own (goal.at.destinations-tos-requires c).After-take_lowest-from);
    }

pub list_stone-at-requires : goal.list_stone-at-requires
list_stone-at-requires c =
    let a = c.args in
    let fits = dealt_room _ _ a.list.now 0 a.others a.position.mover c.loop-left.invariant c.take_lowest-from.ensures
    (omega (
      arith,
      c.requires.others_value,
      c.requires.position_in_bounds,
      listed_total (legal (goal.at.list_stone-at-requires c).Start),
      ap length (moves_kept (removable a.edition) a.rings a.position c.requires.playable.placed (λ m. not (is_capture m))),
    )) in record {
      playable = c.requires.playable;
      slides = λ to e. destinations_vacant a.rings a.position c.requires.playable.placed c.take_lowest-from.result.lowest (own (goal.at.list_stone-at-requires c).After-take_lowest-from) to
          (sym (ap (λ (y : ℕ). bit y to) c.destinations-tos.ensures) ∙ e);
      room = record {
        captures_fit = omega (arith, fits.0, ap (λ (l : List ℕ). length (captures l)) (found (goal.at.list_stone-at-requires c).After-destinations-tos));
        others_fit = omega (arith, fits.1, ap (λ (l : List ℕ). length (others l)) (found (goal.at.list_stone-at-requires c).After-destinations-tos));
      };
    }

pub loop-left-smaller : goal.loop-left-smaller
loop-left-smaller c = omega (arith, c.take_lowest-from.ensures.less)

pub loop-left-preserved : goal.loop-left-preserved
loop-left-preserved c =
    let a = c.args in
    let e = c.list_stone-at.ensures in
    dealt_more _ _ a.list.now 0 a.others a.position.mover c.loop-left.invariant c.take_lowest-from.ensures
    (e.captures ∙ ap (λ (l : List ℕ). c.loop-left.at.captures + length (captures l)) (found (goal.at.loop-left-preserved c).After-destinations-tos))
    (e.others ∙ ap (λ (l : List ℕ). c.loop-left.at.others + length (others l)) (found (goal.at.loop-left-preserved c).After-destinations-tos))
    (e.list ∙ ap (dealt c.loop-left.list c.loop-left.at.captures c.loop-left.at.others) (found (goal.at.loop-left-preserved c).After-destinations-tos))

pub shape_of-list : goal.shape_of-list
shape_of-list c = c.loop-left.invariant.dealing.long

pub returns : goal.returns
returns c =
    let a = c.args in
    let r = dealt_all _ _ a.list.now 0 a.others a.position.mover c.loop-left.invariant c.loop-left-test.false in
    let kept = moves_kept (removable a.edition) a.rings a.position c.requires.playable.placed in
    r.2 ∙ ap₂ (λ (l m : List ℕ). sets (sets a.list.now 0 l) a.others m) (kept (λ m. is_capture m)) (kept (λ m. not (is_capture m)))
    ∙ ap (λ (n : ℕ). sets (sets a.list.now 0 (captures (legal (goal.at.returns c).Start))) n (others (legal (goal.at.returns c).Start))) (c.requires.others_value ∙ sym (zero-add (length (captures (legal (goal.at.returns c).Start)))))
    ∙ sym (sets_append a.list.now 0 (captures (legal (goal.at.returns c).Start)) (others (legal (goal.at.returns c).Start))) ∙ ap (sets a.list.now 0) (sym (listed_are (legal (goal.at.returns c).Start)))
