-- One move more, until there is none.
use Rattle.std.proofs.Common.{◌≡◌, ◌+◌, ◌∷◌, sym, subst, drop, List, arith}
use Rattle.model.specs.declared.moves.Move.{Move}
use Rattle.proxy_state.specs.Beginning.{MayGain, HasGained}
use Rattle.proxy_state.proofs.MadeMoves.{may_move, gained_none, gained_first, may_next, drop_found, drop_past}
use Rattle.proxy_state.proofs.moving.make_moves.Goals as goal

pub make_move-requires : goal.make_move-requires
make_move-requires c =
    let place = c.loop-place.place in
    let left : drop place c.args.moves.now ≡ c.in-Some.one.now ∷ drop (place + 1) c.args.moves.now = drop_found c.args.moves.now place (place + 1) c.in-Some.one.now (omega arith) c.in-Some.ensures in
    may_move c.loop-place.owners c.in-Some.one.now (drop (place + 1) c.args.moves.now) (subst (MayGain c.loop-place.owners) left c.loop-place.invariant.may)

pub loop-place-preserved : goal.loop-place-preserved
loop-place-preserved c =
    let place = c.loop-place.place in
    let m = c.in-Some.one.now in
    let others = drop (place + 1) c.args.moves.now in
    let left : drop place c.args.moves.now ≡ m ∷ others = drop_found c.args.moves.now place (place + 1) m (omega arith) c.in-Some.ensures in
    record {
      all = λ after gained. c.loop-place.invariant.all after (subst (λ (moves : List Move). HasGained c.loop-place.owners moves after) (sym left)
          (gained_first c.loop-place.owners c.make_move.new.owners after m others c.in_ok-make_move.ensures gained));
      may = may_next c.loop-place.owners c.make_move.new.owners m others (subst (MayGain c.loop-place.owners) left c.loop-place.invariant.may) c.in_ok-make_move.ensures;
    }

pub returns : goal.returns
returns c =
    let none = drop_past c.args.moves.now c.loop-place.place (omega (arith, c.loop-place-test.false, c.len-place-end.ensures)) in
    c.loop-place.invariant.all c.loop-place.owners (subst (λ (moves : List Move). HasGained c.loop-place.owners moves c.loop-place.owners) (sym none) (gained_none c.loop-place.owners))
