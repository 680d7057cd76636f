-- One move more, until there is none.
use Rattle.std.proofs.Common.{◌≡◌, ◌+◌, ◌++◌, ◌∷◌, [], sym, subst, take, List, arith}
use Rattle.model.specs.declared.moves.Move.{Move}
use Rattle.proxy_state.specs.Beginning.{HasGained}
use Rattle.proxy_state.proofs.MadeMoves.{gained_none, gained_more, take_found, take_past}
use Rattle.proxy_state.proofs.moving.remake_moves.Goals as goal

pub loop-place-init : goal.loop-place-init
loop-place-init c = gained_none c.args.owners.now

pub loop-place-preserved : goal.loop-place-preserved
loop-place-preserved c =
    let place = c.loop-place.place in
    let moves = c.args.moves.now in
    let m = c.in-Some.one.now in
    let next : take (place + 1) moves ≡ take place moves ++ m ∷ [] = take_found moves place (place + 1) m (omega arith) c.in-Some.ensures in
    subst (λ (so_far : List Move). HasGained c.args.owners.now so_far c.apply_move.new.owners) (sym next) (gained_more c.args.owners.now c.loop-place.owners c.apply_move.new.owners (take place moves) m c.loop-place.invariant c.in_ok-apply_move.ensures)

pub returns : goal.returns
returns c =
    let all = take_past c.args.moves.now c.loop-place.place (omega (arith, c.loop-place-test.false, c.len-place-end.ensures)) in
    subst (λ (moves : List Move). HasGained c.args.owners.now moves c.loop-place.owners) all c.loop-place.invariant
