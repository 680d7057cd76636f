-- Each owner is visited, and may stop the walk.
use Rattle.std.proofs.Common.{◌-◌, get_or, arith}
use Rattle.dated_owners.specs.declared.later_owners.LaterOwner.{LaterOwner}
use Rattle.dated_owners.proofs.WalkedOwners.{walk_start, walk_stopped, any_place}
use Rattle.dated_owners.proofs.walks.walk_back_to.Goals as goal

pub loop-i-init : goal.loop-i-init
loop-i-init c = walk_start c.args.owners.now c.args.bound c.args.flags.now _ (omega arith)

pub returns-then-owner-bound : goal.returns-then-owner-bound
returns-then-owner-bound c =
    let later = c.args.owners.now in
    let i = c.loop-i.i - 1 in
    let o : LaterOwner = get_or later i (record { date = 0; resolver = 0 }) in
    walk_stopped later c.args.bound c.args.flags.now i c.loop-i.i c.loop-i.flags c.flag.new.self o (omega arith) (omega arith) (any_place later i (record { date = 0; resolver = 0 }) o (omega arith))
    c.if-owner-bound.true c.loop-i.invariant c.flag.ensures
