-- The move is dated one above the last version, or it failed.
use Rattle.std.proofs.Common.{subst, sym}
use Rattle.threads_lines.specs.Moves.{IsFaultOfMove}
use Rattle.threads_lines.proofs.MoveLemmas.{move_fault, one_moved}
use Rattle.threads_lines.proofs.cluster.move_one.Goals as goal

pub returns-in-Ok-clause-moved : goal.returns-in-Ok-clause-moved
returns-in-Ok-clause-moved g c = one_moved c.args.guard.now c.move_range.new.self c.args.one.now c.in-Ok._date c.in-Ok.ensures.moved

pub returns-in-Err-clause-failed : goal.returns-in-Err-clause-failed
returns-in-Err-clause-failed g c =
    subst (IsFaultOfMove g.N.Naming.cells.config c.args.one.now) (sym c.ledger_fault.ensures) (move_fault g.N.Naming.cells.config c.args.one.now c.in-Err.refusal c.in-Err.ensures.refused)
