-- What is printed of a fault says that no record could follow.
use Rattle.std.proofs.Common.{sym}
use Rattle.threads_lines.proofs.EndLemmas.{end_of_commit}
use Rattle.threads_lines.proofs.committer.Committer.commit.Goals as goal

pub returns-in_ok-printed_refusal-in-Err : goal.returns-in_ok-printed_refusal-in-Err
returns-in_ok-printed_refusal-in-Err g c =
    end_of_commit g.N.Naming.cells _ c.args.self.now.proxy.now c.in_ok-copy.copy c.in-Err.fault c.in_ok-printed_refusal-in-Err.field-0 c.in-Err.ensures (sym c.in_ok-printed_refusal-in-Err.ensures)
