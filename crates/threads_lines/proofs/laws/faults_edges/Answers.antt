use Rattle.std.proofs.Common.{refl}
use Rattle.threads_lines.proofs.laws.faults_edges.Goals as goal

pub returns : goal.returns
returns c = record {
  graver = record { first = refl; second = refl; neither = refl };
  workers = record { a_worker = refl; a_proxy = refl; neither = refl };
}
