use Rattle.workers.proofs.edges.ended_worker_edges.Goals as goal
use Rattle.workers.proofs.EdgeCases.{a_close_was_ignored, a_close_was_obeyed, a_row_was_dropped}
use Rattle.workers.proofs.EdgeCases.{a_turn_that_did_not_come, a_worker_that_closed_itself}
use Rattle.workers.proofs.EdgeCases.{a_worker_that_served_all, a_worker_that_wanted_memory}
use Rattle.workers.proofs.EdgeCases.{a_worker_that_was_cut_off, an_end_is_missing}

pub returns : goal.returns
returns c = record {
  served = a_worker_that_served_all;
  dropped = a_row_was_dropped;
  not_due = a_turn_that_did_not_come;
  cut_off = a_worker_that_was_cut_off;
  missing = an_end_is_missing;
  obeyed = a_close_was_obeyed;
  ignored = a_close_was_ignored;
  closed = a_worker_that_closed_itself;
  wanted = a_worker_that_wanted_memory;
}
