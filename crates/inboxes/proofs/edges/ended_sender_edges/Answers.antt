use Rattle.inboxes.proofs.edges.ended_sender_edges.Goals as goal
use Rattle.inboxes.proofs.EdgeCases.{a_close_follows_the_end, another_proxy_ends, no_end_is_sent}
use Rattle.inboxes.proofs.EdgeCases.{the_end_comes_last, the_end_is_sent_twice, the_worker_is_gone}

pub returns : goal.returns
returns c = record {
  last = the_end_comes_last;
  missing = no_end_is_sent;
  followed = a_close_follows_the_end;
  twice = the_end_is_sent_twice;
  other = another_proxy_ends;
  gone = the_worker_is_gone;
}
