use Rattle.model.proofs.edges.stamp_edges.Goals as goal
use Rattle.model.proofs.EdgeCases.{the_bytes_of_a_stamp, a_stamp_among_text}
use Rattle.model.proofs.EdgeCases.{each_stamp_has_its_number}

pub returns : goal.returns
returns c = record {
  bytes = the_bytes_of_a_stamp;
  text = a_stamp_among_text;
  numbers = each_stamp_has_its_number;
}
