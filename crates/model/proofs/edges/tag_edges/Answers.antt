use Rattle.model.proofs.edges.tag_edges.Goals as goal
use Rattle.model.proofs.EdgeCases.{tags_rise_by_locality_first, the_ends_of_a_clear}
use Rattle.model.proofs.EdgeCases.{rows_that_do_not_decode, values_that_list_tags, the_first_fault_of_two_lists}

pub returns : goal.returns
returns c = record {
  localities = tags_rise_by_locality_first;
  ends = the_ends_of_a_clear;
  spoiled = rows_that_do_not_decode;
  listed = values_that_list_tags;
  first_fault = the_first_fault_of_two_lists;
}
