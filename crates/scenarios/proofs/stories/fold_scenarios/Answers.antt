use Rattle.scenarios.proofs.stories.fold_scenarios.Goals as goal
use Rattle.scenarios.proofs.Scenarios.{an_empty_journal, the_boundary_belongs_to_the_right_row, one_resolver_refuses, the_lock_is_read_once_a_row, tags_come_and_go_with_their_rows, a_row_lists_its_tags}

pub returns : goal.returns
returns c = record {
  empty = an_empty_journal;
  boundary = the_boundary_belongs_to_the_right_row;
  refused = one_resolver_refuses;
  locked = the_lock_is_read_once_a_row;
  tags = tags_come_and_go_with_their_rows;
  listed = a_row_lists_its_tags;
}
