use Rattle.model.proofs.Metadata.Entries.{metadata_in_order, metadata_append, changed_in_order, after_row_in_order}
use Rattle.model.proofs.Metadata.Changes.{metadata_kept, kept_after_change, kept_after_row}
use Rattle.model.proofs.laws.metadata.fold_keeps_order_law.Goals as goal

pub returns : goal.returns
returns c = record {
  order = metadata_in_order;
  kept = metadata_kept;
  longer = metadata_append;
  order_after_change = changed_in_order;
  order_after_row = after_row_in_order;
  kept_after_change = kept_after_change;
  kept_after_row = kept_after_row;
}
