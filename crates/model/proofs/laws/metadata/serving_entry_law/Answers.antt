use Rattle.model.specs.Metadata.{metadata}
use Rattle.model.proofs.Metadata.Entries.{metadata_in_order}
use Rattle.model.proofs.Metadata.Routes.{key_servers_in_order, kept_from_route, route_from_kept, serves_iff, none_serves}
use Rattle.model.proofs.laws.metadata.serving_entry_law.Goals as goal

pub returns : goal.returns
returns c = record {
  order = key_servers_in_order;
  kept = λ rows row. (kept_from_route rows row, route_from_kept rows row);
  serves = serves_iff;
  served = λ journal key row. serves_iff (metadata journal) key row (metadata_in_order journal);
  none = none_serves;
}
