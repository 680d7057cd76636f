-- The table lists no servers at first, and has room for all.
use Rattle.std.proofs.Common.{◌∙◌, inl}
use Rattle.metadata.proofs.ServerTables.{servers_made}
use Rattle.metadata.proofs.server_table.ServerTable.of.Goals as goal

pub refresh-requires : goal.refresh-requires
refresh-requires c = inl c.in_ok-reserve.ensures.room

pub returns : goal.returns
returns c = servers_made c.args.keys.now c.args.entries.now c.reserve.new.self.tags c.refresh.new.self.tags (c.reserve.ensures.tags ∙ c.new-table.ensures) c.requires c.refresh.ensures
