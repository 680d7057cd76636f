use Rattle.system_keys.proofs.RowLaws.{servers_again}
use Rattle.system_keys.proofs.server_rows.encode_key_servers.Goals as goal

pub returns-clause-round_trip : goal.returns-clause-round_trip
returns-clause-round_trip c =
    rw (c.in_ok-push_counted_ids-2.ensures.value, c.in_ok-push_counted_ids.ensures.value, c.in_ok-bytes.ensures.items, c.sources-2.ensures.value, c.destinations-2.ensures.value)
    (servers_again c.args.teams.now c.sources.ensures.kept (rw (← c.sources-2.ensures.value) c.in_ok-push_counted_ids.ensures.wide) (rw (← c.destinations-2.ensures.value) c.in_ok-push_counted_ids-2.ensures.wide))
