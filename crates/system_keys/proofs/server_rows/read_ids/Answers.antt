use Rattle.system_keys.proofs.RowLaws.{ids_in_next, enough_next}
use Rattle.system_keys.proofs.server_rows.read_ids.Goals as goal

pub loop-preserved : goal.loop-preserved
loop-preserved c = record {
  told = rw (c.in_ok-push.ensures.items, c.to_server_id.ensures, c.split_at.ensures.front, c.split_at.ensures.back) (ids_in_next _ _ _ _ _ c.loop-test.true c.loop.invariant.told);
  enough = rw (c.split_at.ensures.back) (enough_next _ _ _ c.loop-test.true c.loop.invariant.enough);
}
