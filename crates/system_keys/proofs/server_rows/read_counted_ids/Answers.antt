use Rattle.system_keys.proofs.RowLaws.{listed_enough, listed}
use Rattle.system_keys.proofs.server_rows.read_counted_ids.Goals as goal

pub split_at-requires : goal.split_at-requires
split_at-requires c = rw (c.from.ensures) (listed_enough c.args.bytes.now c.requires)

pub read_ids-requires : goal.read_ids-requires
read_ids-requires c = listed_enough c.args.bytes.now c.requires

pub returns : goal.returns
returns c = rw (c.in_ok-read_ids-in-len1-up.ensures, c.split_at.ensures.back, c.from.ensures) (listed c.args.bytes.now c.requires)
