use Rattle.model.proofs.Shares.ByWrites.{shares_begin, writes_give_verdict, parts_add, parts_make_share}
use Rattle.model.proofs.laws.shares.parts_by_writes_law.Goals as goal

pub returns : goal.returns
returns c = record { begins = shares_begin; verdict = writes_give_verdict; writes = parts_add; ends = parts_make_share }
