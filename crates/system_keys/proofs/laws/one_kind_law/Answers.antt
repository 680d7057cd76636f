use Rattle.system_keys.proofs.KindLaws.{kind_both_ways}
use Rattle.system_keys.proofs.laws.one_kind_law.Goals as goal

pub returns : goal.returns
returns c = kind_both_ways
