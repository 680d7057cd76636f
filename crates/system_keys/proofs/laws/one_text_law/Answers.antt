use Rattle.std.proofs.Common.{sym}
use Rattle.system_keys.proofs.TextLaws.{text_spelled, bytes_again}
use Rattle.system_keys.proofs.laws.one_text_law.Goals as goal

pub returns-clause-spelled : goal.returns-clause-spelled
returns-clause-spelled c = λ text bytes e. sym (text_spelled text bytes e)

pub returns-clause-round_trip : goal.returns-clause-round_trip
returns-clause-round_trip c = bytes_again
