use Rattle.model.proofs.Shares.ByWrites.{records_as_shares, verdicts_after_shares, requests_as_shares, request_verdicts_after_shares}
use Rattle.model.proofs.laws.shares.judged_shares_law.Goals as goal

pub returns : goal.returns
returns c = record { records = records_as_shares; verdicts = verdicts_after_shares; requests = requests_as_shares; request_verdicts = request_verdicts_after_shares }
