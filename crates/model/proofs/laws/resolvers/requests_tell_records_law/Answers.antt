use Rattle.model.proofs.Resolvers.Requests.{request_verdicts_are, request_row_is, request_reply_is, remembered_requests_are}
use Rattle.model.proofs.laws.resolvers.requests_tell_records_law.Goals as goal

pub returns : goal.returns
returns c = record { verdicts = request_verdicts_are; row = request_row_is; reply = request_reply_is; remembered = remembered_requests_are }
