use Rattle.model.proofs.Resolvers.Remembered.{requests_reached_up_to, requests_reached_by, requests_remembered_enough, request_unseen_remembered, remembered_requests_more, told_requests_more}
use Rattle.model.proofs.laws.resolvers.enough_requests_remembered_law.Goals as goal

pub returns : goal.returns
returns c = record { each = requests_reached_up_to; tight = requests_reached_by; enough = requests_remembered_enough; told = request_unseen_remembered; more = remembered_requests_more; next = told_requests_more }
