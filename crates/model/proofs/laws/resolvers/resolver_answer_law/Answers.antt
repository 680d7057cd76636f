use Rattle.model.proofs.Resolvers.Answers.{memory_answers, verdicts_of_shares, memory_replies}
use Rattle.model.proofs.laws.resolvers.resolver_answer_law.Goals as goal

pub returns : goal.returns
returns c = record { answer = memory_answers; verdicts = verdicts_of_shares; reply = memory_replies }
