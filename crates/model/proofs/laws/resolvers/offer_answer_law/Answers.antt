use Rattle.model.proofs.Resolvers.Offers.{offers_are_answered, judged_in_turn}
use Rattle.model.proofs.laws.resolvers.offer_answer_law.Goals as goal

pub returns : goal.returns
returns c = record { answer = offers_are_answered; in_turn = judged_in_turn }
