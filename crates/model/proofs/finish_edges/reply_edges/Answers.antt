use Rattle.model.proofs.FinishingEdgeCases.{the_rows_that_replies_tell}
use Rattle.model.proofs.FinishingEdgeCases.{the_verdicts_that_replies_have}
use Rattle.model.proofs.FinishingEdgeCases.{replies_that_have_not_come}
use Rattle.model.proofs.finish_edges.reply_edges.Goals as goal

pub returns : goal.returns
returns c = record {
  rows = the_rows_that_replies_tell;
  verdicts = the_verdicts_that_replies_have;
  not_come = replies_that_have_not_come;
}
