use Rattle.model.proofs.Proxies.Finishing.{true_agree, true_finish, true_journal, true_in_step}
use Rattle.model.proofs.laws.proxies.finish_by_replies_law.Goals as goal

pub returns : goal.returns
returns c = record {
  agree = true_agree;
  finished = true_finish;
  journal = true_journal;
  in_step = true_in_step;
}
