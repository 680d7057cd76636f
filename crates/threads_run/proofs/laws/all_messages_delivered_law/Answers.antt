-- Each law is a lemma.
use Rattle.threads_run.proofs.LawLemmas.{a_record_is_one_message, each_worker_took_all}
use Rattle.threads_run.proofs.laws.all_messages_delivered_law.Goals as goal

pub returns : goal.returns
returns c = record { taken = each_worker_took_all; message = a_record_is_one_message }
