-- The requests are among what was sent through the ends.
use Rattle.workers.proofs.AskLemmas.{all_sent}
use Rattle.workers.proofs.proxy_inboxes.ProxyInboxes.send_all.Goals as goal

pub returns : goal.returns
returns g c = all_sent c.args.messages.items _ _ c.send_requests.ensures
