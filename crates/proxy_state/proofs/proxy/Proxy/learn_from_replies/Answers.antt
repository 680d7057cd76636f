-- What is learned is learned of the earliest record.
use Rattle.std.proofs.Common.{ap}
use Rattle.model.specs.Finishing.{ProxyView}
use Rattle.proxy_state.proofs.FinishedProxies.{learned_from}
use Rattle.proxy_state.proofs.proxy.Proxy.learn_from_replies.Goals as goal

pub returns-clause-learned : goal.returns-clause-learned
returns-clause-learned c =
    learned_from c.args.self.now c.self.inside.config c.args.replies.now c.in_ok-begun.begun.now c.in_ok-of_replies.field-0 c.in_ok-begun.ensures.replied (ap (λ (v : ProxyView). v.config) c.self.view_is) c.in_ok-of_replies.ensures.told c.in_ok-of_replies.ensures.own c.in_ok-of_replies.ensures.columns
