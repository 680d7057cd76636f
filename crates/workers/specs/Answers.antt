-- What a worker answers to a request that gets no reply. *Profile*: all of it.
use Rattle.locked_resolvers.specs.Requests.{RequestView}
use Rattle.locked_resolvers.specs.declared.refusal.Refusal.{Refusal}

-- why a request got no reply, and the request
pub record RefusedRequestView : Type 0 where
  pub refusal : Refusal
  pub request : RequestView
