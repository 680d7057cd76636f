-- What is kept of the requests that a proxy sent.
use Rattle.std.specs.Prelude.{◌≡◌, ℕ, List, [], slice_get, unwrap_or}
use Rattle.model.specs.Requests.{Request}
use Rattle.request_builder.specs.Requests.{request_of}
use Rattle.request_builder.specs.declared.header.RequestHeader.{RequestHeader}

-- the request has the numbers of the one that was sent
pub record HasNumbersOf (sent q : Request) : Type 0 where
  pub resolver : q.resolver ≡ sent.resolver
  pub proxy : q.proxy ≡ sent.proxy
  pub row : q.row ≡ sent.row
  pub previous : q.previous ≡ sent.previous
  pub version : q.version ≡ sent.version
  pub last_received : q.last_received ≡ sent.last_received

-- the request of these numbers alone: it has no parts and no marks
abbrev pub bare_request : RequestHeader → Request
bare_request header = request_of header [] []

-- the request to this resolver, of those that are kept; where there is none, that of these numbers alone
abbrev pub kept_request : (kept : List Request) (resolver : ℕ) → RequestHeader → Request
kept_request kept resolver header = unwrap_or (slice_get kept resolver) (bare_request header)
