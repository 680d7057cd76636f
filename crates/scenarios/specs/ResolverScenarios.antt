-- What one resolver answers to requests that no proxy of a cluster would send it.
use Rattle.std.specs.Prelude.{◌≡◌, ℕ, List, [], ◌∷◌, map, Ok, Err}
use Rattle.model.specs.declared.reply.Reply.{Reply}
use Rattle.model.specs.Requests.{Request}
use Rattle.model.specs.Offers.{OfferResult, Again, WrongResolver, NoSuchProxy, OutsideChain}
use Rattle.model.specs.Offers.{GivenUp, Early, answer_to}

-- a request with these numbers, for row 0 and of no transaction
abbrev pub asking : (resolver proxy previous version last_received : ℕ) → Request
asking resolver proxy previous version last_received =
    record {
      resolver = resolver;
      proxy = proxy;
      row = 0;
      previous = previous;
      version = version;
      last_received = last_received;
      share = [];
      states = [];
    }

-- resolver 0 of two proxies, with a window of 100, after it judged two requests of proxy 0
abbrev pub answered : Request → OfferResult
answered q = answer_to 0 2 100 (asking 0 0 0 10 0 ∷ asking 0 0 10 20 10 ∷ []) q

-- the reply to the second of them
abbrev pub second_reply : Reply
second_reply =
    record { resolver = 0; proxy = 0; row = 0; version = 20; verdicts = []; unseen = [] }

abbrev pub strangers : List Request
strangers =
    asking 1 2 20 30 0
    ∷ asking 0 2 20 30 0
    ∷ asking 1 2 20 20 0
    ∷ asking 1 0 20 30 21
    ∷ asking 0 2 20 20 0
    ∷ asking 0 2 20 30 21
    ∷ asking 0 0 20 20 0
    ∷ asking 0 0 20 30 21
    ∷ asking 0 0 0 10 0
    ∷ asking 0 0 10 20 10
    ∷ asking 0 0 10 15 0
    ∷ asking 0 1 0 10 0
    ∷ asking 0 1 30 40 0
    ∷ asking 0 1 15 30 0
    ∷ []

-- strangers are refused in the order of the checks: an unknown resolver, an unknown proxy, and then
-- versions out of order; a repeat gets its reply
abbrev pub RequestsOfStrangers : Type 0
RequestsOfStrangers =
    map answered strangers
    ≡ Err WrongResolver
    ∷ Err NoSuchProxy
    ∷ Err WrongResolver
    ∷ Err WrongResolver
    ∷ Err NoSuchProxy
    ∷ Err NoSuchProxy
    ∷ Err (OutsideChain 20)
    ∷ Err (OutsideChain 20)
    ∷ Err (GivenUp 10)
    ∷ Ok (Again second_reply)
    ∷ Err (OutsideChain 20)
    ∷ Err (OutsideChain 20)
    ∷ Err (Early 20)
    ∷ Err (OutsideChain 20)
    ∷ []
