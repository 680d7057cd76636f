-- Refused events, the last versions, and replies given up.
use Rattle.std.specs.Prelude.{◌≡◌, List, [], ◌∷◌, ◌++◌, None}
use Rattle.model.specs.Configs.{Config}
use Rattle.model.specs.World.{Event, Sequence, MoveRange, Offer, Finish, NoSuchResolver, Early}
use Rattle.model.specs.World.{GivenUp, NoSuchProxy, WrongResolver, NoSuchRow, OutOfTurn}
use Rattle.model.specs.World.{MissingReply, VersionsEnd, Sequenced, Refused}
use Rattle.model.specs.Examples.{cluster, told, m_to_t, judged, completed}
use Rattle.scenarios.specs.Vocabulary.{to_both, again, empty_row}

abbrev pub refusals : List Event
refusals =
    MoveRange m_to_t 2 ∷ Finish 0 ∷ Sequence 0 [] ∷ Offer 0 0 ∷ Finish 0 ∷ Offer 9 0 ∷ Offer 0 1
    ∷ Finish 0 ∷ []

-- a refused event changes nothing, and the run continues
abbrev pub RefusalsInOrder : Type 0
RefusalsInOrder =
    told cluster refusals
    ≡ Refused NoSuchResolver
    ∷ Refused (OutOfTurn None)
    ∷ Sequenced 0 10
    ∷ judged 0 0 10 0 [] []
    ∷ Refused (MissingReply 1)
    ∷ Refused NoSuchRow
    ∷ judged 0 0 10 1 [] []
    ∷ completed 0 10 [] []
    ∷ []

abbrev pub checks : List Event
checks =
    Sequence 0 [] ∷ Sequence 0 [] ∷ Offer 9 2 ∷ Offer 0 2 ∷ Sequence 2 [] ∷ Finish 2 ∷ Offer 1 1
    ∷ []

-- an unknown row is refused before an unknown resolver; unknown proxies are refused; a resolver
-- that has judged nothing yet names version 0
abbrev pub WhatIsCheckedFirst : Type 0
WhatIsCheckedFirst =
    told cluster checks
    ≡ Sequenced 0 10
    ∷ Sequenced 1 20
    ∷ Refused NoSuchRow
    ∷ Refused WrongResolver
    ∷ Refused NoSuchProxy
    ∷ Refused NoSuchProxy
    ∷ Refused (Early 0)
    ∷ []

abbrev pub greatest_steps : Config
greatest_steps = record cluster { step = 4611686018427387904 }

-- the first batch gets half of the limit of versions, and a second one would reach it; an unknown
-- proxy is refused before that
abbrev pub TheLastVersion : Type 0
TheLastVersion =
    told greatest_steps (Sequence 0 [] ∷ Sequence 0 [] ∷ Sequence 2 [] ∷ [])
    ≡ Sequenced 0 4611686018427387904 ∷ Refused VersionsEnd ∷ Refused NoSuchProxy ∷ []

abbrev pub greatest_step : Config
greatest_step = record cluster { step = 9223372036854775807 }

-- the greatest version of all is given out, and no later one
abbrev pub TheGreatestVersion : Type 0
TheGreatestVersion =
    told greatest_step (Sequence 0 [] ∷ Sequence 0 [] ∷ [])
    ≡ Sequenced 0 9223372036854775807 ∷ Refused VersionsEnd ∷ []

abbrev pub acknowledging : List Event
acknowledging =
    Sequence 0 [] ∷ Sequence 1 [] ∷ to_both 0 ++ to_both 1 ++ Finish 1 ∷ Sequence 1 [] ∷ Offer 2 0
    ∷ Offer 0 0
    ∷ Finish 0 ∷ Sequence 0 [] ∷ Offer 0 0 ∷ Offer 3 0 ∷ Offer 0 0
    ∷ Offer 2 1 ∷ Offer 3 1 ∷ Finish 0 ∷ Sequence 0 [] ∷ Offer 0 0 ∷ Offer 4 0 ∷ Offer 0 0
    ∷ Offer 3 0 ∷ Offer 0 1 ∷ []

-- a reply is given up by what its own proxy had received with the requests that this resolver
-- judged, and the refusal has the greatest of these versions
abbrev pub WhatAProxyHasAcknowledged : Type 0
WhatAProxyHasAcknowledged =
    told cluster acknowledging
    ≡ Sequenced 0 10
    ∷ Sequenced 1 20
    ∷ judged 0 0 10 0 [] []
    ∷ judged 0 0 10 1 [] []
    ∷ judged 1 1 20 0 [] (empty_row 10 ∷ [])
    ∷ judged 1 1 20 1 [] (empty_row 10 ∷ [])
    ∷ completed 1 20 [] []
    ∷ Sequenced 2 30
    ∷ judged 1 2 30 0 [] []
    ∷ again 0 0 10 0 [] []
    ∷ completed 0 10 [] []
    ∷ Sequenced 3 40
    ∷ again 0 0 10 0 [] []
    ∷ judged 0 3 40 0 [] (empty_row 20 ∷ empty_row 30 ∷ [])
    ∷ Refused (GivenUp 10)
    ∷ judged 1 2 30 1 [] []
    ∷ judged 0 3 40 1 [] (empty_row 20 ∷ empty_row 30 ∷ [])
    ∷ completed 3 40 [] []
    ∷ Sequenced 4 50
    ∷ Refused (GivenUp 10)
    ∷ judged 0 4 50 0 [] []
    ∷ Refused (GivenUp 40)
    ∷ Refused (GivenUp 40)
    ∷ Refused (GivenUp 10)
    ∷ []
