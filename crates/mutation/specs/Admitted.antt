-- What an admitted transaction is seen as.
use Rattle.model.specs.Stamps.{Mutation}
use Rattle.model.specs.Stamps as given
use Rattle.mutation.specs.declared.admitted.AdmittedMutation.{AdmittedMutation}
use Rattle.mutation.specs.declared.admitted.AdmittedMutation.TheVariants.{Set, Clear, SetStamped}

-- an admitted mutation, as it was given
abbrev pub from_admitted : AdmittedMutation → Mutation
from_admitted (Set key value) = given.Set key value
from_admitted (Clear range) = given.Clear range
from_admitted (SetStamped key value) = given.SetStamped key value
