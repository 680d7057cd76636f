-- A transaction of unchecked bytes, as the model's transaction as given.
use Rattle.std.specs.Prelude.{map}
use Rattle.system_keys.specs.Keys.{Range}
use Rattle.model.specs.Stamps.{Mutation, AdmittedTransaction}
use Rattle.model.specs.Stamps as given
use Rattle.mutation.specs.declared.transaction.GivenRange.{GivenRange}
use Rattle.mutation.specs.declared.transaction.Mutation.{Mutation as UncheckedMutation}
use Rattle.mutation.specs.declared.transaction.Mutation.TheVariants.{Set, Clear, SetStamped}
use Rattle.mutation.specs.declared.transaction.Transaction.{Transaction}

-- the range from `begin` up to `end`
abbrev pub range_from : GivenRange → Range
range_from range = record { begin = range.begin; end = range.end }

-- the mutation of unchecked bytes, as given
abbrev pub from_unchecked : UncheckedMutation → Mutation
from_unchecked (Set key value) = given.Set key value
from_unchecked (Clear begin end) = given.Clear (record { begin = begin; end = end })
from_unchecked (SetStamped key value) = given.SetStamped key value

-- the transaction of unchecked bytes, as given
abbrev pub given_from : Transaction → AdmittedTransaction
given_from t =
    record {
      snapshot = t.snapshot;
      reads = map range_from t.reads;
      writes = map range_from t.writes;
      mutations = map from_unchecked t.mutations;
      lock_aware = t.lock_aware;
    }
