-- A `Fact<T>` is Send and Sync for every T: it holds a name alone.
use denote.RattleType.{RattleType}
use denote.Param.Send.{IsSend, IsSync, sendable}
use denote.Struct.Owning
use denote.Struct.Struct
use Rattle.facts.specs.contracts.fact.Fact as Fact

pub fact_send : (R : RattleType) → IsSend (Fact.the_row R)
fact_send R = record { owned = λ d vs. ((λ vss. (tt, ((λ uss. (tt, tt)), tt))), tt); leaving = λ k f vs. tt }

pub fact_sync : (R : RattleType) → IsSync (Fact.the_row R)
fact_sync R = let fields : IsSync (denote.Struct.Struct.Struct (denote.Struct.Owning.shape (Fact.the_type R))) = search sendable depth 20 in
    record { shared = λ d b o κ. (fields.shared (tt, tt) b o κ, tt) }
