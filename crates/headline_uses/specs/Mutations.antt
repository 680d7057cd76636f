-- The mutations that an answer sends to the logs.
use Rattle.std.specs.Prelude.{◌≡◌, ℕ, List, slice_get, Some, Contains}
use Rattle.system_keys.specs.declared.change.Change.{Change}
use Rattle.model.specs.Numbers.{TransactionNumber, Version}
use Rattle.model.specs.Configs.{Config}
use Rattle.model.specs.Records.{Record}
use Rattle.model.specs.declared.outcome.Finished.{Finished}
use Rattle.model.specs.declared.outcome.Outcome.TheVariants.{Committed}
use Rattle.model.specs.declared.outcome.Tagged.{Tagged}
use Rattle.model.specs.Journal.{history_verdicts, journal}
use Rattle.model.specs.Metadata.{Entries, metadata, tags}
use Rattle.model.specs.PrivateCopies.{private_copy}
use Rattle.model.specs.Serial.{Place}

-- the change at this place of transaction n, with the tags and the private copy that these entries
-- give it
abbrev pub sent_by : Entries → (n : TransactionNumber) (place : ℕ) → Change → Tagged
sent_by entries n place change =
    record {
      number = n;
      place = place;
      change = change;
      tags = tags entries change;
      private = private_copy entries change;
    }

-- Take a transaction of the finished record whose client is told Committed. Each of its changes is
-- among the mutations, with the tags and the private copy that the metadata after these records gives
-- it.
abbrev pub AreAllSent : Config → List Record → Finished → Type 0
AreAllSent config records finished =
    let entries = metadata (journal config (history_verdicts config records) records) in
    (a : Place records) → a.i ≡ finished.row
    → (version : Version) (number : TransactionNumber)
    → slice_get finished.outcomes a.n ≡ Some (Committed version number)
    → (place : ℕ) (change : Change) → slice_get a.transaction.changes place ≡ Some change
    → Contains finished.tagged (sent_by entries a.n place change)
