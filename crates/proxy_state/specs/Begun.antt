-- What a proxy keeps beside its value: whom each begun record asks, and that the begun records
-- follow one another.
use Rattle.std.specs.Prelude.{◌≡◌, ◌+◌, ◌-◌, ◌≤◌, List, [], ◌∷◌, map}
use Rattle.model.specs.Numbers.{Version}
use Rattle.model.specs.Configs.{Config}
use Rattle.model.specs.declared.journal.JournalRow.{JournalRow}
use Rattle.model.specs.Records.{Record}
use Rattle.model.specs.Shares.{asked}
use Rattle.model.specs.Metadata.{Entries, metadata}
use Rattle.model.specs.OwnerMaps.{OwnerMapView}
use Rattle.proxy_state.specs.declared.begun_record.BegunRecord.{BegunRecord}

-- the record of a begun record
abbrev pub record_of : BegunRecord → Record
record_of begun = begun.rec

-- the record may be begun after `version`, the version of this proxy's record before
pub record FollowsOwn (config : Config) (version : Version) (rec : Record) : Type 0 where
  pub own_previous : rec.own_previous ≡ version
  pub previous : version ≤ rec.previous
  pub step : rec.version ≡ rec.previous + config.step

-- each record follows the one before it, from `version` on up to `last`, and beside it are the
-- resolvers that it asks about each transaction
abbrev pub AreBegun : Config → (version last : Version) → List BegunRecord → Type 0
AreBegun config version last [] = last ≡ version
AreBegun config version last (begun ∷ later) =
    FollowsOwn config version begun.rec
    × (begun.asked ≡ map (asked config begun.rec) begun.rec.batch)
    × AreBegun config begun.rec.version last later

-- What the type of a proxy keeps: its metadata is the fold of its journal, its begun records follow one
-- another, and its map of owners has the resolvers of the cluster and remembers far enough back.
pub record IsKept
    (config : Config) (owned : OwnerMapView) (version last : Version) (begun : List BegunRecord)
    (journal : List JournalRow) (entries : Entries) : Type 0 where
  pub metadata_is : entries ≡ metadata journal
  pub chain : AreBegun config version last begun
  pub resolvers : owned.resolvers ≡ config.resolvers
  pub remembered : owned.oldest ≤ last - config.window
