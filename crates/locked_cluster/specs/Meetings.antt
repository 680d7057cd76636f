-- What two proxies that meet hold alike. *Profile*: all of it.
use Rattle.std.specs.Prelude.{◌≡◌, ◌<◌, length, take}
use Rattle.model.specs.Finishing.{ProxyView}
use Rattle.locked_cluster.specs.declared.proxies.meeting.Meeting.{Meeting}
use Rattle.locked_cluster.specs.declared.proxies.meeting.Meeting.TheVariants as meetings

-- The versions are told as they are. At one version the journals, and with them the metadata, are the
-- same; else the journal of the proxy that is behind is the beginning of the other's.
abbrev pub Met : Meeting → (mine other : ProxyView) → Type 0
Met meetings.Same mine other = (mine.version ≡ other.version) × (mine.journal ≡ other.journal)
Met meetings.Behind mine other =
    (mine.version < other.version) × (mine.journal ≡ take (length mine.journal) other.journal)
Met meetings.Ahead mine other =
    (other.version < mine.version) × (other.journal ≡ take (length other.journal) mine.journal)
