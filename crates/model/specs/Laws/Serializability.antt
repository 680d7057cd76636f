-- Statements of the rule of commit.
use Rattle.std.specs.Prelude.{List}
use Rattle.model.specs.Configs.{Config, IsConfig}
use Rattle.model.specs.Records.{Record, IsHistory}
use Rattle.model.specs.Serial.{IsSerial}

-- every history obeys the rule of commit: no committed transaction read a range that another
-- committed one wrote between its snapshot and itself
abbrev pub HistoriesAreSerial : Type 0
HistoriesAreSerial =
    (config : Config) (history : List Record)
    → IsConfig config → IsHistory config history → IsSerial config history
