-- Two proxies of a world at one version have the same metadata.
use Rattle.std.proofs.Common.{◌≡◌, ◌∙◌, sym, ap}
use Rattle.model.specs.Numbers.{ProxyNumber, Version}
use Rattle.model.specs.Configs.{Config}
use Rattle.model.specs.Journal.{history_verdicts, journal}
use Rattle.model.specs.Metadata.{metadata}
use Rattle.model.specs.World.{World, up_to_version, proxy_journal, proxy_metadata}
use Rattle.model.specs.Finishing.{ProxyView}
use Rattle.model.specs.Turns.{IsProxyOf}

pub one_metadata :
    (config : Config) (w : World) (p q : ProxyNumber) (first second : ProxyView)
    → IsProxyOf config w p first → IsProxyOf config w q second
    → first.version ≡ second.version
    → metadata first.journal ≡ metadata second.journal
unfolding proxy_journal
one_metadata config w p q first second of_first of_second same =
    let journal_at = λ (version : Version). journal config (history_verdicts config w.history) (up_to_version version w.history) in
    ap metadata (of_first.journal ∙ ap journal_at (sym of_first.version ∙ same ∙ of_second.version) ∙ sym of_second.journal)

-- the metadata of a proxy is that of the world
pub metadata_of :
    (config : Config) (w : World) (p : ProxyNumber) (v : ProxyView) → IsProxyOf config w p v
    → metadata v.journal ≡ proxy_metadata config w p
metadata_of config w p v is = ap metadata is.journal
