-- The lines that are printed of metadata at a version (this project's profile).
use Rattle.std.specs.Prelude.{ℕ, List, ◌++◌, codes}
use Rattle.std.specs.Fmt.{decimal}
use Rattle.system_keys.specs.Keys.{Key}
use Rattle.model.specs.Numbers.{ProxyNumber, Version}
use Rattle.model.specs.Metadata.{Entries, routing}
use Rattle.scripts.specs.Lines.{asked_text, line, routing_text}

-- metadata at a version: its routing, and the tags of the asked keys
abbrev pub metadata_text : Version → Entries → List Key → List ℕ
metadata_text version rows ask = routing_text (routing version rows) ++ asked_text rows ask

-- the number of a proxy, before the lines of its metadata
abbrev pub proxy_line : ProxyNumber → List ℕ
proxy_line p = line (codes "proxy " ++ decimal p)
