use Rattle.std.proofs.Common.{◌≡◌, ◌++◌}
use Rattle.std.specs.Prelude.{string_bytes}
use Rattle.std.specs.List.{flat_map}
use Rattle.model.specs.Shares.{each_below}
use Rattle.turns_run.specs.Text.{proxy_text}
use Rattle.turns_run.proofs.proxies.print_proxies.Given as goal

abbrev pub invariant-loop-number : goal.invariant-loop-number
invariant-loop-number l = string_bytes l.text ≡ string_bytes l.fn.text ++ flat_map (proxy_text l.config l.world.world l.keys) (each_below l.number)
