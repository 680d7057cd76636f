-- The entries of the map between its ends are those inside the range after the key; none is past the end.
use Rattle.std.proofs.Common.{◌≡◌, ◌∙◌, ◌++◌, ap, filter, false, rules}
use Rattle.system_keys.specs.Keys.{Key, is_key_below}
use Rattle.system_keys.specs.Families.{key_servers_family}
use Rattle.model.specs.Metadata.{Entries}
use Rattle.metadata.specs.HiddenRuns.{is_serving_after}
use Rattle.metadata.proofs.HiddenRuns.{between_after, none_after, same_forward}
use Rattle.metadata.proofs.entry_map.EntryMap.serving_after.Goals as goal

pub returns-then-is_below : goal.returns-then-is_below
returns-then-is_below c =
    c.range.ensures.between tt
    ∙ between_after c.self.inside.values.entries c.args.key.now c.in_ok-end.end c.args.range.now (c.in_ok-end.ensures ∙ ap (λ (key : Key). key_servers_family.prefix ++ key) c.end.ensures.value) c.requires
    ∙ ap (λ (entries : Entries). filter (is_serving_after c.args.key.now c.args.range.now) entries) c.self.view_is

pub range-requires-else-is_below : goal.range-requires-else-is_below
range-requires-else-is_below c = same_forward c.in_ok-end.end

pub returns : goal.returns
returns c =
    let past : is_key_below c.args.key.now c.in_ok-end.end ≡ false = search rules in
    c.range-else-is_below.ensures.between tt
    ∙ none_after c.self.inside.values.entries c.args.key.now c.in_ok-end.end c.args.range.now (c.in_ok-end.ensures ∙ ap (λ (key : Key). key_servers_family.prefix ++ key) c.end.ensures.value) past
    ∙ ap (λ (entries : Entries). filter (is_serving_after c.args.key.now c.args.range.now) entries) c.self.view_is
