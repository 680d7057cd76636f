-- The entries between the ends are gone over, and each is hidden.
use Rattle.std.proofs.Common.{◌≡◌, ◌∙◌, ap, sym, true, rules, filter}
use Rattle.std.specs.List.{list_all}
use Rattle.model.specs.Metadata.{Entry, Entries}
use Rattle.system_keys.specs.Families.{key_servers_family, is_in}
use Rattle.metadata.specs.Overwrites.{is_listed}
use Rattle.metadata.proofs.HiddenRuns.{is_from_up_to, not_backwards, between_both, listed_next, hidden_run}
use Rattle.metadata.proofs.entry_map.EntryMap.is_hidden_run.Goals as goal

pub range-key-items-requires : goal.range-key-items-requires
range-key-items-requires c =
    not_backwards c.args.first.now c.args.last.now (search rules)

pub loop-key-init : goal.loop-key-init
loop-key-init c = (
  ap (λ (es : Entries). list_all (λ (entry : Entry). is_listed c.args.hidden.now entry.0) es) (c.into_iter-key-iterator.ensures.into_iter_gives ∙ c.range-key-items.ensures.between tt)
      ∙ ap (list_all (λ (entry : Entry). is_listed c.args.hidden.now entry.0))
      (between_both c.self.inside.values.entries c.args.first.now c.args.last.now ∙ ap (λ (entries : Entries). filter (λ (entry : Entry). is_from_up_to c.args.first.now c.args.last.now entry.0) entries) c.self.view_is),
  c.keys_at_or_after-listed.ensures,
)

pub loop-key-preserved : goal.loop-key-preserved
loop-key-preserved c =
    let found : is_listed c.loop-key.listed c.in-Some.key.now ≡ true = c.next_key_is.ensures.found (search rules) in
    let hides : is_listed c.args.hidden.now c.in-Some.key.now ≡ true = c.loop-key.invariant.1 c.in-Some.key.now found in (
      listed_next c.args.hidden.now (c.in-Some.key.now, c.in-Some.field-0-1.now) c.next.new.self c.loop-key.key-iterator _ c.in-Some.ensures.steps hides c.loop-key.invariant.0,
      (λ other listed. c.loop-key.invariant.1 other (c.next_key_is.ensures.rest other listed)),
    )

pub returns : goal.returns
returns c =
    let own : is_in key_servers_family c.args.first.now ≡ true = search rules in
    λ made.
    hidden_run c.args.hidden.now c.args.self.now c.args.first.now c.args.last.now own
    (ap (λ (es : Entries). list_all (λ (entry : Entry). is_listed c.args.hidden.now entry.0) es) (sym c.in-None.ensures.steps.0) ∙ c.loop-key.invariant.0)
