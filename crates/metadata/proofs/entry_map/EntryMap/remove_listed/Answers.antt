-- A turn of the loop removes the entry at one key, and after the last no key is left.
use Rattle.std.proofs.Common.{◌∙◌, ap, arith, true, None, if◌then◌else◌}
use Rattle.system_keys.specs.Keys.{Key}
use Rattle.model.specs.Metadata.{entry_value}
use Rattle.metadata.specs.Overwrites.{is_same_key}
use Rattle.metadata.proofs.ListedKeys.{next_listed, all_listed}
use Rattle.metadata.proofs.entry_map.EntryMap.remove_listed.Goals as goal

pub loop-listed-preserved : goal.loop-listed-preserved
loop-listed-preserved c = (
  next_listed None (λ (key : Key). true) c.args.keys.now c.listed-item.result c.loop-listed.listed-index c.args.self.now c.loop-listed.self c.remove_key.new.self (omega (arith, c.loop-listed-test.true))
      (λ other. c.remove_key.ensures.values other ∙ ap (λ (k : Key). if is_same_key other k then None else entry_value c.loop-listed.self other) c.listed-item.is)
      c.loop-listed.invariant.0,
  (λ order. c.remove_key.ensures.order),
)

pub returns-clause-values : goal.returns-clause-values
returns-clause-values c = all_listed None (λ (key : Key). true) c.args.keys.now c.loop-listed.listed-index c.args.self.now c.loop-listed.self (omega arith) c.loop-listed.invariant.0
