-- A key of a serverTag entry gets an empty value, if it is kept.
use Rattle.std.proofs.Common.{◌∙◌, ap}
use Rattle.system_keys.specs.declared.change.Change.TheVariants.{Set}
use Rattle.system_keys.specs.Keys.{Key}
use Rattle.model.specs.Metadata.{after_change}
use Rattle.metadata.proofs.Outcomes.{on_ok}
use Rattle.metadata.proofs.BlankedKeys.{blanked_key, other_key}
use Rattle.metadata.proofs.kept_entries.KeptEntries.blank_server_tag.Goals as goal

pub returns-in-Some : goal.returns-in-Some
returns-in-Some c =
    on_ok c.set.result
    (λ is. blanked_key c.args.self.now c.set.new.self c.args.key.now c.args.empty.now c.in-Some.ensures.own (is ∙ ap (λ (key : Key). after_change c.args.self.now (Set key c.args.empty.now)) c.in-Some.ensures.whole))
    c.set.ensures.ok

pub returns-in-None : goal.returns-in-None
returns-in-None c = other_key c.args.self.now c.args.key.now c.args.empty.now c.in-None.ensures.other
