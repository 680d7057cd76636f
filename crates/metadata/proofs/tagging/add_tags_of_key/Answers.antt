-- The tags of the row that serves the key are added.
use Rattle.std.proofs.Common.{◌∙◌, ap, sym, List}
use Rattle.metadata.proofs.Outcomes.{on_ok}
use Rattle.model.specs.Metadata.{serving_entry, key_servers_entries}
use Rattle.system_keys.specs.declared.tag.Tag.{Tag}
use Rattle.std.proofs.Common.{Option}
use Rattle.metadata.proofs.Tags.{added}
use Rattle.metadata.proofs.KeptTags.{known_tags, served_added}
use Rattle.metadata.proofs.tagging.add_tags_of_key.Goals as goal

pub returns-in-Some : goal.returns-in-Some
returns-in-Some c =
    let known = sym c.in-Some.is ∙ c.in_ok-list.ensures in
    on_ok c.add_to.result
    (λ is. is ∙ ap (λ (list : Option (List Tag)). added c.args.tags.now.keys (known_tags list)) known ∙ served_added c.args.entries.now c.args.tags.now.keys (serving_entry (key_servers_entries c.args.entries.now) c.args.key.now))
    c.add_to.ensures

pub returns-in-None : goal.returns-in-None
returns-in-None c =
    let known = sym c.in-None.is ∙ c.in_ok-list.ensures in
    ap (λ (list : Option (List Tag)). added c.args.tags.now.keys (known_tags list)) known ∙ served_added c.args.entries.now c.args.tags.now.keys (serving_entry (key_servers_entries c.args.entries.now) c.args.key.now)
