-- The tags of the entry that serves the begin, and then those of the entries inside, added to none.
use Rattle.std.proofs.Common.{◌∙◌, option_to_list, filter}
use Rattle.std.proofs.lemmas.Result.{IfOk-weaker}
use Rattle.model.specs.Metadata.{tags, entry_tags, serving_entry, key_servers_entries, is_entry_inside}
use Rattle.metadata.proofs.Tags.{rising_both}
use Rattle.metadata.proofs.tagging.tags_of_range.Goals as goal

pub returns : goal.returns
unfolding tags
returns c =
    IfOk-weaker c.list_tags.result _ _
    (λ list is. is ∙ rising_both (entry_tags c.args.entries.now) (option_to_list (serving_entry (key_servers_entries c.args.entries.now) c.args.range.now.begin)) (filter (is_entry_inside c.args.range.now) (key_servers_entries c.args.entries.now))
    c.new-tags.result.keys c.add_tags_of_key.new.tags.keys c.add_tags_inside.new.tags.keys c.new-tags.ensures.empty
    (rw c.begin.ensures.value at c.in_ok-add_tags_of_key.ensures) c.in_ok-add_tags_inside.ensures)
    c.list_tags.ensures
