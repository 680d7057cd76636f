-- A turn of the loop adds the tags of one server.
use Rattle.std.proofs.Common.{◌≡◌, ◌∙◌, ap, arith, option_to_list, get_or}
use Rattle.metadata.specs.ServerTables.{tag_listed}
use Rattle.metadata.proofs.Tags.{added, step_at}
use Rattle.metadata.proofs.row_tags.put_server_tags.Goals as goal

pub loop-number-preserved : goal.loop-number-preserved
loop-number-preserved c =
    let is : option_to_list c.tag_near.result ≡ tag_listed c.args.table.now.tags (get_or c.args.servers.now c.loop-number.number c.index-servers-number.result) = c.tag_near.ensures ∙ ap (tag_listed c.args.table.now.tags) c.index-servers-number.is in
    step_at (tag_listed c.args.table.now.tags) c.args.servers.now c.index-servers-number.result c.loop-number.number c.loop-number.tags.keys c.put_tag.new.tags.keys _ (omega arith)
    (c.in_ok-put_tag.ensures ∙ ap (added c.loop-number.tags.keys) is) c.loop-number.invariant
