-- What is put, with what is blanked before it is removed, gives the entries after both.
use Rattle.metadata.proofs.CachedTags.{left_blanked, blanked_no_tag}
use Rattle.metadata.proofs.metadata.Metadata.start.Goals as goal

pub returns-clause-ok : goal.returns-clause-ok
returns-clause-ok c = λ after order over. record {
  left = left_blanked c.args.staged.cleared c.keys_lacked-removed.result c.args.staged.puts c.blank_server_tags.new.self c.args.self.now c.put_over.new.self after c.in_ok-put.ensures.order order c.in_ok-blank_server_tags.ensures c.in_ok-put.ensures.ok c.keys_lacked-removed.ensures over;
  takes = c.in_ok-put.ensures.takes;
  order = c.in_ok-put.ensures.was_in_order;
  kept = c.in_ok-put.ensures.was_kept;
  servers = c.in_ok-put.ensures.servers;
  blank_server_tags = blanked_no_tag c.keys_lacked-removed.result c.args.staged.puts c.blank_server_tags.new.self c.args.self.now c.put_over.new.self c.in_ok-blank_server_tags.ensures c.in_ok-put.ensures.ok c.in_ok-put.ensures.kept;
}
