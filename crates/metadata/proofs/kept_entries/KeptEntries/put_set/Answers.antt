-- What is put at a kept key, which no serverTag entry has, is displaced first and leaves the servers.
use Rattle.std.proofs.Common.{◌≡◌, false, rules}
use Rattle.metadata.specs.CachedTags.{names_server}
use Rattle.metadata.proofs.SetEntries.{other_put}
use Rattle.metadata.proofs.TakenBack.{takes_put}
use Rattle.metadata.proofs.kept_entries.KeptEntries.put_set.Goals as goal

pub returns-in_ok-put_kept-clause-takes : goal.returns-in_ok-put_kept-clause-takes
returns-in_ok-put_kept-clause-takes c = λ before takes.
    takes_put c.args.displaced.now.items c.put_kept.new.displaced.items before c.args.self.now c.put_kept.new.self c.args.key.now c.args.value.now c.put_kept.ensures.was_in_order c.in_ok-put_kept.ensures.displaced c.in_ok-put_kept.ensures.ok takes

pub returns-in_ok-put_kept-clause-servers : goal.returns-in_ok-put_kept-clause-servers
returns-in_ok-put_kept-clause-servers c =
    let other : names_server c.args.key.now ≡ false = search rules in
    other_put c.args.self.now c.put_kept.new.self c.args.key.now c.args.value.now other c.in_ok-put_kept.ensures.ok
