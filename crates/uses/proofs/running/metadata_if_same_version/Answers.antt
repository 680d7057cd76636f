-- The proxies are there, and are compared by their versions.
use Rattle.std.proofs.Common.{sym, ◌∙◌}
use Rattle.uses.proofs.OneVersion.{metadata_of}
use Rattle.uses.proofs.running.metadata_if_same_version.Goals as goal

pub returns-clause-shown : goal.returns-clause-shown
returns-clause-shown c =
    let v = c.args.cluster.now in
    let one = c.in_ok-first.ensures.1 in
    let other = c.in_ok-second.ensures.1 in
    record {
      first_there = c.in_ok-first.ensures.0;
      second_there = c.in_ok-second.ensures.0;
      one_version = sym one.version ∙ sym c.version.ensures ∙ c.if-version.false ∙ c.version-2.ensures ∙ other.version;
      mine_is = c.metadata.ensures ∙ metadata_of v.config v.world c.args.first c.in_ok-first.first.now one;
      theirs_is = c.metadata-2.ensures ∙ metadata_of v.config v.world c.args.second c.in_ok-second.second.now other;
    }
