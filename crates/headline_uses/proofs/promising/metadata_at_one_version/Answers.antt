-- By the promise the metadata is the same.
use Rattle.std.proofs.Common.{◌≡◌, rules}
use Rattle.headline_uses.proofs.promising.metadata_at_one_version.Goals as goal

pub returns-then-version-clause-same : goal.returns-then-version-clause-same
returns-then-version-clause-same g c =
    let same : c.args.one.now.proxy.version ≡ c.args.other.now.proxy.version = search rules in
    c.metadata_of_two.ensures.agree same
