-- From no flags at all, the resolvers that are flagged in the end are those that are asked.
use Rattle.std.proofs.Common.{◌∙◌, Bool, [], ℕ}
use Rattle.system_keys.specs.Keys.{Range}
use Rattle.dated_owners.specs.Walks.{takes_later}
use Rattle.dated_owners.specs.Starts.{some_start}
use Rattle.dated_owners.proofs.AskedStarts.{first_flagged}
use Rattle.dated_owners.proofs.walks.asked_resolvers.Goals as goal

pub returns : goal.returns
returns c =
    let range : Range = record { begin = c.args.begin.now; end = c.args.end.now } in
    let test : ℕ → Bool = λ r. some_start [] c.args.pieces.now.entries (takes_later c.args.walk r) range in
    c.of_flags.ensures ∙ first_flagged test c.args.resolvers c.all-flags.result c.walk_range.new.flags c.requires.few c.all-flags.ensures c.walk_range.ensures
