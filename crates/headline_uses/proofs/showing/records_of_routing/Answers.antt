-- The rows that the routing knows reach its version, and there are as many records, or more.
use Rattle.std.proofs.Common.{◌*◌, ◌≤◌, subst, ℕ, List, length, arith, mul-le-mul_right}
use Rattle.model.specs.Configs.{Config}
use Rattle.model.specs.Records.{Record, IsHistory, last_version}
use Rattle.model.proofs.History.Chain.{version_before}
use Rattle.locked_resolvers.proofs.Lists.{take_all}
use Rattle.headline_uses.proofs.showing.records_of_routing.Goals as goal

-- as many records as these rows reach a version that the rows reach
reach : (config : Config) (h : List Record) (version rows : ℕ) → IsHistory config h → rows ≤ length h → version ≤ rows * config.step → version ≤ last_version h
reach config h version rows history within reached =
    subst (λ (records : List Record). version ≤ last_version records) (take_all h (length h) (omega arith))
    (let last = version_before config h (length h) history (omega arith) in
    let more : rows * config.step ≤ length h * config.step = mul-le-mul_right config.step within in
    omega (arith, last, more, reached))

pub returns-clause-reached : goal.returns-clause-reached
returns-clause-reached g c =
    let noted = c.records.ensures.kept in
    reach g.N.Naming.cells.config c.args.noted.now.records c.args.noted.now.routing.version noted.rows noted.agreed.history noted.agreed.rows noted.reached
