-- The proxy of this number refused to finish the record.
use Rattle.std.proofs.Common.{◌≡◌, rules, false}
use Rattle.locked_cluster.specs.Commits.{WasFinishRefused}
use Rattle.locked_cluster.specs.Proxies.{IsFinishRefusal, IsLockedProxy, awaits_row_before}
use Rattle.locked_cluster.proofs.commits.shared_proxy.SharedProxy.finish_in_turn.Goals as goal

pub returns-in_err-noted-clause-refused : goal.returns-in_err-noted-clause-refused
returns-in_err-noted-clause-refused g c =
    let config = g.N.Naming.cells.config in
    let v = c.wait_while-guard.result.value in
    let keeps : IsLockedProxy config v = search rules in
    let number : v.proxy.number ≡ c.args.self.now = search rules in
    let waited : awaits_row_before v.proxy.begun c.args.ready.row ≡ false = search rules in
    let refused : IsFinishRefusal v c.args.ready c.in_err-noted.field-0.0.0 = search rules in
    let was : WasFinishRefused config c.args.self.now c.args.ready c.in_err-noted.field-0.0.0 = (v, keeps, number, waited, refused) in
    search rules
