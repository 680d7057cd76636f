-- What was displaced takes back what is put, also where only some of it is put.
use Rattle.std.proofs.Common.{◌≡◌, sym, subst}
use Rattle.model.specs.Metadata.{IsInOrder}
use Rattle.metadata.proofs.TakenBack.{takes_nothing}
use Rattle.metadata.proofs.entry_map.EntryMap.put_all.Goals as goal

pub returns-in-Ok-clause-takes : goal.returns-in-Ok-clause-takes
returns-in-Ok-clause-takes c = c.put_each.ensures.takes c.args.self.now (takes_nothing c.new-displaced.result.items c.args.self.now c.new-displaced.ensures.items)

pub returns-in-Err-clause-err : goal.returns-in-Err-clause-err
returns-in-Err-clause-err c = c.take_back.ensures c.args.self.now (c.put_each.ensures.takes c.args.self.now (takes_nothing c.new-displaced.result.items c.args.self.now c.new-displaced.ensures.items))

pub returns-in-Err-clause-order : goal.returns-in-Err-clause-order
returns-in-Err-clause-order c =
    let same : c.take_back.new.self ≡ c.args.self.now =
    c.take_back.ensures c.args.self.now (c.put_each.ensures.takes c.args.self.now (takes_nothing c.new-displaced.result.items c.args.self.now c.new-displaced.ensures.items)) in
    subst IsInOrder (sym same) (subst IsInOrder c.self.view_is c.self.invariant)
