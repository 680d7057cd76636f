-- A turn of the loop puts back what was displaced last.
use Rattle.std.proofs.Common.{◌≡◌, ◌∙◌, sym, subst, length, List, vec_len, rules}
use Rattle.metadata.specs.Overwrites.{Displaced, TakesBack}
use Rattle.metadata.proofs.KeySets.{none_left}
use Rattle.metadata.proofs.TakenBack.{takes_less, taken_all}
use Rattle.metadata.proofs.entry_map.EntryMap.take_back.Goals as goal

pub loop-last-init : goal.loop-last-init
loop-last-init c = λ before takes. takes

pub loop-last-preserved : goal.loop-last-preserved
loop-last-preserved c = λ before takes.
    takes_less c.pop.new.self.items c.in-Some.last before c.loop-last.self c.put_back.new.self c.put_back.ensures
    (subst (λ (displaced : List Displaced). TakesBack displaced before c.loop-last.self) c.in-Some.ensures.items (c.loop-last.invariant before takes))

pub returns : goal.returns
returns c = λ before takes.
    let size : vec_len c.loop-last.displaced ≡ length c.loop-last.displaced.items = search rules in
    taken_all c.loop-last.displaced.items before c.loop-last.self (none_left c.loop-last.displaced.items (sym size ∙ c.in_default.ensures.cases.0)) (c.loop-last.invariant before takes)
