use Rattle.std.proofs.Common.{◌≡◌, arith}
use Rattle.facts.proofs.PlaceLaws.{appended_all}
use Rattle.facts.proofs.stretch.append.Goals as goal

pub returns : goal.returns
returns g c =
    let end : c.loop-place.place ≡ c.args.end = omega (arith, c.loop-place.auto.place-end, c.loop-place-test.false) in
    appended_all c.loop-place.to.items c.args.to.now.items c.args.from.now.items c.args.start c.loop-place.place c.args.end end c.loop-place.invariant.appended
