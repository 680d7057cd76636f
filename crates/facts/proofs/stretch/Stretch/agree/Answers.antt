use Rattle.std.proofs.Common.{arith}
use Rattle.facts.specs.Stretches.{Agree, cells}
use Rattle.facts.proofs.PlaceLaws.{agree_shifted, agree_flipped, cells_agree_at}
use Rattle.facts.proofs.stretch.Stretch.agree.Goals as goal

pub agree_from-requires-clause-cells : goal.agree_from-requires-clause-cells
agree_from-requires-clause-cells g c =
    let a = c.self.inside.first in
    let b = c.other.inside.first in
    let xs = cells c.self.inside.facts.items in
    let ys = cells c.other.inside.facts.items in
    let alike : Agree a xs b ys = cells_agree_at c.args.self.now c.args.other.now (record { first = a; known = c.self.inside.facts.items }) (record { first = b; known = c.other.inside.facts.items }) c.self.view_is c.other.view_is c.requires in
    agree_shifted a b xs ys c.if-self-other.true alike

pub agree_from-requires-else-self-other-clause-cells : goal.agree_from-requires-else-self-other-clause-cells
agree_from-requires-else-self-other-clause-cells g c =
    let a = c.self.inside.first in
    let b = c.other.inside.first in
    let xs = cells c.self.inside.facts.items in
    let ys = cells c.other.inside.facts.items in
    let alike : Agree a xs b ys = cells_agree_at c.args.self.now c.args.other.now (record { first = a; known = c.self.inside.facts.items }) (record { first = b; known = c.other.inside.facts.items }) c.self.view_is c.other.view_is c.requires in
    agree_shifted b a ys xs (omega (arith, c.if-self-other.false)) (agree_flipped a b xs ys alike)
