use Rattle.std.proofs.Common.{◌≡◌, ◌++◌, ◌∷◌, [], arith, rules}
use Rattle.scripts.proofs.StreamLemmas.{taken_shorter}
use Rattle.scripts.proofs.StreamListLemmas.{no_end, so_far_turn, so_far_end}
use Rattle.scripts.proofs.stream_shapes.take_each.Goals as goal

pub items-smaller : goal.items-smaller
items-smaller g c =
    let going : c.take_end_array.new.self ≡ c.items.reader = grind arith in
    taken_shorter g.X.Shaped.shape c.args.depth c.items.reader c.from_tokens.new.reader c.in_ok-item.item (rw going at c.in_ok-item.ensures)

pub items-preserved : goal.items-preserved
items-preserved g c =
    let l = c.items in
    let item = c.in_ok-item.item in
    let going : c.take_end_array.new.self ≡ l.reader = grind arith in
    let taken = rw going at c.in_ok-item.ensures in
    let more = no_end g.X.Shaped.shape c.args.depth l.reader item c.from_tokens.new.reader taken in
    let pushed : c.push.new.self.items ≡ l.found.items ++ item ∷ [] = search rules in
    rw pushed (so_far_turn g.X.Shaped.shape c.args.depth c.args.reader.now l.reader c.from_tokens.new.reader l.found.items item l.invariant more taken)

pub returns : goal.returns
returns g c =
    let l = c.items in
    so_far_end g.X.Shaped.shape c.args.depth c.args.reader.now l.reader c.take_end_array.new.self l.found.items l.invariant (grind arith)
