-- The first owner makes no difference before the others, or is put at its place.
use Rattle.std.proofs.Common.{rules, arith}
use Rattle.dated_owners.proofs.MergedOwnerLaws.{first_left_out, first_put_in}
use Rattle.dated_owners.proofs.merging.push_first_if_needed.Goals as goal

pub returns-in_ok-insert-in-len1-up : goal.returns-in_ok-insert-in-len1-up
returns-in_ok-insert-in-len1-up c =
    first_put_in c.args.merged.now.items c.args.owners.now c.insert.new.self.items c.place_within_date-place.result (omega arith)
    c.in_ok-insert-in-len1-up.ensures.items (search rules) (search rules) (search rules)

pub returns-else-not-recurs_within_date : goal.returns-else-not-recurs_within_date
returns-else-not-recurs_within_date c = first_left_out c.args.merged.now.items c.args.owners.now (omega arith) (c.recurs_within_date.ensures (search rules))
