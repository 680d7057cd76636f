use Rattle.std.proofs.lemmas.List.{nil_from_length}
use Rattle.turns_run.proofs.OrderLemmas.{printed_all, printed_its, printed_none, printed_one}
use Rattle.turns_run.proofs.transactions.print_mutations_at_front.Goals as goal

pub mutations-init : goal.mutations-init
mutations-init g c = printed_none c.requires

pub mutations-preserved : goal.mutations-preserved
mutations-preserved g c =
    printed_one {rest = c.in-Some.rest.now} {first = c.in-Some.first.now} c.mutations.invariant (search c.in-Some.ensures) (search c.if-first-number.false) c.print_mutation.ensures

pub returns-then-first-number-clause-printed : goal.returns-then-first-number-clause-printed
returns-then-first-number-clause-printed g c =
    (printed_its {rest = c.in-Some.rest.now} {first = c.in-Some.first.now} c.mutations.invariant (search c.in-Some.ensures) (search c.if-first-number.true)).0

pub returns-then-first-number-clause-later : goal.returns-then-first-number-clause-later
returns-then-first-number-clause-later g c =
    (printed_its {rest = c.in-Some.rest.now} {first = c.in-Some.first.now} c.mutations.invariant (search c.in-Some.ensures) (search c.if-first-number.true)).1

pub returns-clause-printed : goal.returns-clause-printed
returns-clause-printed g c = (printed_all c.mutations.invariant (nil_from_length c.mutations.later.now c.in_default.ensures.cases)).0

pub returns-clause-later : goal.returns-clause-later
returns-clause-later g c = (printed_all c.mutations.invariant (nil_from_length c.mutations.later.now c.in_default.ensures.cases)).1
