-- Each scenario computes.
use Rattle.std.proofs.Common.{refl}
use Rattle.model.proofs.Definitions.{the_definitions}
use Rattle.endings.specs.Scenarios.{TwoOrdersEndAlike, AProxyWaitsForAResolver}
use Rattle.endings.specs.Scenarios.{WhatIsLeftInOrder, RowsRememberedForTheSlowest, OneRoundIsEnough}
use Rattle.endings.specs.Scenarios.{RoundsInReverseTakeOneMoreThanRows}

pub two_orders_end_alike : TwoOrdersEndAlike
unfolding the_definitions
two_orders_end_alike = (refl, refl, refl, refl)

pub a_proxy_waits_for_a_resolver : AProxyWaitsForAResolver
unfolding the_definitions
a_proxy_waits_for_a_resolver = (refl, refl, refl, refl, refl)

pub what_is_left_in_order : WhatIsLeftInOrder
unfolding the_definitions
what_is_left_in_order = (refl, refl, refl, refl)

pub rows_remembered_for_the_slowest : RowsRememberedForTheSlowest
unfolding the_definitions
rows_remembered_for_the_slowest = (refl, refl, refl, refl)

pub one_round_is_enough : OneRoundIsEnough
unfolding the_definitions
one_round_is_enough = (refl, refl)

pub rounds_in_reverse_take_one_more_than_rows : RoundsInReverseTakeOneMoreThanRows
unfolding the_definitions
rounds_in_reverse_take_one_more_than_rows = refl
