-- Each edge case computes, or follows by comparing numbers.
use Rattle.std.proofs.Common.{refl, arith, [], ◌∷◌}
use Rattle.model.specs.Configs.{IsConfig}
use Rattle.model.specs.Edges.{TheOutcomesUnderTheLock, TheOwnersAfterAMove}
use Rattle.model.specs.Edges.{TheOldestVersionOfARecord, ARepeatGetsTheSameReply}
use Rattle.model.specs.Edges.{AnUnknownRowIsRefusedFirst}
use Rattle.model.specs.Edges.{AnEmptyValueIsNoLock, TagsRiseByLocalityFirst, TheEndsOfAClear}
use Rattle.model.specs.Edges.{RowsThatDoNotDecode, ValuesThatListTags, TheFirstFaultOfTwoLists}
use Rattle.model.specs.Edges.{TheBytesOfAStamp, AStampAmongText}
use Rattle.model.specs.Edges.{EachStampHasItsNumber, TheSharesOfARecord, TheRequestsForARecord}
use Rattle.model.specs.Edges.{TheJournalRowOfARecord, CellsWithoutVerdicts, AHistoryWithoutVerdicts}
use Rattle.model.specs.Edges.{TooFewVerdicts, TheFirstMissingReply, TheLimitsOfACluster, of_numbers}
use Rattle.model.specs.Edges.{TheDatesOfMoves, moved_at, TheResolversAskedOfThree}
use Rattle.model.specs.Edges.{StrangersAreRefusedFirst}
use Rattle.model.specs.OwnerMaps.{DatesInOrder}
use Rattle.model.specs.Finishing.{MayBeMade}
use Rattle.model.proofs.Definitions.{the_definitions}

pub an_empty_value_is_no_lock : AnEmptyValueIsNoLock
unfolding the_definitions
an_empty_value_is_no_lock = (refl, refl)

pub the_outcomes_under_the_lock : TheOutcomesUnderTheLock
the_outcomes_under_the_lock = (refl, refl, refl)

pub the_dates_of_moves : TheDatesOfMoves
the_dates_of_moves = (
  (omega arith, (omega arith, (omega arith, tt))),
  λ (falling : DatesInOrder 0 (moved_at 21 ∷ moved_at 20 ∷ [])). let second = falling.1.0 in omega (arith, second),
  (omega arith, omega arith, (omega arith, omega arith, (omega arith, omega arith, tt))),
  λ (falling : MayBeMade 2 0 (moved_at 21 ∷ moved_at 20 ∷ [])). let second = falling.2.0 in omega (arith, second),
  λ (early : MayBeMade 2 22 (moved_at 21 ∷ [])). let first = early.0 in omega (arith, first),
  λ (outside : MayBeMade 1 0 (moved_at 21 ∷ [])). let destination = outside.1 in omega (arith, destination),
)

pub the_owners_after_a_move : TheOwnersAfterAMove
the_owners_after_a_move = refl

pub the_oldest_version_of_a_record : TheOldestVersionOfARecord
the_oldest_version_of_a_record = refl

pub a_repeat_gets_the_same_reply : ARepeatGetsTheSameReply
unfolding the_definitions
a_repeat_gets_the_same_reply = refl

pub an_unknown_row_is_refused_first : AnUnknownRowIsRefusedFirst
unfolding the_definitions
an_unknown_row_is_refused_first = refl

pub tags_rise_by_locality_first : TagsRiseByLocalityFirst
unfolding the_definitions
tags_rise_by_locality_first = refl

pub the_ends_of_a_clear : TheEndsOfAClear
unfolding the_definitions
the_ends_of_a_clear = (refl, refl, refl, refl, refl, refl)

pub rows_that_do_not_decode : RowsThatDoNotDecode
unfolding the_definitions
rows_that_do_not_decode = refl

pub values_that_list_tags : ValuesThatListTags
unfolding the_definitions
values_that_list_tags = (refl, refl, refl, refl, refl, refl, refl)

pub the_first_fault_of_two_lists : TheFirstFaultOfTwoLists
unfolding the_definitions
the_first_fault_of_two_lists = (refl, refl, refl)

pub the_bytes_of_a_stamp : TheBytesOfAStamp
unfolding the_definitions
the_bytes_of_a_stamp = refl

pub a_stamp_among_text : AStampAmongText
unfolding the_definitions
a_stamp_among_text = refl

pub each_stamp_has_its_number : EachStampHasItsNumber
unfolding the_definitions
each_stamp_has_its_number = refl

pub the_shares_of_a_record : TheSharesOfARecord
unfolding the_definitions
the_shares_of_a_record = (refl, refl)

pub the_resolvers_asked_of_three : TheResolversAskedOfThree
unfolding the_definitions
the_resolvers_asked_of_three = refl

pub the_requests_for_a_record : TheRequestsForARecord
unfolding the_definitions
the_requests_for_a_record = (refl, refl)

pub the_journal_row_of_a_record : TheJournalRowOfARecord
unfolding the_definitions
the_journal_row_of_a_record = (refl, refl, refl)

pub cells_without_verdicts : CellsWithoutVerdicts
unfolding the_definitions
cells_without_verdicts = (refl, refl, refl, refl)

pub a_history_without_verdicts : AHistoryWithoutVerdicts
unfolding the_definitions
a_history_without_verdicts = (refl, refl)

pub too_few_verdicts : TooFewVerdicts
too_few_verdicts = refl

pub strangers_are_refused_first : StrangersAreRefusedFirst
unfolding the_definitions
strangers_are_refused_first = (refl, refl)

pub the_first_missing_reply : TheFirstMissingReply
unfolding the_definitions
the_first_missing_reply = refl

pub the_limits_of_a_cluster : TheLimitsOfACluster
the_limits_of_a_cluster = (
  record { proxies = (omega arith, omega arith); resolvers = (omega arith, omega arith); window = (omega arith, omega arith); step = (omega arith, omega arith) },
  record { proxies = (omega arith, omega arith); resolvers = (omega arith, omega arith); window = (omega arith, omega arith); step = (omega arith, omega arith) },
  λ (c : IsConfig (of_numbers 0 1 1 1)). let past = c.proxies.0 in omega (arith, past),
  λ (c : IsConfig (of_numbers 65 1 1 1)). let past = c.proxies.1 in omega (arith, past),
  λ (c : IsConfig (of_numbers 1 0 1 1)). let past = c.resolvers.0 in omega (arith, past),
  λ (c : IsConfig (of_numbers 1 65 1 1)). let past = c.resolvers.1 in omega (arith, past),
  λ (c : IsConfig (of_numbers 1 1 0 1)). let past = c.window.0 in omega (arith, past),
  λ (c : IsConfig (of_numbers 1 1 1000000001 1)). let past = c.window.1 in omega (arith, past),
  λ (c : IsConfig (of_numbers 1 1 1 0)). let past = c.step.0 in omega (arith, past),
  λ (c : IsConfig (of_numbers 1 1 1 9223372036854775808)). let past = c.step.1 in omega (arith, past),
)
