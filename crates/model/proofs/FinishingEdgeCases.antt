-- Each edge case of replies computes.
use Rattle.std.proofs.Common.{refl}
use Rattle.model.specs.FinishingEdges.{TheRowsThatRepliesTell, TheVerdictsThatRepliesHave}
use Rattle.model.specs.FinishingEdges.{RepliesThatHaveNotCome, RepliesToAnotherRecord}
use Rattle.model.specs.FinishingEdges.{OtherNumbersOfVerdicts, TheRecordIsCheckedFirst, AMissingRow}
use Rattle.model.specs.FinishingEdges.{ARowMissingInBoth, ARowTooMany, AVersionBetween}
use Rattle.model.specs.FinishingEdges.{OtherNumbersOfStateTransactions, ContentOfTheWrongResolver}
use Rattle.model.proofs.Definitions.{the_definitions}

pub the_rows_that_replies_tell : TheRowsThatRepliesTell
unfolding the_definitions
the_rows_that_replies_tell = (refl, refl)

pub the_verdicts_that_replies_have : TheVerdictsThatRepliesHave
unfolding the_definitions
the_verdicts_that_replies_have = (refl, refl, refl)

pub replies_that_have_not_come : RepliesThatHaveNotCome
unfolding the_definitions
replies_that_have_not_come = (refl, refl, refl, refl)

pub replies_to_another_record : RepliesToAnotherRecord
unfolding the_definitions
replies_to_another_record = (refl, refl, refl, refl, refl)

pub other_numbers_of_verdicts : OtherNumbersOfVerdicts
unfolding the_definitions
other_numbers_of_verdicts = (refl, refl, refl)

pub the_record_is_checked_first : TheRecordIsCheckedFirst
unfolding the_definitions
the_record_is_checked_first = refl

pub a_missing_row : AMissingRow
unfolding the_definitions
a_missing_row = (refl, refl, refl, refl)

pub a_row_missing_in_both : ARowMissingInBoth
unfolding the_definitions
a_row_missing_in_both = (refl, refl, refl, refl)

pub a_row_too_many : ARowTooMany
unfolding the_definitions
a_row_too_many = (refl, refl, refl)

pub a_version_between : AVersionBetween
unfolding the_definitions
a_version_between = (refl, refl)

pub other_numbers_of_state_transactions : OtherNumbersOfStateTransactions
unfolding the_definitions
other_numbers_of_state_transactions = (refl, refl)

pub content_of_the_wrong_resolver : ContentOfTheWrongResolver
unfolding the_definitions
content_of_the_wrong_resolver = (refl, refl)
