-- Each scenario computes.
use Rattle.std.proofs.Common.{refl}
use Rattle.model.proofs.Definitions.{the_definitions}
use Rattle.scenarios.specs.FoldScenarios.{AnEmptyJournal, TheBoundaryBelongsToTheRightRow}
use Rattle.scenarios.specs.FoldScenarios.{OneResolverRefuses, TheLockIsReadOnceARow}
use Rattle.scenarios.specs.FoldScenarios.{TagsComeAndGoWithTheirRows, ARowListsItsTags}
use Rattle.scenarios.specs.StampScenarios.{TheMetadataVersionIsStamped, AStampInAText}
use Rattle.scenarios.specs.StampScenarios.{WhatAStateMutationIs}
use Rattle.scenarios.specs.OwnerScenarios.{ReadsAfterAMoveAskBothOwners, TheOldOwnerSaysConflict}
use Rattle.scenarios.specs.OwnerScenarios.{DatedOwnersOfThreeResolvers}
use Rattle.scenarios.specs.OwnerScenarios.{HowFarBackOwnersAreRemembered}
use Rattle.scenarios.specs.VerdictScenarios.{TheEdgeOfTheWindow, TwoOrdersInABatch}
use Rattle.scenarios.specs.VerdictScenarios.{AFalseConflictThroughTwoResolvers, SharesJudged}
use Rattle.scenarios.specs.LockScenarios.{TheLockOverTwoProxies, AStateTransactionUnderTheLock}
use Rattle.scenarios.specs.LockScenarios.{TheLockIsTakenOff, TooOldUnderTheLock}
use Rattle.scenarios.specs.MemoryScenarios.{RowsAreRememberedForAProxyThatIsLate}
use Rattle.scenarios.specs.MemoryScenarios.{RepeatsAndRepliesGivenUp, TwoRecordsBegunAtOnce}
use Rattle.scenarios.specs.MemoryScenarios.{TwoProxiesMeet}
use Rattle.scenarios.specs.ClearScenarios.{TheTagsOfAClear, AClearOfEverything}
use Rattle.scenarios.specs.PrivateScenarios.{OnlyServersWithATagGetCopies, OtherKeysGetNoCopies}
use Rattle.scenarios.specs.PrivateScenarios.{TheTagAfterTheBatchIsTaken, AClearedTagGetsNoCopies}
use Rattle.scenarios.specs.ProxyScenarios.{AProxyThatIsBehind}
use Rattle.scenarios.specs.RefusalScenarios.{RefusalsInOrder, WhatIsCheckedFirst, TheLastVersion}
use Rattle.scenarios.specs.RefusalScenarios.{TheGreatestVersion, WhatAProxyHasAcknowledged}
use Rattle.scenarios.specs.ResolverScenarios.{RequestsOfStrangers}

pub an_empty_journal : AnEmptyJournal
unfolding the_definitions
an_empty_journal = (refl, refl)

pub the_boundary_belongs_to_the_right_row : TheBoundaryBelongsToTheRightRow
unfolding the_definitions
the_boundary_belongs_to_the_right_row = (refl, refl)

pub one_resolver_refuses : OneResolverRefuses
unfolding the_definitions
one_resolver_refuses = (refl, refl)

pub the_lock_is_read_once_a_row : TheLockIsReadOnceARow
unfolding the_definitions
the_lock_is_read_once_a_row = (refl, refl)

pub tags_come_and_go_with_their_rows : TagsComeAndGoWithTheirRows
unfolding the_definitions
tags_come_and_go_with_their_rows = (refl, refl, refl, refl)

pub a_row_lists_its_tags : ARowListsItsTags
unfolding the_definitions
a_row_lists_its_tags = (refl, refl, refl, refl)

pub the_metadata_version_is_stamped : TheMetadataVersionIsStamped
unfolding the_definitions
the_metadata_version_is_stamped = (refl, refl)

pub a_stamp_in_a_text : AStampInAText
unfolding the_definitions
a_stamp_in_a_text = refl

pub what_a_state_mutation_is : WhatAStateMutationIs
unfolding the_definitions
what_a_state_mutation_is = refl

pub reads_after_a_move_ask_both_owners : ReadsAfterAMoveAskBothOwners
unfolding the_definitions
reads_after_a_move_ask_both_owners = (refl, refl)

pub the_old_owner_says_conflict : TheOldOwnerSaysConflict
unfolding the_definitions
the_old_owner_says_conflict = (refl, refl, refl)

pub dated_owners_of_three_resolvers : DatedOwnersOfThreeResolvers
unfolding the_definitions
dated_owners_of_three_resolvers = (refl, refl, refl, refl, refl, refl)

pub how_far_back_owners_are_remembered : HowFarBackOwnersAreRemembered
unfolding the_definitions
how_far_back_owners_are_remembered = (refl, refl, refl)

pub the_edge_of_the_window : TheEdgeOfTheWindow
unfolding the_definitions
the_edge_of_the_window = refl

pub two_orders_in_a_batch : TwoOrdersInABatch
unfolding the_definitions
two_orders_in_a_batch = refl

pub a_false_conflict_through_two_resolvers : AFalseConflictThroughTwoResolvers
unfolding the_definitions
a_false_conflict_through_two_resolvers = refl

pub shares_judged : SharesJudged
unfolding the_definitions
shares_judged = (refl, refl)

pub the_lock_over_two_proxies : TheLockOverTwoProxies
unfolding the_definitions
the_lock_over_two_proxies = refl

pub a_state_transaction_under_the_lock : AStateTransactionUnderTheLock
unfolding the_definitions
a_state_transaction_under_the_lock = (refl, refl, refl)

pub the_lock_is_taken_off : TheLockIsTakenOff
unfolding the_definitions
the_lock_is_taken_off = (refl, refl)

pub too_old_under_the_lock : TooOldUnderTheLock
unfolding the_definitions
too_old_under_the_lock = refl

pub rows_are_remembered_for_a_proxy_that_is_late : RowsAreRememberedForAProxyThatIsLate
unfolding the_definitions
rows_are_remembered_for_a_proxy_that_is_late = (refl, refl, refl, refl)

pub repeats_and_replies_given_up : RepeatsAndRepliesGivenUp
unfolding the_definitions
repeats_and_replies_given_up = refl

pub two_records_begun_at_once : TwoRecordsBegunAtOnce
unfolding the_definitions
two_records_begun_at_once = (refl, refl, refl)

pub two_proxies_meet : TwoProxiesMeet
unfolding the_definitions
two_proxies_meet = (refl, refl, refl)

pub the_tags_of_a_clear : TheTagsOfAClear
unfolding the_definitions
the_tags_of_a_clear = refl

pub a_clear_of_everything : AClearOfEverything
unfolding the_definitions
a_clear_of_everything = (refl, refl)

pub only_servers_with_a_tag_get_copies : OnlyServersWithATagGetCopies
unfolding the_definitions
only_servers_with_a_tag_get_copies = refl

pub other_keys_get_no_copies : OtherKeysGetNoCopies
unfolding the_definitions
other_keys_get_no_copies = refl

pub the_tag_after_the_batch_is_taken : TheTagAfterTheBatchIsTaken
unfolding the_definitions
the_tag_after_the_batch_is_taken = refl

pub a_cleared_tag_gets_no_copies : AClearedTagGetsNoCopies
unfolding the_definitions
a_cleared_tag_gets_no_copies = refl

pub a_proxy_that_is_behind : AProxyThatIsBehind
unfolding the_definitions
a_proxy_that_is_behind = (refl, refl, refl, refl)

pub refusals_in_order : RefusalsInOrder
unfolding the_definitions
refusals_in_order = refl

pub what_is_checked_first : WhatIsCheckedFirst
unfolding the_definitions
what_is_checked_first = refl

pub the_last_version : TheLastVersion
unfolding the_definitions
the_last_version = refl

pub the_greatest_version : TheGreatestVersion
unfolding the_definitions
the_greatest_version = refl

pub what_a_proxy_has_acknowledged : WhatAProxyHasAcknowledged
unfolding the_definitions
what_a_proxy_has_acknowledged = refl

pub requests_of_strangers : RequestsOfStrangers
unfolding the_definitions
requests_of_strangers = refl
