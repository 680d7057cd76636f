-- The definitions with which edge cases and scenarios compute.
use Rattle.system_keys.specs.Families.{kind_of}
use Rattle.system_keys.specs.Rows.{ids_at}
use Rattle.model.specs.Shares.{share_back_to}
use Rattle.model.specs.Verdicts.{judged_before, verdict_of, share_verdicts}
use Rattle.model.specs.Metadata.{metadata, server_tags, entry_tags, tags, routing}
use Rattle.model.specs.PrivateCopies.{private_copy}
use Rattle.model.specs.Journal.{history_verdicts, cell_verdicts, journal_row, journal, reply_row}
use Rattle.model.specs.Journal.{unseen, remembered}
use Rattle.model.specs.Requests.{request_back_to, request_verdicts, request_reply_row}
use Rattle.model.specs.Requests.{request_reply}
use Rattle.model.specs.Offers.{kept_replies, answer_to}
use Rattle.model.specs.Outcomes.{joined_verdict, outcome, outcomes_after}
use Rattle.model.specs.Finishing.{replied_verdicts, disagreements}
use Rattle.model.specs.World.{finished_after, handle_event, answers, world_after, proxy_journal}

-- a proof that is `unfolding the_definitions` unfolds all of these
unfoldable pub the_definitions : Type 0
unfolding kind_of ids_at share_back_to judged_before verdict_of share_verdicts metadata server_tags
    entry_tags tags routing private_copy history_verdicts cell_verdicts journal_row journal reply_row unseen
    remembered request_back_to request_verdicts request_reply_row request_reply kept_replies
    answer_to joined_verdict outcome outcomes_after finished_after handle_event answers world_after
    proxy_journal replied_verdicts disagreements
the_definitions = Unit {0}
