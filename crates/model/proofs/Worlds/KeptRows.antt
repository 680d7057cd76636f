-- A resolver that is in step with a world keeps the rows of the records that the world remembers for it.
use Rattle.std.proofs.Common.{◌≡◌, ap, ◌∙◌, ℕ, ◌+◌, List, [], map, take, filter, slice_index, arith}
use Rattle.model.specs.declared.unseen.UnseenRow.{UnseenRow}
use Rattle.model.specs.Records.{Record}
use Rattle.model.specs.Journal.{history_verdicts, reply_row, oldest_proxy_version, remembered}
use Rattle.model.specs.Requests.{Request, request_reply_rows, request_oldest_proxy_version}
use Rattle.model.specs.Offers.{judged_requests}
use Rattle.model.specs.ResolverMemory.{is_row_above}
use Rattle.model.specs.Laws.Worlds.{AResolverKeepsTheRowsOfTheRemembered}
use Rattle.model.proofs.Verdicts.Places.{slice_get-take}
use Rattle.model.proofs.Resolvers.Requests.{requests_for, told_requests_are, told_after, oldest_of_requests}
use Rattle.model.proofs.Resolvers.Offers.{requests_are}

pub kept_rows_are : AResolverKeepsTheRowsOfTheRemembered
unfolding remembered
kept_rows_are config w r v sound is =
    let h : List Record = take (slice_index w.judged_counts r) w.history in
    let received : Record → ℕ = λ rec. slice_index w.received rec.row in
    let rows : request_reply_rows config.window [] (requests_for config received r h) ≡ map (reply_row (history_verdicts config w.history) r) h =
    told_requests_are config received w.history r 0 h sound.sequencer.history
    (λ j s there. let same : 0 + j ≡ j = omega arith in rw same (slice_get-take w.history (slice_index w.judged_counts r) j s there).1) in
    let oldest : request_oldest_proxy_version config.proxies (requests_for config received r h) ≡ oldest_proxy_version config h = oldest_of_requests config received r h in
    let kept : v.rows ≡ rows_by config.proxies config.window (judged_requests config w r) = is.stands.rows ∙ (λ i. rows_by (is.proxies i) (is.window i) (judged_requests config w r)) in
    let same : rows_by config.proxies config.window (judged_requests config w r) ≡ rows_by config.proxies config.window (requests_for config received r h) = ap (rows_by config.proxies config.window) (requests_are config w r) in
    let told : rows_by config.proxies config.window (requests_for config received r h) ≡ filter (is_row_above (oldest_proxy_version config h)) (map (reply_row (history_verdicts config w.history) r) h) = λ i. filter (is_row_above (oldest i)) (rows i) in
    kept ∙ same ∙ told ∙ told_after (history_verdicts config w.history) r (oldest_proxy_version config h) h
  where
    -- the rows that some proxy has not seen, after these requests
    rows_by : (proxies window : ℕ) → List Request → List UnseenRow
    rows_by proxies window judged = filter (is_row_above (request_oldest_proxy_version proxies judged)) (request_reply_rows window [] judged)
