-- What follows of a session.
use Rattle.std.proofs.Common.{◌≡◌, ℕ, List, [], ◌∷◌, ◌++◌, Option, Some, None, IfSome, sym, ap, ◌∙◌, append-nil, subst}
use Rattle.std.specs.Io.KnownBytes.{Appends, Consumes, IsAtEnd}
use Rattle.sessions.specs.Answers.{Rules, Answers}
use Rattle.sessions.specs.Events.{Event, Read, End, Wrote, HasEnded, View, bytes_came, bytes_written, with_events}
use Rattle.sessions.specs.Lines.{lines_of, whole_lines}
use Rattle.sessions.specs.Sessions.{HasAnswered, AnswersBeforeReads, AnswersKnown, AnswersWhole, MatchesStatus, IsRead, IsAnsweredAtReads, IsSession}
use Rattle.sessions.specs.declared.status.SessionStatus.{SessionStatus}

-- what was taken of an input that ended is all of it
whole_input : (a b : Option (List ℕ)) (bytes : List ℕ) (P : List ℕ → Type 0) → Consumes a b bytes → IfSome a (λ _. IsAtEnd b) → P bytes → IfSome a P
whole_input None b bytes P taken end p = tt
whole_input (Some x) None bytes P taken end p = absurd taken
whole_input (Some x) (Some y) bytes P taken end p = subst P (sym (taken ∙ ap (λ l. bytes ++ l) end ∙ append-nil bytes)) p

pub whole_run : {S : Type 0} (rules : Rules S) (start now : S) (input rest old new : Option (List ℕ)) (status : SessionStatus) (events : List Event) → Consumes input rest (bytes_came events)
    → (HasEnded events → IfSome input (λ _. IsAtEnd rest)) → Appends old new (bytes_written events) → MatchesStatus rules start events now status → AnswersKnown rules start now input old new status
whole_run rules start now input rest old new status events taken end added ends done =
    let (ended, closed_now, answered) = subst (MatchesStatus rules start events now) done ends in
    whole_input input rest (bytes_came events) (λ bytes. (text : List ℕ) × Answers rules start (lines_of bytes) text now × Appends old new text) taken (end ended)
    (bytes_written events, subst (λ b. Answers rules start (whole_lines b) (bytes_written events) now) closed_now answered, added)

pub whole_session : {S N : Type 0} (rules : Rules S) (start now : S) (old new : View N) (status : SessionStatus) → IsSession rules start now old new status → AnswersWhole rules start now old new status
whole_session rules start now old new status session =
    whole_run rules start now old.remaining new.remaining old.written new.written status session.events session.leads.remaining session.leads.end session.leads.written session.ends

pub in_turn_at : {S : Type 0} (rules : Rules S) (start : S) (after before : List Event) (event : Event) → IsRead event → AnswersBeforeReads rules start (after ++ event ∷ before)
    → (now : S) × HasAnswered rules start before now
in_turn_at rules start [] before (Read bytes) is in_turn = in_turn.0
in_turn_at rules start [] before End is in_turn = in_turn.0
in_turn_at rules start [] before (Wrote bytes) is in_turn = absurd is
in_turn_at rules start (Read bytes ∷ after) before event is in_turn = in_turn_at rules start after before event is in_turn.1
in_turn_at rules start (End ∷ after) before event is in_turn = in_turn_at rules start after before event is in_turn.1
in_turn_at rules start (Wrote bytes ∷ after) before event is in_turn = in_turn_at rules start after before event is in_turn

known_at_reads : {S : Type 0} (rules : Rules S) (start : S) (old new : Option (List Event)) (events : List Event) → new ≡ with_events old events → AnswersBeforeReads rules start events
    → IfSome new (λ history. old ≡ Some [] → IsAnsweredAtReads rules start history)
known_at_reads rules start old None events grew in_turn = tt
known_at_reads rules start old (Some history) events grew in_turn = λ fresh after before event is split.
    let first : Some history ≡ Some (events ++ []) = grew ∙ ap (λ h. with_events h events) fresh in
    let same : history ≡ events ++ [] = cc in
    in_turn_at rules start after before event is (subst (AnswersBeforeReads rules start) (sym (append-nil events) ∙ sym same ∙ split) in_turn)

pub session_at_reads : {S N : Type 0} (rules : Rules S) (start now : S) (old new : View N) (status : SessionStatus) → IsSession rules start now old new status
    → IfSome new.history (λ history. old.history ≡ Some [] → IsAnsweredAtReads rules start history)
session_at_reads rules start now old new status session = known_at_reads rules start old.history new.history session.events session.leads.history session.in_turn
