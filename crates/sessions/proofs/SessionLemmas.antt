-- What a session keeps from one read to the next.
use Rattle.std.proofs.Common.{◌≡◌, ℕ, List, [], ◌∷◌, ◌++◌, Result, Ok, refl, sym, ap, ◌∙◌, append_assoc, append-nil, subst, ◌+◌, ◌-◌, ◌^◌, ◌≢◌}
use Rattle.sessions.specs.Answers.{Rules, Answers}
use Rattle.sessions.specs.Events.{Event, Read, End, Wrote, View, GoesOnBy, HasEnded, bytes_came, bytes_read, bytes_written, lines_read, reads_of, Writes}
use Rattle.sessions.specs.Feeds.{AnswersBytes}
use Rattle.sessions.specs.Lines.{lines_from, open_from, whole_lines, open_line_of, line_end, closed}
use Rattle.sessions.specs.Pending.{Holds}
use Rattle.sessions.specs.Sessions.{HasAnswered, AnswersBeforeReads, NeverAhead, IsRead, IsSession}
use Rattle.sessions.specs.declared.pending.Pending.{Pending}
use Rattle.sessions.specs.declared.status.SessionStatus.TheVariants.{Done, ReadFailed, WriteFailed, Unended}
use Rattle.sessions.specs.declared.device.Failed.{Failed}
use Rattle.sessions.proofs.AnswerLemmas.{answers_join}
use Rattle.sessions.proofs.EventLemmas.{goes_on_by_nothing, goes_on_by_more, read_before_writes, came_before_writes, reads_before_writes, reads_one_more, written_by_writes}
use Rattle.sessions.proofs.LineLemmas.{lines_append, open_append}

-- before a read: all whole lines are answered
pub record Standing {S N : Type 0} (rules : Rules S) (start now : S) (old new : View N) (pending : Pending) (calls : ℕ) : Type 0 where
  pub events : List Event
  pub leads : GoesOnBy old new events
  pub in_turn : AnswersBeforeReads rules start events
  pub never_ahead : NeverAhead rules start events
  pub answered : HasAnswered rules start events now
  pub kept : Holds pending (open_line_of (bytes_read events))
  pub not_ended : bytes_read events ≡ bytes_came events
  pub counted : reads_of events ≡ calls

pub stands_first : {S N : Type 0} (rules : Rules S) (start : S) (old : View N) (pending : Pending) → Holds pending [] → Standing rules start start old old pending 0
stands_first rules start old pending holds =
    record { events = []; leads = goes_on_by_nothing old; in_turn = tt; never_ahead = tt; answered = (refl, refl); kept = holds; not_ended = refl; counted = refl }

-- ---- writes

in_turn_writes : {S : Type 0} (rules : Rules S) (start : S) (es ws : List Event) (text : List ℕ) → Writes ws text → AnswersBeforeReads rules start es → AnswersBeforeReads rules start (ws ++ es)
in_turn_writes rules start es [] text writes in_turn = in_turn
in_turn_writes rules start es (Read bytes ∷ ws) text writes in_turn = absurd writes
in_turn_writes rules start es (End ∷ ws) text writes in_turn = absurd writes
in_turn_writes rules start es (Wrote bytes ∷ ws) text writes in_turn = in_turn_writes rules start es ws writes.0 writes.1 in_turn

ended_writes : (es ws : List Event) (text : List ℕ) → Writes ws text → HasEnded es → HasEnded (ws ++ es)
ended_writes es [] text writes ended = ended
ended_writes es (Read bytes ∷ ws) text writes ended = absurd writes
ended_writes es (End ∷ ws) text writes ended = tt
ended_writes es (Wrote bytes ∷ ws) text writes ended = ended_writes es ws writes.0 writes.1 ended

-- the text goes on as the answers do
ahead_writes : {S : Type 0} (rules : Rules S) (start end : S) (es ws : List Event) (text unwritten : List ℕ) → Writes ws text → NeverAhead rules start es
    → Answers rules start (lines_read es) (bytes_written es ++ (text ++ unwritten)) end → NeverAhead rules start (ws ++ es)
ahead_writes rules start end es [] text unwritten writes ahead answers = ahead
ahead_writes rules start end es (Read bytes ∷ ws) text unwritten writes ahead answers = absurd writes
ahead_writes rules start end es (End ∷ ws) text unwritten writes ahead answers = absurd writes
ahead_writes rules start end es (Wrote bytes ∷ ws) text unwritten writes ahead answers =
    let front = writes.0 in
    let written = written_by_writes es ws front writes.1 in
    let parts : bytes_written es ++ (text ++ unwritten) ≡ bytes_written es ++ (front ++ (bytes ++ unwritten)) =
    ap (λ l. bytes_written es ++ (l ++ unwritten)) writes.2 ∙ ap (λ l. bytes_written es ++ l) (append_assoc front bytes unwritten) in
    let so_far : bytes_written es ++ (front ++ (bytes ++ unwritten)) ≡ (bytes_written (ws ++ es) ++ bytes) ++ unwritten =
    sym (ap (λ l. (l ++ bytes) ++ unwritten) written ∙ ap (λ l. l ++ unwritten) (append_assoc (bytes_written es) front bytes) ∙ append_assoc (bytes_written es) (front ++ bytes) unwritten
    ∙ ap (λ l. bytes_written es ++ l) (append_assoc front bytes unwritten)) in
    let split = subst (λ t. Answers rules start (lines_read es) t end) parts answers in
    let now = subst (λ b. Answers rules start (whole_lines b) ((bytes_written (ws ++ es) ++ bytes) ++ unwritten) end) (sym (read_before_writes es ws front writes.1))
    (subst (λ t. Answers rules start (lines_read es) t end) so_far split) in
    ((unwritten, end, now), ahead_writes rules start end es ws front (bytes ++ unwritten) writes.1 ahead split)

-- ---- a read, and then writes

-- after an event `event` that brought `bytes`, and the writes `ws` after it
record Taken {S : Type 0} (rules : Rules S) (start end : S) (event : Event) (es ws : List Event) (bytes unwritten : List ℕ) : Type 0 where
  in_turn : AnswersBeforeReads rules start (ws ++ event ∷ es)
  never_ahead : NeverAhead rules start (ws ++ event ∷ es)
  answers : Answers rules start (lines_read (ws ++ event ∷ es)) (bytes_written (ws ++ event ∷ es) ++ unwritten) end
  open_line : open_line_of (bytes_read (ws ++ event ∷ es)) ≡ open_from (open_line_of (bytes_read es)) bytes

taken : {S : Type 0} (rules : Rules S) (start now end : S) (event : Event) (es ws : List Event) (bytes text unwritten : List ℕ)
    → bytes_read (event ∷ es) ≡ bytes_read es ++ bytes → bytes_written (event ∷ es) ≡ bytes_written es → AnswersBeforeReads rules start (event ∷ es)
    → NeverAhead rules start es → HasAnswered rules start es now
    → Writes ws text → Answers rules now (lines_from (open_line_of (bytes_read es)) bytes) (text ++ unwritten) end
    → Taken rules start end event es ws bytes unwritten
taken rules start now end event es ws bytes text unwritten brought silent in_turn ahead answered writes answers =
    let lines : lines_read es ++ lines_from (open_line_of (bytes_read es)) bytes ≡ lines_read (event ∷ es) =
    sym (lines_append [] (bytes_read es) bytes) ∙ ap whole_lines (sym brought) in
    let joined = answers_join rules start now end (lines_read es) _ (bytes_written es) (text ++ unwritten) answered answers in
    let all : Answers rules start (lines_read (event ∷ es)) (bytes_written (event ∷ es) ++ (text ++ unwritten)) end =
    subst (λ w. Answers rules start (lines_read (event ∷ es)) (w ++ (text ++ unwritten)) end) (sym silent)
    (subst (λ l. Answers rules start l (bytes_written es ++ (text ++ unwritten)) end) lines joined) in
    let read = read_before_writes (event ∷ es) ws text writes in
    let written : bytes_written (event ∷ es) ++ (text ++ unwritten) ≡ bytes_written (ws ++ event ∷ es) ++ unwritten =
    sym (ap (λ l. l ++ unwritten) (written_by_writes (event ∷ es) ws text writes) ∙ append_assoc (bytes_written (event ∷ es)) text unwritten) in
    record {
      in_turn = in_turn_writes rules start (event ∷ es) ws text writes in_turn;
      never_ahead = ahead_writes rules start end (event ∷ es) ws text unwritten writes ((text ++ unwritten, end, all), ahead) all;
      answers = subst (λ b. Answers rules start (whole_lines b) (bytes_written (ws ++ event ∷ es) ++ unwritten) end) (sym read)
          (subst (λ t. Answers rules start (lines_read (event ∷ es)) t end) written all);
      open_line = ap open_line_of (read ∙ brought) ∙ open_append [] (bytes_read es) bytes;
    }

-- the answers are whole
whole : {S : Type 0} (rules : Rules S) (start end : S) (events : List Event) (unwritten : List ℕ) → Answers rules start (lines_read events) (bytes_written events ++ unwritten) end
    → unwritten ≡ [] → HasAnswered rules start events end
whole rules start end events unwritten answers none =
    subst (λ t. Answers rules start (lines_read events) t end) (ap (λ l. bytes_written events ++ l) none ∙ append-nil (bytes_written events)) answers

-- ---- the exits of a session

-- bytes came, and the lines that they ended were answered
pub stands_on : {S N : Type 0} (rules : Rules S) (start now next : S) (old mid came new : View N) (pending after : Pending) (calls : ℕ) (bytes : List ℕ)
    → bytes ≢ [] → Standing rules start now old mid pending calls → GoesOnBy mid came (Read bytes ∷ [])
    → ((open_line : List ℕ) → Holds pending open_line → AnswersBytes rules now next came new open_line bytes after (Ok tt))
    → Standing rules start next old new after (calls + 1)
stands_on rules start now next old mid came new pending after calls bytes some stands grew feeds =
    let es = stands.events in
    let fed = feeds (open_line_of (bytes_read es)) stands.kept in
    let (ws, wrote, writes) = fed.wrote in
    let done = taken rules start now next (Read bytes) es ws bytes fed.text fed.unwritten refl refl ((now, stands.answered), stands.in_turn) stands.never_ahead stands.answered writes fed.answers in
    record {
      events = ws ++ Read bytes ∷ es;
      leads = goes_on_by_more old came new (Read bytes ∷ es) ws (goes_on_by_more old mid came es (Read bytes ∷ []) stands.leads grew) wrote;
      in_turn = done.in_turn;
      never_ahead = done.never_ahead;
      answered = whole rules start next (ws ++ Read bytes ∷ es) fed.unwritten done.answers fed.all;
      kept = subst (Holds after) (sym done.open_line) fed.kept;
      not_ended = read_before_writes (Read bytes ∷ es) ws fed.text writes ∙ ap (λ l. l ++ bytes) stands.not_ended ∙ sym (came_before_writes (Read bytes ∷ es) ws fed.text writes);
      counted = reads_before_writes (Read bytes ∷ es) ws fed.text writes ∙ reads_one_more bytes es some ∙ ap (λ n. n + 1) stands.counted;
    }

-- what an event of a read adds to the bytes before it, after which a line is open
abbrev pub brings : Event → List ℕ → List ℕ
brings (Read bytes) open_line = bytes
brings End open_line = line_end open_line
brings (Wrote bytes) open_line = []

brought : (event : Event) (es : List Event) → bytes_read (event ∷ es) ≡ bytes_read es ++ brings event (open_line_of (bytes_read es))
brought (Read bytes) es = refl
brought End es = refl
brought (Wrote bytes) es = sym (append-nil (bytes_read es))

silent : (event : Event) (es : List Event) → IsRead event → bytes_written (event ∷ es) ≡ bytes_written es
silent (Read bytes) es is = refl
silent End es is = refl
silent (Wrote bytes) es is = absurd is

turns : {S : Type 0} (rules : Rules S) (start now : S) (event : Event) (es : List Event) → IsRead event → HasAnswered rules start es now → AnswersBeforeReads rules start es → AnswersBeforeReads rules start (event ∷ es)
turns rules start now (Read bytes) es is answered in_turn = ((now, answered), in_turn)
turns rules start now End es is answered in_turn = ((now, answered), in_turn)
turns rules start now (Wrote bytes) es is answered in_turn = absurd is

-- after a read, or at the end of the input, a write failed
pub session_fails : {S N : Type 0} (rules : Rules S) (start now next : S) (old mid came new : View N) (pending after : Pending) (calls : ℕ) (event : Event) (result : Result (Unit {0}) Failed)
    → IsRead event → Standing rules start now old mid pending calls → GoesOnBy mid came (event ∷ [])
    → ((open_line : List ℕ) → Holds pending open_line → AnswersBytes rules now next came new open_line (brings event open_line) after result)
    → IsSession rules start next old new WriteFailed
session_fails rules start now next old mid came new pending after calls event result is stands grew feeds =
    let es = stands.events in
    let fed = feeds (open_line_of (bytes_read es)) stands.kept in
    let (ws, wrote, writes) = fed.wrote in
    let done = taken rules start now next event es ws (brings event (open_line_of (bytes_read es))) fed.text fed.unwritten (brought event es) (silent event es is) (turns rules start now event es is stands.answered stands.in_turn)
    stands.never_ahead stands.answered writes fed.answers in
    record {
      events = ws ++ event ∷ es;
      leads = goes_on_by_more old came new (event ∷ es) ws (goes_on_by_more old mid came es (event ∷ []) stands.leads grew) wrote;
      in_turn = done.in_turn;
      never_ahead = done.never_ahead;
      ends = (fed.unwritten, done.answers);
    }

-- the input ended, and the open line was answered
pub session_done : {S N : Type 0} (rules : Rules S) (start now next : S) (old mid came new : View N) (pending after : Pending) (calls : ℕ)
    → Standing rules start now old mid pending calls → GoesOnBy mid came (End ∷ [])
    → ((open_line : List ℕ) → Holds pending open_line → AnswersBytes rules now next came new open_line (line_end open_line) after (Ok tt))
    → IsSession rules start next old new Done
session_done rules start now next old mid came new pending after calls stands grew feeds =
    let es = stands.events in
    let fed = feeds (open_line_of (bytes_read es)) stands.kept in
    let (ws, wrote, writes) = fed.wrote in
    let bytes = line_end (open_line_of (bytes_read es)) in
    let done = taken rules start now next End es ws bytes fed.text fed.unwritten refl refl ((now, stands.answered), stands.in_turn) stands.never_ahead stands.answered writes fed.answers in
    record {
      events = ws ++ End ∷ es;
      leads = goes_on_by_more old came new (End ∷ es) ws (goes_on_by_more old mid came es (End ∷ []) stands.leads grew) wrote;
      in_turn = done.in_turn;
      never_ahead = done.never_ahead;
      ends = (
        ended_writes (End ∷ es) ws fed.text writes tt,
        read_before_writes (End ∷ es) ws fed.text writes ∙ ap closed stands.not_ended ∙ ap closed (sym (came_before_writes (End ∷ es) ws fed.text writes)),
        whole rules start next (ws ++ End ∷ es) fed.unwritten done.answers fed.all,
      );
    }

-- a read failed
pub session_unread : {S N : Type 0} (rules : Rules S) (start now : S) (old mid new : View N) (pending : Pending) (calls : ℕ)
    → Standing rules start now old mid pending calls → GoesOnBy mid new [] → IsSession rules start now old new ReadFailed
session_unread rules start now old mid new pending calls stands same =
    record { events = stands.events; leads = goes_on_by_more old mid new stands.events [] stands.leads same; in_turn = stands.in_turn; never_ahead = stands.never_ahead; ends = stands.answered }

-- the reads ran out
pub session_unended : {S N : Type 0} (rules : Rules S) (start now : S) (old new : View N) (pending : Pending)
    → Standing rules start now old new pending (2 ^ 64 - 1) → IsSession rules start now old new Unended
session_unended rules start now old new pending stands =
    record { events = stands.events; leads = stands.leads; in_turn = stands.in_turn; never_ahead = stands.never_ahead; ends = (stands.counted, stands.answered) }
