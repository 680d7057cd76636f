-- What follows of the definitions.
use Rattle.std.proofs.Common.{◌≡◌, ◌≢◌, ◌≤◌, ◌↔◌, ◌+◌, ◌-◌, ◌^◌, ℕ, List, [], ◌∷◌, ◌++◌, length, flat_map, fold, Option, Some, None, IfSome, arith, suc, refl, sym, ap, ◌∙◌, append-nil, subst, inl, inr}
use Rattle.std.proofs.lemmas.List.{length-append}
use Rattle.std.specs.Io.KnownBytes.{Appends, Consumes, IsAtEnd}
use Rattle.sessions.specs.Answers.{Answer, Answers, CarriesOutSome, Rules, answers_to, out_of_memory}
use Rattle.sessions.specs.Events.{End, Event, GoesOnBy, HasEnded, Read, View, Wrote, bytes_came, bytes_written, lines_read, reads_of, with_events}
use Rattle.sessions.specs.Laws.{NoneIsOutOfMemory, ReadFailsMore, ShowsAll, WriteFailsMore}
use Rattle.sessions.specs.Sessions.{HasAnswered, IsAnsweredAtReads, IsRead, IsSession, LeavesFailures, MatchesStatus, NeverAhead}
use Rattle.sessions.specs.declared.status.SessionStatus.{SessionStatus}
use Rattle.sessions.specs.declared.status.SessionStatus.TheVariants.{Done, ReadFailed, WriteFailed, Unended}

-- ---- answers

pub one_for_each : {S : Type 0} (rules : Rules S) (old new : S) (lines : List (List ℕ)) (text : List ℕ) → Answers rules old lines text new
    → (given : List (List ℕ)) × (text ≡ flat_map (λ answer. answer) given) × (length given ≡ length lines)
    × (NoneIsOutOfMemory given → (given ≡ answers_to rules old lines) × (new ≡ fold rules.after old lines))
one_for_each rules old new [] text answers = ([], answers.0, refl, λ none. (refl, answers.1))
one_for_each rules old new (line ∷ lines) text answers =
    let (given, whole, each, told) = one_for_each rules answers.2 new lines answers.1 answers.5 in (
      answers.0 ∷ given,
      answers.3 ∙ ap (λ l. answers.0 ++ l) whole,
      ap suc each,
      λ none. elim answers.4 [
        | inl by_rules ↦
            let rest = told none.1 in
            let answer : answers.0 ≡ rules.answer old line = by_rules.0 in
            let state : answers.2 ≡ rules.after old line = by_rules.1 in (
              ap (λ l. l ∷ given) answer ∙ ap (λ l. rules.answer old line ∷ l) (rest.0 ∙ ap (λ s. answers_to rules s lines) state),
              rest.1 ∙ ap (λ s. fold rules.after s lines) state,
            )
        | inr lost ↦ absurd (none.0 lost.0)
      ],
    )

-- each line is carried out, or changes nothing
pub carried_out : {S : Type 0} (rules : Rules S) (old new : S) (lines : List (List ℕ)) (text : List ℕ) → Answers rules old lines text new → CarriesOutSome rules old lines new
carried_out rules old new [] text answers = ([], refl, answers.1)
carried_out rules old new (line ∷ lines) text answers =
    let (kept, some, now) = carried_out rules answers.2 new lines answers.1 answers.5 in
    elim answers.4 [
      | inl told ↦ (line ∷ kept, inr (kept, refl, some), now ∙ ap (λ s. fold rules.after s kept) told.1)
      | inr lost ↦ (kept, inl some, now ∙ ap (λ s. fold rules.after s kept) lost.1)
    ]

-- ---- devices

known_left : (a b : Option (List ℕ)) (input bytes : List ℕ) → a ≡ Some input → Consumes a b bytes → (left : List ℕ) × (b ≡ Some left) × (input ≡ bytes ++ left)
known_left None b input bytes is taken = absurd (let none : ⊥ = cc in none)
known_left (Some x) None input bytes is taken = absurd taken
known_left (Some x) (Some y) input bytes is taken = let same : x ≡ input = cc in (y, refl, sym same ∙ taken)

known_text : (a b : Option (List ℕ)) (text bytes : List ℕ) → a ≡ Some text → Appends a b bytes → b ≡ Some (text ++ bytes)
known_text None b text bytes is added = cc
known_text (Some x) None text bytes is added = absurd added
known_text (Some x) (Some y) text bytes is added = let same : x ≡ text = cc in ap Some (added ∙ ap (λ l. l ++ bytes) same)

known_end : (a b : Option (List ℕ)) (input left : List ℕ) → a ≡ Some input → b ≡ Some left → IfSome a (λ _. IsAtEnd b) → left ≡ []
known_end None b input left is rest end = cc
known_end (Some x) None input left is rest end = cc
known_end (Some x) (Some y) input left is rest end = let same : y ≡ left = cc in sym same ∙ end

pub known_goes_on : {N : Type 0} (old new : View N) (events history : List Event) (input text : List ℕ) → GoesOnBy old new events → ShowsAll old input text history
    → (left : List ℕ) × ShowsAll new left (text ++ bytes_written events) (events ++ history) × (input ≡ bytes_came events ++ left) × (HasEnded events → left ≡ [])
known_goes_on old new events history input text leads shows =
    let (left, rest, split) = known_left old.remaining new.remaining input (bytes_came events) shows.0 leads.remaining in (
      left,
      (rest, known_text old.written new.written text (bytes_written events) shows.1 leads.written, leads.history ∙ ap (λ h. with_events h events) shows.2),
      split,
      λ ended. known_end old.remaining new.remaining input left shows.0 rest (leads.end ended),
    )

-- ---- in turn

pub never_writes_ahead : {S : Type 0} (rules : Rules S) (start : S) (after before : List Event) → NeverAhead rules start (after ++ before)
    → (unwritten : List ℕ) × (end : S) × Answers rules start (lines_read before) (bytes_written before ++ unwritten) end
never_writes_ahead rules start [] [] ahead = ([], start, (refl, refl))
never_writes_ahead rules start [] (event ∷ before) ahead = ahead.0
never_writes_ahead rules start (event ∷ after) before ahead = never_writes_ahead rules start after before ahead.1

some_before : (first rest : List ℕ) → first ≢ [] → first ++ rest ≢ []
some_before [] rest some none = some refl
some_before (byte ∷ first) rest some none = cc

answer_is_some : {S : Type 0} (rules : Rules S) → ((state : S) (line : List ℕ) → rules.answer state line ≢ []) → (old new : S) (line text : List ℕ) → Answer rules old line text new → text ≢ []
answer_is_some rules some old new line text answer none =
    elim answer [
      | inl told ↦ some old line (sym told.0 ∙ none)
      | inr lost ↦ let e : out_of_memory ≡ [] = sym lost.0 ∙ none in cc
    ]

answers_are_some : {S : Type 0} (rules : Rules S) → ((state : S) (line : List ℕ) → rules.answer state line ≢ []) → (old new : S) (lines : List (List ℕ)) (text : List ℕ) → Answers rules old lines text new
    → lines ≢ [] → text ≢ []
answers_are_some rules some old new [] text answers there none = there refl
answers_are_some rules some old new (line ∷ lines) text answers there none =
    some_before answers.0 answers.1 (answer_is_some rules some old answers.2 line answers.0 answers.4) (sym answers.3 ∙ none)

pub answers_before_reads : {S : Type 0} (rules : Rules S) → ((state : S) (line : List ℕ) → rules.answer state line ≢ []) → (start : S) (after before : List Event) (event : Event)
    → IsAnsweredAtReads rules start (after ++ event ∷ before) → IsRead event → lines_read before ≢ [] → bytes_written before ≢ []
answers_before_reads rules some start after before event answered is there =
    let (now, answers) = answered after before event is refl in
    answers_are_some rules some start now (lines_read before) (bytes_written before) answers there

-- ---- at the end

answered_by_status : {S : Type 0} (rules : Rules S) (start now : S) (events : List Event) (status : SessionStatus) → MatchesStatus rules start events now status → status ≢ WriteFailed → HasAnswered rules start events now
answered_by_status rules start now events Done ends other = ends.2
answered_by_status rules start now events ReadFailed ends other = ends
answered_by_status rules start now events WriteFailed ends other = absurd (other refl)
answered_by_status rules start now events Unended ends other = ends.1

known_at_end : (P : List Event → Type 0) (old new : Option (List Event)) (events : List Event) → new ≡ with_events old events → P events → old ≡ Some [] → IfSome new P
known_at_end P old None events grew here fresh = tt
known_at_end P old (Some history) events grew here fresh =
    let first : Some history ≡ Some (events ++ []) = grew ∙ ap (λ h. with_events h events) fresh in
    let same : history ≡ events ++ [] = cc in
    subst P (sym (same ∙ append-nil events)) here

pub answered_at_end : {S N : Type 0} (rules : Rules S) (start now : S) (old new : View N) (status : SessionStatus) → IsSession rules start now old new status → status ≢ WriteFailed → old.history ≡ Some []
    → IfSome new.history (λ history. Answers rules start (lines_read history) (bytes_written history) now)
answered_at_end rules start now old new status session other fresh =
    known_at_end (λ history. Answers rules start (lines_read history) (bytes_written history) now) old.history new.history session.events session.leads.history
    (answered_by_status rules start now session.events status session.ends other) fresh

-- however it ended, what was written begins answers that leave the state
left_by_status : {S : Type 0} (rules : Rules S) (start now : S) (events : List Event) (status : SessionStatus) → MatchesStatus rules start events now status
    → (text : List ℕ) × Answers rules start (lines_read events) text now
left_by_status rules start now events Done ends = (bytes_written events, ends.2)
left_by_status rules start now events ReadFailed ends = (bytes_written events, ends)
left_by_status rules start now events WriteFailed ends = (bytes_written events ++ ends.0, ends.1)
left_by_status rules start now events Unended ends = (bytes_written events, ends.1)

pub lines_carried_out : {S N : Type 0} (rules : Rules S) (start now : S) (old new : View N) (status : SessionStatus) → IsSession rules start now old new status → old.history ≡ Some []
    → IfSome new.history (λ history. CarriesOutSome rules start (lines_read history) now)
lines_carried_out rules start now old new status session fresh =
    let (text, answers) = left_by_status rules start now session.events status session.ends in
    known_at_end (λ history. CarriesOutSome rules start (lines_read history) now) old.history new.history session.events session.leads.history
    (carried_out rules start now (lines_read session.events) text answers) fresh

-- each read that counts brought a byte
reads_bring : (events : List Event) → reads_of events ≤ length (bytes_came events)
reads_bring [] = omega arith
reads_bring (Read [] ∷ before) = rw (append-nil (bytes_came before)) (reads_bring before)
reads_bring (Read (byte ∷ bytes) ∷ before) =
    let more = length-append (bytes_came before) (byte ∷ bytes) in
    omega (arith, more, reads_bring before)
reads_bring (End ∷ before) = reads_bring before
reads_bring (Wrote bytes ∷ before) = reads_bring before

came_within : (a b : Option (List ℕ)) (bytes : List ℕ) (n : ℕ) → Consumes a b bytes → n ≤ length bytes → IfSome a (λ input. n ≤ length input)
came_within None b bytes n taken many = tt
came_within (Some x) None bytes n taken many = absurd taken
came_within (Some x) (Some y) bytes n taken many =
    let whole : length x ≡ length bytes + length y = ap length taken ∙ length-append bytes y in
    omega (arith, whole, many)

pub unended_is_long : {S N : Type 0} (rules : Rules S) (start now : S) (old new : View N) → IsSession rules start now old new Unended → IfSome old.remaining (λ input. 2 ^ 64 - 1 ≤ length input)
unended_is_long rules start now old new session =
    let many = subst (λ n. n ≤ length (bytes_came session.events)) session.ends.0 (reads_bring session.events) in
    came_within old.remaining new.remaining (bytes_came session.events) (2 ^ 64 - 1) session.leads.remaining many

pub status_tells : (old new : ℕ × ℕ) (status : SessionStatus) → LeavesFailures ReadFailsMore WriteFailsMore old new status
    → ((status ≡ ReadFailed) ↔ (new.0 ≢ old.0)) × ((status ≡ WriteFailed) ↔ (new.1 ≢ old.1))
status_tells old new Done leaves =
    ((λ is. absurd (let none : ⊥ = cc in none), λ differs. absurd (differs (ap (λ (n : ℕ × ℕ). n.0) leaves))), (λ is. absurd (let none : ⊥ = cc in none), λ differs. absurd (differs (ap (λ (n : ℕ × ℕ). n.1) leaves))))
status_tells old new ReadFailed leaves = ((λ is same. omega (arith, same, leaves.0), λ differs. refl), (λ is. absurd (let none : ⊥ = cc in none), λ differs. absurd (differs leaves.1)))
status_tells old new WriteFailed leaves = ((λ is. absurd (let none : ⊥ = cc in none), λ differs. absurd (differs leaves.0)), (λ is same. omega (arith, same, leaves.1), λ differs. refl))
status_tells old new Unended leaves =
    ((λ is. absurd (let none : ⊥ = cc in none), λ differs. absurd (differs (ap (λ (n : ℕ × ℕ). n.0) leaves))), (λ is. absurd (let none : ⊥ = cc in none), λ differs. absurd (differs (ap (λ (n : ℕ × ℕ). n.1) leaves))))
