-- What is printed on a page that goes to a device.
use Rattle.std.proofs.Common.{◌≡◌, ◌≢◌, ℕ, List, [], ◌∷◌, ◌++◌, Bool, true, false, Result, Ok, Err, refl, sym, ap, ◌∙◌, append_assoc, append-nil, subst, arith}
use Rattle.std.proofs.lemmas.Bool.{false≢true}
use Rattle.std.specs.Borrow.{GName}
use Rattle.sessions.specs.Answers.{Rules, Answers}
use Rattle.sessions.specs.Events.{View, WritesText}
use Rattle.sessions.specs.Feeds.{AnswersBytes}
use Rattle.sessions.specs.Lines.{lines_from, open_from, line_end}
use Rattle.sessions.specs.Outboxes.{Beginning, HasSent}
use Rattle.sessions.specs.Pending.{Holds}
use Rattle.sessions.specs.declared.pending.Pending.{Pending}
use Rattle.sessions.specs.declared.device.Failed.{Failed}
use Rattle.sessions.proofs.EventLemmas.{writes_nothing, writes_text_more}

pub sent_nothing : {N F : Type 0} {write_fails : F → F → Type 0} {borrow : GName} {view : View N} {failures : F} {kept : List ℕ} → kept ≡ []
    → HasSent write_fails borrow view failures kept false (record { borrow = borrow; view = view; failures = failures }) []
sent_nothing {view = view} none =
    record { same = refl; written = []; unwritten = []; wrote = writes_nothing view; all = refl; unfailed = λ _. (sym none, refl); failed = λ never. absurd (false≢true never) }

-- more is kept
pub sent_kept : {N F : Type 0} {write_fails : F → F → Type 0} {borrow : GName} {view : View N} {failures : F} {kept more : List ℕ} {beginning : Beginning N F} {printed : List ℕ} (text : List ℕ)
    → more ≡ kept ++ text → HasSent write_fails borrow view failures kept false beginning printed
    → HasSent write_fails borrow view failures more false beginning (printed ++ text)
sent_kept {kept = kept} {printed = printed} text grown sent =
    record {
      same = sent.same;
      written = sent.written;
      unwritten = sent.unwritten ++ text;
      wrote = sent.wrote;
      all = sym (append_assoc sent.written sent.unwritten text) ∙ ap (λ l. l ++ text) sent.all;
      unfailed = λ _. (ap (λ l. l ++ text) (sent.unfailed refl).0 ∙ sym grown, (sent.unfailed refl).1);
      failed = λ never. absurd (false≢true never);
    }

-- after a failed write nothing more is written
pub sent_no_more : {N F : Type 0} {write_fails : F → F → Type 0} {borrow : GName} {view : View N} {failures : F} {kept more : List ℕ} {beginning : Beginning N F} {printed : List ℕ} (text : List ℕ)
    → HasSent write_fails borrow view failures kept true beginning printed
    → HasSent write_fails borrow view failures more true beginning (printed ++ text)
sent_no_more text sent =
    record {
      same = sent.same;
      written = sent.written;
      unwritten = sent.unwritten ++ text;
      wrote = sent.wrote;
      all = sym (append_assoc sent.written sent.unwritten text) ∙ ap (λ l. l ++ text) sent.all;
      unfailed = λ never. absurd (false≢true (sym never));
      failed = λ _. sent.failed refl;
    }

-- what was kept is written
pub sent_all : {N F : Type 0} {write_fails : F → F → Type 0} {borrow : GName} {view next : View N} {failures later : F} {kept : List ℕ} {beginning : Beginning N F} {printed : List ℕ}
    → HasSent write_fails borrow view failures kept false beginning printed → WritesText view next kept → later ≡ failures
    → HasSent write_fails borrow next later [] false beginning printed
sent_all {view = view} {next = next} {kept = kept} {beginning = beginning} sent wrote same =
    let own = sent.unfailed refl in
    record {
      same = sent.same;
      written = sent.written ++ kept;
      unwritten = [];
      wrote = writes_text_more beginning.view view next sent.written kept sent.wrote wrote;
      all = append-nil (sent.written ++ kept) ∙ ap (λ l. sent.written ++ l) (sym own.0) ∙ sent.all;
      unfailed = λ _. (refl, same ∙ own.1);
      failed = λ never. absurd (false≢true never);
    }

-- a text is written, while nothing is kept
pub sent_text : {N F : Type 0} {write_fails : F → F → Type 0} {borrow : GName} {view next : View N} {failures later : F} {beginning : Beginning N F} {printed text : List ℕ}
    → HasSent write_fails borrow view failures [] false beginning printed → WritesText view next text → later ≡ failures
    → HasSent write_fails borrow next later [] false beginning (printed ++ text)
sent_text {view = view} {next = next} {beginning = beginning} {text = text} sent wrote same =
    let own = sent.unfailed refl in
    record {
      same = sent.same;
      written = sent.written ++ text;
      unwritten = [];
      wrote = writes_text_more beginning.view view next sent.written text sent.wrote wrote;
      all = append-nil (sent.written ++ text)
          ∙ ap (λ l. l ++ text) (sym (append-nil sent.written) ∙ ap (λ l. sent.written ++ l) (sym own.0) ∙ sent.all);
      unfailed = λ _. (refl, same ∙ own.1);
      failed = λ never. absurd (false≢true never);
    }

-- a write failed: a front of these bytes was written
abbrev pub WritesFront : {N : Type 0} → View N → View N → List ℕ → Type 0
WritesFront view next bytes = (text : List ℕ) × (unwritten : List ℕ) × WritesText view next text × (text ++ unwritten ≡ bytes)

pub sent_front : {N F : Type 0} {write_fails : F → F → Type 0} {borrow : GName} {view next : View N} {failures later : F} {kept more : List ℕ} {beginning : Beginning N F} {printed bytes : List ℕ} (text : List ℕ)
    → HasSent write_fails borrow view failures kept false beginning printed → WritesFront view next bytes → kept ++ text ≡ bytes → write_fails failures later
    → HasSent write_fails borrow next later more true beginning (printed ++ text)
sent_front {write_fails = write_fails} {view = view} {next = next} {later = later} {kept = kept} {beginning = beginning} {printed = printed} text sent (front, rest, wrote, split) joined fails =
    let own = sent.unfailed refl in
    record {
      same = sent.same;
      written = sent.written ++ front;
      unwritten = rest;
      wrote = writes_text_more beginning.view view next sent.written front sent.wrote wrote;
      all = append_assoc sent.written front rest ∙ ap (λ l. sent.written ++ l) (split ∙ sym joined) ∙ sym (append_assoc sent.written kept text)
          ∙ ap (λ l. (sent.written ++ l) ++ text) (sym own.0) ∙ ap (λ l. l ++ text) sent.all;
      unfailed = λ never. absurd (false≢true (sym never));
      failed = λ _. subst (λ f. write_fails f later) own.1 fails;
    }

-- the same, where all that was to be written was kept
pub sent_front_of_kept : {N F : Type 0} {write_fails : F → F → Type 0} {borrow : GName} {view next : View N} {failures later : F} {kept more : List ℕ} {beginning : Beginning N F} {printed : List ℕ} (text : List ℕ)
    → HasSent write_fails borrow view failures kept false beginning printed → WritesFront view next kept → write_fails failures later
    → HasSent write_fails borrow next later more true beginning (printed ++ text)
sent_front_of_kept {write_fails = write_fails} {borrow = borrow} {next = next} {later = later} {kept = kept} {more = more} {beginning = beginning} {printed = printed} text sent front fails =
    let none : HasSent write_fails borrow next later more true beginning (printed ++ []) = sent_front [] sent front (append-nil kept) fails in
    sent_no_more {kept = more} text (subst (HasSent write_fails borrow next later more true beginning) (append-nil printed) none)

-- ---- each way that a text goes

-- a write has failed before
pub send_nothing : {N F : Type 0} {write_fails : F → F → Type 0} {borrow : GName} {view : View N} {failures : F} {kept : List ℕ} {flag : Bool} {beginning : Beginning N F} {printed : List ℕ} (text : List ℕ)
    → flag ≡ true → HasSent write_fails borrow view failures kept flag beginning printed → HasSent write_fails borrow view failures kept flag beginning (printed ++ text)
send_nothing {write_fails = write_fails} {borrow = borrow} {view = view} {failures = failures} {kept = kept} {beginning = beginning} {printed = printed} text failed sent =
    let before : HasSent write_fails borrow view failures kept true beginning printed = subst (λ b. HasSent write_fails borrow view failures kept b beginning printed) failed sent in
    subst (λ b. HasSent write_fails borrow view failures kept b beginning (printed ++ text)) (sym failed) (sent_no_more text before)

-- it is kept
pub send_later : {N F : Type 0} {write_fails : F → F → Type 0} {borrow : GName} {view : View N} {failures : F} {kept more : List ℕ} {flag : Bool} {beginning : Beginning N F} {printed : List ℕ} (text : List ℕ)
    → flag ≡ false → more ≡ kept ++ text → HasSent write_fails borrow view failures kept flag beginning printed
    → HasSent write_fails borrow view failures more flag beginning (printed ++ text)
send_later {write_fails = write_fails} {borrow = borrow} {view = view} {failures = failures} {kept = kept} {more = more} {beginning = beginning} {printed = printed} text unfailed grown sent =
    let before : HasSent write_fails borrow view failures kept false beginning printed = subst (λ b. HasSent write_fails borrow view failures kept b beginning printed) unfailed sent in
    subst (λ b. HasSent write_fails borrow view failures more b beginning (printed ++ text)) (sym unfailed) (sent_kept text grown before)

-- what is kept is written, and then it
pub send_done : {N F : Type 0} {write_fails : F → F → Type 0} {borrow : GName} {view mid last : View N} {failures between later : F} {kept after : List ℕ} {flag : Bool} {beginning : Beginning N F} {printed text : List ℕ}
    → flag ≡ false → after ≡ [] → WritesText view mid kept → between ≡ failures → WritesText mid last text → later ≡ between
    → HasSent write_fails borrow view failures kept flag beginning printed → HasSent write_fails borrow last later after flag beginning (printed ++ text)
send_done {write_fails = write_fails} {borrow = borrow} {view = view} {last = last} {failures = failures} {later = later} {kept = kept} {after = after} {beginning = beginning} {printed = printed} {text = text} unfailed none first same second again sent =
    let before : HasSent write_fails borrow view failures kept false beginning printed = subst (λ b. HasSent write_fails borrow view failures kept b beginning printed) unfailed sent in
    let done : HasSent write_fails borrow last later [] false beginning (printed ++ text) = sent_text (sent_all before first same) second again in
    subst (λ b. HasSent write_fails borrow last later after b beginning (printed ++ text)) (sym unfailed)
    (subst (λ l. HasSent write_fails borrow last later l false beginning (printed ++ text)) (sym none) done)

-- the write of what is kept fails
pub send_stuck : {N F : Type 0} {write_fails : F → F → Type 0} {borrow : GName} {view next : View N} {failures later : F} {kept more : List ℕ} {flag : Bool} {beginning : Beginning N F} {printed : List ℕ} (text : List ℕ)
    → flag ≡ false → WritesFront view next kept → write_fails failures later
    → HasSent write_fails borrow view failures kept flag beginning printed → HasSent write_fails borrow next later more true beginning (printed ++ text)
send_stuck {write_fails = write_fails} {borrow = borrow} {view = view} {failures = failures} {kept = kept} {beginning = beginning} {printed = printed} text unfailed front fails sent =
    let before : HasSent write_fails borrow view failures kept false beginning printed = subst (λ b. HasSent write_fails borrow view failures kept b beginning printed) unfailed sent in
    sent_front_of_kept text before front fails

-- its own write fails
pub send_cut : {N F : Type 0} {write_fails : F → F → Type 0} {borrow : GName} {view mid next : View N} {failures between later : F} {kept more : List ℕ} {flag : Bool} {beginning : Beginning N F} {printed text : List ℕ}
    → flag ≡ false → WritesText view mid kept → between ≡ failures → WritesFront mid next text → write_fails between later
    → HasSent write_fails borrow view failures kept flag beginning printed → HasSent write_fails borrow next later more true beginning (printed ++ text)
send_cut {write_fails = write_fails} {borrow = borrow} {view = view} {failures = failures} {kept = kept} {beginning = beginning} {printed = printed} {text = text} unfailed first same front fails sent =
    let before : HasSent write_fails borrow view failures kept false beginning printed = subst (λ b. HasSent write_fails borrow view failures kept b beginning printed) unfailed sent in
    sent_front text (sent_all before first same) front refl fails

-- ---- all bytes of a read

-- a line that is not whole yet has some bytes
pub holds_some : (pending : Pending) → (line : List ℕ) × Holds pending line
holds_some pending = by pending.lost refl
  where
    by : (b : Bool) → pending.lost ≡ b → (line : List ℕ) × Holds pending line
    by false kept = (pending.bytes.items, record { bytes = λ _. refl; some = λ lost. absurd (false≢true (sym kept ∙ lost)) })
    by true lost = (0 ∷ [], record { bytes = λ kept. absurd (false≢true (sym kept ∙ lost)); some = λ _. omega arith })

-- the lines were answered, and the answers written
pub bytes_answered : {S N F : Type 0} {rules : Rules S} {write_fails : F → F → Type 0} {start now : S} {borrow : GName} {view : View N} {failures : F} {kept : List ℕ} {flag : Bool} {beginning : Beginning N F} {open_line bytes : List ℕ} {pending : Pending} (text : List ℕ)
    → Answers rules start (lines_from open_line bytes) text now → Holds pending (open_from open_line bytes) → HasSent write_fails borrow view failures kept flag beginning (text ++ [])
    → flag ≡ false → kept ≡ [] → AnswersBytes rules start now beginning.view view open_line bytes pending (Ok tt)
bytes_answered {rules = rules} {start = start} {now = now} {open_line = open_line} {bytes = bytes} text answers held sent unfailed none =
    record {
      text = sent.written;
      unwritten = sent.unwritten;
      wrote = sent.wrote;
      answers = subst (λ l. Answers rules start (lines_from open_line bytes) l now) (sym (sent.all ∙ append-nil text)) answers;
      all = (sent.unfailed unfailed).0 ∙ none;
      kept = held;
    }

-- the lines were answered, but a write failed
pub bytes_unwritten : {S N F : Type 0} {rules : Rules S} {write_fails : F → F → Type 0} {start now : S} {borrow : GName} {view : View N} {failures : F} {kept : List ℕ} {flag : Bool} {beginning : Beginning N F} {open_line bytes : List ℕ} {pending : Pending} (why : Failed) (text : List ℕ)
    → Answers rules start (lines_from open_line bytes) text now → HasSent write_fails borrow view failures kept flag beginning (text ++ [])
    → AnswersBytes rules start now beginning.view view open_line bytes pending (Err why)
bytes_unwritten {rules = rules} {start = start} {now = now} {open_line = open_line} {bytes = bytes} why text answers sent =
    record {
      text = sent.written;
      unwritten = sent.unwritten;
      wrote = sent.wrote;
      answers = subst (λ l. Answers rules start (lines_from open_line bytes) l now) (sym (sent.all ∙ append-nil text)) answers;
      all = tt;
      kept = tt;
    }

-- the same of the device as its loan leaves it
pub answered_at_end : {D S N : Type 0} {rules : Rules S} {start now : S} {old : View N} {open_line bytes : List ℕ} {pending : Pending} {result : Result (Unit {0}) Failed} {last there : D} (view : D → View N)
    → last ≡ there → AnswersBytes rules start now old (view there) open_line bytes pending result → AnswersBytes rules start now old (view last) open_line bytes pending result
answered_at_end {rules = rules} {start = start} {now = now} {old = old} {open_line = open_line} {bytes = bytes} {pending = pending} {result = result} view same answered =
    subst (λ d. AnswersBytes rules start now old (view d) open_line bytes pending result) (sym same) answered

-- there was no line to answer
pub nothing_answered : {S N : Type 0} (rules : Rules S) (start : S) (view : View N) (open_line : List ℕ) (pending : Pending) → open_line ≡ [] → Holds pending open_line
    → AnswersBytes rules start start view view open_line (line_end open_line) pending (Ok tt)
nothing_answered rules start view open_line pending none held =
    let P : List ℕ → Type 0 = λ line. Holds pending line → AnswersBytes rules start start view view line (line_end line) pending (Ok tt) in
    subst P (sym none) (λ holds. record { text = []; unwritten = []; wrote = writes_nothing view; answers = (refl, refl); all = refl; kept = holds }) held

pub line_end_some : (open_line : List ℕ) → open_line ≢ [] → 10 ∷ [] ≡ line_end open_line
line_end_some [] some = absurd (some refl)
line_end_some (byte ∷ bytes) some = refl
