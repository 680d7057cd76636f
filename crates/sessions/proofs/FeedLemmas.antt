-- How far a piece of the input has been taken up.
use Rattle.std.proofs.Common.{◌≡◌, ◌≢◌, ℕ, List, [], ◌∷◌, ◌++◌, refl, sym, ap, ◌∙◌, subst, inl, inr}
use Rattle.pages.specs.Printing.{Prints}
use Rattle.pages.proofs.Prints.{prints_as, prints_both, prints_nothing}
use Rattle.sessions.specs.Answers.{Rules, Answers, out_of_memory}
use Rattle.sessions.specs.Feeds.{AnswersLine, Feeds}
use Rattle.sessions.specs.Lines.{open_from}
use Rattle.sessions.specs.Pending.{Holds}
use Rattle.sessions.specs.declared.pending.Pending.{Pending}
use Rattle.sessions.proofs.AnswerLemmas.{answers_one, answers_join}
use Rattle.sessions.proofs.LineLemmas.{lines_append, open_append, lines_more, open_more}

pub feeds_nothing : {S P O : Type 0} {has_printed : P → O → List ℕ → Type 0} (rules : Rules S) (start : S) (page : P) (open_line : List ℕ) (pending : Pending) → Holds pending open_line
    → Feeds rules has_printed start start page page open_line [] pending
feeds_nothing rules start page open_line pending holds = record { text = []; answers = (refl, refl); printed = prints_nothing page; held = holds }

-- a byte that ends no line
pub feeds_byte : {S P O : Type 0} {has_printed : P → O → List ℕ → Type 0} {rules : Rules S} {start now : S} {old new : P} {open_line taken : List ℕ} {byte : ℕ} {pending after : Pending} → byte ≢ 10
    → ((line : List ℕ) → Holds pending line → Holds after (line ++ byte ∷ []))
    → Feeds rules has_printed start now old new open_line taken pending → Feeds rules has_printed start now old new open_line (taken ++ byte ∷ []) after
feeds_byte {rules = rules} {start = start} {now = now} {open_line = open_line} {taken = taken} {byte = byte} {after = after} other pushed fed =
    record {
      text = fed.text;
      answers = subst (λ l. Answers rules start l fed.text now) (sym (lines_more open_line taken byte other)) fed.answers;
      printed = fed.printed;
      held = subst (Holds after) (sym (open_more open_line taken byte other)) (pushed (open_from open_line taken) fed.held);
    }

-- a line feed, after which the answer was printed
pub feeds_line : {S P O : Type 0} {has_printed : P → O → List ℕ → Type 0} {rules : Rules S} {start now next : S} {old mid new : P} {open_line taken : List ℕ} {pending after : Pending}
    → Feeds rules has_printed start now old mid open_line taken pending → AnswersLine rules has_printed now next mid new (open_from open_line taken) → Holds after []
    → Feeds rules has_printed start next old new open_line (taken ++ 10 ∷ []) after
feeds_line {rules = rules} {start = start} {now = now} {next = next} {open_line = open_line} {taken = taken} {after = after} fed line cleared =
    let joined = answers_join rules start now next _ _ fed.text line.text fed.answers (answers_one rules now (open_from open_line taken) line.text next line.answer) in
    record {
      text = fed.text ++ line.text;
      answers = subst (λ l. Answers rules start l (fed.text ++ line.text) next) (sym (lines_append open_line taken (10 ∷ []))) joined;
      printed = prints_both fed.printed line.printed;
      held = subst (Holds after) (sym (open_append open_line taken (10 ∷ []))) cleared;
    }

-- the same, where all bytes are taken
pub feeds_all : {S P O : Type 0} {has_printed : P → O → List ℕ → Type 0} {rules : Rules S} {start now : S} {old new : P} {open_line taken bytes : List ℕ} {pending : Pending} → taken ≡ bytes
    → Feeds rules has_printed start now old new open_line taken pending → Feeds rules has_printed start now old new open_line bytes pending
feeds_all {has_printed = has_printed} {rules = rules} {start = start} {now = now} {old = old} {new = new} {open_line = open_line} {pending = pending} same fed =
    subst (λ l. Feeds rules has_printed start now old new open_line l pending) same fed

-- ---- one line

pub line_lost : {S P O : Type 0} {has_printed : P → O → List ℕ → Type 0} {rules : Rules S} {start : S} {old new : P} {line : List ℕ}
    → Prints has_printed old new out_of_memory → AnswersLine rules has_printed start start old new line
line_lost printed = record { text = out_of_memory; answer = inr (refl, refl); printed = printed }

pub line_answered : {S P O : Type 0} {has_printed : P → O → List ℕ → Type 0} {rules : Rules S} {start now : S} {old new : P} {line bytes : List ℕ}
    → bytes ≡ line → Prints has_printed old new (rules.answer start bytes) → now ≡ rules.after start bytes → AnswersLine rules has_printed start now old new line
line_answered {rules = rules} {start = start} {line = line} same printed after =
    record { text = rules.answer start line; answer = inl (refl, after ∙ ap (rules.after start) same); printed = prints_as printed (ap (rules.answer start) same) }

-- for want of memory the line was not answered, and nothing was printed
pub line_unanswered : {S P O : Type 0} {has_printed : P → O → List ℕ → Type 0} {rules : Rules S} {start now : S} {old mid new : P} {line : List ℕ}
    → Prints has_printed old mid [] → now ≡ start → Prints has_printed mid new out_of_memory → AnswersLine rules has_printed start now old new line
line_unanswered nothing same printed = record { text = out_of_memory; answer = inr (refl, same); printed = prints_both nothing printed }
