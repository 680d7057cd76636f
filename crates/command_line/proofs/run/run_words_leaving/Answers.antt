use Rattle.std.proofs.Common.{◌≡◌, ◌≢◌, ◌∙◌, Global, List, [], Option, Some, String, ap, inl, inr, refl, subst, sym}
use Rattle.command_line.specs.WordRuns.{RunsMode}
use Rattle.std.specs.Prelude.{Err, string_bytes}
use Rattle.clap.specs.Words.{Text, fault_of}
use Rattle.command_line.specs.Choices.{ChoosesMode}
use Rattle.command_line.specs.CommandLine.{command_line}
use Rattle.command_line.specs.Rejections.{IsTextOf, RejectsBy}
use Rattle.command_line.specs.declared.choosing.Rejection.{Rejection}
use Rattle.command_line.specs.declared.choosing.Rejection.TheVariants.{Words}
use Rattle.command_line.specs.declared.mode.Mode.{Mode}
use Rattle.command_line.specs.declared.mode.Mode.TheVariants.{Fold, Turns, Threads}
use Rattle.command_line.proofs.KnownRuns.{runs_by_words}
use Rattle.command_line.proofs.run.run_words_leaving.Goals as goal

-- the mode that was given ran
runs_given : (given : Option Mode) (mode : Mode) (runs : Mode → Type 0) → given ≡ Some mode → runs mode → RunsMode given runs
runs_given given mode runs is ran = subst (λ (m : Option Mode). RunsMode m runs) (sym is) ran

-- where the words are refused, and the rejection has this text, it tells one of their faults
told_by : (words : List Text) (given : Rejection) (text given_text : String Global) (chosen : ChoosesMode words (Err given))
    → given ≡ Words given_text → text ≡ given_text
    → fault_of (command_line chosen.names) words ≢ [] → IsTextOf (fault_of (command_line chosen.names) words) (string_bytes text)
told_by words given text given_text chosen is same some =
    let faults = fault_of (command_line chosen.names) words in
    subst (λ (t : String Global). IsTextOf faults (string_bytes t)) (sym same)
    (subst (λ (r : Rejection). RejectsBy faults (Err r)) is (chosen.told some))

pub returns-in-Ok-Fold-clause-run : goal.returns-in-Ok-Fold-clause-run
returns-in-Ok-Fold-clause-run g c =
    let chosen = c.in-Ok-Fold.ensures in
    runs_by_words _ _ _ _ _ _ _ _
    (record {
      names = chosen.names;
      refused = λ some. let bad = chosen.refused some in cc;
      taken = λ none. inr (runs_given _ Fold _ (chosen.taken none ∙ ap (λ mode. Some mode) c.in-Ok-Fold.field-0-is)
          (record { text = c.run_fold_leaving.ensures.fold; devices = c.run_fold_leaving.ensures.devices }));
    })

pub returns-in-Ok-Turns-clause-run : goal.returns-in-Ok-Turns-clause-run
returns-in-Ok-Turns-clause-run g c =
    let chosen = c.in-Ok-Turns.ensures in
    runs_by_words _ _ _ _ _ _ _ _
    (record {
      names = chosen.names;
      refused = λ some. let bad = chosen.refused some in cc;
      taken = λ none. inr (runs_given _ Turns _ (chosen.taken none ∙ ap (λ mode. Some mode) c.in-Ok-Turns.field-0-is)
          (record { text = c.run_turns_leaving.ensures.turns; devices = c.run_turns_leaving.ensures.devices }));
    })

pub returns-in-Ok-Threads-clause-run : goal.returns-in-Ok-Threads-clause-run
returns-in-Ok-Threads-clause-run g c =
    let chosen = c.in-Ok-Threads.ensures in
    runs_by_words _ _ _ _ _ _ _ _
    (record {
      names = chosen.names;
      refused = λ some. let bad = chosen.refused some in cc;
      taken = λ none. inr (runs_given _ Threads _ (chosen.taken none ∙ ap (λ mode. Some mode) c.in-Ok-Threads.field-0-is) c.run_threads.ensures);
    })

pub returns-in-Err-Words-clause-run : goal.returns-in-Err-Words-clause-run
returns-in-Err-Words-clause-run g c =
    let chosen = c.in-Err-Words.ensures in
    runs_by_words _ _ _ _ _ _ _ _
    (record {
      names = chosen.names;
      refused = λ some. (told_by _ _ _ _ chosen c.in-Err-Words.field-0-is c.in-Err-Words.text-is some, (refl, refl));
      taken = λ none. let bad = chosen.taken none in cc;
    })

pub returns-in-Err-OutOfMemory-clause-run : goal.returns-in-Err-OutOfMemory-clause-run
returns-in-Err-OutOfMemory-clause-run g c =
    let chosen = c.in-Err-OutOfMemory.ensures in
    runs_by_words _ _ _ _ _ _ _ _
    (record {
      names = chosen.names;
      refused = λ some. (refl, (refl, refl));
      taken = λ none. inl (refl, (refl, refl));
    })

pub returns-in-Ok-Fold-clause-devices : goal.returns-in-Ok-Fold-clause-devices
returns-in-Ok-Fold-clause-devices g c = (Fold, c.run_fold_leaving.ensures.devices)

pub returns-in-Ok-Turns-clause-devices : goal.returns-in-Ok-Turns-clause-devices
returns-in-Ok-Turns-clause-devices g c = (Turns, c.run_turns_leaving.ensures.devices)

pub returns-in-Ok-Threads-clause-devices : goal.returns-in-Ok-Threads-clause-devices
returns-in-Ok-Threads-clause-devices g c = (Threads, (c.run_threads.ensures.answer, c.run_threads.ensures.devices))
