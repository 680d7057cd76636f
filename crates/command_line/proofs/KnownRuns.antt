-- The result of a run by words that are written out.
use Rattle.std.proofs.Common.{◌≢◌, List, [], Option, subst}
use Rattle.std.specs.Prelude.{string_bytes}
use Rattle.scripts.specs.declared.devices.Sink.{Ghosts as SinkView}
use Rattle.scripts.specs.declared.devices.Source.{Ghosts as SourceView}
use Rattle.clap.specs.Words.{Kinds, Text, fault_of}
use Rattle.command_line.specs.CommandLine.{GivesMode}
use Rattle.command_line.specs.KnownLines.{IsFoldLine, IsRejectedLine, IsThreadsLine, IsTurnsLine}
use Rattle.command_line.specs.declared.mode.Mode.{Mode}
use Rattle.command_line.specs.declared.mode.Mode.TheVariants.{Fold, Turns, Threads}
use Rattle.command_line.proofs.KnownWords.{fold_line_gives, rejected_line_refused, threads_line_gives, turns_line_gives}
use Rattle.command_line.specs.CommandLine.{command_line}
use Rattle.command_line.specs.Rejections.{IsTextOf}
use Rattle.command_line.proofs.Endings.{is_told}
use Rattle.command_line.specs.Statuses.{IfRan, IsRejectedWith}
use Rattle.command_line.specs.WordRuns.{AreUnchanged, RunsByWords, RunsIn, RunsMode, RunsOrRunsOut, RunsWords}
use Rattle.command_line.specs.declared.status.Status.{Status}
use Rattle.command_line.specs.declared.status.Status.TheVariants as statuses

-- if clap takes the words and they give this mode, it runs
mode_runs : (words : List Text) (status : Status) (unchanged : Type 0) (runs : Mode → Type 0) (mode : Mode)
    → (run : RunsWords words status unchanged runs) → GivesMode run.names words mode → RunsOrRunsOut status unchanged (runs mode)
mode_runs words status unchanged runs mode run gives =
    subst (λ (given : Option Mode). RunsOrRunsOut status unchanged (RunsMode given runs)) gives.1 (run.taken gives.0)

-- a command line that folds
pub fold_line_folds : (words : List Text) (status : Status) (unchanged : Type 0) (runs : Mode → Type 0)
    → RunsWords words status unchanged runs → IsFoldLine words → RunsOrRunsOut status unchanged (runs Fold)
fold_line_folds words status unchanged runs run line = mode_runs words status unchanged runs Fold run (fold_line_gives run.names words line)

-- a command line that carries out events
pub turns_line_plays : (words : List Text) (status : Status) (unchanged : Type 0) (runs : Mode → Type 0)
    → RunsWords words status unchanged runs → IsTurnsLine words → RunsOrRunsOut status unchanged (runs Turns)
turns_line_plays words status unchanged runs run line = mode_runs words status unchanged runs Turns run (turns_line_gives run.names words line)

-- a command line that commits batches in threads
pub threads_line_commits : (words : List Text) (status : Status) (unchanged : Type 0) (runs : Mode → Type 0)
    → RunsWords words status unchanged runs → IsThreadsLine words → RunsOrRunsOut status unchanged (runs Threads)
threads_line_commits words status unchanged runs run line = mode_runs words status unchanged runs Threads run (threads_line_gives run.names words line)

-- the text of a command line that is rejected by some faults is not empty
some_text : (faults : Kinds) (status : Status) → IsRejectedWith (IsTextOf faults) status → IsRejectedWith (λ text. text ≢ []) status
some_text faults (statuses.Ran status) is = is
some_text faults (statuses.CommandLineRefused text) is = is_told faults (string_bytes text) is

-- a command line with the name of a mode in other letters, or a call for help, is rejected
pub rejected_line_rejected : (words : List Text) (status : Status) (unchanged : Type 0) (runs : Mode → Type 0)
    → RunsWords words status unchanged runs → IsRejectedLine words → IsRejectedWith (λ text. text ≢ []) status × unchanged
rejected_line_rejected words status unchanged runs run line =
    let (told, left) = run.refused (rejected_line_refused run.names words line) in
    (some_text (fault_of (command_line run.names) words) status told, left)

-- what `clap` reads of the words says all of the command lines that are written out
pub runs_by_words : {S T : Type 0} (words : List Text) (source : SourceView S) (source_old source_new : S)
    (sink : SinkView T) (sink_old sink_new : T) (status : Status)
    → RunsWords words status (AreUnchanged source_old source_new sink_old sink_new)
    (λ mode. IfRan status (RunsIn mode source source_old source_new sink sink_old sink_new))
    → RunsByWords words source source_old source_new sink sink_old sink_new status
runs_by_words words source source_old source_new sink sink_old sink_new status run =
    record {
      mode = run;
      fold = fold_line_folds _ _ _ _ run;
      turns = turns_line_plays _ _ _ _ run;
      threads = threads_line_commits _ _ _ _ run;
      rejected = rejected_line_rejected _ _ _ _ run;
    }
