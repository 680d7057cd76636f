-- Which mode words choose.
use Rattle.std.specs.Prelude.{◌≡◌, ◌≢◌, List, MatchResult, [], IsErr, Result, Some}
use Rattle.clap.specs.Words.{Text, fault_of, matches_of}
use Rattle.command_line.specs.CommandLine.{ModeNames, command_line, mode_of}
use Rattle.command_line.specs.Rejections.{RejectsBy}
use Rattle.command_line.specs.declared.choosing.Rejection.{Rejection}
use Rattle.command_line.specs.declared.choosing.Rejection.TheVariants.{OutOfMemory}
use Rattle.command_line.specs.declared.mode.Mode.{Mode}

-- what `clap` reads of the words decides: if it refuses them, no mode is chosen, and the text tells one
-- of its faults; if it takes them, theirs is, unless an allocation fails
pub record ChoosesMode (words : List Text) (chosen : Result Mode Rejection) : Type 0 where
  pub names : ModeNames
  pub refused : fault_of (command_line names) words ≢ [] → IsErr chosen
  pub told : fault_of (command_line names) words ≢ []
      → RejectsBy (fault_of (command_line names) words) chosen
  pub taken : fault_of (command_line names) words ≡ [] → MatchResult chosen
      (λ mode. mode_of (matches_of (command_line names) words) ≡ Some mode)
      (λ rejection. rejection ≡ OutOfMemory)
