-- How a run fails beside its workers (this project's profile).
use Rattle.std.specs.Prelude.{Bool, List, Result, Ok, Err, if◌then◌else◌}
use Rattle.std.specs.List.{list_any}
use Rattle.workers.specs.Workers.{EndedView}
use Rattle.threads_lines.specs.Faults.{fault_with_workers}
use Rattle.threads_lines.specs.declared.faults.RunFault.{RunFault}
use Rattle.threads_lines.specs.declared.faults.RunFault.TheVariants as faults

-- what is left of a worker says that it was refused memory
abbrev pub was_refused_memory : EndedView → Bool
was_refused_memory ended = ended.wanted

-- what is left of a worker says that it was cut off
abbrev pub was_cut_off : EndedView → Bool
was_cut_off ended = ended.cut_off

-- The lines of the proxies, if each was answered and no worker was cut off. Otherwise the fault of the
-- run, with `OutOfMemory` if a proxy or a worker was refused memory.
abbrev pub lines_unless_cut_off :
    {X : Type 0} → Result X RunFault → (workers : List EndedView) → Result X RunFault
lines_unless_cut_off (Ok text) workers =
    if list_any was_cut_off workers
    then Err (fault_with_workers faults.Refused (list_any was_refused_memory workers))
    else Ok text
lines_unless_cut_off (Err fault) workers =
    Err (fault_with_workers fault (list_any was_refused_memory workers))
