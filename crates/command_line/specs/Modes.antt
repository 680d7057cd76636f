-- The modes of the program by their names.
use Rattle.std.specs.Prelude.{ℕ, List, Option, Some, None, codes, if◌then◌else◌}
use Rattle.std.specs.Str.{bytes_eq}
use Rattle.command_line.specs.declared.mode.Mode.{Mode}
use Rattle.command_line.specs.declared.mode.Mode.TheVariants.{Fold, Turns, Threads}

-- the mode of a name
abbrev pub mode_named : List ℕ → Option Mode
mode_named name =
    if bytes_eq name (codes "fold") then Some Fold
    else if bytes_eq name (codes "turns") then Some Turns
    else if bytes_eq name (codes "threads") then Some Threads
    else None
