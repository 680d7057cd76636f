use Rattle.std.proofs.Common.{◌≡◌, Ok, Err, Option, Some, None, refl, ap, rules}
use Rattle.system_keys.specs.AsSpecified.{IsFaultIfAllocated}
use Rattle.scripts.specs.ScriptFaults.{script_fault}
use Rattle.scripts.specs.Shapes.{◌>>=◌, or_bad_shape}
use Rattle.scripts.specs.declared.script_fault.ScriptFault.{ScriptFault}
use Rattle.scripts.specs.declared.script_fault.ScriptFault.TheVariants as faults
use Rattle.turns_run.specs.declared.script.RawEvent.{RawEvent}
use Rattle.session_run.specs.declared.line.RawLine.{RawLine}
use Rattle.session_run.specs.declared.line.RawLine.TheVariants as raw
use Rattle.session_run.proofs.shapes.event_line.Goals as goal

abbrev as_line : Option RawEvent → Option RawLine
as_line event = event >>= (λ (e : RawEvent). Some (raw.Event e))

line_found : (found : RawEvent) (event : Option RawEvent) → or_bad_shape event ≡ Ok found → or_bad_shape (as_line event) ≡ Ok (raw.Event found)
line_found found None is = cc
line_found found (Some e) is =
    let same : e ≡ found = cc in
    ap (λ (x : RawEvent). or_bad_shape (Some (raw.Event x))) same

line_missing : (fault : ScriptFault) (event : Option RawEvent) → IsFaultIfAllocated (script_fault fault) (or_bad_shape event) → IsFaultIfAllocated (script_fault fault) (or_bad_shape (as_line event))
line_missing faults.NotJson None is = cc
line_missing faults.NotJson (Some e) is = cc
line_missing faults.BadShape None is = refl
line_missing faults.BadShape (Some e) is = cc
line_missing (faults.Refused refusal) None is = cc
line_missing (faults.Refused refusal) (Some e) is = cc
line_missing faults.NoSuchResolver None is = cc
line_missing faults.NoSuchResolver (Some e) is = cc
line_missing faults.OutOfMemory event is = tt

pub returns-in_err-from_value : goal.returns-in_err-from_value
returns-in_err-from_value c =
    let is : c.from_residual.result ≡ Err c.in_err-from_value.field-0.0 = search rules in
    rw is (line_missing c.in_err-from_value.field-0.0 _ c.in_err-from_value.ensures)

pub returns : goal.returns
returns c = line_found _ _ c.in_ok-from_value.ensures
