-- What each exit of a run writes, and what it leaves of the devices.
use Rattle.std.proofs.Common.{◌≡◌, ◌∙◌, ap, rules, inl, inr, refl}
use Rattle.std.specs.Prelude.{Err}
use Rattle.threads_lines.specs.declared.faults.RunFault.TheVariants as run_faults
use Rattle.threads_run.specs.Runs.{view_of_output}
use Rattle.threads_run.proofs.RunLemmas.{fails_so, no_answer, writes_whole}
use Rattle.threads_run.proofs.run.run_threads.Goals as goal

pub returns-in-Err-OutOfMemory : goal.returns-in-Err-OutOfMemory
returns-in-Err-OutOfMemory g c = record { answer = no_answer; text = refl; devices = search rules }

pub returns-in-Err-Device : goal.returns-in-Err-Device
returns-in-Err-Device g c = record { answer = no_answer; text = inl refl; devices = search rules }

pub returns-in-Err-Limit : goal.returns-in-Err-Limit
returns-in-Err-Limit g c = record { answer = no_answer; text = inl refl; devices = search rules }

pub returns-in-Err : goal.returns-in-Err
returns-in-Err g c =
    fails_so _ _ _ _ _ _ c.in-Err.fault _ c.in-Ok.bytes.items c.status.ensures refl (search rules)
    (λ is. let told : c.threads_output.result ≡ Err run_faults.Refused = c.in-Err.is ∙ ap Err is in search rules) (search rules) (search rules)

pub returns-in-Ok-write_all : goal.returns-in-Ok-write_all
returns-in-Ok-write_all g c = record {
  answer = view_of_output c.in-Ok-threads_output.output;
  text = writes_whole c.in-Ok-threads_output.output _ _ _ _ c.in-Ok.bytes.items c.in-Ok-threads_output.ensures.answered (search rules) (search rules) (search rules);
  devices = search rules;
}

pub returns : goal.returns
returns g c = record {
  answer = view_of_output c.in-Ok-threads_output.output;
  text = inr ((c.in-Ok.bytes.items, search rules, search rules), search rules);
  devices = search rules;
}
