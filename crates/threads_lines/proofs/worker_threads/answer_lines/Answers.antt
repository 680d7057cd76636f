-- The lines of the closings follow those of the batches.
use Rattle.std.proofs.Common.{length}
use Rattle.std.specs.Prelude.{string_bytes}
use Rattle.threads_lines.proofs.PartLemmas.{all_answer_lines}
use Rattle.threads_lines.proofs.worker_threads.answer_lines.Goals as goal

pub returns : goal.returns
returns g c =
    all_answer_lines g.N.Naming.cells.config (length g.N.Naming.cells.records) c.args.work.now _ c.in_ok-text.field-0.history
    c.commit_and_print_closings.new.history (string_bytes c.in_ok-text.field-0.text) (string_bytes c.commit_and_print_closings.new.text)
    c.in_ok-text.ensures c.in_ok-commit_and_print_closings.ensures.closings
