-- It is the text of the run.
use Rattle.std.proofs.Common.{List, ℕ, subst, sym}
use Rattle.threads_run.specs.Text.{IsThreadsText}
use Rattle.threads_run.proofs.text.threads_text_by_ledger.Goals as goal

pub returns : goal.returns
returns g c = subst (λ (text : List ℕ). IsThreadsText c.args.script.now text) (sym c.into_text.ensures) c.in_ok-run.ensures.0
