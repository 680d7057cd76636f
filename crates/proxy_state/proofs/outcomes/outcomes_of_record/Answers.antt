-- The lists beside the transactions are those of the resolvers that these ask.
use Rattle.std.proofs.Common.{◌∙◌}
use Rattle.std.proofs.lemmas.Result.{IfOk-weaker}
use Rattle.proxy_state.proofs.ColumnLaws.{outcomes_called}
use Rattle.proxy_state.proofs.outcomes.outcomes_of_record.Goals as goal

pub returns-clause-value : goal.returns-clause-value
returns-clause-value c =
    IfOk-weaker c.outcomes_by_columns.result _ _
    (λ outcomes is. is ∙ outcomes_called c.args.config.now c.args.columns.now c.args.locked c.args.begun.now.rec c.version.result c.batch-batch.result.now c.as_slice-lists.result.now c.args.begun.now.asked c.version.ensures.value c.batch-batch.ensures c.as_slice-lists.ensures c.requires)
    c.outcomes_by_columns.ensures.value
