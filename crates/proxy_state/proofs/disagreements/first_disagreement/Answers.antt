-- The replies disagree at the record, or where their rows do not fit.
use Rattle.std.proofs.Common.{◌≡◌, ◌∙◌, ap, ℕ, Some, true, false, rules}
use Rattle.model.specs.Finishing.{are_replies_to}
use Rattle.proxy_state.proofs.Misfits.{disagree_rows, disagree_record}
use Rattle.proxy_state.proofs.disagreements.first_disagreement.Goals as goal

pub returns-then-are_replies_to : goal.returns-then-are_replies_to
returns-then-are_replies_to c =
    let all : are_replies_to c.args.config.now c.args.begun.now.rec c.args.replies.now ≡ true = search rules in
    let rows = disagree_rows c.args.config.now c.args.version c.args.begun.now.rec c.args.replies.now all in
    let previous = c.previous.ensures.value in
    let found = c.first_misfit.ensures in
    search rules

pub returns-else-are_replies_to : goal.returns-else-are_replies_to
returns-else-are_replies_to c =
    let some : are_replies_to c.args.config.now c.args.begun.now.rec c.args.replies.now ≡ false = search rules in
    let own = c.version-own.ensures.value in
    ap (λ (v : ℕ). Some v) own ∙ disagree_record c.args.config.now c.args.version c.args.begun.now.rec c.args.replies.now some
