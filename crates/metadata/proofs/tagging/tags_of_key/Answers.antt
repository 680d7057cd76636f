-- The tags of the row that serves the key.
use Rattle.std.proofs.Common.{◌∙◌, sym, Some, None}
use Rattle.std.proofs.lemmas.Result.{IfOk-weaker}
use Rattle.metadata.proofs.KeptTags.{tags_known}
use Rattle.metadata.proofs.tagging.tags_of_key.Goals as goal

pub returns-in-Some : goal.returns-in-Some
returns-in-Some c =
    IfOk-weaker c.list.result _ _
    (λ found is. is ∙ tags_known c.args.entries.now c.args.key.now (Some c.in-Some.tags) (sym c.in-Some.is ∙ c.in_ok-tags.ensures))
    c.list.ensures

pub returns-in-None : goal.returns-in-None
returns-in-None c =
    c.from.ensures ∙ c.new.ensures.items ∙ tags_known c.args.entries.now c.args.key.now None (sym c.in-None.is ∙ c.in_ok-tags.ensures)
