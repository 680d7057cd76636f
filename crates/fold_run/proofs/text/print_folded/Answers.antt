-- What is printed is the folded metadata, at the version of the last row.
use Rattle.std.proofs.Common.{◌≡◌, ◌∙◌, ap}
use Rattle.std.proofs.lemmas.Result.{on_ok_weaker}
use Rattle.model.specs.Metadata.{metadata}
use Rattle.fold_run.specs.Text.{last_version}
use Rattle.fold_run.proofs.text.print_folded.Goals as goal

pub returns : goal.returns
unfolding metadata
returns c =
    let version : c.last_version-version.result ≡ last_version c.args.script.rows = c.last_version-version.ensures ∙ ap last_version c.as_slice.ensures in
    let folded : c.in_ok-metadata.metadata ≡ metadata c.args.script.rows = rw (c.new.ensures) at c.in_ok-metadata.ensures in
    on_ok_weaker c.print_metadata.result (λ printed. rw (version, folded, c.as_slice-2.ensures) at printed) c.print_metadata.ensures
