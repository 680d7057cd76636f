use Rattle.std.proofs.Common.{◌≡◌, ◌∙◌, ℕ, List, [], ◌++◌, ap, rules}
use Rattle.model.specs.Metadata.{metadata}
use Rattle.cluster_lines.specs.MetadataLines.{metadata_text, proxy_line}
use Rattle.pages.proofs.Prints.{prints_as, prints_nothing}
use Rattle.session_run.proofs.session.print_found_proxy.Goals as goal

printed_alone : (made text before shown : List ℕ) → made ≡ text → text ≡ before ++ shown → before ≡ [] → made ≡ shown
printed_alone made text before shown same added none = same ∙ added ∙ ap (λ b. b ++ shown) none

pub returns-clause-text : goal.returns-clause-text
returns-clause-text g c =
    let printed : c.as_str.result.now ≡ proxy_line c.args.show.now.proxy ++ metadata_text c.args.proxy.now.version (metadata c.args.proxy.now.journal) c.as_slice.result.now =
    printed_alone _ _ _ _ c.as_str.ensures.value c.in_ok-print_proxy.ensures c.new-text.ensures.bytes in
    prints_as c.push.ensures (rw c.as_slice.ensures at printed)

pub returns-in_err-print_proxy-clause-unprinted : goal.returns-in_err-print_proxy-clause-unprinted
returns-in_err-print_proxy-clause-unprinted g c =
    search (rules, prints_nothing {has_printed = g.P.Page.has_printed} c.args.page.now)
