use Rattle.std.proofs.Common.{◌∙◌, ap, rules}
use Rattle.pages.proofs.Prints.{prints_as, prints_both, prints_nothing}
use Rattle.session_run.specs.Session.{with_empty_line}
use Rattle.session_run.proofs.answers.print_fault.Goals as goal

pub returns-clause-text : goal.returns-clause-text
returns-clause-text g c =
    prints_as (prints_both c.push.ensures c.push-2.ensures) (ap with_empty_line (c.as_str.ensures.value ∙ c.in_ok-output.ensures.output.text))

pub returns-in_err-output-clause-unprinted : goal.returns-in_err-output-clause-unprinted
returns-in_err-output-clause-unprinted g c =
    search (rules, prints_nothing {has_printed = g.P.Page.has_printed} c.args.page.now)
