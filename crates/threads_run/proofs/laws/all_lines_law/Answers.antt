-- Each law is a lemma.
use Rattle.threads_run.proofs.LawLemmas.{each_audit_is_ok, each_of_one_history, each_record_has_a_line, each_text_went_by_its_inboxes, no_lines_without_proxies, one_proxy_has_its_lines}
use Rattle.threads_run.proofs.laws.all_lines_law.Goals as goal

pub returns : goal.returns
returns c = record {
  audits = each_audit_is_ok;
  records = each_record_has_a_line;
  history = each_of_one_history;
  inboxes = each_text_went_by_its_inboxes;
  no_proxies = no_lines_without_proxies;
  one_proxy = one_proxy_has_its_lines;
}
