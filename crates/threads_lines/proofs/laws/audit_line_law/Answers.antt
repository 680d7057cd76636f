use Rattle.threads_lines.proofs.LawLemmas.{all_have_reached_if_an_audit_is_ok, an_audit_is_ok_if_all_have_reached}
use Rattle.threads_lines.proofs.laws.audit_line_law.Goals as goal

pub returns : goal.returns
returns c = record { reached = an_audit_is_ok_if_all_have_reached; ok = all_have_reached_if_an_audit_is_ok }
