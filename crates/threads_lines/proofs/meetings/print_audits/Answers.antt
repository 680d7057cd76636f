-- One more proxy was audited.
use Rattle.std.proofs.Common.{length, refl}
use Rattle.std.specs.Prelude.{string_bytes}
use Rattle.std.proofs.lemmas.Option.{slice_get_read}
use Rattle.threads_lines.specs.Meetings.{IsAuditLine, audit_line}
use Rattle.threads_lines.proofs.PartLemmas.{one_more_part}
use Rattle.threads_lines.proofs.meetings.print_audits.Goals as goal

pub loop-number-preserved : goal.loop-number-preserved
loop-number-preserved g c =
    let l = c.loop-number in
    let proxies = c.args.proxies.now in
    let audited = c.audit-audited.result in
    one_more_part (IsAuditLine g.N.Naming.cells.config proxies c.args.resolvers.now) l.number (string_bytes c.args.text.now) (string_bytes l.text) (string_bytes c.print_audit.new.text) l.invariant (
      audit_line l.number audited,
      (
        audited,
        c.index-proxies-number.result,
        slice_get_read proxies (length proxies) l.number c.index-proxies-number.result refl c.loop-number-test.true c.index-proxies-number.is,
        c.audit-audited.ensures.audited,
        c.audit-audited.ensures.reached,
        refl,
      ),
      c.in_ok-print_audit.ensures,
    )
