-- The proxy met one more.
use Rattle.std.proofs.Common.{arith, length, refl}
use Rattle.std.specs.Prelude.{string_bytes}
use Rattle.std.proofs.lemmas.Option.{slice_get_read}
use Rattle.threads_lines.specs.Meetings.{meeting_line}
use Rattle.threads_lines.proofs.MeetingLemmas.{one_more_meeting}
use Rattle.threads_lines.proofs.meetings.print_meetings_of.Goals as goal

pub loop-other-preserved : goal.loop-other-preserved
loop-other-preserved g c =
    let l = c.loop-other in
    let proxies = c.args.proxies.now in
    let met = c.meet-met.result in
    record {
      above = omega (arith, l.invariant.above);
      lines = one_more_meeting proxies c.args.one l.other (string_bytes c.args.text.now) (string_bytes l.text) (string_bytes c.print_meeting.new.text) l.invariant.above l.invariant.lines (
        meeting_line c.args.one l.other met,
        (
          met,
          c.index-proxies-one.result,
          c.index-proxies-other.result,
          slice_get_read proxies (length proxies) c.args.one c.index-proxies-one.result refl c.requires c.index-proxies-one.is,
          slice_get_read proxies (length proxies) l.other c.index-proxies-other.result refl c.loop-other-test.true c.index-proxies-other.is,
          c.meet-met.ensures,
          refl,
        ),
        c.in_ok-print_meeting.ensures,
      );
    }
