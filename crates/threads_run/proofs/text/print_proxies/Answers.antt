-- One more proxy is printed.
use Rattle.std.proofs.Common.{length, refl}
use Rattle.std.specs.Prelude.{string_bytes}
use Rattle.std.proofs.lemmas.Option.{slice_get_read}
use Rattle.threads_run.specs.Text.{IsProxyText, proxy_text}
use Rattle.threads_lines.proofs.PartLemmas.{one_more_part}
use Rattle.threads_run.proofs.text.print_proxies.Goals as goal

pub loop-number-preserved : goal.loop-number-preserved
loop-number-preserved g c =
    let l = c.loop-number in
    let proxies = c.args.proxies.now in
    let proxy = c.index-proxies-number.result in
    one_more_part (IsProxyText c.args.keys.now proxies) l.number (string_bytes c.args.text.now) (string_bytes l.text) (string_bytes c.print_proxy.new.text) l.invariant (
      proxy_text c.args.keys.now l.number proxy,
      (proxy, slice_get_read proxies (length proxies) l.number proxy refl c.loop-number-test.true c.index-proxies-number.is, refl),
      c.in_ok-print_proxy.ensures,
    )
