-- One more proxy stands in the place of its number.
use Rattle.std.proofs.Common.{◌≡◌, ◌∙◌, ◌++◌, ◌∷◌, [], rules, subst, sym}
use Rattle.threads_lines.specs.Threads.{AreInPlace}
use Rattle.threads_lines.proofs.ThreadLemmas.{one_more_in_place}
use Rattle.threads_lines.proofs.cluster.shared_proxies.Goals as goal

pub loop-number-preserved : goal.loop-number-preserved
loop-number-preserved g c =
    let l = c.loop-number in
    let numbered : c.in-Ok.proxy ≡ l.number = search rules in
    let items : c.push.new.self.items ≡ l.proxies.items ++ c.in-Ok.proxy ∷ [] = search rules in
    record {
      count = search rules;
      in_place = subst AreInPlace (sym items) (one_more_in_place l.proxies.items c.in-Ok.proxy (numbered ∙ sym l.invariant.count) l.invariant.in_place);
    }
