-- A place that fits brings the next; the first that does not is the first of all.
use Rattle.std.proofs.Common.{◌≡◌, ◌+◌, ◌∙◌, sym, ap, true, false, not, Bool, arith, rules}
use Rattle.model.specs.Finishing.{place_fits}
use Rattle.proxy_state.proofs.BelowLaws.{none_next}
use Rattle.proxy_state.proofs.Misfits.{fit_within, version_next, misfit_first}
use Rattle.proxy_state.proofs.disagreements.first_misfit.Goals as goal

pub returns-then-not-place_fits : goal.returns-then-not-place_fits
returns-then-not-place_fits c =
    let fails : place_fits c.args.config.now c.args.version c.args.end c.args.replies.now c.loop-place.place ≡ false = sym (c.place_fits.ensures c.args.version c.loop-place.invariant.version) ∙ (search rules) in
    let first = misfit_first c.args.config.now c.args.version c.args.end c.loop-place.before c.args.replies.now c.loop-place.place (omega arith) c.loop-place.invariant.fitting fails c.loop-place.invariant.version in
    search rules

pub loop-place-preserved : goal.loop-place-preserved
loop-place-preserved c =
    let fits : place_fits c.args.config.now c.args.version c.args.end c.args.replies.now c.loop-place.place ≡ true = sym (c.place_fits.ensures c.args.version c.loop-place.invariant.version) ∙ (search rules) in
    let next = version_next c.args.config.now.step c.args.version c.loop-place.before c.loop-place.place c.loop-place.invariant.version in
    let within = fit_within c.args.config.now c.args.version c.args.end c.args.replies.now c.loop-place.place (omega arith) fits in
    let step = c.step-before.ensures.value in
    record {
      fitting = none_next (λ k. not (place_fits c.args.config.now c.args.version c.args.end c.args.replies.now k)) c.loop-place.place (c.loop-place.place + 1) (omega arith) c.loop-place.invariant.fitting (ap (λ (t : Bool). not t) fits);
      version = omega (arith, next, step);
      within = omega (arith, next, step, within);
    }
