-- The keys are the ends of the read.
use Rattle.std.proofs.Common.{◌≡◌, ◌∙◌, sym, ap, ap₂, true}
use Rattle.system_keys.specs.Keys.{Key, is_key_below, only}
use Rattle.system_keys.proofs.KeyLaws.{begins_below}
use Rattle.share_judge.specs.Steps.{is_written_above}
use Rattle.share_judge.specs.Versions.{all_now}
use Rattle.share_judge.proofs.judging.is_written_above.Goals as goal

pub has_version_above-requires : goal.has_version_above-requires
has_version_above-requires c =
    let below : is_key_below c.in_ok-begin.begin c.in_ok-end.end ≡ true =
    ap₂ is_key_below (c.in_ok-begin.ensures ∙ c.begin.ensures.value) (c.in_ok-end.ensures ∙ c.end.ensures.value)
    ∙ begins_below c.args.read.now.begin c.args.read.now.end c.begin.ensures.kept in
    below

pub returns-then-is_one_key : goal.returns-then-is_one_key
returns-then-is_one_key c =
    c.is_key_above.ensures
    ∙ ap (is_written_above c.args.bound (all_now c.args.steps.now)) (ap only (c.in_ok-begin.ensures ∙ c.begin.ensures.value) ∙ sym (c.is_one_key.ensures c.if-is_one_key.true))

pub returns : goal.returns
returns c =
    c.has_version_above.ensures
    ∙ ap₂ (λ (b e : Key). is_written_above c.args.bound (all_now c.args.steps.now) (record { begin = b; end = e })) (c.in_ok-begin.ensures ∙ c.begin.ensures.value) (c.in_ok-end.ensures ∙ c.end.ensures.value)
