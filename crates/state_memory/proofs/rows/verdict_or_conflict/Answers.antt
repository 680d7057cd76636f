-- The part of the number is at the place that is found, and so is its verdict.
use Rattle.std.proofs.Common.{refl, sym, ap, ◌∙◌}
use Rattle.std.specs.Prelude.{unwrap_or}
use Rattle.std.proofs.lemmas.Option.{slice_get_past, slice_get_read}
use Rattle.model.specs.declared.verdict.Verdict.TheVariants.{Conflict}
use Rattle.state_memory.proofs.RowLaws.{verdict_there, verdict_nowhere}
use Rattle.state_memory.proofs.rows.verdict_or_conflict.Goals as goal

pub returns-in_default : goal.returns-in_default
returns-in_default c = sym (verdict_nowhere c.args.request.now.share c.args.verdicts.now c.args.number c.in_default.ensures.place)

pub returns-in-Some-get : goal.returns-in-Some-get
returns-in-Some-get c =
    let there = verdict_there 0 c.args.request.now.share c.args.verdicts.now c.in-Some.place c.args.number c.in-Some.ensures.kept.rising c.in-Some.ensures.place in
    let found = slice_get_read c.args.verdicts.now _ c.in-Some.place c.in-Some-get.verdict.now refl c.in-Some-get.ensures.lookup.3.0 c.in-Some-get.ensures.lookup.1 in
    sym (there ∙ ap (λ o. unwrap_or o Conflict) found)

pub returns-in-None : goal.returns-in-None
returns-in-None c =
    let there = verdict_there 0 c.args.request.now.share c.args.verdicts.now c.in-Some.place c.args.number c.in-Some.ensures.kept.rising c.in-Some.ensures.place in
    let past = slice_get_past c.args.verdicts.now c.in-Some.place c.in-None.ensures.lookup.3 in
    sym (there ∙ ap (λ o. unwrap_or o Conflict) past)
