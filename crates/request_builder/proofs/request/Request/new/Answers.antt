-- The tests hold exactly if the parts keep what every request keeps.
use Rattle.std.proofs.Common.{◌≡◌, refl, sym, ap, ap₂, ◌∙◌, Bool, true, List}
use Rattle.std.proofs.lemmas.Bool.{false≢true}
use Rattle.model.specs.declared.part.Part.{Part}
use Rattle.model.specs.declared.unseen.StateMark.{StateMark}
use Rattle.model.specs.Requests.{Request}
use Rattle.model.specs.RequestRules.{KeepsRequestRule}
use Rattle.std.specs.List.{list_all}
use Rattle.request_builder.specs.Requests.{request_of, part_numbers_rise, mark_names_part, mark_fits_resolver}
use Rattle.request_builder.proofs.RequestTests.{is_request_from, rise_from, rise_of, named_of, carried_of}
use Rattle.request_builder.proofs.request.Request.new.Goals as goal
use Rattle.request_builder.proofs.request.Request.new.Goals.{else-part_numbers_rise-via-then-part_numbers_rise+then-marks_name_parts+else-marks_fit_resolver, else-part_numbers_rise-via-then-part_numbers_rise+else-marks_name_parts, else-part_numbers_rise-via-else-part_numbers_rise}

kept : (q : Request) (parts : List Part) (marks : List StateMark) (rise named carried : Bool) → parts ≡ q.share → marks ≡ q.states → rise ≡ part_numbers_rise 0 parts → named ≡ list_all (mark_names_part parts) marks → carried ≡ list_all (mark_fits_resolver q.resolver) marks → rise ≡ true → named ≡ true → carried ≡ true → KeepsRequestRule q
kept q parts marks rise named carried parts_are marks_are is_rise is_named is_carried risen all_named all_carried =
    is_request_from q
    (ap (part_numbers_rise 0) (sym parts_are) ∙ sym is_rise ∙ risen)
    (ap₂ (λ (ps : List Part) (ms : List StateMark). list_all (mark_names_part ps) ms) (sym parts_are) (sym marks_are) ∙ sym is_named ∙ all_named)
    (ap (λ (ms : List StateMark). list_all (mark_fits_resolver q.resolver) ms) (sym marks_are) ∙ sym is_carried ∙ all_carried)

pub invariant_of-result : goal.invariant_of-result
invariant_of-result c =
    kept (request_of c.args.header c.args.share c.args.states) c.parts-parts.result.now c.as_slice-marks.result.now c.part_numbers_rise.result c.marks_name_parts.result c.marks_fit_resolver.result c.parts-parts.ensures c.as_slice-marks.ensures c.part_numbers_rise.ensures c.marks_name_parts.ensures c.marks_fit_resolver.ensures c.if-part_numbers_rise.true c.if-marks_name_parts.true c.if-marks_fit_resolver.true

pub returns-then-marks_fit_resolver : goal.returns-then-marks_fit_resolver
returns-then-marks_fit_resolver c =
    (kept (request_of c.args.header c.args.share c.args.states) c.parts-parts.result.now c.as_slice-marks.result.now c.part_numbers_rise.result c.marks_name_parts.result c.marks_fit_resolver.result c.parts-parts.ensures c.as_slice-marks.ensures c.part_numbers_rise.ensures c.marks_name_parts.ensures c.marks_fit_resolver.ensures c.if-part_numbers_rise.true c.if-marks_name_parts.true c.if-marks_fit_resolver.true, refl)

pub returns-else-part_numbers_rise : goal.returns-else-part_numbers_rise
returns-else-part_numbers_rise c = λ is.
    let q : Request = request_of c.args.header c.args.share c.args.states in
    let risen = ap (part_numbers_rise 0) c.parts-parts.ensures ∙ rise_of q is in
    let named = ap₂ (λ (ps : List Part) (ms : List StateMark). list_all (mark_names_part ps) ms) c.parts-parts.ensures c.as_slice-marks.ensures ∙ named_of q is in
    let carried = ap (λ (ms : List StateMark). list_all (mark_fits_resolver q.resolver) ms) c.as_slice-marks.ensures ∙ carried_of q is in
    elim c.else-part_numbers_rise.branch [
      | else-part_numbers_rise-via-then-part_numbers_rise+then-marks_name_parts+else-marks_fit_resolver w ↦ false≢true (sym w.if-marks_fit_resolver.false ∙ w.marks_fit_resolver.ensures ∙ carried)
      | else-part_numbers_rise-via-then-part_numbers_rise+else-marks_name_parts w ↦ false≢true (sym w.if-marks_name_parts.false ∙ w.marks_name_parts.ensures ∙ named)
      | else-part_numbers_rise-via-else-part_numbers_rise w ↦ false≢true (sym w.if-part_numbers_rise.false ∙ c.part_numbers_rise.ensures ∙ risen)
    ]

pub marks_name_parts-requires : goal.marks_name_parts-requires
marks_name_parts-requires c = rise_from 0 c.parts-parts.result.now (sym c.part_numbers_rise.ensures ∙ c.if-part_numbers_rise.true)
