-- Each state gets its verdict in turn.
use Rattle.std.proofs.Common.{◌∙◌, ◌+◌, ◌<◌, length, sym, ap, List, get_or, slice_set, arith}
use Rattle.model.specs.declared.unseen.StateMark.{StateMark}
use Rattle.model.specs.declared.unseen.UnseenState.{UnseenState}
use Rattle.model.specs.Journal.{verdict_or_conflict}
use Rattle.state_memory.proofs.RowLaws.{state_judged}
use Rattle.state_memory.proofs.rows.judge_states.Goals as goal

pub loop-i-preserved : goal.loop-i-preserved
loop-i-preserved c =
    let same = c.states-marks.ensures.value in
    let within : c.loop-i.i < length c.args.request.now.states = omega (arith, ap length same) in
    let mark_is = c.index-marks-i.is ∙ ap (λ (ms : List StateMark). get_or ms c.loop-i.i c.index-marks-i.result) same in
    let verdict_is = c.verdict_or_conflict.ensures ∙ (λ k. verdict_or_conflict c.args.request.now.share c.args.verdicts.now (sym c.index-marks-i.is k).number) in
    ap (λ (state : UnseenState). slice_set c.loop-i.states.items c.loop-i.i (record { verdict = c.verdict_or_conflict.result; carried = state.carried })) c.index_mut.ensures.value
    ∙ state_judged c.args.request.now.share c.args.verdicts.now c.args.request.now.states c.loop-i.states.items c.loop-i.i (c.loop-i.i + 1) c.index-marks-i.result c.index_mut.result.now c.verdict_or_conflict.result (omega arith) within mark_is verdict_is c.loop-i.invariant
