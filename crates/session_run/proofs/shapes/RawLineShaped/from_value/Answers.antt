use Rattle.std.proofs.Common.{◌∙◌, sym}
use Rattle.session_run.proofs.ShapeLemmas.{reads_event, reads_other}
use Rattle.session_run.proofs.shapes.RawLineShaped.from_value.Goals as goal

pub returns-then-is_bad_shape : goal.returns-then-is_bad_shape
returns-then-is_bad_shape c = reads_other _ _ _ _ c.event_line-read.ensures (sym c.is_bad_shape.ensures ∙ c.if-is_bad_shape.true) c.other_line.ensures

pub returns : goal.returns
returns c = reads_event _ _ _ c.event_line-read.ensures (sym c.is_bad_shape.ensures ∙ c.if-is_bad_shape.false)
