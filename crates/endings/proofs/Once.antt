-- Nothing is done twice.
use Rattle.std.proofs.Common.{refl}
use Rattle.model.specs.World.{Sequenced, Moved, Judged, Again, FinishedBatch, Refused}
use Rattle.endings.specs.Orders.{EachIsDoneOnce}
use Rattle.endings.proofs.Counters.{told_once}
use Rattle.endings.proofs.Batches.{finished_records}
use Rattle.endings.proofs.Replies.{judged_rows}

pub done_once : EachIsDoneOnce
done_once config w events i j (Sequenced row version) sound work done at other = absurd (cc)
done_once config w events i j (Moved date) sound work done at other = absurd (cc)
done_once config w events i j (Judged reply) sound work done at other = told_once config w.history (judged_rows config w.history sound.sequencer.history) w events i j (Judged reply) (record { sound = sound; history = refl; work = work }) refl at other
done_once config w events i j (Again reply) sound work done at other = absurd (cc)
done_once config w events i j (FinishedBatch finished) sound work done at other = told_once config w.history (finished_records config w.history sound.sequencer.history) w events i j (FinishedBatch finished) (record { sound = sound; history = refl; work = work }) refl at other
done_once config w events i j (Refused refusal) sound work done at other = absurd (cc)
