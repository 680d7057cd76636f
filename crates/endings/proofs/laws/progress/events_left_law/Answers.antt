use Rattle.endings.proofs.EventsLeft.{left_work, left_done, left_finish, left_count}
use Rattle.endings.proofs.laws.progress.events_left_law.Goals as goal

pub returns : goal.returns
returns c = record { work = left_work; done = left_done; finish = left_finish; count = left_count }
