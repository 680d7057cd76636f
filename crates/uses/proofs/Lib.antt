pub mod AskedAll
pub mod CommitRefusals
pub mod FinishedTwo
pub mod OneVersion
pub mod RefusedStarts
pub mod RepliesInCells
pub mod StartRefusals
pub mod StoppedRuns
