-- The definitions, in reading order.

-- the history that a run knows, and what is a start of it; who has finished or judged all of it
pub mod Histories
-- what a batch may be answered, and the texts of such answers
pub mod Answers
-- threads that are started and joined
pub mod Threads
-- texts of several parts
pub mod Parts
-- the lines that are printed of batches and closings
pub mod Lines
-- what the sequencer keeps once it has carried out the moves, and what records have then
pub mod Moves
-- what the guards of all proxies and resolvers show
pub mod Guards
-- the lines that are printed of two proxies that meet, and of audits
pub mod Meetings
-- how a run fails, and which refusals are printed
pub mod Faults
-- what the end of a ledger and the line of an audit say
pub mod Laws
