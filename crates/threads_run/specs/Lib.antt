-- The definitions, in reading order.

-- what a run writes, and what it leaves of its devices
pub mod Runs
-- the text of a script: which answers it is of, and their lines
pub mod Text
-- how a run fails beside its workers
pub mod Beside
-- how a run goes by its inboxes
pub mod Delivered
-- what the text says, and what a run writes
pub mod Laws
