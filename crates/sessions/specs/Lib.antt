-- The definitions, in reading order.

-- what a session leaves: when it answers, and what
pub mod Sessions
-- the answers to lines
pub mod Answers
-- what was read and written, in order
pub mod Events
-- the lines of bytes
pub mod Lines
-- what a piece of the input leaves
pub mod Feeds
-- a line that is not whole yet
pub mod Pending
-- what is printed on a page that goes to a device
pub mod Outboxes
-- the number that a process ends with
pub mod Statuses
-- what follows of them
pub mod Laws
