-- The definitions, in reading order.

-- a session in memory, and what a line makes of it
pub mod Sessions
-- what a call leaves that gives a line to a session
pub mod Placing
-- what the page of an answer holds
pub mod Pages
-- what follows of them
pub mod Laws
