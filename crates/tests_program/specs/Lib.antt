-- The definitions.

-- the history that a device in memory keeps, and what it says of a session
pub mod Rehearsals
