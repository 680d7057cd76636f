-- The definitions, in reading order.

-- what a session answers to each line, and what it keeps after it
pub mod Session
-- a session to which a turns script is given line by line
pub mod TurnsScripts
-- what the bytes of a line ask
pub mod Lines
-- the form of a line
pub mod Shapes
-- what a session over a source and a sink leaves
pub mod Runs
