-- The definitions, in reading order.

-- the postcondition of a run by words
pub mod WordRuns
-- how the program ends
pub mod Statuses
-- the postcondition of a choice
pub mod Choices
-- how words that are refused are answered
pub mod Rejections
-- what the words are to `clap`
pub mod CommandLine
-- command lines that are written out
pub mod KnownLines
-- the modes that there are, and their names
pub mod Modes
