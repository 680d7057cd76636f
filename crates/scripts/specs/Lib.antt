-- The definitions, in reading order.

-- the postcondition of a run
pub mod Runs
-- what calls of a source and a sink change
pub mod Devices
-- how a run ends
pub mod Statuses
-- a text, and the status that goes with it
pub mod Outputs
-- the lines that are printed
pub mod Lines
-- the words for verdicts, outcomes and unseen rows
pub mod Names
-- the script that bytes are, by its form and its checks
pub mod Scripts
-- the JSON value of bytes
pub mod Values
-- a JSON value in a form
pub mod Shapes
-- the form of a change
pub mod ChangeShapes
-- what is read of tokens, by those shapes
pub mod Streams
-- the first fault of the keys, values and ranges of a script
pub mod Checks
-- why a script is refused; numbers and names
pub mod ScriptFaults
-- the batch that bytes are
pub mod BatchScripts
-- the form of a batch
pub mod BatchShapes
-- the first fault of a batch
pub mod BatchChecks
-- what a run writes, on small values
pub mod Edges
