-- The definitions, in reading order.

-- the text of a script's bytes, and the postcondition of a run
pub mod Text
-- what rows come to that are folded as they are read
pub mod Folding
-- the script that bytes are
pub mod Scripts
-- the form of a script
pub mod Shapes
-- what is held of the fields of a script while they come
pub mod Streams
-- the limits of its numbers
pub mod Limits
-- the first fault of its keys, values and ranges
pub mod Checks
