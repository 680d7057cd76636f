-- The definitions, in reading order.

-- the script that bytes are
pub mod Scripts
-- the limits of a script
pub mod Limits
-- what is known of a script that was read
pub mod Runnable
-- the form of a script
pub mod Shapes
-- the first fault of its moves and batches
pub mod Checks
