-- The definitions, in reading order.

-- what the calls promise, over every list of shares that the history stands for
pub mod Answers
-- steps over all keys, each with its version
pub mod Steps
-- the steps beside the keys that were written alone
pub mod Versions
-- what a history keeps of them
pub mod Kept
-- a share that is judged by them
pub mod Judged
