-- The definitions, in reading order.

-- what the calls promise, over every list of moves that the map stands for
pub mod Answers
-- which owners of a key are asked
pub mod Walks
-- a list of resolvers by a flag for each
pub mod Flags
-- which moves are refused; numbers and names
pub mod Refusals
-- the greatest ranges of keys with one list of owners left
pub mod Pieces
-- the owners of a key after the first one
pub mod LaterOwners
-- lists of owners by which walks visit the same resolvers
pub mod MergedOwners
-- what is kept: the keys at which the owners change
pub mod Starts
