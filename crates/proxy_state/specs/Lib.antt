-- The definitions, in reading order.

-- numbers, names, and the fault of a reply
pub mod Refusals
-- which records are refused, and what becomes of the map of owners
pub mod Beginning
-- the map of owners of a proxy, and the moves for which it stands
pub mod HeldMaps
-- what the type of a proxy keeps
pub mod Begun
-- what lists of asked resolvers say of shares, and columns of verdicts
pub mod Learning
-- which replies are refused, what they tell, and the finished batch by columns
pub mod Finishing
-- mutations whose changes are put in last
pub mod TakenChanges
