-- The definitions, in reading order.

-- a request with the records up to its row
pub mod Requests
-- a reply with what its resolver knew
pub mod NotedReplies
-- what a resolver's lock keeps, and what an offer does to it
pub mod Resolvers
-- what is asked of all resolvers
pub mod Asking
-- refusals in the model's words, their numbers and names
pub mod Refusals
