-- The definitions, in reading order.

-- moves that are kept in chunks
pub mod Moves
-- whom the map asks, as lists, and what such lists give each resolver
pub mod AskedResolvers
-- a request of its parts, and the tests of its rule
pub mod Requests
