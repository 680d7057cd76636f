-- What the callers promise beside the definitions of the libraries that they call.

-- verdict cells that are there and hold the definition's verdicts
pub mod Verdicts
-- the mutations that an answer sends to the logs
pub mod Mutations
-- how far resolvers have come, and their order
pub mod Resolvers
