-- What the callers promise beside the definitions of the libraries that they call.

-- the tickets of batches that are sequenced one after another
pub mod Tickets
-- two records that a proxy finishes, one after the other
pub mod Finishing
-- what two proxies of a cluster show, each right after it has committed
pub mod Starting
-- a resolver that replied, with the cell that its reply stands in
pub mod Resolving
-- the replies of all resolvers to a record that was begun
pub mod Asking
-- the metadata of two proxies of a cluster without threads
pub mod Running
-- why a batch was not committed, whichever the phase
pub mod Causes
