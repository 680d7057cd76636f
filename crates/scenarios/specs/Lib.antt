-- The definitions, in reading order.

-- the small values that scenarios speak of, beside those of the model's examples
pub mod Vocabulary
-- the fold of a journal
pub mod FoldScenarios
-- versionstamps
pub mod StampScenarios
-- moves of ranges
pub mod OwnerScenarios
-- verdicts
pub mod VerdictScenarios
-- the lock
pub mod LockScenarios
-- unseen and remembered rows, repeats, and proxies that run at once
pub mod MemoryScenarios
-- Clears
pub mod ClearScenarios
-- private copies
pub mod PrivateScenarios
-- proxies
pub mod ProxyScenarios
-- refused events, the last versions, and replies given up
pub mod RefusalScenarios
-- what one resolver answers to requests that no proxy of a cluster would send it
pub mod ResolverScenarios
