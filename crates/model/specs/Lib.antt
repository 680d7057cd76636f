-- The definitions, in reading order.

-- the words for a version, and for the number of a resolver, a proxy, a row, a transaction
pub mod Numbers
-- lists in the order of versions
pub mod VersionOrder
-- how many proxies and resolvers a cluster has, its window, its step, and their limits
pub mod Configs
-- a transaction as a client gives it, and the version and number stamped into it
pub mod Stamps
-- a transaction with its stamps in; a state transaction reads the lock row too, unless lock aware
pub mod Transactions
-- which resolvers owned a key, each since when, and which of them a range is sent to
pub mod Owners
-- what the sequencer gives out with a batch, and what makes records a history
pub mod Records
-- the ranges of a transaction, and the part of it that one resolver gets
pub mod Parts
-- what each resolver sees of a record: in batch order, whole ranges
pub mod Shares
-- what a resolver decides about a part, by all parts before it; the joined verdict
pub mod Verdicts
-- the kept rows as the fold of a journal, the lock, and the tags of a change
pub mod Metadata
-- which keyServers row serves a key, and which tags a change has
pub mod Routes
-- the private copy of a change, for the storage server that it concerns
pub mod PrivateCopies
-- each record's state transactions with all verdicts, from any source; what a resolver reports
pub mod Journal
-- what a proxy sends to a resolver for a record, and what follows from requests alone
pub mod Requests
-- what every request keeps, whichever record it is for
pub mod RequestRules
-- what the client learns of each transaction
pub mod Outcomes
-- the rule of commit, over the places of a history
pub mod Serial
-- the cluster without threads: its state, its events, and what each does and returns
pub mod World
-- the version that a proxy has acknowledged to a resolver, by its requests alone
pub mod Acknowledged
-- when a view has all records and cells of the first rows, and which journal it then has
pub mod Agreed
-- how a view grows by a record, and by a cell of each resolver
pub mod Growing
-- what the rule of commit says of the lock row, and the outcome of what is committed
pub mod Committed
-- which lock is held before a record, and whom it refuses
pub mod Locks
-- a verdict that a history, a cell or a list does not have counts as Conflict
pub mod Missing
-- a proxy routes by its own journal, at its own version
pub mod OwnRouting
-- which lists of moves a map of owners stands for, and whom it asks
pub mod OwnerMaps
-- which lists of judged shares a history of writes stands for, and its verdicts
pub mod WriteHistories
-- what a resolver answers to any request after those that it judged
pub mod Offers
-- what a resolver keeps, and which lists of requests it stands for
pub mod ResolverMemory
-- what a proxy learns from replies, when they agree, and how it begins and finishes records
pub mod Finishing
-- which verdicts one column of cells gives, and what its resolver replies by it
pub mod ColumnVerdicts
-- when the parts of a cluster without threads are in step with its world
pub mod Turns
-- the statements of the laws, by topic
pub mod Laws
-- the small values that edge cases and scenarios speak of
pub mod Examples
-- edge cases of single definitions, which hold by computation
pub mod Edges
-- edge cases of what a proxy learns from replies
pub mod FinishingEdges
