-- The statements of the laws, by topic. The functions of src/laws ensure them.
pub mod History
pub mod Owners
pub mod Verdicts
pub mod Shares
pub mod Journal
pub mod Metadata
pub mod PrivateCopies
pub mod Outcomes
pub mod Serializability
pub mod Agreement
pub mod Worlds
pub mod Resolvers
pub mod Proxies
