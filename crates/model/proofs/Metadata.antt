pub mod Applied
pub mod Changes
pub mod Entries
pub mod HeldLocks
pub mod PrivateCopies
pub mod Routes
pub mod Tags
pub mod Touched
