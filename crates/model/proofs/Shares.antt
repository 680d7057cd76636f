pub mod Askers
pub mod ByWrites
pub mod Forgetting
pub mod LastVersions
