pub mod ByKeys
pub mod Histories
