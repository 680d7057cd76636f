pub mod Histories
pub mod RehearsalLemmas
