pub mod Finishes
pub mod Histories
pub mod InStep
pub mod KeptRows
pub mod Offers
pub mod Runs
