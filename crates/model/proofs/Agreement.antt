pub mod Agreed
pub mod AgreeingSources
pub mod Cells
pub mod Columns
pub mod Growing
pub mod Holders
pub mod Sources
