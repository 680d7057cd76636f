pub mod Chain
pub mod Growth
pub mod Rows
