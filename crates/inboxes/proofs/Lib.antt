pub mod Moves
pub mod Seats
pub mod Counting
pub mod Each
mod EdgeCases
pub mod Sent
pub mod Rows
