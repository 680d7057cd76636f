pub mod LeftTokens
pub mod Spelled
