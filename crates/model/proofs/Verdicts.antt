pub mod ByPairs
pub mod ByPlaces
pub mod Joined
pub mod Missing
pub mod Places
