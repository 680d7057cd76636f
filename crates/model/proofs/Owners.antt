pub mod Asked
pub mod Asking
pub mod FiniteTests
pub mod MadeMoves
pub mod Maps
pub mod Moves
pub mod Walks
