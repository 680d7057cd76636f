pub mod GivenValue
pub mod KnownWords
pub mod OfferedModes
pub mod Endings
pub mod KnownRuns
